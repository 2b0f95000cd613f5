use Rattle.std.proofs.Common.{◌≡◌, ◌++◌, List, length, set, vec_capacity, refl, sym, ◌∙◌, ap, subst, arith, rules}
use Rattle.tune_journal.specs.declared.changes.ChangedPage.{ChangedPage}
use Rattle.tune_journal.specs.declared.changes.Kept.TheVariants.{Whole}
use Rattle.tune_journal.specs.declared.changes.PageImage.{PageImage}
use Rattle.tune_journal.specs.ChangeList.{with_change}
use Rattle.tune_journal.specs.Inside.ChangeOrder.{FoundAt}
use Rattle.tune_journal.specs.Inside.ListedChanges.{listed_changes, HoldsChanges, start_in}
use Rattle.tune_journal.specs.FileOffsets.{block_bytes}
use Rattle.tune_journal.proofs.KeptLists.{set_listed, set_kept, whole_listed, whole_kept, room_left, kept_in}
use Rattle.tune_journal.proofs.changes.Changes.replace.Goals as goal

pub invariant_of-self : goal.invariant_of-self
invariant_of-self c =
    let starts = c.self.inside.starts.items in
    let whole = c.self.inside.whole.items in
    let items = c.self.inside.changed.items in
    let found : FoundAt c.args.page c.args.at (listed_changes starts whole items) = subst (FoundAt c.args.page c.args.at) (sym c.self.view_is) c.requires in
    let size : length c.args.image.now.bytes ≡ block_bytes = search rules in
    set_kept starts whole items _ c.self.invariant c.args.at c.index.result.now c.index.ensures c.args.page found c.args.image.now size c.in-Whole.place
    c.in-Whole.is

pub returns-in-Whole : goal.returns-in-Whole
returns-in-Whole c =
    let starts = c.self.inside.starts.items in
    let whole = c.self.inside.whole.items in
    let items = c.self.inside.changed.items in
    let found : FoundAt c.args.page c.args.at (listed_changes starts whole items) = subst (FoundAt c.args.page c.args.at) (sym c.self.view_is) c.requires in
    let size : length c.args.image.now.bytes ≡ block_bytes = search rules in
    set_listed starts whole items _ c.self.invariant c.args.at c.index.result.now c.index.ensures c.args.page found c.args.image.now size c.in-Whole.place
    c.in-Whole.is
    ∙ ap (with_change c.args.page c.args.image.now.bytes) c.self.view_is

pub invariant_of-self-in-Ok : goal.invariant_of-self-in-Ok
invariant_of-self-in-Ok c =
    let starts = c.self.inside.starts.items in
    let whole = c.self.inside.whole.items in
    let items = c.self.inside.changed.items in
    let found : FoundAt c.args.page c.args.at (listed_changes starts whole items) = subst (FoundAt c.args.page c.args.at) (sym c.self.view_is) c.requires in
    let size : length c.args.image.now.bytes ≡ block_bytes = search rules in
    let last : c.self.inside.whole.len ≡ length whole = search rules in
    let new : ChangedPage = record { page = c.args.page; kept = Whole c.len-place.result } in
    let more = c.in-Ok.ensures.items ∙ ap (λ (w : List PageImage). whole ++ w) c.from_ref.ensures.value in
    subst (λ (w : List PageImage). HoldsChanges starts w (set items c.args.at new) (vec_capacity c.extend_from_slice.new.self)) (sym more)
    (kept_in _ _ _ _ _
    (whole_kept starts whole items _ c.self.invariant c.args.at c.index.result.now c.index.ensures c.args.page found c.args.image.now size
    (ap start_in c.in_default.is) new refl (ap Whole (c.len-place.ensures ∙ last)))
    c.in-Ok.ensures.capacity)

pub unreachable-requires : goal.unreachable-requires
unreachable-requires c =
    let starts = c.self.inside.starts.items in
    let whole = c.self.inside.whole.items in
    let items = c.self.inside.changed.items in
    let found : FoundAt c.args.page c.args.at (listed_changes starts whole items) = subst (FoundAt c.args.page c.args.at) (sym c.self.view_is) c.requires in
    let size : length c.args.image.now.bytes ≡ block_bytes = search rules in
    let last : c.self.inside.whole.len ≡ length whole = search rules in
    let new : ChangedPage = record { page = c.args.page; kept = Whole (length whole) } in
    let room = room_left starts whole items _ c.self.invariant c.args.at c.index.result.now c.index.ensures c.args.page found c.args.image.now size
    (ap start_in c.in_default.is) new refl refl in
    absurd (omega (arith, room, last, c.in-Err.ensures.full))

pub returns : goal.returns
returns c =
    let starts = c.self.inside.starts.items in
    let whole = c.self.inside.whole.items in
    let items = c.self.inside.changed.items in
    let found : FoundAt c.args.page c.args.at (listed_changes starts whole items) = subst (FoundAt c.args.page c.args.at) (sym c.self.view_is) c.requires in
    let size : length c.args.image.now.bytes ≡ block_bytes = search rules in
    let last : c.self.inside.whole.len ≡ length whole = search rules in
    let new : ChangedPage = record { page = c.args.page; kept = Whole c.len-place.result } in
    let is : listed_changes starts c.extend_from_slice.new.self.items (set items c.args.at new)
    ≡ with_change c.args.page c.args.image.now.bytes c.args.self.now =
    ap (λ (w : List PageImage). listed_changes starts w (set items c.args.at new))
    (c.in-Ok.ensures.items ∙ ap (λ (w : List PageImage). whole ++ w) c.from_ref.ensures.value)
    ∙ whole_listed starts whole items _ c.self.invariant c.args.at c.index.result.now c.index.ensures c.args.page found c.args.image.now size
    (ap start_in c.in_default.is) new refl (ap Whole (c.len-place.ensures ∙ last))
    ∙ ap (with_change c.args.page c.args.image.now.bytes) c.self.view_is in
    search (rules, is)
