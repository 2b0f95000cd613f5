use Rattle.std.proofs.Common.{◌≡◌, ◌+◌, ◌<◌, ℕ, List, ◌++◌, length, vec_capacity, length-append, refl, sym, ◌∙◌, ap, subst, arith, rules}
use Rattle.std.specs.List.{insert}
use Rattle.tune_journal.specs.declared.changes.ChangedPage.{ChangedPage}
use Rattle.tune_journal.specs.ChangeList.{padded_image, with_change}
use Rattle.tune_journal.specs.Inside.ChangeOrder.{FoundAt, MissingAt}
use Rattle.tune_journal.specs.Inside.ListedChanges.{HasPlace, image_in, listed_changes, start_in, HoldsChanges}
use Rattle.tune_journal.proofs.KeptLists.{added_listed, added_found, added_kept, kept_in, kept_further, listed_further, image_of_start, length-padded}
use Rattle.tune_journal.proofs.KeptLists.{listed_same, kept_same}
use Rattle.tune_journal.proofs.changes.Changes.add.Goals as goal

pub invariant_of-self-in_err-kept : goal.invariant_of-self-in_err-kept
invariant_of-self-in_err-kept c =
    let starts = c.self.inside.starts.items in
    let whole = c.self.inside.whole.items in
    let items = c.self.inside.changed.items in
    let more : List ℕ = c.in_err-kept.ensures.err.0 in
    let s : List ℕ = starts ++ more in
    let kept : HoldsChanges s whole items (vec_capacity c.self.inside.whole) = kept_further starts more whole items _ c.self.invariant in
    kept_same s _ whole _ items _ c.in_err-kept.ensures.err.1 c.in_ok-take_room.ensures.whole c.in_ok-take_room.ensures.changed _
    (kept_in s whole items _ _ kept c.in_ok-take_room.ensures.capacity)

pub returns-in_err-kept-clause-err : goal.returns-in_err-kept-clause-err
returns-in_err-kept-clause-err c =
    let starts = c.self.inside.starts.items in
    let whole = c.self.inside.whole.items in
    let items = c.self.inside.changed.items in
    let more : List ℕ = c.in_err-kept.ensures.err.0 in
    let s : List ℕ = starts ++ more in
    let is : listed_changes s whole items ≡ c.args.self.now = listed_further starts more whole c.self.invariant.pages items c.self.invariant.places
    ∙ c.self.view_is in
    let same = listed_same s _ whole _ items _ c.in_err-kept.ensures.err.1 c.in_ok-take_room.ensures.whole c.in_ok-take_room.ensures.changed ∙ is in
    search (rules, same)

pub invariant_of-self-in_err-insert : goal.invariant_of-self-in_err-insert
invariant_of-self-in_err-insert c =
    let starts = c.self.inside.starts.items in
    let whole = c.self.inside.whole.items in
    let items = c.self.inside.changed.items in
    let start : List ℕ = c.args.head.now ++ c.args.rest.now in
    let s : List ℕ = starts ++ start in
    let kept : HoldsChanges s whole items (vec_capacity c.self.inside.whole) = kept_further starts start whole items _ c.self.invariant in
    let is : listed_changes s whole items ≡ c.args.self.now = listed_further starts start whole c.self.invariant.pages items c.self.invariant.places
    ∙ c.self.view_is in
    kept_same s _ whole _ items _ c.in_ok-kept.ensures.ok c.in_ok-take_room.ensures.whole
    (c.in_err-insert.ensures.unchanged.0 ∙ c.in_ok-take_room.ensures.changed) _
    (kept_in s whole items _ _ kept c.in_ok-take_room.ensures.capacity)

pub returns-in_err-insert-clause-err : goal.returns-in_err-insert-clause-err
returns-in_err-insert-clause-err c =
    let starts = c.self.inside.starts.items in
    let whole = c.self.inside.whole.items in
    let items = c.self.inside.changed.items in
    let start : List ℕ = c.args.head.now ++ c.args.rest.now in
    let s : List ℕ = starts ++ start in
    let kept : HoldsChanges s whole items (vec_capacity c.self.inside.whole) = kept_further starts start whole items _ c.self.invariant in
    let is : listed_changes s whole items ≡ c.args.self.now = listed_further starts start whole c.self.invariant.pages items c.self.invariant.places
    ∙ c.self.view_is in
    let same = listed_same s _ whole _ items _ c.in_ok-kept.ensures.ok c.in_ok-take_room.ensures.whole
    (c.in_err-insert.ensures.unchanged.0 ∙ c.in_ok-take_room.ensures.changed) ∙ is in
    search (rules, same)

pub invariant_of-self-2 : goal.invariant_of-self-2
invariant_of-self-2 c =
    let starts = c.self.inside.starts.items in
    let whole = c.self.inside.whole.items in
    let items = c.self.inside.changed.items in
    let start : List ℕ = c.args.head.now ++ c.args.rest.now in
    let s : List ℕ = starts ++ start in
    let kept : HoldsChanges s whole items (vec_capacity c.self.inside.whole) = kept_further starts start whole items _ c.self.invariant in
    let is : listed_changes s whole items ≡ c.args.self.now = listed_further starts start whole c.self.invariant.pages items c.self.invariant.places
    ∙ c.self.view_is in
    let missing : MissingAt c.args.page c.args.at (listed_changes s whole items) = subst (MissingAt c.args.page c.args.at) (sym is) c.requires.missing in
    let size : length start ≡ length c.args.head.now + length c.args.rest.now = length-append c.args.head.now c.args.rest.now in
    let holds : image_in s whole c.in_ok-kept.kept ≡ padded_image start = ap (image_in s whole) c.in_ok-kept.ensures.kept
    ∙ image_of_start starts start whole _ size in
    let new : ChangedPage = record { page = c.args.page; kept = c.in_ok-kept.kept } in
    let inserted : c.insert.new.self.items ≡ insert items c.args.at new =
    c.in_ok-insert.ensures.items ∙ ap (λ (l : List ChangedPage). insert l c.args.at new) c.in_ok-take_room.ensures.changed in
    let fits : length items < vec_capacity c.take_room.new.whole = omega (arith, c.in_ok-take_room.ensures.ok) in
    let has : HasPlace (length s) kept.pages c.args.page c.in_ok-kept.kept = subst (HasPlace (length s) kept.pages c.args.page) (sym c.in_ok-kept.ensures.kept)
    (omega (arith, size, length-append starts start), c.requires.size) in
    kept_same s _ whole _ _ _ c.in_ok-kept.ensures.ok c.in_ok-take_room.ensures.whole inserted _
    (added_kept s whole items _ kept c.args.page c.args.at missing new refl (padded_image start) holds _ fits (ap start_in c.in_ok-kept.ensures.kept) has
    (length-padded start (omega (arith, size, c.requires.size))))

pub returns-clause-ok : goal.returns-clause-ok
returns-clause-ok c =
    let starts = c.self.inside.starts.items in
    let whole = c.self.inside.whole.items in
    let items = c.self.inside.changed.items in
    let start : List ℕ = c.args.head.now ++ c.args.rest.now in
    let s : List ℕ = starts ++ start in
    let kept : HoldsChanges s whole items (vec_capacity c.self.inside.whole) = kept_further starts start whole items _ c.self.invariant in
    let is : listed_changes s whole items ≡ c.args.self.now = listed_further starts start whole c.self.invariant.pages items c.self.invariant.places
    ∙ c.self.view_is in
    let missing : MissingAt c.args.page c.args.at (listed_changes s whole items) = subst (MissingAt c.args.page c.args.at) (sym is) c.requires.missing in
    let size : length start ≡ length c.args.head.now + length c.args.rest.now = length-append c.args.head.now c.args.rest.now in
    let holds : image_in s whole c.in_ok-kept.kept ≡ padded_image start = ap (image_in s whole) c.in_ok-kept.ensures.kept
    ∙ image_of_start starts start whole _ size in
    let new : ChangedPage = record { page = c.args.page; kept = c.in_ok-kept.kept } in
    let inserted : c.insert.new.self.items ≡ insert items c.args.at new =
    c.in_ok-insert.ensures.items ∙ ap (λ (l : List ChangedPage). insert l c.args.at new) c.in_ok-take_room.ensures.changed in
    listed_same s _ whole _ _ _ c.in_ok-kept.ensures.ok c.in_ok-take_room.ensures.whole inserted
    ∙ added_listed s whole items _ kept c.args.page c.args.at missing new refl (padded_image start) holds
    ∙ ap (with_change c.args.page (padded_image start)) is

pub returns-clause-found : goal.returns-clause-found
returns-clause-found c =
    let starts = c.self.inside.starts.items in
    let whole = c.self.inside.whole.items in
    let items = c.self.inside.changed.items in
    let start : List ℕ = c.args.head.now ++ c.args.rest.now in
    let s : List ℕ = starts ++ start in
    let kept : HoldsChanges s whole items (vec_capacity c.self.inside.whole) = kept_further starts start whole items _ c.self.invariant in
    let is : listed_changes s whole items ≡ c.args.self.now = listed_further starts start whole c.self.invariant.pages items c.self.invariant.places
    ∙ c.self.view_is in
    let missing : MissingAt c.args.page c.args.at (listed_changes s whole items) = subst (MissingAt c.args.page c.args.at) (sym is) c.requires.missing in
    let size : length start ≡ length c.args.head.now + length c.args.rest.now = length-append c.args.head.now c.args.rest.now in
    let holds : image_in s whole c.in_ok-kept.kept ≡ padded_image start = ap (image_in s whole) c.in_ok-kept.ensures.kept
    ∙ image_of_start starts start whole _ size in
    let new : ChangedPage = record { page = c.args.page; kept = c.in_ok-kept.kept } in
    let inserted : c.insert.new.self.items ≡ insert items c.args.at new =
    c.in_ok-insert.ensures.items ∙ ap (λ (l : List ChangedPage). insert l c.args.at new) c.in_ok-take_room.ensures.changed in
    subst (FoundAt c.args.page c.args.at) (sym (listed_same s _ whole _ _ _ c.in_ok-kept.ensures.ok c.in_ok-take_room.ensures.whole inserted))
    (added_found s whole items _ kept c.args.page c.args.at missing new refl (padded_image start) holds)
