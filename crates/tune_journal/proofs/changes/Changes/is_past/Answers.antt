use Rattle.std.proofs.Common.{◌≡◌, ℕ, zero, suc, ◌-◌, ◌<◌, List, [], ◌∷◌, length, get_or, sym, subst, arith, rules}
use Rattle.std.proofs.lemmas.List.{drop_all, take_all}
use Rattle.std.proofs.lemmas.Bool.{ltb-true}
use Rattle.tune_journal.specs.declared.changes.ChangedPage.{ChangedPage}
use Rattle.tune_journal.specs.declared.changes.PageImage.{PageImage}
use Rattle.tune_journal.specs.Inside.ChangeOrder.{AreAbove, AreBelow, PagesRise, MissingAt}
use Rattle.tune_journal.specs.Inside.ListedChanges.{listed_changes}
use Rattle.tune_journal.proofs.changes.Changes.is_past.Goals as goal

-- where the last change is of a page below this one, all are
all_below : (s : List ℕ) (w : List PageImage) (page n : ℕ) (items : List ChangedPage) (x : ChangedPage) → PagesRise (listed_changes s w items)
    → length items ≡ suc n
    → x ≡ get_or items n x → x.page < page → AreBelow page (listed_changes s w items)
all_below s w page n [] x rises size is lt = absurd (omega (arith, size))
all_below s w page zero (c ∷ []) x rises size is lt = (subst (λ (y : ChangedPage). y.page < page) is lt, tt)
all_below s w page zero (c ∷ d ∷ cs) x rises size is lt = absurd (omega (arith, size))
all_below s w page (suc n) (c ∷ []) x rises size is lt = absurd (omega (arith, size))
all_below s w page (suc n) (c ∷ d ∷ cs) x rises size is lt =
    let rest = all_below s w page n (d ∷ cs) x rises.1 (omega (arith, size)) is lt in
    (omega (arith, rises.0.0, rest.0), rest)

missing_last : (page : ℕ) (l : List (ℕ × List ℕ)) → AreBelow page l → MissingAt page (length l) l
missing_last page l below = record {
  in_range = omega arith;
  below = subst (AreBelow page) (sym (take_all (length l) l (omega arith))) below;
  above = subst (AreAbove page) (sym (drop_all (length l) l (omega arith))) tt;
}

pub returns-in-Some : goal.returns-in-Some
returns-in-Some c = λ less.
    (let starts = c.self.inside.starts.items in
    let whole = c.self.inside.whole.items in
    let items = c.self.inside.changed.items in
    let there = c.in-Some.ensures.item in
    let size : c.self.inside.changed.len ≡ length items = search rules in
    let below : AreBelow c.args.page (listed_changes starts whole items) =
    all_below starts whole c.args.page (c.self.inside.changed.len - 1) items c.in-Some.last.now c.self.invariant.order.rising
    (omega (arith, size, there.3.0)) there.1
    (ltb-true c.in-Some.last.now.page c.args.page less) in
    subst (λ (l : List (ℕ × List ℕ)). MissingAt c.args.page (length l) l) c.self.view_is (missing_last c.args.page (listed_changes starts whole items) below))
