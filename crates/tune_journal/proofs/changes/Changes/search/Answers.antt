use Rattle.std.proofs.Common.{◌≡◌, ◌≢◌, ℕ, zero, suc, ◌<◌, ◌≤◌, true, false, ltb, List, [], ◌∷◌, length, get_or, take, sym, ◌∙◌, ap, subst, arith, rules}
use Rattle.std.specs.List.{AllWithin}
use Rattle.std.specs.List.Sorted.{IsPartitionPoint, IsPartitionedBy}
use Rattle.std.proofs.lemmas.Fn.{always_returns_same}
use Rattle.std.proofs.lemmas.List.{length-map}
use Rattle.std.proofs.lemmas.List.Sorted.{IsPartitionedBy-ltb}
use Rattle.std.proofs.lemmas.Bool.{ltb-true, ltb-false}
use Rattle.tune_journal.specs.declared.changes.ChangedPage.{ChangedPage}
use Rattle.tune_journal.specs.declared.changes.PageImage.{PageImage}
use Rattle.tune_journal.specs.ChangeList.{changed_page}
use Rattle.tune_journal.specs.Inside.ChangeOrder.{AreBelow, AreAbove, PagesRise, FoundAt, MissingAt}
use Rattle.tune_journal.specs.Inside.ListedChanges.{listed_changes, change_in}
use Rattle.tune_journal.proofs.ChangeLists.{above_from_first, in_listed, change_there}
use Rattle.tune_journal.proofs.changes.Changes.search.Goals as goal

above_at : (s : List ℕ) (w : List PageImage) (low : ℕ) (items : List ChangedPage) (j : ℕ) (d : ChangedPage) → AreAbove low (listed_changes s w items)
    → j < length items
    → low < (get_or items j d).page
above_at s w low [] j d above lt = absurd (omega arith)
above_at s w low (c ∷ cs) zero d above lt = above.0
above_at s w low (c ∷ cs) (suc j) d above lt = above_at s w low cs j d above.1 (omega arith)

no_higher : (s : List ℕ) (w : List PageImage) (items : List ChangedPage) (i j : ℕ) (d : ChangedPage) → PagesRise (listed_changes s w items) → i ≤ j
    → j < length items
    → (get_or items i d).page ≤ (get_or items j d).page
no_higher s w [] i j d rises le lt = absurd (omega arith)
no_higher s w (c ∷ cs) zero zero d rises le lt = omega arith
no_higher s w (c ∷ cs) zero (suc j) d rises le lt = (let up = above_at s w c.page cs j d rises.0 (omega arith) in omega (arith, up))
no_higher s w (c ∷ cs) (suc i) zero d rises le lt = absurd (omega arith)
no_higher s w (c ∷ cs) (suc i) (suc j) d rises le lt = no_higher s w cs i j d rises.1 (omega arith) (omega arith)

below_point : (s : List ℕ) (w : List PageImage) (page at : ℕ) (items : List ChangedPage) → AllWithin (λ c. ltb c.page page ≡ true) items 0 at
    → AreBelow page (take at (listed_changes s w items))
below_point s w page zero items lower = tt
below_point s w page (suc at) [] lower = tt
below_point s w page (suc at) (c ∷ cs) lower =
    (ltb-true c.page page (lower 0 c (omega arith) (omega arith)), below_point s w page at cs (λ k d ge lt. lower (suc k) d (omega arith) (omega arith)))

least_from : (s : List ℕ) (w : List PageImage) (page at : ℕ) (items : List ChangedPage)
    → AllWithin (λ c. ltb c.page page ≡ false) items at (length items)
    → at < length items → page ≤ changed_page (listed_changes s w items) at
least_from s w page at [] higher lt = absurd (omega arith)
least_from s w page zero (c ∷ cs) higher lt = ltb-false c.page page (higher 0 c (omega arith) (omega arith))
least_from s w page (suc at) (c ∷ cs) higher lt = least_from s w page at cs (λ k d ge below. higher (suc k) d (omega arith) (omega arith)) (omega arith)

-- what `partition_point` answers: below the place smaller pages, and none smaller from it on
abbrev Parts : ℕ → ℕ → List ChangedPage → Type 0
Parts page at items = IsPartitionPoint (λ c. ltb c.page page ≡ true) (λ c. ltb c.page page ≡ false) items at

parted : (s : List ℕ) (w : List PageImage) (page at : ℕ) (items : List ChangedPage) → PagesRise (listed_changes s w items)
    → (IsPartitionedBy (λ c. ltb c.page page) items → Parts page at items) → Parts page at items
parted s w page at items rises says = says (IsPartitionedBy-ltb (λ c. c.page) items page (λ i j d le lt. no_higher s w items i j d rises le lt))

found_from : (s : List ℕ) (w : List PageImage) (page at : ℕ) (items : List ChangedPage) (x : ChangedPage) → Parts page at items → at < length items
    → x ≡ get_or items at x → x.page ≡ page → FoundAt page at (listed_changes s w items)
found_from s w page at items x point lt is same =
    let within : at < length (listed_changes s w items) = omega (arith, length-map items (change_in s w)) in
    record {
      in_range = within;
      is_its = ap (λ (c : ℕ × List ℕ). c.0) (change_there s w items at x within is) ∙ same;
      below = below_point s w page at items point.0;
    }

missing_from : (s : List ℕ) (w : List PageImage) (page at : ℕ) (items : List ChangedPage) → PagesRise (listed_changes s w items) → Parts page at items
    → at ≤ length items
    → (at < length items → changed_page (listed_changes s w items) at ≢ page) → MissingAt page at (listed_changes s w items)
missing_from s w page at items rises point le other = record {
  in_range = omega (arith, length-map items (change_in s w));
  below = below_point s w page at items point.0;
  above = above_from_first page at (listed_changes s w items) rises first;
}
  where
    first : at < length (listed_changes s w items) → page < changed_page (listed_changes s w items) at
    first lt =
        let within : at < length items = in_listed s w items at lt in
        let least = least_from s w page at items point.1 within in
        let ne = other within in
        omega (arith, least, ne)

pub returns-in-Some-clause-found : goal.returns-in-Some-clause-found
returns-in-Some-clause-found c =
    let starts = c.self.inside.starts.items in
    let whole = c.self.inside.whole.items in
    let items = c.self.inside.changed.items in
    let at = c.partition_point-at.result in
    let point =
    parted starts whole c.args.page at items c.self.invariant.order.rising
    (c.partition_point-at.ensures.partitioned (λ d. ltb d.page c.args.page) (search (rules, always_returns_same))) in
    let there = c.in-Some.ensures.item in
    subst (FoundAt c.args.page at) c.self.view_is
    (found_from starts whole c.args.page at items c.in-Some.changed.now point there.3.0 there.1 c.if-changed-page.true)

pub returns-in_default-clause-missing : goal.returns-in_default-clause-missing
returns-in_default-clause-missing c =
    let starts = c.self.inside.starts.items in
    let whole = c.self.inside.whole.items in
    let items = c.self.inside.changed.items in
    let at = c.partition_point-at.result in
    let point =
    parted starts whole c.args.page at items c.self.invariant.order.rising
    (c.partition_point-at.ensures.partitioned (λ d. ltb d.page c.args.page) (search (rules, always_returns_same))) in
    let there = c.in-Some.ensures.item in
    let within : at < length (listed_changes starts whole items) = omega (arith, there.3.0, length-map items (change_in starts whole)) in
    subst (MissingAt c.args.page at) c.self.view_is
    (missing_from starts whole c.args.page at items c.self.invariant.order.rising point (omega (arith, there.3.0))
    (λ lt is. c.if-changed-page.false
    (ap (λ (d : ℕ × List ℕ). d.0) (sym (change_there starts whole items at c.in-Some.changed.now within there.1)) ∙ is)))

pub returns-in_default-2-clause-missing : goal.returns-in_default-2-clause-missing
returns-in_default-2-clause-missing c =
    let starts = c.self.inside.starts.items in
    let whole = c.self.inside.whole.items in
    let items = c.self.inside.changed.items in
    let at = c.partition_point-at.result in
    let point =
    parted starts whole c.args.page at items c.self.invariant.order.rising
    (c.partition_point-at.ensures.partitioned (λ d. ltb d.page c.args.page) (search (rules, always_returns_same))) in
    let past : length items ≤ at = (rw c.in_default.is at c.get.ensures.item).3 in
    let size : c.self.inside.changed.len ≡ length items = search rules in
    subst (MissingAt c.args.page at) c.self.view_is
    (missing_from starts whole c.args.page at items c.self.invariant.order.rising point (omega (arith, size, c.partition_point-at.ensures.bound))
    (λ lt. absurd (omega (arith, past, lt))))
