-- Pages that a work puts, takes and frees.
use Rattle.std.proofs.Common.{◌≡◌, ◌≢◌, ◌⊎◌, inl, inr, ℕ, ◌+◌, ◌-◌, ◌<◌, ◌≤◌, max, List, [], ◌∷◌, ◌++◌, length, get_or, set}
use Rattle.std.proofs.Common.{Bool, true, false, All, refl, sym, ◌∙◌, ap, subst, arith}
use Rattle.std.proofs.lemmas.List.{get_or_append_left, length-append}
use Rattle.std.proofs.lemmas.List.Elements.{All-nil, All-cons, All-tail}
use Rattle.std.proofs.lemmas.Bool.{cases_lt}
use Rattle.tune_journal.specs.ChangeList.{with_change}
use Rattle.tune_journal.specs.Pages.{pages_after}
use Rattle.tune_journal.proofs.Puts.{below_with, below_more}
use Rattle.tune_pages.specs.Stand.{Stand, IsUsed, AllUsed, marked, placed, with_page, taken_with}
use Rattle.tune_pages.specs.Work.{front_in_use, used_in, page_count_in, stand_on, Falls, FitsOn}
use Rattle.tune_pages.specs.Inside.NextFree.{IsNextFree}
use Rattle.tune_pages.specs.Inside.Freed.{Unfrees}
use Rattle.tune_pages.specs.declared.work.Work.{Work}
use Rattle.tune_pages.proofs.Putting.{Apart, set_used}
use Rattle.tune_pages.proofs.Overlay.{front_below, front_behind, front_on, marked_other, set_apart, use_next, use_freed, use_low}
use Rattle.tune_pages.proofs.Finishing.{false_keeps}
use Rattle.tune_pages.proofs.Puts.{Rising, rising_with, HasImages, images_with, after_placed}

abbrev pub Below : List Bool → List (List ℕ) → Type 0
Below used pages = (q : ℕ) → IsUsed used q → q < length pages

abbrev made : List (List ℕ) → List Bool → Stand
made pages used = record { pages = pages; used = used }

pub stand_used : (pages : List (List ℕ)) (used : List Bool) (w : Work) → (stand_on pages used w).used ≡ used_in used w
unfolding stand_on
stand_used pages used w = refl

pub stand_pages : (pages : List (List ℕ)) (used : List Bool) (w : Work) → (stand_on pages used w).pages ≡ pages_after pages (page_count_in pages w) w.changes
unfolding stand_on
stand_pages pages used w = refl

-- a page in use is one of the pages
pub in_count : (pages : List (List ℕ)) (used : List Bool) (w : Work) (p : ℕ) → Below used pages → IsUsed (used_in used w) p → p < page_count_in pages w
in_count pages used w p below is =
    let here = false_keeps w.freed.items (front_in_use w.frontier used) p is in
    elim (cases_lt p w.frontier) [
      | inl lt ↦ omega (arith, lt)
      | inr ge ↦ (let old = below p (sym (front_behind w.frontier used p false ge) ∙ here) in omega (arith, old))
    ]

-- PUTTING
module _ (pages : List (List ℕ)) (used : List Bool) (w w' : Work) (p : ℕ) (i : List ℕ) (fits : FitsOn pages used w) (lt : p < page_count_in pages w)
    (ch : w'.changes ≡ with_change p i w.changes) (fr : w'.frontier ≡ w.frontier) (fd : w'.freed.items ≡ w.freed.items) where
  abbrev pub m : ℕ
  m = page_count_in pages w

  same_count : page_count_in pages w' ≡ m
  same_count = ap (λ (n : ℕ). max (length pages) n) fr

  le : length pages ≤ m
  le = omega arith

  no_more : m ≡ max m (p + 1)
  no_more = omega (arith, lt)

  pub put_fits : FitsOn pages used w'
  put_fits = record {
    root = fits.root;
    inside = fits.inside;
    within = subst (λ (n : ℕ). n ≤ length used) (sym fr) fits.within;
    rising = subst Rising (sym ch) (rising_with p i w.changes fits.rising);
    below = subst (λ (n : ℕ). All (λ e. e.0 < n) w'.changes) (sym same_count)
        (subst (λ (cs : List (ℕ × List ℕ)). All (λ e. e.0 < m) cs) (sym ch) (below_with m p i w.changes lt fits.below));
    names = subst (λ (n : ℕ). HasImages (length pages) n w'.changes) (sym same_count)
        (subst (λ (cs : List (ℕ × List ℕ)). HasImages (length pages) m cs) (sym ch)
        (images_with (length pages) m m p i w.changes (omega (arith, lt)) no_more fits.names));
    falls = subst Falls (sym fd) fits.falls;
    freed = subst (λ (n : ℕ). AllUsed w'.freed.items (front_in_use n used)) (sym fr)
        (subst (λ (l : List ℕ). AllUsed l (front_in_use w.frontier used)) (sym fd) fits.freed);
    no_root = subst (λ (l : List ℕ). All (λ q. q ≢ 0) l) (sym fd) fits.no_root;
  }

  put_pages : pages_after pages (page_count_in pages w') w'.changes ≡ placed p i (pages_after pages m w.changes)
  put_pages =
      ap (λ (n : ℕ). pages_after pages n w'.changes) same_count
      ∙ ap (λ (cs : List (ℕ × List ℕ)). pages_after pages m cs) ch
      ∙ after_placed pages m m p i w.changes le (omega (arith, lt)) no_more fits.rising fits.below

  put_used : used_in used w' ≡ used_in used w
  put_used = ap (λ (l : List ℕ). marked false l (front_in_use w'.frontier used)) fd ∙ ap (λ (n : ℕ). marked false w.freed.items (front_in_use n used)) fr

  pub put_stand : stand_on pages used w' ≡ with_page p i (stand_on pages used w)
  unfolding stand_on
  put_stand = ap (λ (l : List (List ℕ)). made l (used_in used w')) put_pages ∙ ap (made (placed p i (pages_after pages m w.changes))) put_used

-- THE FREED PAGES
pub falls_front : (t : List ℕ) (p : ℕ) → Falls (t ++ p ∷ []) → Falls t × All (λ q. p < q) t
falls_front [] p falls = (tt, All-nil (λ q. p < q))
falls_front (x ∷ t) p falls =
    let more = falls_front t p falls.1 in
    let here : p < x = last_below t x falls.0 in
    ((front_below' t x falls.0, more.0), All-cons (λ q. p < q) x t here more.1)
  where
    last_below : (u : List ℕ) (y : ℕ) → All (λ q. q < y) (u ++ p ∷ []) → p < y
    last_below [] y all = all 0 0 (omega arith)
    last_below (z ∷ u) y all = last_below u y (All-tail (λ q. q < y) z (u ++ p ∷ []) all)

    front_below' : (u : List ℕ) (y : ℕ) → All (λ q. q < y) (u ++ p ∷ []) → All (λ q. q < y) u
    front_below' u y all = λ k d lt. subst (λ (q : ℕ). q < y) (get_or_append_left u (p ∷ []) d k lt) (all k d (omega (arith, lt, length-append u (p ∷ []))))

above_apart : (t : List ℕ) (p : ℕ) → All (λ q. p < q) t → Apart t p
above_apart t p all = λ k d lt. (let a = all k d lt in λ is. absurd (omega (arith, a, is)))

used_front : (t : List ℕ) (p : ℕ) (m : List Bool) → AllUsed (t ++ p ∷ []) m → AllUsed t m
used_front [] p m all = tt
used_front (x ∷ t) p m all = (all.0, used_front t p (set m x false) all.1)

used_set : (t : List ℕ) (p : ℕ) (m : List Bool) → Apart t p → AllUsed t m → AllUsed t (set m p true)
used_set [] p m apart all = tt
used_set (x ∷ t) p m apart all =
    let ne : x ≢ p = apart 0 0 (omega arith) in (
      set_used m p x all.0,
      subst (AllUsed t) (set_apart m x p false true ne) (used_set t p (set m x false) (All-tail (λ q. q ≢ p) x t apart) all.1),
    )

-- p is at most each of these, and it is not the last
falls_apart : (t : List ℕ) (p : ℕ) → Falls t → All (λ q. p ≤ q) t → ((u : List ℕ) → t ≡ u ++ p ∷ [] → ⊥) → Apart t p
falls_apart [] p falls least not = All-nil (λ q. q ≢ p)
falls_apart (x ∷ t) p falls least not = All-cons (λ q. q ≢ p) x t
    (λ is. alone t is)
    (falls_apart t p falls.1 (All-tail (λ q. p ≤ q) x t least) (λ u e. not (x ∷ u) (ap (λ (l : List ℕ). x ∷ l) e)))
  where
    alone : (u : List ℕ) → x ≡ p → ⊥
    alone u is = elim (cases_nil t) [
      | inl none ↦ not [] (ap (λ (l : List ℕ). x ∷ l) none ∙ ap (λ (y : ℕ). y ∷ []) is)
      | inr some ↦ (let lt = falls.0 0 0 some in let ge = least 1 0 (omega (arith, some)) in absurd (omega (arith, lt, ge, is)))
    ]
      where
        cases_nil : (v : List ℕ) → (v ≡ []) ⊎ (0 < length v)
        cases_nil [] = inl refl
        cases_nil (y ∷ v) = inr (omega arith)

no_root_front : (t : List ℕ) (p : ℕ) → All (λ q. q ≢ 0) (t ++ p ∷ []) → All (λ q. q ≢ 0) t
no_root_front t p all = λ k d lt. subst (λ (q : ℕ). q ≢ 0) (get_or_append_left t (p ∷ []) d k lt) (all k d (omega (arith, lt, length-append t (p ∷ []))))

-- TAKING
module _ (pages : List (List ℕ)) (used : List Bool) (w w' : Work) (p : ℕ) (i : List ℕ) (fits : FitsOn pages used w) (below : Below used pages)
    (within : p < length used)
    (next : IsNextFree used w p)
    (ch : w'.changes ≡ with_change p i w.changes) (fr : w'.frontier ≡ max w.frontier (p + 1))
    (unfrees : Unfrees p w.freed.items w'.freed.items) where
  abbrev pub count : ℕ
  count = page_count_in pages w

  new_count : page_count_in pages w' ≡ max count (p + 1)
  new_count = ap (λ (n : ℕ). max (length pages) n) fr ∙ omega arith

  le_count : length pages ≤ count
  le_count = omega arith

  pub take_within : p ≤ count
  take_within = elim (cases_lt w.frontier p) [
    | inl lt ↦ (let before = below (p - 1) (next.full (p - 1) (omega (arith, lt)) (omega (arith, lt))) in omega (arith, before, lt))
    | inr ge ↦ omega (arith, ge)
  ]

  -- what is left of the freed pages, and the use of pages then
  record Left : Type 0 where
    pub falls : Falls w'.freed.items
    pub apart : Apart w'.freed.items p
    pub was_used : AllUsed w'.freed.items (front_in_use w.frontier used)
    pub no_root : All (λ q. q ≢ 0) w'.freed.items
    pub low : p < w.frontier → marked false w'.freed.items (front_in_use w.frontier used) ≡ set (used_in used w) p true
    pub high : w.frontier ≤ p → marked false w'.freed.items (front_in_use (p + 1) used) ≡ set (used_in used w) p true

  left : Left
  left = elim unfrees [
    | inl last ↦ (let both = falls_front w'.freed.items p (subst Falls last fits.falls) in
        let apart = above_apart w'.freed.items p both.1 in
        let was : set (marked false (w'.freed.items ++ p ∷ []) (front_in_use w.frontier used)) p true ≡ set (used_in used w) p true = ap
        (λ (l : List ℕ). set (marked false l (front_in_use w.frontier used)) p true) (sym last) in
        record {
          falls = both.0;
          apart = apart;
          was_used = used_front w'.freed.items p (front_in_use w.frontier used)
              (subst (λ (l : List ℕ). AllUsed l (front_in_use w.frontier used)) last fits.freed);
          no_root = no_root_front w'.freed.items p (subst (λ (l : List ℕ). All (λ q. q ≢ 0) l) last fits.no_root);
          low = λ lt. use_low w'.freed.items w.frontier p used lt apart ∙ was;
          high = λ ge. use_freed w'.freed.items w.frontier p used ge within next.full apart ∙ was;
        })
    | inr same ↦ (let apart' = falls_apart w.freed.items p fits.falls next.freed same.1 in
        let apart : Apart w'.freed.items p = subst (λ (l : List ℕ). Apart l p) (sym same.0) apart' in
        let to_new : marked false w'.freed.items ≡ marked false w.freed.items = ap (marked false) same.0 in
        record {
          falls = subst Falls (sym same.0) fits.falls;
          apart = apart;
          was_used = subst (λ (l : List ℕ). AllUsed l (front_in_use w.frontier used)) (sym same.0) fits.freed;
          no_root = subst (λ (l : List ℕ). All (λ q. q ≢ 0) l) (sym same.0) fits.no_root;
          low = λ lt. (let free = next.least.free in
              let is : get_or (used_in used w) p true ≡ true = marked_other false w.freed.items (front_in_use w.frontier used) p true apart'
              ∙ front_below w.frontier used p true lt in
              let clash : false ≡ true = sym free ∙ is in absurd (let e = clash in cc));
          high = λ ge. ap (λ (l : List ℕ). marked false l (front_in_use (p + 1) used)) same.0
              ∙ use_next w.freed.items w.frontier p used ge within next.full apart';
        })
  ]

  after_low : p < w.frontier → w'.frontier ≡ w.frontier
  after_low lt = fr ∙ omega (arith, lt)

  after_high : w.frontier ≤ p → w'.frontier ≡ p + 1
  after_high ge = fr ∙ omega (arith, ge)

  take_used : used_in used w' ≡ set (used_in used w) p true
  take_used = elim (cases_lt p w.frontier) [
    | inl lt ↦ ap (λ (n : ℕ). marked false w'.freed.items (front_in_use n used)) (after_low lt) ∙ left.low lt
    | inr ge ↦ ap (λ (n : ℕ). marked false w'.freed.items (front_in_use n used)) (after_high ge) ∙ left.high ge
  ]

  take_freed : AllUsed w'.freed.items (front_in_use w'.frontier used)
  take_freed = elim (cases_lt p w.frontier) [
    | inl lt ↦ subst (λ (n : ℕ). AllUsed w'.freed.items (front_in_use n used)) (sym (after_low lt)) left.was_used
    | inr ge ↦ subst (λ (n : ℕ). AllUsed w'.freed.items (front_in_use n used)) (sym (after_high ge))
        (subst (AllUsed w'.freed.items) (sym (front_on w.frontier p used ge within next.full))
        (used_set w'.freed.items p (front_in_use w.frontier used) left.apart left.was_used))
  ]

  pub take_fits : FitsOn pages used w'
  take_fits = record {
    root = fits.root;
    inside = fits.inside;
    within = omega (arith, fr, fits.within, within);
    rising = subst Rising (sym ch) (rising_with p i w.changes fits.rising);
    below = subst (λ (n : ℕ). All (λ e. e.0 < n) w'.changes) (sym new_count)
        (subst (λ (cs : List (ℕ × List ℕ)). All (λ e. e.0 < max count (p + 1)) cs) (sym ch)
        (below_with (max count (p + 1)) p i w.changes (omega arith)
        (below_more count (max count (p + 1)) w.changes (omega arith) fits.below)));
    names = subst (λ (n : ℕ). HasImages (length pages) n w'.changes) (sym new_count)
        (subst (λ (cs : List (ℕ × List ℕ)). HasImages (length pages) (max count (p + 1)) cs) (sym ch)
        (images_with (length pages) count (max count (p + 1)) p i w.changes take_within refl fits.names));
    falls = left.falls;
    freed = take_freed;
    no_root = left.no_root;
  }

  take_pages : pages_after pages (page_count_in pages w') w'.changes ≡ placed p i (pages_after pages count w.changes)
  take_pages =
      ap (λ (cs : List (ℕ × List ℕ)). pages_after pages (page_count_in pages w') cs) ch
      ∙ after_placed pages count (page_count_in pages w') p i w.changes le_count take_within new_count fits.rising fits.below

  pub take_stand : stand_on pages used w' ≡ taken_with p i (stand_on pages used w)
  unfolding stand_on
  take_stand = ap (λ (l : List (List ℕ)). made l (used_in used w')) take_pages
      ∙ ap (made (placed p i (pages_after pages count w.changes))) take_used
