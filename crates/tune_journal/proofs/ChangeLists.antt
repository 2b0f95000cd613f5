-- Lists of changes, parted at a place: what stands before it, and what stands from it on.
use Rattle.std.proofs.Common.{◌≡◌, inl, inr, ℕ, zero, suc, ◌<◌, List, [], ◌∷◌, ◌++◌, length, get_or, map, take, drop, set, Some, None, Less, refl, sym, ◌∙◌, ap}
use Rattle.std.proofs.Common.{subst, arith, drop-cons}
use Rattle.std.specs.List.{All, AllByRecursion, insert}
use Rattle.std.specs.List.Sorted.{IsStrictlyIncreasing, IsStrictlySortedBy}
use Rattle.std.specs.Ordering.{nat_cmp}
use Rattle.std.proofs.lemmas.List.{take-append-drop, set_split, map-append, take-map, drop-map, get_or-map, length-map}
use Rattle.std.proofs.lemmas.List.Elements.{All-cons, All-head, All-tail}
use Rattle.std.proofs.lemmas.Map.Keys.{sorted_head, sorted_tail, sorted_from_strictly_increasing, IsStrictlyIncreasing-from_sorted}
use Rattle.std.proofs.lemmas.Bool.{cases_order}
use Rattle.std.proofs.lemmas.Bool.Decides.{nat_tests}
use Rattle.tune_journal.specs.declared.changes.ChangedPage.{ChangedPage}
use Rattle.tune_journal.specs.declared.changes.PageImage.{PageImage}
use Rattle.tune_journal.specs.ChangeList.{with_change, image_of, change_at, changed_page}
use Rattle.tune_journal.specs.Inside.ChangeOrder.{IsChangeList, AreBelow, AreAbove, PagesRise, FoundAt, MissingAt}
use Rattle.tune_journal.specs.Inside.ListedChanges.{image_in, change_in, listed_changes}
use Rattle.tune_journal.specs.FileOffsets.{block_bytes}

abbrev pub Change : Type 0
Change = ℕ × List ℕ

-- The three ways in which a change meets the first of a list.
pub with_before : (page : ℕ) (image : List ℕ) (c : Change) (cs : List Change) → page < c.0 → with_change page image (c ∷ cs) ≡ (page, image) ∷ c ∷ cs
with_before page image c cs lt = grind (arith, nat_tests)

pub with_same : (page : ℕ) (image : List ℕ) (c : Change) (cs : List Change) → c.0 ≡ page → with_change page image (c ∷ cs) ≡ (page, image) ∷ cs
with_same page image c cs is = grind (arith, nat_tests)

pub with_after : (page : ℕ) (image : List ℕ) (c : Change) (cs : List Change) → c.0 < page → with_change page image (c ∷ cs) ≡ c ∷ with_change page image cs
with_after page image c cs lt = grind (arith, nat_tests)

pub image_same : (page : ℕ) (c : Change) (cs : List Change) → c.0 ≡ page → image_of page (c ∷ cs) ≡ Some c.1
image_same page c cs is = grind (arith, nat_tests)

pub image_after : (page : ℕ) (c : Change) (cs : List Change) → c.0 < page → image_of page (c ∷ cs) ≡ image_of page cs
image_after page c cs lt = grind (arith, nat_tests)

pub image_before : (page : ℕ) (c : Change) (cs : List Change) → page < c.0 → image_of page (c ∷ cs) ≡ image_of page cs
image_before page c cs lt = grind (arith, nat_tests)

-- A page among the changes stands between smaller ones and the rest.
with_change_here : (page : ℕ) (image : List ℕ) (front : List Change) (x : Change) (back : List Change) → AreBelow page front → x.0 ≡ page
    → with_change page image (front ++ x ∷ back) ≡ front ++ (page, image) ∷ back
with_change_here page image [] x back below is = with_same page image x back is
with_change_here page image (c ∷ front) x back below is =
    with_after page image c (front ++ x ∷ back) below.0 ∙ ap (λ (l : List Change). c ∷ l) (with_change_here page image front x back below.1 is)

image_of_here : (page : ℕ) (front : List Change) (x : Change) (back : List Change) → AreBelow page front → x.0 ≡ page
    → image_of page (front ++ x ∷ back) ≡ Some x.1
image_of_here page [] x back below is = image_same page x back is
image_of_here page (c ∷ front) x back below is = image_after page c (front ++ x ∷ back) below.0 ∙ image_of_here page front x back below.1 is

-- One that is not parts smaller ones from greater ones.
with_change_first : (page : ℕ) (image : List ℕ) (back : List Change) → AreAbove page back → with_change page image back ≡ (page, image) ∷ back
with_change_first page image [] above = refl
with_change_first page image (c ∷ cs) above = with_before page image c cs above.0

with_change_between : (page : ℕ) (image : List ℕ) (front back : List Change) → AreBelow page front → AreAbove page back
    → with_change page image (front ++ back) ≡ front ++ (page, image) ∷ back
with_change_between page image [] back below above = with_change_first page image back above
with_change_between page image (c ∷ front) back below above =
    with_after page image c (front ++ back) below.0 ∙ ap (λ (l : List Change). c ∷ l) (with_change_between page image front back below.1 above)

pub image_of_none : (page : ℕ) (back : List Change) → AreAbove page back → image_of page back ≡ None
image_of_none page [] above = refl
image_of_none page (c ∷ cs) above = image_before page c cs above.0 ∙ image_of_none page cs above.1

image_of_between : (page : ℕ) (front back : List Change) → AreBelow page front → AreAbove page back → image_of page (front ++ back) ≡ None
image_of_between page [] back below above = image_of_none page back above
image_of_between page (c ∷ front) back below above = image_after page c (front ++ back) below.0 ∙ image_of_between page front back below.1 above

-- The same of a list at a place.
parted : (at : ℕ) (l : List Change) → at < length l → l ≡ take at l ++ change_at l at ∷ drop (suc at) l
parted at l lt = sym (take-append-drop at l) ∙ ap (λ (back : List Change). take at l ++ back) (drop-cons l at (0, []) lt)

pub with_change_found : (page at : ℕ) (image : List ℕ) (l : List Change) → FoundAt page at l → with_change page image l ≡ set l at (page, image)
with_change_found page at image l found =
    ap (with_change page image) (parted at l found.in_range)
    ∙ with_change_here page image (take at l) (change_at l at) (drop (suc at) l) found.below found.is_its
    ∙ sym (set_split l at (page, image) found.in_range)

pub with_change_missing : (page at : ℕ) (image : List ℕ) (l : List Change) → MissingAt page at l
    → with_change page image l ≡ take at l ++ (page, image) ∷ drop at l
with_change_missing page at image l missing =
    ap (with_change page image) (sym (take-append-drop at l)) ∙ with_change_between page image (take at l) (drop at l) missing.below missing.above

pub image_of_found : (page at : ℕ) (l : List Change) → FoundAt page at l → image_of page l ≡ Some (change_at l at).1
image_of_found page at l found =
    ap (image_of page) (parted at l found.in_range) ∙ image_of_here page (take at l) (change_at l at) (drop (suc at) l) found.below found.is_its

pub image_of_missing : (page at : ℕ) (l : List Change) → MissingAt page at l → image_of page l ≡ None
image_of_missing page at l missing =
    ap (image_of page) (sym (take-append-drop at l)) ∙ image_of_between page (take at l) (drop at l) missing.below missing.above

above_at : (low k : ℕ) (l : List Change) → AreAbove low l → k < length l → low < changed_page l k
above_at low k [] above lt = absurd (omega (arith, lt))
above_at low zero (c ∷ cs) above lt = above.0
above_at low (suc k) (c ∷ cs) above lt = above_at low k cs above.1 (omega (arith, lt))

-- the page of a change has its image
pub image_named : (k : ℕ) (l : List Change) → PagesRise l → k < length l → image_of (changed_page l k) l ≡ Some (change_at l k).1
image_named k [] rises lt = absurd (omega (arith, lt))
image_named zero (c ∷ cs) rises lt = image_same c.0 c cs refl
image_named (suc k) (c ∷ cs) rises lt =
    let there : k < length cs = omega (arith, lt) in
    image_after (changed_page cs k) c cs (above_at c.0 k cs rises.0 there) ∙ image_named k cs rises.1 there

-- A list that rises still does with one more change.
above_lower : (low page : ℕ) (l : List Change) → low < page → AreAbove page l → AreAbove low l
above_lower low page [] lt above = tt
above_lower low page (c ∷ cs) lt above = (omega (arith, above.0), above_lower low page cs lt above.1)

-- where the page at a place is above this one, so is each after it
pub above_from_first : (page at : ℕ) (l : List Change) → PagesRise l → (at < length l → page < changed_page l at) → AreAbove page (drop at l)
above_from_first page zero [] rises first = tt
above_from_first page zero (c ∷ cs) rises first = (let lt : page < c.0 = first (omega arith) in (lt, above_lower page c.0 cs lt rises.0))
above_from_first page (suc at) [] rises first = tt
above_from_first page (suc at) (c ∷ cs) rises first = above_from_first page at cs rises.1 (λ lt. first (omega arith))

pub above_with : (low page : ℕ) (image : List ℕ) (l : List Change) → low < page → AreAbove low l → AreAbove low (with_change page image l)
above_with low page image [] lt above = (lt, tt)
above_with low page image (c ∷ cs) lt above = elim (cases_order page c.0) [
  | inl is ↦ subst (AreAbove low) (sym (with_same page image c cs (sym is))) (lt, above.1)
  | inr (inl less) ↦ subst (AreAbove low) (sym (with_before page image c cs less)) (lt, above)
  | inr (inr more) ↦ subst (AreAbove low) (sym (with_after page image c cs more)) (above.0, above_with low page image cs lt above.1)
]

pub rises_with : (page : ℕ) (image : List ℕ) (l : List Change) → PagesRise l → PagesRise (with_change page image l)
rises_with page image [] rises = (tt, tt)
rises_with page image (c ∷ cs) rises = elim (cases_order page c.0) [
  | inl is ↦ subst PagesRise (sym (with_same page image c cs (sym is))) (subst (λ (p : ℕ). AreAbove p cs) (sym is) rises.0, rises.1)
  | inr (inl less) ↦ subst PagesRise (sym (with_before page image c cs less)) ((less, above_lower page c.0 cs less rises.0), rises)
  | inr (inr more) ↦ subst PagesRise (sym (with_after page image c cs more)) (above_with c.0 page image cs more rises.0, rises_with page image cs rises.1)
]

abbrev IsSized : Change → Type 0
IsSized c = length c.1 ≡ block_bytes

pub sized_with : (page : ℕ) (image : List ℕ) (l : List Change) → length image ≡ block_bytes → All (λ c. length c.1 ≡ block_bytes) l
    → All (λ c. length c.1 ≡ block_bytes) (with_change page image l)
sized_with page image [] size sized = All-cons IsSized (page, image) [] size sized
sized_with page image (c ∷ cs) size sized =
    let later : All IsSized cs = All-tail IsSized c cs sized in
    elim (cases_order page c.0) [
      | inl is ↦ subst (All IsSized) (sym (with_same page image c cs (sym is))) (All-cons IsSized (page, image) cs size later)
      | inr (inl less) ↦ subst (All IsSized) (sym (with_before page image c cs less)) (All-cons IsSized (page, image) (c ∷ cs) size sized)
      | inr (inr more) ↦ subst (All IsSized) (sym (with_after page image c cs more))
          (All-cons IsSized c (with_change page image cs) (All-head IsSized c cs sized) (sized_with page image cs size later))
    ]

-- That a list rises, in std's words.
less_from_above : (low : ℕ) (l : List Change) → AreAbove low l → AllByRecursion (λ p. nat_cmp low p ≡ Less) (map (λ c. c.0) l)
less_from_above low [] above = tt
less_from_above low (c ∷ cs) above = (let lt : low < c.0 = above.0 in grind (arith, nat_tests), less_from_above low cs above.1)

above_from_less : (low : ℕ) (l : List Change) → AllByRecursion (λ p. nat_cmp low p ≡ Less) (map (λ c. c.0) l) → AreAbove low l
above_from_less low [] less = tt
above_from_less low (c ∷ cs) less = (let is : nat_cmp low c.0 ≡ Less = less.0 in grind (arith, nat_tests), above_from_less low cs less.1)

sorted_from_rises : (l : List Change) → PagesRise l → IsStrictlySortedBy nat_cmp (map (λ c. c.0) l)
unfolding IsStrictlySortedBy
sorted_from_rises [] rises = tt
sorted_from_rises (c ∷ cs) rises = (less_from_above c.0 cs rises.0, sorted_from_rises cs rises.1)

rises_from_sorted : (l : List Change) → IsStrictlySortedBy nat_cmp (map (λ c. c.0) l) → PagesRise l
rises_from_sorted [] sorted = tt
rises_from_sorted (c ∷ cs) sorted =
    (above_from_less c.0 cs (sorted_head nat_cmp c.0 (map (λ d. d.0) cs) sorted), rises_from_sorted cs (sorted_tail nat_cmp c.0 (map (λ d. d.0) cs) sorted))

pub increasing_from_rises : (l : List Change) → PagesRise l → IsStrictlyIncreasing (map (λ c. c.0) l)
increasing_from_rises l rises = IsStrictlyIncreasing-from_sorted (map (λ c. c.0) l) (sorted_from_rises l rises)

pub rises_from_increasing : (l : List Change) → IsStrictlyIncreasing (map (λ c. c.0) l) → PagesRise l
rises_from_increasing l rising = rises_from_sorted l (sorted_from_strictly_increasing (map (λ c. c.0) l) rising)

-- What a value holds, at a place.
pub in_listed : (s : List ℕ) (w : List PageImage) (items : List ChangedPage) (at : ℕ) → at < length (listed_changes s w items) → at < length items
in_listed s w items at lt = omega (arith, length-map items (change_in s w))

pub change_there : (s : List ℕ) (w : List PageImage) (items : List ChangedPage) (at : ℕ) (x : ChangedPage) → at < length (listed_changes s w items)
    → x ≡ get_or items at x
    → change_at (listed_changes s w items) at ≡ change_in s w x
change_there s w items at x lt is = get_or-map (change_in s w) items at x (0, []) (in_listed s w items at lt) ∙ ap (change_in s w) (sym is)

pub listed_inserted : (s : List ℕ) (w : List PageImage) (at : ℕ) (items : List ChangedPage) (new : ChangedPage)
    → MissingAt new.page at (listed_changes s w items)
    → listed_changes s w (insert items at new) ≡ with_change new.page (image_in s w new.kept) (listed_changes s w items)
listed_inserted s w at items new missing =
    map-append (change_in s w) (take at items) (new ∷ drop at items)
    ∙ ap (λ (l : List Change). l ++ change_in s w new ∷ listed_changes s w (drop at items)) (sym (take-map (change_in s w) at items))
    ∙ ap (λ (l : List Change). take at (listed_changes s w items) ++ change_in s w new ∷ l) (sym (drop-map (change_in s w) at items))
    ∙ sym (with_change_missing new.page at (image_in s w new.kept) (listed_changes s w items) missing)

-- where a change is inserted its page is found
pub found_inserted : (page at : ℕ) (image : List ℕ) (l : List Change) → MissingAt page at l → FoundAt page at (insert l at (page, image))
found_inserted page zero image l missing = record { in_range = omega arith; is_its = refl; below = tt }
found_inserted page (suc at) image [] missing = absurd (omega (arith, missing.in_range))
found_inserted page (suc at) image (c ∷ cs) missing =
    let rest : FoundAt page at (insert cs at (page, image)) =
    found_inserted page at image cs (record { in_range = omega (arith, missing.in_range); below = missing.below.1; above = missing.above }) in
    record { in_range = omega (arith, rest.in_range); is_its = rest.is_its; below = (missing.below.0, rest.below) }

pub keeps_order : (page : ℕ) (image : List ℕ) (old new : List Change) → new ≡ with_change page image old → length image ≡ block_bytes → IsChangeList old
    → IsChangeList new
keeps_order page image old new is size keeps =
    subst IsChangeList (sym is) (record { rising = rises_with page image old keeps.rising; sized = sized_with page image old size keeps.sized })
