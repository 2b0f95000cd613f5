-- The entries of each number, linked from the last entry to the first.
use Rattle.std.proofs.Common.{◌≡◌, ◌≢◌, ℕ, suc, ◌+◌, ◌<◌, ◌≤◌, List, [], ◌∷◌, length, drop, set, get_or, refl, sym, ap, ◌∙◌, arith, inl, inr, subst}
use Rattle.std.proofs.lemmas.Bool.{cases_eq, cases_lt, cond-true, cond-false, eq-eqb, ne_eqb}
use Rattle.std.proofs.lemmas.List.{drop_more, drop-drop, get_or-drop, get_or_default, get_or-set_same, get_or-set_other, length-drop, length-set}
use Rattle.std.proofs.lemmas.List.Elements.{All-from_recursion}
use Rattle.std.proofs.lemmas.List.Kept.{AllPairs-from_increasing}
use Rattle.std.proofs.lemmas.List.Sorted.{searched}
use Rattle.std.specs.List.{Contains}
use Rattle.std.specs.List.Sorted.{IsBinarySearchResult, IsStrictlyIncreasing}
use Rattle.std.specs.Ordering.{nat_cmp}
use Rattle.std.specs.Prelude.{◌==◌, Ok, Err}
use Rattle.index_keys.specs.Entries.{Entry}
use Rattle.index_keys.specs.Holdings.{keys_at}
use Rattle.index_keys.proofs.Members.{kept_front, dropped_front}
use Rattle.tune_index.specs.Leaves.{slice_entry}
use Rattle.tune_search.specs.SearchClaims.{AreKnown}
use Rattle.tune_search.specs.Inside.EntryLinks.{first_place, place_from}

-- THE FIRST ENTRY OF A NUMBER
first_here : (number : ℕ) (e : Entry) (es : List Entry) → e.1 ≡ number → first_place number (e ∷ es) ≡ 0
first_here number e es is = cond-true (e.1 == number) 0 (first_place number es + 1) (eq-eqb e.1 number is)

first_later : (number : ℕ) (e : Entry) (es : List Entry) → e.1 ≢ number → first_place number (e ∷ es) ≡ first_place number es + 1
first_later number e es other = cond-false (e.1 == number) 0 (first_place number es + 1) (ne_eqb e.1 number other)

-- this is the place of the first entry of the number in a list
pub record IsFirst (number : ℕ) (es : List Entry) (place : ℕ) : Type 0 where
  pub within : place ≤ length es
  pub own : place < length es → (slice_entry es place).1 ≡ number
  pub skips : keys_at number (drop place es) ≡ keys_at number es

first_is : (number : ℕ) (es : List Entry) → IsFirst number es (first_place number es)
first_is number [] = record { within = omega arith; own = λ l. absurd (omega arith); skips = refl }
first_is number (e ∷ es) = elim (cases_eq e.1 number) [
  | inl is ↦ subst (IsFirst number (e ∷ es)) (sym (first_here number e es is)) (record { within = omega arith; own = λ l. is; skips = refl })
  | inr other ↦
      let rest = first_is number es in
      let at : first_place number (e ∷ es) ≡ suc (first_place number es) = omega (arith, first_later number e es other) in
      let none : keys_at number (e ∷ es) ≡ keys_at number es =
      dropped_front (λ (x : Entry). x.1 == number) (λ (x : Entry). x.0) e es (ne_eqb e.1 number other) in
      subst (IsFirst number (e ∷ es)) (sym at)
      (record { within = omega (arith, rest.within); own = λ l. rest.own (omega arith); skips = rest.skips ∙ sym none })
]

-- from a place on
pub record IsFirstFrom (number from : ℕ) (es : List Entry) (place : ℕ) : Type 0 where
  pub within : place ≤ length es
  pub own : place < length es → (slice_entry es place).1 ≡ number
  pub skips : keys_at number (drop place es) ≡ keys_at number (drop from es)

pub first_from : (number from : ℕ) (es : List Entry) → from ≤ length es → IsFirstFrom number from es (place_from number from es)
first_from number from es le =
    let k = first_place number (drop from es) in
    let h = first_is number (drop from es) in
    let long = length-drop from es in
    record {
      within = omega (arith, h.within, long);
      own = λ l. ap (λ (e : Entry). e.1) (sym (get_or-drop from es k (0, 0))) ∙ h.own (omega (arith, long));
      skips = ap (keys_at number) (sym (drop-drop k from es)) ∙ h.skips;
    }

from_here : (number at : ℕ) (es : List Entry) → at < length es → (slice_entry es at).1 ≡ number → place_from number at es ≡ at
from_here number at es l is =
    let front : drop at es ≡ slice_entry es at ∷ drop (at + 1) es = drop_more es at (0, 0) l in
    let e : first_place number (drop at es) ≡ 0 = ap (first_place number) front ∙ first_here number (slice_entry es at) (drop (at + 1) es) is in
    omega (arith, e)

from_later : (number at : ℕ) (es : List Entry) → at < length es → (slice_entry es at).1 ≢ number
    → place_from number at es ≡ place_from number (at + 1) es
from_later number at es l other =
    let front : drop at es ≡ slice_entry es at ∷ drop (at + 1) es = drop_more es at (0, 0) l in
    let e : first_place number (drop at es) ≡ first_place number (drop (at + 1) es) + 1 =
    ap (first_place number) front ∙ first_later number (slice_entry es at) (drop (at + 1) es) other in
    omega (arith, e)

-- the keys from an entry of the number on
pub keys_from : (number at : ℕ) (es : List Entry) → at < length es → (slice_entry es at).1 ≡ number
    → keys_at number (drop at es) ≡ (slice_entry es at).0 ∷ keys_at number (drop (at + 1) es)
keys_from number at es l is =
    ap (keys_at number) (drop_more es at (0, 0) l)
    ∙ kept_front (λ (x : Entry). x.1 == number) (λ (x : Entry). x.0) (slice_entry es at) (drop (at + 1) es) (eq-eqb (slice_entry es at).1 number is)

-- NUMBERS THAT RISE
rising_each : (xs : List ℕ) → IsStrictlyIncreasing xs → (i j : ℕ) → i ≤ j → j < length xs → get_or xs i 0 ≤ get_or xs j 0
rising_each xs up i j le l = elim (cases_eq i j) [
  | inl same ↦ let e = ap (λ (k : ℕ). get_or xs k 0) same in omega (arith, e)
  | inr other ↦ let p = AllPairs-from_increasing xs up i j 0 (omega arith) l in omega (arith, p)
]

pub rising_once : (xs : List ℕ) (i j : ℕ) → IsStrictlyIncreasing xs → i < length xs → j < length xs → i ≢ j → get_or xs i 0 ≢ get_or xs j 0
rising_once xs i j up l m other same = elim (cases_lt i j) [
  | inl less ↦ let p = AllPairs-from_increasing xs up i j 0 less m in omega (arith, p, same)
  | inr more ↦ let p = AllPairs-from_increasing xs up j i 0 (omega arith) l in omega (arith, p, same)
]

-- what a search for one of them says
pub found_in : (xs : List ℕ) (x place : ℕ) → IsStrictlyIncreasing xs → IsBinarySearchResult (λ y. nat_cmp y x) xs (Ok place)
    → (place < length xs) × (get_or xs place 0 ≡ x)
found_in xs x place up result = searched xs x (Ok place) result (rising_each xs up)

pub missing_in : (xs : List ℕ) (x place : ℕ) → IsStrictlyIncreasing xs → IsBinarySearchResult (λ y. nat_cmp y x) xs (Err place) → Contains xs x → ⊥
missing_in xs x place up result (k, l, e) =
    let parted = searched xs x (Err place) result (rising_each xs up) in
    let same : get_or xs k 0 ≡ x = get_or_default xs k 0 x l ∙ e in
    elim (cases_lt k place) [
      | inl before ↦ let p = parted.1 k before in omega (arith, p, same)
      | inr behind ↦ let p = parted.2 k behind l in omega (arith, p, same)
    ]

-- the number of each entry is known where that of all is
pub known_at : (numbers : List ℕ) (es : List Entry) (at : ℕ) → AreKnown numbers es → at < length es → Contains numbers (slice_entry es at).1
known_at numbers es at known l = All-from_recursion (λ (e : Entry). Contains numbers e.1) es known at (0, 0) l

-- LINKED FROM A PLACE ON
pub record LinkedFrom (numbers : List ℕ) (es : List Entry) (firsts nexts : List ℕ) (at : ℕ) : Type 0 where
  pub within : at ≤ length es
  pub long : length firsts ≡ length numbers
  pub one_each : length nexts ≡ length es
  pub first_of : (k : ℕ) → k < length numbers → get_or firsts k 0 ≡ place_from (get_or numbers k 0) at es
  pub next_of : (k : ℕ) → at ≤ k → k < length es → get_or nexts k 0 ≡ place_from (slice_entry es k).1 (k + 1) es
  pub known : AreKnown numbers (drop at es)

pub linked_more : (numbers : List ℕ) (es : List Entry) (firsts nexts : List ℕ) (at was place number : ℕ) → IsStrictlyIncreasing numbers
    → LinkedFrom numbers es firsts nexts was → was ≡ at + 1 → (slice_entry es at).1 ≡ number → place < length numbers → get_or numbers place 0 ≡ number
    → LinkedFrom numbers es (set firsts place at) (set nexts at (get_or firsts place 0)) at
linked_more numbers es firsts nexts at was place number up linked step is l there =
    let in_entries : at < length es = omega (arith, linked.within) in
    let in_firsts : place < length firsts = omega (arith, linked.long) in
    let in_nexts : at < length nexts = omega (arith, linked.one_each) in
    let own : (slice_entry es at).1 ≡ get_or numbers place 0 = is ∙ sym there in
    record {
      within = omega arith;
      long = length-set firsts place at ∙ linked.long;
      one_each = length-set nexts at (get_or firsts place 0) ∙ linked.one_each;
      first_of = λ k m. elim (cases_eq k place) [
        | inl same ↦
            subst (λ (j : ℕ). get_or (set firsts place at) j 0 ≡ place_from (get_or numbers j 0) at es) (sym same)
            (get_or-set_same firsts place at 0 in_firsts ∙ sym (from_here (get_or numbers place 0) at es in_entries own))
        | inr other ↦
            let apart : (slice_entry es at).1 ≢ get_or numbers k 0 = λ e. rising_once numbers k place up m l other (sym e ∙ own) in
            get_or-set_other firsts place k at 0 other ∙ linked.first_of k m ∙ ap (λ (j : ℕ). place_from (get_or numbers k 0) j es) step
            ∙ sym (from_later (get_or numbers k 0) at es in_entries apart)
      ];
      next_of = λ k le m. elim (cases_eq k at) [
        | inl same ↦
            subst (λ (j : ℕ). get_or (set nexts at (get_or firsts place 0)) j 0 ≡ place_from (slice_entry es j).1 (j + 1) es) (sym same)
            (get_or-set_same nexts at (get_or firsts place 0) 0 in_nexts ∙ linked.first_of place l
            ∙ ap (λ (j : ℕ). place_from (get_or numbers place 0) j es) step
            ∙ ap (λ (n : ℕ). place_from n (at + 1) es) (sym own))
        | inr other ↦ get_or-set_other nexts at k (get_or firsts place 0) 0 other ∙ linked.next_of k (omega arith) m
      ];
      known = subst (AreKnown numbers) (sym (drop_more es at (0, 0) in_entries))
          ((place, l, get_or_default numbers place (slice_entry es at).1 0 l ∙ sym own), subst (λ (j : ℕ). AreKnown numbers (drop j es)) step linked.known);
    }
