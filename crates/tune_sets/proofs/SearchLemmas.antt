-- Where the set of a name stands among sets by rising name.
use Rattle.std.proofs.Common.{◌≡◌, ℕ, zero, suc, ◌<◌, ◌≤◌, true, false, List, [], ◌∷◌, ◌++◌, length, take, drop, get_or, slice_set, Some, None, Ok, Err}
use Rattle.std.proofs.Common.{Result, IfOk, IfErr, refl, ap, sym, ◌∙◌, arith, inl, inr}
use Rattle.std.specs.List.{AllWithin}
use Rattle.std.specs.List.Sorted.{IsNonDecreasingBy, IsBinarySearchResult, IsSearchInRange}
use Rattle.std.specs.Cmp.Lexicographic.{slice_cmp}
use Rattle.std.specs.Ordering.{nat_cmp, is_lt, ordering_index, ordering_reverse}
use Rattle.std.specs.declared.cmp.Ordering.TheVariants.{Less, Greater}
use Rattle.std.specs.Str.{bytes_eq}
use Rattle.std.proofs.lemmas.Bool.{cases_lt}
use Rattle.std.proofs.lemmas.Cmp.{nat_list_cmp_total}
use Rattle.std.proofs.lemmas.Map.Lookups.{exact_bytes}
use Rattle.tune_sets.specs.Names.{is_before}
use Rattle.tune_sets.specs.Sets.{NamesRiseFrom, set_at, set_inserted, with_numbers, without_set}
use Rattle.tune_sets.specs.Inside.Search.{NameFoundAt, NameMissingAt, last_name}
use Rattle.tune_sets.specs.declared.set_lists.TuneSet.{TuneSet}
use Rattle.tune_sets.proofs.NameOrder.{before_trans, before_other, before_differs, before_not_after, same_name, cmp_rises}

-- RISING NAMES
-- each name is above what the list rises from
pub above : (low : List ℕ) (sets : List TuneSet) (n : ℕ) (d : TuneSet) → NamesRiseFrom low sets → n < length sets → is_before low (get_or sets n d).name ≡ true
above low [] n d rises l = absurd (omega arith)
above low (set ∷ sets) zero d rises l = rises.0
above low (set ∷ sets) (suc n) d rises l = before_trans low set.name _ rises.0 (above set.name sets n d rises.1 (omega arith))

-- names rise with the index
pub ordered : (low : List ℕ) (sets : List TuneSet) (i j : ℕ) (d : TuneSet) → NamesRiseFrom low sets → i < j → j < length sets
    → is_before (get_or sets i d).name (get_or sets j d).name ≡ true
ordered low [] i j d rises lt l = absurd (omega arith)
ordered low (set ∷ sets) i zero d rises lt l = absurd (omega arith)
ordered low (set ∷ sets) zero (suc j) d rises lt l = above set.name sets j d rises.1 (omega arith)
ordered low (set ∷ sets) (suc i) (suc j) d rises lt l = ordered set.name sets i j d rises.1 (omega arith) (omega arith)

-- so do their comparisons with a name
pub comparisons_rise : (name : List ℕ) (sets : List TuneSet) → NamesRiseFrom [] sets
    → IsNonDecreasingBy (λ set. ordering_index (slice_cmp nat_cmp set.name name)) sets
comparisons_rise name sets rises i j d le l = elim (cases_lt i j) [
  | inl lt ↦ cmp_rises (get_or sets i d).name (get_or sets j d).name name (ordered [] sets i j d rises lt l)
  | inr ge ↦ let same : i ≡ j = omega arith in rw same (omega arith)
]

-- THE SET OF A NAME
-- the set at an index is the set of its name
pub set_at-index : (low name : List ℕ) (sets : List TuneSet) (n : ℕ) (d : TuneSet) → NamesRiseFrom low sets → n < length sets → (get_or sets n d).name ≡ name
    → set_at name sets ≡ Some (get_or sets n d)
set_at-index low name [] n d rises l e = absurd (omega arith)
set_at-index low name (set ∷ sets) zero d rises l e = rw (same_name set.name name e) refl
set_at-index low name (set ∷ sets) (suc n) d rises l e =
    let later = above set.name sets n d rises.1 (omega arith) in
    let other : bytes_eq set.name name ≡ false = ap (bytes_eq set.name) (sym e) ∙ before_differs set.name _ later in
    rw other (set_at-index set.name name sets n d rises.1 (omega arith) e)

-- it gets other numbers at its index
pub with_numbers-index : (low name numbers : List ℕ) (sets : List TuneSet) (n : ℕ) (d : TuneSet) → NamesRiseFrom low sets → n < length sets
    → (get_or sets n d).name ≡ name
    → with_numbers name numbers sets ≡ slice_set sets n (record { name = (get_or sets n d).name; numbers = numbers })
with_numbers-index low name numbers [] n d rises l e = absurd (omega arith)
with_numbers-index low name numbers (set ∷ sets) zero d rises l e = rw (same_name set.name name e) refl
with_numbers-index low name numbers (set ∷ sets) (suc n) d rises l e =
    let later = above set.name sets n d rises.1 (omega arith) in
    let other : bytes_eq set.name name ≡ false = ap (bytes_eq set.name) (sym e) ∙ before_differs set.name _ later in
    rw other (ap (λ more. set ∷ more) (with_numbers-index set.name name numbers sets n d rises.1 (omega arith) e))

-- it is taken out at its index
pub without-index : (low name : List ℕ) (sets : List TuneSet) (n : ℕ) (d : TuneSet) → NamesRiseFrom low sets → n < length sets → (get_or sets n d).name ≡ name
    → without_set name sets ≡ take n sets ++ drop (suc n) sets
without-index low name [] n d rises l e = absurd (omega arith)
without-index low name (set ∷ sets) zero d rises l e = rw (same_name set.name name e) refl
without-index low name (set ∷ sets) (suc n) d rises l e =
    let later = above set.name sets n d rises.1 (omega arith) in
    let other : bytes_eq set.name name ≡ false = ap (bytes_eq set.name) (sym e) ∙ before_differs set.name _ later in
    rw other (ap (λ more. set ∷ more) (without-index set.name name sets n d rises.1 (omega arith) e))

-- a name that no set has
pub set_at-none : (name : List ℕ) (sets : List TuneSet) → ((n : ℕ) (d : TuneSet) → n < length sets → bytes_eq (get_or sets n d).name name ≡ false)
    → set_at name sets ≡ None
set_at-none name [] other = refl
set_at-none name (set ∷ sets) other =
    rw (other 0 set (omega arith)) (set_at-none name sets (λ n d l. other (suc n) d (omega arith)))

-- a new set goes to the index that parts the lesser names from the greater ones
pub inserted-index : (new : TuneSet) (sets : List TuneSet) (n : ℕ) → n ≤ length sets
    → AllWithin (λ set. is_before set.name new.name ≡ true) sets 0 n
    → AllWithin (λ set. is_before new.name set.name ≡ true) sets n (length sets)
    → set_inserted new sets ≡ take n sets ++ new ∷ drop n sets
inserted-index new [] zero l lesser greater = refl
inserted-index new [] (suc n) l lesser greater = absurd (omega arith)
inserted-index new (set ∷ sets) zero l lesser greater = rw (greater 0 set (omega arith) (omega arith)) refl
inserted-index new (set ∷ sets) (suc n) l lesser greater =
    rw (before_not_after set.name new.name (lesser 0 set (omega arith) (omega arith)))
    (ap (λ more. set ∷ more) (inserted-index new sets n (omega arith) (λ k d from to. lesser (suc k) d (omega arith) (omega arith))
    (λ k d from to. greater (suc k) d (omega arith) (omega arith))))

-- FOUND OR MISSING
pub found_set : (name : List ℕ) (index : ℕ) (sets : List TuneSet) (set : TuneSet) → NamesRiseFrom [] sets → NameFoundAt name index sets
    → set ≡ get_or sets index set → set_at name sets ≡ Some set
found_set name index sets set rises found is = set_at-index [] name sets index set rises found.within (found.named set) ∙ ap (λ s. Some s) (sym is)

-- the test of names where none is found
other_name : (name : List ℕ) (index : ℕ) (sets : List TuneSet) → NameMissingAt name index sets → (n : ℕ) (d : TuneSet) → n < length sets
    → bytes_eq (get_or sets n d).name name ≡ false
other_name name index sets missing n d l = elim (cases_lt n index) [
  | inl below ↦ before_differs _ name (missing.lesser n d (omega arith) below)
  | inr from ↦ before_other name _ (missing.greater n d from l)
]

pub missing_set : (name : List ℕ) (index : ℕ) (sets : List TuneSet) → NameMissingAt name index sets → set_at name sets ≡ None
missing_set name index sets missing = set_at-none name sets (other_name name index sets missing)

-- what a binary search answers
less_before : (name other : List ℕ) → slice_cmp nat_cmp other name ≡ Less → is_before other name ≡ true
less_before name other is = ap is_lt is

greater_before : (name other : List ℕ) → slice_cmp nat_cmp other name ≡ Greater → is_before name other ≡ true
greater_before name other is = ap is_lt (nat_list_cmp_total.antisymm name other ∙ ap ordering_reverse is)

pub found_from : (name : List ℕ) (sets : List TuneSet) (r : Result ℕ ℕ) → IsSearchInRange r (length sets)
    → IsBinarySearchResult (λ set. slice_cmp nat_cmp set.name name) sets r → IfOk r (λ index. NameFoundAt name index sets)
found_from name sets (Ok index) within equal = record { within = within; named = λ d. exact_bytes (get_or sets index d).name name (equal d) }
found_from name sets (Err index) within parts = tt

pub missing_from : (name : List ℕ) (sets : List TuneSet) (r : Result ℕ ℕ) → NamesRiseFrom [] sets → IsSearchInRange r (length sets)
    → IsBinarySearchResult (λ set. slice_cmp nat_cmp set.name name) sets r → IfErr r (λ index. NameMissingAt name index sets)
missing_from name sets (Ok index) rises within equal = tt
missing_from name sets (Err index) rises within parts =
    let parted = parts (comparisons_rise name sets rises) in
    record {
      within = within;
      lesser = λ k d from to. less_before name (get_or sets k d).name (parted.0 k d from to);
      greater = λ k d from to. greater_before name (get_or sets k d).name (parted.1 k d from to);
    }

-- THE LAST NAME
pub last_is : (low : List ℕ) (sets : List TuneSet) (n : ℕ) (d : TuneSet) → suc n ≡ length sets → last_name low sets ≡ (get_or sets n d).name
last_is low [] n d e = absurd (omega arith)
last_is low (s ∷ []) zero d e = refl
last_is low (s ∷ []) (suc n) d e = absurd (omega arith)
last_is low (s ∷ t ∷ sets) zero d e = absurd (omega arith)
last_is low (s ∷ t ∷ sets) (suc n) d e = last_is s.name (t ∷ sets) n d (omega arith)

-- ONE SET AS IT STANDS
pub set_unchanged : (sets : List TuneSet) (n : ℕ) (set : TuneSet) → n < length sets → set ≡ get_or sets n set → slice_set sets n set ≡ sets
set_unchanged [] n set l is = refl
set_unchanged (first ∷ sets) zero set l is = ap (λ s. s ∷ sets) is
set_unchanged (first ∷ sets) (suc n) set l is = ap (λ more. first ∷ more) (set_unchanged sets n set (omega arith) is)
