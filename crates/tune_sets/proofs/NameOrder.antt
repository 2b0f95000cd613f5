-- The order of names.
use Rattle.std.proofs.Common.{◌≡◌, ℕ, ◌≤◌, true, false, List, [], ◌∷◌, refl, ap, sym, ◌∙◌, arith}
use Rattle.std.specs.Cmp.Lexicographic.{slice_cmp}
use Rattle.std.specs.Ordering.{nat_cmp, is_lt, is_eq, ordering_index, ordering_reverse}
use Rattle.std.specs.declared.cmp.Ordering.{Ordering}
use Rattle.std.specs.declared.cmp.Ordering.TheVariants.{Less, Equal, Greater}
use Rattle.std.specs.Str.{bytes_eq}
use Rattle.std.proofs.lemmas.Cmp.{nat_list_cmp_total}
use Rattle.std.proofs.lemmas.Map.Text.{is_eq-slice_cmp}
use Rattle.std.proofs.lemmas.Map.Lookups.{exact_bytes}
use Rattle.std.proofs.lemmas.Slice.Eq.{bytes_eq-Decides}
use Rattle.tune_sets.specs.Names.{is_good_name, is_before}

less_of : (o : Ordering) → is_lt o ≡ true → o ≡ Less
less_of Less h = refl
less_of Equal h = cc
less_of Greater h = cc

-- what a name that stands before another says of their comparison
pub before_less : (name other : List ℕ) → is_before name other ≡ true → slice_cmp nat_cmp name other ≡ Less
before_less name other h = less_of (slice_cmp nat_cmp name other) h

pub before_greater : (name other : List ℕ) → is_before name other ≡ true → slice_cmp nat_cmp other name ≡ Greater
before_greater name other h = nat_list_cmp_total.antisymm other name ∙ ap ordering_reverse (before_less name other h)

pub before_trans : (name mid other : List ℕ) → is_before name mid ≡ true → is_before mid other ≡ true → is_before name other ≡ true
before_trans name mid other h k = ap is_lt (nat_list_cmp_total.trans name mid other (before_less name mid h) (before_less mid other k))

-- it is another name
pub before_other : (name other : List ℕ) → is_before name other ≡ true → bytes_eq other name ≡ false
before_other name other h = sym (is_eq-slice_cmp other name) ∙ ap is_eq (before_greater name other h)

pub before_differs : (name other : List ℕ) → is_before name other ≡ true → bytes_eq name other ≡ false
before_differs name other h = sym (is_eq-slice_cmp name other) ∙ ap is_eq (before_less name other h)

-- and does not stand after it
pub before_not_after : (name other : List ℕ) → is_before name other ≡ true → is_before other name ≡ false
before_not_after name other h = ap is_lt (before_greater name other h)

pub same_name : (name other : List ℕ) → name ≡ other → bytes_eq name other ≡ true
same_name name other e = (bytes_eq-Decides name other).1 e

-- the empty name stands before each good one
pub good_after : (name : List ℕ) → is_good_name name ≡ true → is_before [] name ≡ true
good_after [] h = cc
good_after (byte ∷ name) h = refl

-- SEARCHING
at_most_two : (o : Ordering) → ordering_index o ≤ 2
at_most_two Less = omega arith
at_most_two Equal = omega arith
at_most_two Greater = omega arith

-- the comparison with one name rises with the other
rises_by : (low high name : List ℕ) (o : Ordering) → slice_cmp nat_cmp low high ≡ Less → slice_cmp nat_cmp high name ≡ o
    → ordering_index (slice_cmp nat_cmp low name) ≤ ordering_index o
rises_by low high name Less less is = rw (nat_list_cmp_total.trans low high name less is) (omega arith)
rises_by low high name Equal less is =
    let same : slice_cmp nat_cmp low name ≡ Less = ap (slice_cmp nat_cmp low) (sym (exact_bytes high name is)) ∙ less in
    rw same (omega arith)
rises_by low high name Greater less is = at_most_two (slice_cmp nat_cmp low name)

pub cmp_rises : (low high name : List ℕ) → is_before low high ≡ true
    → ordering_index (slice_cmp nat_cmp low name) ≤ ordering_index (slice_cmp nat_cmp high name)
cmp_rises low high name before = rises_by low high name _ (before_less low high before) refl
