use Rattle.std.proofs.Common.{arith}
use Rattle.std.proofs.lemmas.Bool.Decides.{nat_tests}
use Rattle.std.proofs.lemmas.Cmp.{nat_cmp_total}
use Rattle.std.proofs.lemmas.List.Filters.{dedup_is}
use Rattle.std.proofs.lemmas.List.Kept.{Contains-dedup_nat, Contains-from_dedup, IsStrictlySortedBy-dedup}
use Rattle.std.proofs.lemmas.List.Sorted.{Contains-permutation, IsPermutation-sym}
use Rattle.tune_store.proofs.NumberLemmas.{places_by}
use Rattle.tune_archive.proofs.places.places_of_numbers.Goals as goal

pub places_of_rising-requires-clause-numbers : goal.places_of_rising-requires-clause-numbers
places_of_rising-requires-clause-numbers c =
    rw (c.deref.ensures.value, dedup_is _ _ _ c.dedup.ensures.filtered)
    (IsStrictlySortedBy-dedup nat_cmp_total (λ x y. grind (arith, nat_tests)) _ c.sort_unstable.ensures.sorted)

pub returns-clause-places : goal.returns-clause-places
returns-clause-places c =
    let is = dedup_is _ _ _ c.dedup.ensures.filtered in
    let moved = c.sort_unstable.ensures.permutation in
    places_by c.places_of_rising.result _ _ _
    (λ x has. Contains-permutation _ _ x (IsPermutation-sym _ _ moved) (Contains-from_dedup _ _ x (rw (c.deref.ensures.value, is) at has)))
    (λ x has. rw (c.deref.ensures.value, is) (Contains-dedup_nat _ x (Contains-permutation _ _ x moved has)))
    c.places_of_rising.ensures.places
