-- What the first of the places of a byte says, where a search gives them one after another.
use Rattle.std.proofs.Common.{◌≡◌, ℕ, zero, suc, ◌+◌, ◌-◌, Bool, true, false, List, [], ◌∷◌, length, get_or, sym, ◌∙◌, arith, inl, inr, subst}
use Rattle.std.proofs.Common.{Option, Some, None}
use Rattle.std.proofs.lemmas.Bool.{cases_Bool, cases_eq, cond-true, cond-false, both_ways}
use Rattle.memchr.specs.Find.{IsFirstByte, NoneBefore, Nowhere, Passes, TakesFirst, places, places_from}

places_here : (test : ℕ → Bool) (hay : List ℕ) (i n : ℕ) → test (get_or hay i 0) ≡ true
    → places_from test hay i (suc n) ≡ i ∷ places_from test hay (i + 1) n
unfolding places_from
places_here test hay i n is = cond-true (test (get_or hay i 0)) (i ∷ places_from test hay (i + 1) n) (places_from test hay (i + 1) n) is

places_later : (test : ℕ → Bool) (hay : List ℕ) (i n : ℕ) → test (get_or hay i 0) ≡ false
    → places_from test hay i (suc n) ≡ places_from test hay (i + 1) n
unfolding places_from
places_later test hay i n other = cond-false (test (get_or hay i 0)) (i ∷ places_from test hay (i + 1) n) (places_from test hay (i + 1) n) other

-- no place from the next one on, and none here
none_more : (test : ℕ → Bool) (hay : List ℕ) (i k : ℕ) → test (get_or hay i 0) ≡ false → Nowhere (Passes test hay) (i + 1) k
    → Nowhere (Passes test hay) i k
none_more test hay i k other later j low high passes = elim (cases_eq i j) [
  | inl same ↦ both_ways (test (get_or hay j 0)) (subst (λ (m : ℕ). test (get_or hay m 0) ≡ false) same other) passes
  | inr apart ↦ later j (omega arith) high passes
]

-- where there are no places
no_place : (test : ℕ → Bool) (hay : List ℕ) (i n : ℕ) → places_from test hay i n ≡ [] → Nowhere (Passes test hay) i (i + n)
no_place test hay i zero none = λ j low high passes. omega arith
no_place test hay i (suc n) none = elim (cases_Bool (test (get_or hay i 0))) [
  | inl is ↦ absurd (let here = sym (places_here test hay i n is) ∙ none in cc)
  | inr other ↦
      let later = no_place test hay (i + 1) n (sym (places_later test hay i n other) ∙ none) in
      let k : i + 1 + n ≡ i + suc n = omega arith in
      none_more test hay i (i + suc n) other (subst (λ (m : ℕ). Nowhere (Passes test hay) (i + 1) m) k later)
]

-- the first of them
first_place : (test : ℕ → Bool) (hay : List ℕ) (i n at : ℕ) (later : List ℕ) → places_from test hay i n ≡ at ∷ later
    → NoneBefore (Passes test hay) i (i + n) at × Passes test hay at
unfolding places_from
first_place test hay i zero at later first = absurd (cc)
first_place test hay i (suc n) at later first = elim (cases_Bool (test (get_or hay i 0))) [
  | inl is ↦
      let here : i ∷ places_from test hay (i + 1) n ≡ at ∷ later = sym (places_here test hay i n is) ∙ first in
      let same : i ≡ at = cc in (
        record { low = omega (arith, same); high = omega (arith, same); before = λ j low high passes. omega (arith, same) },
        subst (λ (m : ℕ). test (get_or hay m 0) ≡ true) same is,
      )
  | inr other ↦
      let rest = first_place test hay (i + 1) n at later (sym (places_later test hay i n other) ∙ first) in
      let low = rest.0.low in
      let high = rest.0.high in (
        record { low = omega arith; high = omega arith; before = none_more test hay i at other rest.0.before },
        rest.1,
      )
]

-- the first item that is yielded of all places
pub first_yielded : (test : ℕ → Bool) (hay all later : List ℕ) (found : Option ℕ) → all ≡ places test hay → TakesFirst all found later
    → IsFirstByte test hay found
first_yielded test hay all later None is step =
    let whole : 0 + (length hay - 0) ≡ length hay = omega arith in
    subst (λ (m : ℕ). Nowhere (Passes test hay) 0 m) whole (no_place test hay 0 (length hay - 0) (sym is ∙ step.0))
first_yielded test hay all later (Some at) is step =
    let whole : 0 + (length hay - 0) ≡ length hay = omega arith in
    subst (λ (m : ℕ). NoneBefore (Passes test hay) 0 m at × Passes test hay at) whole (first_place test hay 0 (length hay - 0) at later (sym is ∙ step))
