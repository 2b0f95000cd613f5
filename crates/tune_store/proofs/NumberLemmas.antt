-- The places of numbers that rise, in labels whose numbers rise.
use Rattle.std.proofs.Common.{◌≡◌, ◌≢◌, ◌⊎◌, inl, inr, ℕ, zero, suc, ◌+◌, ◌<◌, ◌≤◌, ◌++◌, ltb, eqb, List, [], ◌∷◌, length, get_or, take, refl, ap, sym, ◌∙◌}
use Rattle.std.proofs.Common.{arith, Result, Ok, Err, Vec, Global}
use Rattle.std.proofs.lemmas.Bool.{cases_Bool, ltb-true, ltb-false, eqb-true, eqb-false}
use Rattle.std.proofs.lemmas.List.{get_or-take, get_or_default, length-take}
use Rattle.std.proofs.lemmas.Map.Keys.{below_from_sorted}
use Rattle.std.specs.Ordering.{nat_cmp}
use Rattle.std.specs.List.Sorted.{IsStrictlySortedBy}
use Rattle.std.specs.Prelude.{IfOk}
use Rattle.std.proofs.lemmas.List.Elements.{Contains-append_left, Contains-append_right, Contains-append_cases}
use Rattle.std.specs.List.{Contains}
use Rattle.tune_store.specs.Candidates.{ArePlacesOf, PlacesRise}
use Rattle.tune_store.specs.Labels.{LabelsRise}
use Rattle.tune_store.specs.declared.catalog.Label.{Label}
use Rattle.tune_store.proofs.PlanLemmas.{no_label}

-- LABELS
-- each number is above the one that they rise from
label_above : (low : ℕ) (labels : List Label) (i : ℕ) (d : Label) → LabelsRise low labels → i < length labels → low < (get_or labels i d).number
label_above low [] i d rise l = absurd (omega arith)
label_above low (label ∷ labels) zero d rise l = rise.0
label_above low (label ∷ labels) (suc i) d rise l =
    let more = label_above label.number labels i d rise.1 (omega arith) in
    let first = rise.0 in
    omega arith

-- an earlier label has a lower number
label_less : (low : ℕ) (labels : List Label) (i j : ℕ) (d : Label) → LabelsRise low labels → i < j → j < length labels
    → (get_or labels i d).number < (get_or labels j d).number
label_less low [] i j d rise less l = absurd (omega arith)
label_less low (label ∷ labels) i zero d rise less l = absurd (omega arith)
label_less low (label ∷ labels) zero (suc j) d rise less l = label_above label.number labels j d rise.1 (omega arith)
label_less low (label ∷ labels) (suc i) (suc j) d rise less l = label_less label.number labels i j d rise.1 (omega arith) (omega arith)

-- so a label of a lower number is an earlier one
label_before : (labels : List Label) (i j : ℕ) (d : Label) → LabelsRise 0 labels → i < length labels → j < length labels
    → (get_or labels i d).number < (get_or labels j d).number → i < j
label_before labels i j d rise li lj less = elim (cases_Bool (ltb i j)) [
  | inl before ↦ ltb-true i j before
  | inr not_before ↦ let le = ltb-false i j not_before in elim (cases_Bool (eqb i j)) [
    | inl same ↦ let e = ap (λ n. (get_or labels n d).number) (eqb-true i j same) in absurd (omega arith)
    | inr other ↦
        let apart = eqb-false i j other in
        let after = label_less 0 labels j i d rise (omega arith) li in
        absurd (omega arith)
  ]
]

-- and labels of one number are one
label_same : (labels : List Label) (i j : ℕ) (d : Label) → LabelsRise 0 labels → i < length labels → j < length labels
    → (get_or labels i d).number ≡ (get_or labels j d).number → i ≡ j
label_same labels i j d rise li lj same = elim (cases_Bool (ltb i j)) [
  | inl before ↦ let less = label_less 0 labels i j d rise (ltb-true i j before) lj in absurd (omega arith)
  | inr not_before ↦ elim (cases_Bool (ltb j i)) [
    | inl after ↦ let less = label_less 0 labels j i d rise (ltb-true j i after) li in absurd (omega arith)
    | inr not_after ↦ let a = ltb-false i j not_before in let b = ltb-false j i not_after in omega arith
  ]
]

-- PLACES
-- a place more, above all others
places_push : (low count place : ℕ) (places : List ℕ) → PlacesRise low count places → low ≤ place → place < count
    → ((other : ℕ) → Contains places other → other < place) → PlacesRise low count (places ++ place ∷ [])
places_push low count place [] rise l within before = (l, within, tt)
places_push low count place (first ∷ places) rise l within before =
    let less = before first (zero, omega arith, refl) in (
      rise.0,
      rise.1,
      places_push (first + 1) count place places rise.2 (omega arith) within
          (λ other has. before other (Contains-append_right (first ∷ []) places other has)),
    )

-- each is within the count
place_within : (low count : ℕ) (places : List ℕ) (place : ℕ) → PlacesRise low count places → Contains places place → place < count
place_within low count [] place rise (k, l, e) = absurd (omega arith)
place_within low count (first ∷ places) place rise (zero, l, e) = let within = rise.1 in omega (arith, e)
place_within low count (first ∷ places) place rise (suc k, l, e) = place_within (first + 1) count places place rise.2 (k, omega arith, e)

-- THE NEXT NUMBER
-- what is in a list of one is that one
only_one : (n x : ℕ) → Contains (n ∷ []) x → n ≡ x
only_one n x (zero, l, e) = e
only_one n x (suc k, l, e) = absurd (omega arith)

-- one of these numbers, or the next
with_next : (numbers : List ℕ) (number x : ℕ) → Contains (numbers ++ number ∷ []) x → Contains numbers x ⊎ (number ≡ x)
with_next numbers number x has = elim (Contains-append_cases numbers (number ∷ []) x has) [
  | inl before ↦ inl before
  | inr last ↦ inr (only_one number x last)
]

-- and the next is one of them
next_there : (numbers : List ℕ) (number x : ℕ) → number ≡ x → Contains (numbers ++ number ∷ []) x
next_there numbers number x same = Contains-append_right numbers (number ∷ []) x (zero, omega arith, same)

-- a number that no label has
pub places_none : (numbers : List ℕ) (number : ℕ) (labels : List Label) (places : List ℕ)
    → ((place : ℕ) (d : Label) → place < length labels → (get_or labels place d).number ≢ number) → ArePlacesOf numbers labels places
    → ArePlacesOf (numbers ++ number ∷ []) labels places
places_none numbers number labels places none are = λ place d l. (
  (λ has. Contains-append_left numbers (number ∷ []) _ ((are place d l).0 has)),
  (λ has. elim (with_next numbers number _ has) [
    | inl before ↦ (are place d l).1 before
    | inr same ↦ absurd (none place d l (sym same))
  ]),
)

-- a number above all before, of the label at a place
pub record IsNextPlace (numbers : List ℕ) (number : ℕ) (labels : List Label) (place : ℕ) : Type 0 where
  pub rise : LabelsRise 0 labels
  pub above : (other : ℕ) → Contains numbers other → other < number
  pub within : place < length labels
  pub has : (d : Label) → (get_or labels place d).number ≡ number

pub places_more : (numbers : List ℕ) (number : ℕ) (labels : List Label) (place : ℕ) (places : List ℕ) → IsNextPlace numbers number labels place
    → PlacesRise 0 (length labels) places → ArePlacesOf numbers labels places
    → PlacesRise 0 (length labels) (places ++ place ∷ [])
places_more numbers number labels place places is rise are = places_push 0 (length labels) place places rise (omega arith) is.within (λ other has.
    let l = place_within 0 (length labels) places other rise has in
    let less = is.above _ ((are other no_label l).0 has) in
    let named = is.has no_label in
    label_before labels other place no_label is.rise l is.within (omega arith))

pub places_are : (numbers : List ℕ) (number : ℕ) (labels : List Label) (place : ℕ) (places : List ℕ) → IsNextPlace numbers number labels place
    → ArePlacesOf numbers labels places → ArePlacesOf (numbers ++ number ∷ []) labels (places ++ place ∷ [])
places_are numbers number labels place places is are = λ other d l. (
  (λ has. elim (with_next places place other has) [
    | inl before ↦ Contains-append_left numbers (number ∷ []) _ ((are other d l).0 before)
    | inr same ↦ next_there numbers number _ (sym (is.has d) ∙ ap (λ n. (get_or labels n d).number) same)
  ]),
  (λ has. elim (with_next numbers number _ has) [
    | inl before ↦ Contains-append_left places (place ∷ []) other ((are other d l).1 before)
    | inr same ↦ next_there places place other (label_same labels place other d is.rise is.within l (is.has d ∙ same))
  ]),
)

-- NUMBERS
-- each of the first of rising numbers is below the next
pub above_taken : (numbers : List ℕ) (i : ℕ) → IsStrictlySortedBy nat_cmp numbers → i < length numbers → (other : ℕ) → Contains (take i numbers) other
    → other < get_or numbers i 0
above_taken numbers i sorted l other (k, within, e) =
    let few = length-take i numbers in
    let less : k < i = omega (arith, few, within) in
    let at : get_or numbers k other ≡ other = sym (get_or-take i numbers k other less) ∙ e in
    let here : get_or numbers i other ≡ get_or numbers i 0 = get_or_default numbers i other 0 l in
    let rise = below_from_sorted numbers k i other sorted less l in
    omega arith

-- the places of numbers are those of a list that has the same ones
pub places_by : {E : Type 0} (answer : Result (Vec ℕ Global) E) (labels : List Label) (numbers others : List ℕ)
    → ((x : ℕ) → Contains numbers x → Contains others x) → ((x : ℕ) → Contains others x → Contains numbers x)
    → IfOk answer (λ places. ArePlacesOf numbers labels places.items) → IfOk answer (λ places. ArePlacesOf others labels places.items)
places_by (Err refused) labels numbers others there back are = tt
places_by (Ok places) labels numbers others there back are =
    λ place d l. ((λ has. there _ ((are place d l).0 has)), (λ has. (are place d l).1 (back _ has)))
