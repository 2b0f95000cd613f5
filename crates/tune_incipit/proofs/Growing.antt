-- The steps so far, and the notes that are left, are together the incipit.
use Rattle.std.proofs.Common.{◌≡◌, ℕ, zero, suc, ◌+◌, ◌-◌, ◌<◌, ◌≤◌, List, [], ◌∷◌, ◌++◌, length, take, refl, ap, sym, ◌∙◌, arith, true, Option, Some, inl, inr}
use Rattle.std.proofs.Common.{None, ℤ, pos, ◌-ℤ◌, append_assoc, length-append, map, filter, get_or}
use Rattle.std.specs.Prelude.{cond, Bool, false}
use Rattle.std.proofs.Math.Seq.{take-append-add}
use Rattle.std.proofs.lemmas.List.{append-nil, take_more, length-take-le}
use Rattle.std.proofs.lemmas.Bool.{cases_Bool}
use Rattle.abc_notes.specs.Pitches.{SoundedNote, counting}
use Rattle.tune_incipit.specs.Incipits.{counting_pitches, differences, incipit_of}
use Rattle.tune_incipit.proofs.IncipitLaws.{length-differences}
use Rattle.tune_incipit.specs.Inside.NextSteps.{steps_and, steps_on, notes_so_far, all_steps}

counting_no : (n : SoundedNote) (rest : List SoundedNote) → n.counts ≡ false → counting_pitches (n ∷ rest) ≡ counting_pitches rest
counting_no n rest e = (λ i. map (λ (x : SoundedNote). x.pitch) (cond (e i) (n ∷ filter (λ x. x.counts) rest) (filter (λ x. x.counts) rest)))

counting_yes : (n : SoundedNote) (rest : List SoundedNote) → n.counts ≡ true → counting_pitches (n ∷ rest) ≡ n.pitch ∷ counting_pitches rest
counting_yes n rest e = (λ i. map (λ (x : SoundedNote). x.pitch) (cond (e i) (n ∷ filter (λ x. x.counts) rest) (filter (λ x. x.counts) rest)))

pub notes_so_far-le : (last : Option ℤ) (steps : List ℤ) → notes_so_far last steps ≤ length steps + 1
notes_so_far-le None steps = omega arith
notes_so_far-le (Some last) steps = omega arith

pub length-steps_and : (last : Option ℤ) (steps : List ℤ) (pitch : ℤ) → length (steps_and steps last pitch) ≡ notes_so_far last steps
length-steps_and None steps pitch = refl
length-steps_and (Some last) steps pitch = length-append steps ((pitch -ℤ last) ∷ [])

-- NOTES THAT COUNT
-- each of these notes counts
abbrev pub AllCount : List SoundedNote → Type 0
AllCount [] = Unit {0}
AllCount (n ∷ notes) = (n.counts ≡ true) × AllCount notes

pub counting_count : (notes : List SoundedNote) → AllCount (counting notes)
counting_count [] = tt
counting_count (n ∷ notes) = elim (cases_Bool n.counts) [
  | inl counts ↦ rw counts (refl, counting_count notes)
  | inr silent ↦ rw silent (counting_count notes)
]

-- those that count alone have the same pitches
again_by : (n : SoundedNote) (notes : List SoundedNote) (counts : Bool) → n.counts ≡ counts
    → counting_pitches (counting notes) ≡ counting_pitches notes → counting_pitches (counting (n ∷ notes)) ≡ counting_pitches (n ∷ notes)
again_by n notes true is e =
    ap counting_pitches (λ i. cond (is i) (n ∷ counting notes) (counting notes))
    ∙ counting_yes n (counting notes) is ∙ ap (λ pitches. n.pitch ∷ pitches) e ∙ sym (counting_yes n notes is)
again_by n notes false is e = ap counting_pitches (λ i. cond (is i) (n ∷ counting notes) (counting notes)) ∙ e ∙ sym (counting_no n notes is)

pub counting_again : (notes : List SoundedNote) → counting_pitches (counting notes) ≡ counting_pitches notes
counting_again [] = refl
counting_again (n ∷ notes) = again_by n notes n.counts refl (counting_again notes)

-- and the same incipit
pub incipit-counting : (count : ℕ) (notes : List SoundedNote) → incipit_of count (counting notes) ≡ incipit_of count notes
unfolding incipit_of
incipit-counting count notes = ap (λ pitches. differences (take count pitches)) (counting_again notes)

-- at the beginning all is left
pub all_steps-start : (count : ℕ) (steps : List ℤ) (notes : List SoundedNote) → steps ≡ [] → all_steps count None steps notes ≡ incipit_of count notes
unfolding all_steps steps_on incipit_of
all_steps-start count steps notes e =
    let k : count - 0 ≡ count = omega arith in
    (λ i. e i ++ differences (take (count - length (e i)) (counting_pitches notes))) ∙ ap (λ n. differences (take n (counting_pitches notes))) k

-- one that counts adds its step
pub all_steps-more : (count : ℕ) (last : Option ℤ) (steps : List ℤ) (n : SoundedNote) (rest : List SoundedNote) → n.counts ≡ true
    → notes_so_far last steps < count
    → all_steps count last steps (n ∷ rest) ≡ all_steps count (Some n.pitch) (steps_and steps last n.pitch) rest
unfolding all_steps steps_on differences
all_steps-more count None steps n rest e room =
    let k : count - length steps ≡ suc (count - (length steps + 1)) = omega arith in
    (λ i. steps ++ differences (take (k i) (counting_yes n rest e i)))
all_steps-more count (Some last) steps n rest e room =
    let longer : List ℤ = steps ++ (n.pitch -ℤ last) ∷ [] in
    let k : count - (length steps + 1) ≡ suc (count - (length longer + 1)) = omega (arith, length-append steps ((n.pitch -ℤ last) ∷ [])) in
    (λ i. steps ++ differences (last ∷ take (k i) (counting_yes n rest e i)))
    ∙ sym (append_assoc steps ((n.pitch -ℤ last) ∷ []) (differences (n.pitch ∷ take (count - (length longer + 1)) (counting_pitches rest))))

-- enough notes have come
pub all_steps-full : (count : ℕ) (last : ℤ) (steps : List ℤ) (rest : List SoundedNote) → length steps + 1 ≡ count
    → all_steps count (Some last) steps rest ≡ steps
unfolding all_steps steps_on differences
all_steps-full count last steps rest e =
    let k : count - (length steps + 1) ≡ 0 = omega arith in
    (λ i. steps ++ differences (last ∷ take (k i) (counting_pitches rest))) ∙ append-nil steps

take-none : (k : ℕ) (xs : List ℤ) → xs ≡ [] → take k xs ≡ []
take-none zero xs e = refl
take-none (suc k) [] e = refl
take-none (suc k) (x ∷ xs) e = absurd (cc)

-- no note is left
pub all_steps-none : (count : ℕ) (last : Option ℤ) (steps : List ℤ) (notes : List SoundedNote) → notes ≡ [] → all_steps count last steps notes ≡ steps
unfolding all_steps steps_on differences
all_steps-none count None steps notes e = ap (λ p. steps ++ differences p) (take-none _ (counting_pitches notes) (ap counting_pitches e)) ∙ append-nil steps
all_steps-none count (Some last) steps notes e =
    ap (λ p. steps ++ differences (last ∷ p)) (take-none _ (counting_pitches notes) (ap counting_pitches e)) ∙ append-nil steps

-- the notes that count alone have the same steps
pub all_steps-counting : (count : ℕ) (last : Option ℤ) (steps : List ℤ) (notes : List SoundedNote)
    → all_steps count last steps (counting notes) ≡ all_steps count last steps notes
unfolding all_steps
all_steps-counting count last steps notes =
    ap (λ pitches. steps ++ steps_on last (take (count - notes_so_far last steps) pitches)) (counting_again notes)

-- STEPS BETWEEN THE PITCHES IN A ROW
pub differences_few : (pitches : List ℤ) → length pitches ≤ 1 → differences pitches ≡ []
unfolding differences
differences_few [] few = refl
differences_few (only ∷ []) few = refl
differences_few (first ∷ second ∷ pitches) few = absurd (omega arith)

-- the steps before a pitch, and those from it on
pub differences_from : (front : List ℤ) (pitch : ℤ) (rest : List ℤ)
    → differences (front ++ pitch ∷ rest) ≡ differences (front ++ pitch ∷ []) ++ differences (pitch ∷ rest)
unfolding differences
differences_from [] pitch rest = refl
differences_from (only ∷ []) pitch rest = refl
differences_from (first ∷ second ∷ front) pitch rest = ap (λ steps. (second -ℤ first) ∷ steps) (differences_from (second ∷ front) pitch rest)

-- one more pitch
pub differences_more : (pitches : List ℤ) (place : ℕ) → place + 1 < length pitches
    → differences (take (place + 1 + 1) pitches)
    ≡ differences (take (place + 1) pitches) ++ (get_or pitches (place + 1) (pos 0) -ℤ get_or pitches place (pos 0)) ∷ []
unfolding differences
differences_more pitches place room =
    let front : List ℤ = take place pitches in
    let before : ℤ = get_or pitches place (pos 0) in
    let after : ℤ = get_or pitches (place + 1) (pos 0) in
    let one : take (place + 1) pitches ≡ front ++ before ∷ [] = take_more pitches place (pos 0) (omega arith) in
    ap differences (take_more pitches (place + 1) (pos 0) (omega arith) ∙ ap (λ p. p ++ after ∷ []) one ∙ append_assoc front (before ∷ []) (after ∷ []))
    ∙ differences_from front before (after ∷ [])
    ∙ ap (λ p. differences p ++ (after -ℤ before) ∷ []) (sym one)

take_behind : (n m : ℕ) (xs ys : List ℤ) → length xs ≡ n → n ≤ m → take m (xs ++ ys) ≡ xs ++ take (m - n) ys
take_behind n m xs ys long less =
    let k : m ≡ length xs + (m - n) = omega arith in
    ap (λ j. take j (xs ++ ys)) k ∙ take-append-add xs ys (m - n)

-- the pitches of so many notes, and the notes that are left, have the steps of all
pub steps_of_taken : (count taken : ℕ) (pitches : List ℤ) (rest : List SoundedNote) → 0 < taken → taken < count → taken ≤ length pitches
    → all_steps count (Some (get_or pitches (taken - 1) (pos 0))) (differences (take taken pitches)) rest
    ≡ differences (take count (take taken pitches ++ counting_pitches rest))
unfolding all_steps steps_on
steps_of_taken count taken pitches rest some less within =
    let last : ℤ = get_or pitches (taken - 1) (pos 0) in
    let front : List ℤ = take (taken - 1) pitches in
    let n : taken - 1 + 1 ≡ taken = omega arith in
    let one : take taken pitches ≡ front ++ last ∷ [] = ap (λ k. take k pitches) (sym n) ∙ take_more pitches (taken - 1) (pos 0) (omega arith) in
    let long : length (take taken pitches) ≡ taken = length-take-le taken pitches within in
    let k : count - (length (differences (take taken pitches)) + 1) ≡ count - taken = omega (arith, length-differences (take taken pitches), long) in
    let later : List ℤ = take (count - taken) (counting_pitches rest) in
    ap (λ j. differences (take taken pitches) ++ differences (last ∷ take j (counting_pitches rest))) k
    ∙ ap (λ p. differences p ++ differences (last ∷ later)) one
    ∙ sym (differences_from front last later)
    ∙ ap differences (sym (append_assoc front (last ∷ []) later) ∙ ap (λ p. p ++ later) (sym one))
    ∙ ap differences (sym (take_behind taken count (take taken pitches) (counting_pitches rest) long (omega arith)))

-- where none has come, those that are left have all
pub steps_of_none : (count : ℕ) (steps : List ℤ) (rest : List SoundedNote) → steps ≡ []
    → all_steps count None steps rest ≡ differences (take count (counting_pitches rest))
unfolding incipit_of
steps_of_none count steps rest e = all_steps-start count steps rest e
