-- How many steps an incipit has, that it is the same at each height, that fewer notes give a front of it, and the signature of C.
use Rattle.std.proofs.Common.{◌≡◌, ℕ, ◌-◌, List, [], ◌∷◌, ◌++◌, ◌≤◌, zero, suc, length, take, map, filter, refl, ap, ◌∙◌, arith, true, false, cond, min}
use Rattle.std.proofs.Common.{count_by, ℤ, ◌+ℤ◌, ◌-ℤ◌, codes}
use Rattle.std.proofs.lemmas.List.{length-take, length-map, take-map}
use Rattle.std.proofs.lemmas.List.Sums.{length-filter}
use Rattle.std.proofs.lemmas.Int.{ints}
use Rattle.abc_keys.specs.Keys.{key_of_text, signature_of}
use Rattle.abc_keys.specs.Fifths.{listed_count}
use Rattle.abc_keys.specs.Signatures.{no_accidentals}
use Rattle.abc_notes.specs.Pitches.{SoundedNote}
use Rattle.tune_incipit.specs.Incipits.{counting_pitches, differences, incipit_of, raised, raised_note}

pub length-differences : (pitches : List ℤ) → length (differences pitches) ≡ length pitches - 1
unfolding differences
length-differences [] = refl
length-differences (only ∷ []) = refl
length-differences (first ∷ second ∷ pitches) = omega (arith, length-differences (second ∷ pitches))

-- one step fewer than notes
pub length-incipit_of : (count : ℕ) (notes : List SoundedNote) → length (incipit_of count notes) ≡ min count (count_by (λ note. note.counts) notes) - 1
unfolding incipit_of
length-incipit_of count notes =
    let kept : List SoundedNote = filter (λ note. note.counts) notes in
    length-differences (take count (counting_pitches notes))
    ∙ ap (λ n. n - 1)
    (length-take count (counting_pitches notes) ∙ ap (min count) (length-map kept (λ note. note.pitch) ∙ length-filter (λ note. note.counts) notes))

pub length-steps : (count : ℕ) (notes : List SoundedNote) (steps : List ℤ) → steps ≡ incipit_of count notes
    → length steps ≡ min count (count_by (λ note. note.counts) notes) - 1
length-steps count notes steps are = ap length are ∙ length-incipit_of count notes

raised_step : (by a b : ℤ) → (b +ℤ by) -ℤ (a +ℤ by) ≡ b -ℤ a
raised_step by a b = omega (arith, ints)

differences-raised : (by : ℤ) (pitches : List ℤ) → differences (map (λ p. p +ℤ by) pitches) ≡ differences pitches
unfolding differences
differences-raised by [] = refl
differences-raised by (only ∷ []) = refl
differences-raised by (first ∷ second ∷ pitches) = (λ i. raised_step by first second i ∷ differences-raised by (second ∷ pitches) i)

counting_pitches-raised : (by : ℤ) (notes : List SoundedNote) → counting_pitches (raised by notes) ≡ map (λ p. p +ℤ by) (counting_pitches notes)
counting_pitches-raised by [] = refl
counting_pitches-raised by (n ∷ notes) =
    elim n.counts as
    (λ counts. map (λ (x : SoundedNote). x.pitch)
    (cond counts (raised_note by n ∷ filter (λ x. x.counts) (raised by notes)) (filter (λ x. x.counts) (raised by notes)))
    ≡ map (λ p. p +ℤ by) (map (λ (x : SoundedNote). x.pitch) (cond counts (n ∷ filter (λ x. x.counts) notes) (filter (λ x. x.counts) notes)))) [
      | true ↦ ap (λ rest. (n.pitch +ℤ by) ∷ rest) (counting_pitches-raised by notes)
      | false ↦ counting_pitches-raised by notes
    ]

-- the same incipit at each height
pub incipit_of-raised : (count : ℕ) (by : ℤ) (notes : List SoundedNote) → incipit_of count (raised by notes) ≡ incipit_of count notes
unfolding incipit_of
incipit_of-raised count by notes =
    ap (λ p. differences (take count p)) (counting_pitches-raised by notes)
    ∙ ap differences (take-map (λ p. p +ℤ by) count (counting_pitches notes))
    ∙ differences-raised by (take count (counting_pitches notes))

differences-take_fewer : (fewer count : ℕ) (pitches : List ℤ) → fewer ≤ count
    → (rest : List ℤ) × (differences (take fewer pitches) ++ rest ≡ differences (take count pitches))
unfolding differences
differences-take_fewer zero count pitches less = (differences (take count pitches), refl)
differences-take_fewer (suc fewer) zero pitches less = absurd (omega arith)
differences-take_fewer (suc fewer) (suc count) [] less = ([], refl)
differences-take_fewer (suc zero) (suc count) (first ∷ pitches) less = (differences (first ∷ take count pitches), refl)
differences-take_fewer (suc (suc fewer)) (suc zero) (first ∷ pitches) less = absurd (omega arith)
differences-take_fewer (suc (suc fewer)) (suc (suc count)) (first ∷ []) less = ([], refl)
differences-take_fewer (suc (suc fewer)) (suc (suc count)) (first ∷ second ∷ pitches) less =
    let later = differences-take_fewer (suc fewer) (suc count) (second ∷ pitches) (omega arith) in
    (later.0, ap (λ steps. (second -ℤ first) ∷ steps) later.1)

-- the incipit by fewer notes is a front
pub incipit_of-fewer : (count fewer : ℕ) (notes : List SoundedNote) → fewer ≤ count
    → (rest : List ℤ) × (incipit_of fewer notes ++ rest ≡ incipit_of count notes)
unfolding incipit_of
incipit_of-fewer count fewer notes less = differences-take_fewer fewer count (counting_pitches notes) less

-- C has no sharps and no flats
pub signature_of-c : signature_of (key_of_text (codes "C")) ≡ no_accidentals
unfolding key_of_text listed_count
signature_of-c = refl
