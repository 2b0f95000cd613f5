-- Kinds of lines, and what each does to the place and the fate of a line.
use Rattle.std.proofs.Common.{◌≡◌, ℕ, ◌+◌, Bool, true, false, eqb, List, [], ◌∷◌, refl, sym, subst}
use Rattle.std.proofs.Common.{inl, inr}
use Rattle.std.proofs.lemmas.Bool.{cases_Bool, and_parts, eqb-true, true≢false}
use Rattle.abc_fields.specs.Tunes.{is_empty_line, is_tune_start}
use Rattle.abc_fields.specs.declared.carry_rules.CarryRule.{CarryRule}
use Rattle.told_books.specs.Fates.{is_version, engraves, fate_at, stand_after, tunes_begun, after_empty, after_other, other_fate}
use Rattle.told_books.specs.Fates.{some_carries}
use Rattle.told_books.specs.declared.fates.Fate.TheVariants.{Kept, Blank, Dropped}
use Rattle.told_books.specs.declared.fates.Stand.{Stand}
use Rattle.told_books.specs.declared.fates.Stand.TheVariants.{Front, Tune, Outside}
use Rattle.told_books.proofs.FateLemmas.{never_carried}

-- a line is empty, starts a tune, or is another
pub data Kind (line : List ℕ) : Type 0 where
  empty : is_empty_line line ≡ true → is_tune_start line ≡ false → Kind line
  starts : is_empty_line line ≡ false → is_tune_start line ≡ true → Kind line
  other : is_empty_line line ≡ false → is_tune_start line ≡ false → Kind line

-- no line that starts a tune is empty
start_at : (byte : ℕ) (rest : List ℕ) → 88 ≡ byte → is_empty_line (byte ∷ rest) ≡ false
start_at byte rest e = let P : ℕ → Type 0 = λ b. is_empty_line (b ∷ rest) ≡ false in subst P e refl

start_some : (line : List ℕ) → is_tune_start line ≡ true → is_empty_line line ≡ false
start_some [] h = absurd (true≢false (sym h))
start_some (byte ∷ rest) h = start_at byte rest (eqb-true 88 byte (and_parts (eqb 88 byte) _ h).0)

pub kind_of : (line : List ℕ) → Kind line
kind_of line = elim (cases_Bool (is_tune_start line)) [
  | inl is ↦ starts (start_some line is) is
  | inr isnt ↦ elim (cases_Bool (is_empty_line line)) [ inl is ↦ empty is isnt | inr some ↦ other some isnt ]
]

-- FATES
pub fate_empty : (carry : CarryRule → Bool) (stand : Stand) (line : List ℕ) → is_empty_line line ≡ true → fate_at carry stand line ≡ Blank
fate_empty carry stand line is = rw is refl

pub fate_start : (carry : CarryRule → Bool) (stand : Stand) (line : List ℕ) → is_empty_line line ≡ false → is_tune_start line ≡ true
    → fate_at carry stand line ≡ Kept (tunes_begun stand + 1)
fate_start carry stand line some is = rw (some, is) refl

pub fate_other : (carry : CarryRule → Bool) (stand : Stand) (line : List ℕ) → is_empty_line line ≡ false → is_tune_start line ≡ false
    → fate_at carry stand line ≡ other_fate carry stand line
fate_other carry stand line some isnt = rw (some, isnt) refl

-- PLACES
pub stand_empty : (stand : Stand) (line : List ℕ) → is_empty_line line ≡ true → stand_after stand line ≡ after_empty stand
stand_empty stand line is = rw is refl

pub stand_start : (stand : Stand) (line : List ℕ) → is_empty_line line ≡ false → is_tune_start line ≡ true → stand_after stand line
    ≡ Tune (tunes_begun stand + 1)
stand_start stand line some is = rw (some, is) refl

pub stand_other : (stand : Stand) (line : List ℕ) → is_empty_line line ≡ false → is_tune_start line ≡ false → stand_after stand line ≡ after_other stand line
stand_other stand line some isnt = rw (some, isnt) refl

-- THE VERSION
-- a first line of the version is dropped, where nothing else is said of it
version_in : (runs : List (List (List ℕ))) (a b : ℕ) (rest : List ℕ) → 37 ≡ a → 97 ≡ b
    → (fate_at (some_carries runs) Front (a ∷ b ∷ rest) ≡ Dropped (engraves (a ∷ b ∷ rest)))
    × (fate_at (some_carries runs) (Outside 0) (a ∷ b ∷ rest) ≡ Dropped (engraves (a ∷ b ∷ rest)))
version_in runs a b rest e f =
    let P : ℕ → Type 0 = λ x. (fate_at (some_carries runs) Front (x ∷ b ∷ rest) ≡ Dropped (engraves (x ∷ b ∷ rest)))
    × (fate_at (some_carries runs) (Outside 0) (x ∷ b ∷ rest) ≡ Dropped (engraves (x ∷ b ∷ rest))) in
    let Q : ℕ → Type 0 = λ y. (fate_at (some_carries runs) Front (37 ∷ y ∷ rest) ≡ Dropped (engraves (37 ∷ y ∷ rest)))
    × (fate_at (some_carries runs) (Outside 0) (37 ∷ y ∷ rest) ≡ Dropped (engraves (37 ∷ y ∷ rest))) in
    subst P e (subst Q f (rw (never_carried runs) refl, refl))

pub version_fate : (runs : List (List (List ℕ))) (line : List ℕ) → is_version line ≡ true
    → (fate_at (some_carries runs) Front line ≡ Dropped (engraves line)) × (fate_at (some_carries runs) (Outside 0) line ≡ Dropped (engraves line))
version_fate runs [] is = absurd (true≢false (sym is))
version_fate runs (a ∷ []) is = absurd (true≢false (sym (and_parts (eqb 37 a) false is).1))
version_fate runs (a ∷ b ∷ rest) is =
    let first = and_parts (eqb 37 a) _ is in
    let second = and_parts (eqb 97 b) _ first.1 in
    version_in runs a b rest (eqb-true 37 a first.0) (eqb-true 97 b second.0)
