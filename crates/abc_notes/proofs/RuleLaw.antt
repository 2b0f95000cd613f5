-- The accidental of a note is the one that the rule of accidentals names.
use Rattle.std.proofs.Common.{◌≡◌, ℕ, zero, suc, List, [], ◌∷◌, ◌++◌, refl, ap, sym, ◌∙◌, Bool, true, false, ℤ, pos, negsuc, Option, Some, None, cond, inl}
use Rattle.std.proofs.Common.{inr, append-nil, eq-eqb}
use Rattle.std.specs.Prelude.{unwrap_or, is_some, ◌&&◌, ◌==◌}
use Rattle.std.proofs.lemmas.Bool.{eqb-true}
use Rattle.abc_keys.specs.declared.letters.Letter.{Letter}
use Rattle.abc_keys.specs.declared.letters.Letter.TheVariants.{C, D, E, F, G, A, B}
use Rattle.abc_keys.specs.declared.letters.Accidental.{Accidental}
use Rattle.abc_keys.specs.declared.signatures.Signature.{Signature}
use Rattle.abc_keys.specs.Signatures.{accidental_at}
use Rattle.abc_keys.specs.SameScales.{letter_number}
use Rattle.abc_notes.specs.Events.{WrittenNote, Event, note, bar, change}
use Rattle.abc_notes.specs.Pitches.{same_octave, borne, in_force, IsSilentFor, IsUnmarked, FollowsTheRule}
use Rattle.abc_notes.proofs.PastLemmas.{same_octave_is}

letter_numbered : ℕ → Letter
letter_numbered zero = C
letter_numbered (suc zero) = D
letter_numbered (suc (suc zero)) = E
letter_numbered (suc (suc (suc zero))) = F
letter_numbered (suc (suc (suc (suc zero)))) = G
letter_numbered (suc (suc (suc (suc (suc zero))))) = A
letter_numbered (suc (suc (suc (suc (suc (suc n)))))) = B

numbered_letter : (l : Letter) → letter_numbered (letter_number l) ≡ l
unfolding letter_numbered
numbered_letter C = refl
numbered_letter D = refl
numbered_letter E = refl
numbered_letter F = refl
numbered_letter G = refl
numbered_letter A = refl
numbered_letter B = refl

same_letter_is : (a b : Letter) → (letter_number a == letter_number b) ≡ true → a ≡ b
same_letter_is a b e = sym (numbered_letter a) ∙ ap letter_numbered (eqb-true (letter_number a) (letter_number b) e) ∙ numbered_letter b

same_octave-refl : (o : ℤ) → same_octave o o ≡ true
same_octave-refl (pos n) = eq-eqb n n refl
same_octave-refl (negsuc n) = eq-eqb n n refl

-- a note that says nothing of a letter and octave is passed over
passed_over : (m n : WrittenNote) (rest : Option Accidental) (l s : Bool) → (letter_number m.letter == letter_number n.letter) ≡ l
    → same_octave m.octave n.octave ≡ s
    → (m.letter ≡ n.letter → m.octave ≡ n.octave → m.own ≡ None) → cond ((l && s) && is_some m.own) m.own rest ≡ rest
passed_over m n rest true true e f silent =
    let none : m.own ≡ None = silent (same_letter_is m.letter n.letter e) (same_octave_is m.octave n.octave f) in
    ap (λ own. cond (is_some own) own rest) none
passed_over m n rest true false e f silent = refl
passed_over m n rest false s e f silent = refl

-- what comes before silent events stays borne
borne_silent : (n : WrittenNote) (since before : List Event) → IsSilentFor n since → borne (since ++ before) n.letter n.octave ≡ borne before n.letter n.octave
unfolding borne
borne_silent n [] before silent = refl
borne_silent n (note m ∷ since) before silent =
    passed_over m n (borne (since ++ before) n.letter n.octave) (letter_number m.letter == letter_number n.letter) (same_octave m.octave n.octave) refl refl
    silent.0
    ∙ borne_silent n since before silent.1
borne_silent n (bar ∷ since) before silent = absurd silent
borne_silent n (change s ∷ since) before silent = borne_silent n since before silent

-- a note of the same letter and octave is heard
borne_here : (m n : WrittenNote) (before : List Event) (x : Accidental) → m.letter ≡ n.letter → m.octave ≡ n.octave → m.own ≡ Some x
    → borne (note m ∷ before) n.letter n.octave ≡ Some x
unfolding borne
borne_here m n before x letter octave own =
    let same : (letter_number m.letter == letter_number n.letter) ≡ true =
    ap (λ l. letter_number l == letter_number n.letter) letter ∙ eq-eqb (letter_number n.letter) (letter_number n.letter) refl in
    let here : same_octave m.octave n.octave ≡ true = ap (λ o. same_octave o n.octave) octave ∙ same_octave-refl n.octave in
    (λ i. cond ((same i && here i) && is_some (own i)) (own i) (borne before n.letter n.octave))

unmarked : (n : WrittenNote) (past : List Event) → IsUnmarked n past → borne past n.letter n.octave ≡ None
unfolding borne
unmarked n past (inl silent) = ap (λ p. borne p n.letter n.octave) (sym (append-nil past)) ∙ borne_silent n past [] silent
unmarked n past (inr (since, before, whole, silent)) = ap (λ p. borne p n.letter n.octave) (sym whole) ∙ borne_silent n since (bar ∷ before) silent

pub follows_the_rule : (first : Signature) (past : List Event) (n : WrittenNote) → FollowsTheRule first past n
follows_the_rule first past n = record {
  own = λ x own. ap (λ o. unwrap_or o (unwrap_or (borne past n.letter n.octave) (accidental_at (in_force first past) n.letter))) own;
  earlier = λ since before m x whole silent letter octave marks bare.
      (λ i. unwrap_or (bare i) (unwrap_or (borne past n.letter n.octave) (accidental_at (in_force first past) n.letter)))
      ∙ ap (λ b. unwrap_or b (accidental_at (in_force first past) n.letter))
      (ap (λ p. borne p n.letter n.octave) (sym whole) ∙ borne_silent n since (note m ∷ before) silent ∙ borne_here m n before x letter octave marks);
  signature = λ bare open_bar.
      (λ i. unwrap_or (bare i) (unwrap_or (borne past n.letter n.octave) (accidental_at (in_force first past) n.letter)))
      ∙ ap (λ b. unwrap_or b (accidental_at (in_force first past) n.letter)) (unmarked n past open_bar);
}
