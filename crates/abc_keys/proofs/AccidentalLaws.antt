-- Words that set accidentals are pairs of an accidental and a letter, of which the last one for a letter counts.
use Rattle.std.proofs.Common.{◌≡◌, ◌≢◌, List, [], ◌∷◌, ◌++◌, ℕ, None, refl, ◌∙◌, subst}
use Rattle.abc_keys.specs.declared.letters.Letter.{Letter}
use Rattle.abc_keys.specs.declared.letters.Letter.TheVariants.{C, D, E, F, G, A, B}
use Rattle.abc_keys.specs.declared.letters.Accidental.{Accidental}
use Rattle.abc_keys.specs.declared.signatures.Signature.{Signature}
use Rattle.abc_keys.specs.Signatures.{accidental_at, with_accidental, no_accidentals}
use Rattle.abc_keys.specs.Pairs.{Setting, with_settings}
use Rattle.abc_keys.specs.Accidentals.{SetsItsPairs, SetsNone, LastCounts}
use Rattle.abc_keys.specs.Inside.PairSteps.{changed_by_pairs}
use Rattle.abc_keys.proofs.PairLaw.{pairs_set, others_change_nothing, is_pairs_or_none}

-- THE LAST ONE COUNTS
set_same : (s : Signature) (letter : Letter) (accidental : Accidental) → accidental_at (with_accidental s letter accidental) letter ≡ accidental
set_same s C accidental = refl
set_same s D accidental = refl
set_same s E accidental = refl
set_same s F accidental = refl
set_same s G accidental = refl
set_same s A accidental = refl
set_same s B accidental = refl

set_other : (s : Signature) (set letter : Letter) (accidental : Accidental) → set ≢ letter
    → accidental_at (with_accidental s set accidental) letter ≡ accidental_at s letter
set_other s C C accidental differ = absurd (differ refl)
set_other s D D accidental differ = absurd (differ refl)
set_other s E E accidental differ = absurd (differ refl)
set_other s F F accidental differ = absurd (differ refl)
set_other s G G accidental differ = absurd (differ refl)
set_other s A A accidental differ = absurd (differ refl)
set_other s B B accidental differ = absurd (differ refl)
set_other s _ _ accidental differ = refl

others_stay : (s : Signature) (pairs : List Setting) (letter : Letter) → SetsNone letter pairs
    → accidental_at (with_settings s pairs) letter ≡ accidental_at s letter
others_stay s [] letter none = refl
others_stay s (p ∷ pairs) letter none =
    others_stay (with_accidental s p.letter p.accidental) pairs letter none.1 ∙ set_other s p.letter letter p.accidental none.0

last_stays : (s : Signature) (before after : List Setting) (p : Setting) → SetsNone p.letter after
    → accidental_at (with_settings s (before ++ (p ∷ after))) p.letter ≡ p.accidental
last_stays s [] after p none = others_stay (with_accidental s p.letter p.accidental) after p.letter none ∙ set_same s p.letter p.accidental
last_stays s (q ∷ before) after p none = last_stays (with_accidental s q.letter q.accidental) before after p none

pub last_counts : (s : Signature) (pairs : List Setting) → LastCounts s pairs
last_counts s pairs = record {
  last = λ before after p same none.
      subst (λ (all : List Setting). accidental_at (with_settings s all) p.letter ≡ p.accidental) same (last_stays s before after p none);
  others = λ letter none. others_stay s pairs letter none;
}

-- THE LAW
pub sets_its_pairs : (word : List ℕ) → SetsItsPairs word
sets_its_pairs word = record {
  pairs = λ s pairs spelled. pairs_set s pairs word spelled;
  others = λ s none. others_change_nothing s word none;
  either = is_pairs_or_none no_accidentals word (changed_by_pairs no_accidentals None word) refl;
}
