-- The words of a key text that set accidentals (ABC 2.1, 3.1.14; own profile for words of more than
-- one pair, and for words after a mode word).
use Rattle.std.specs.Prelude.{◌≡◌, ◌≢◌, ◌⊎◌, ℕ, List, ◌∷◌, ◌++◌, None, unwrap_or}
use Rattle.std.specs.List.{fold, slice_split, AllByRecursion}
use Rattle.abc_fields.specs.Bytes.{is_blank}
use Rattle.abc_keys.specs.declared.letters.Letter.{Letter}
use Rattle.abc_keys.specs.declared.signatures.Signature.{Signature}
use Rattle.abc_keys.specs.Signatures.{accidental_at}
use Rattle.abc_keys.specs.Pairs.{Setting, AreSpelled, IsNoPairs, with_settings}
use Rattle.abc_keys.specs.Inside.PairSteps.{changed_by_pairs}

-- a word of pairs changes the signature, and another word does nothing
abbrev pub with_word : Signature → List ℕ → Signature
with_word s word = unwrap_or (changed_by_pairs s None word) s

-- each word of a text in turn; what stands between two blanks next to each other is an empty word,
-- which does nothing
abbrev pub with_words : Signature → List ℕ → Signature
with_words s text = fold with_word s (slice_split is_blank text)

-- THE SAME IN A READER'S WORDS
-- a word that is pairs, in some way or other, sets each of them; a word that is no pairs changes
-- nothing, and no word is neither
pub record SetsItsPairs (word : List ℕ) : Type 0 where
  pub pairs : (s : Signature) (pairs : List Setting) → AreSpelled pairs word
      → with_word s word ≡ with_settings s pairs
  pub others : (s : Signature) → IsNoPairs word → with_word s word ≡ s
  pub either : IsNoPairs word ⊎ ((pairs : List Setting) × AreSpelled pairs word)

-- none of the pairs sets the letter
abbrev pub SetsNone : Letter → List Setting → Type 0
SetsNone letter pairs = AllByRecursion (λ p. p.letter ≢ letter) pairs

-- of pairs one after another the last one for a letter counts, and the letters of no pair stay as
-- they are
pub record LastCounts (s : Signature) (pairs : List Setting) : Type 0 where
  pub last : (before after : List Setting) (p : Setting)
      → before ++ (p ∷ after) ≡ pairs → SetsNone p.letter after
      → accidental_at (with_settings s pairs) p.letter ≡ p.accidental
  pub others : (letter : Letter) → SetsNone letter pairs
      → accidental_at (with_settings s pairs) letter ≡ accidental_at s letter
