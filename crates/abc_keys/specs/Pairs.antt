-- Words of pairs of an accidental and a letter, which set accidentals (ABC 2.1, 3.1.14; own profile
-- for words of more than one pair).
use Rattle.std.specs.Prelude.{◌≡◌, ℕ, List, [], ◌∷◌, ◌++◌, Some}
use Rattle.std.specs.List.{slice_split}
use Rattle.abc_fields.specs.Bytes.{is_blank}
use Rattle.abc_keys.specs.declared.letters.Letter.{Letter}
use Rattle.abc_keys.specs.declared.letters.Accidental.{Accidental}
use Rattle.abc_keys.specs.declared.signatures.Signature.{Signature}
use Rattle.abc_keys.specs.Letters.{letter_of, spelling}
use Rattle.abc_keys.specs.Signatures.{with_accidental}

-- a letter, and the accidental that a pair sets it to
pub record Setting : Type 0 where
  pub letter : Letter
  pub accidental : Accidental

-- the word is these pairs, one after another, each an accidental as it is written and a letter,
-- capital or small
abbrev pub AreSpelled : List Setting → List ℕ → Type 0
AreSpelled [] word = word ≡ []
AreSpelled (p ∷ pairs) word =
    (byte : ℕ) × (rest : List ℕ) × (letter_of byte ≡ Some p.letter)
    × (word ≡ spelling p.accidental ++ (byte ∷ rest))
    × AreSpelled pairs rest

-- no pairs are the word
abbrev pub IsNoPairs : List ℕ → Type 0
IsNoPairs word = (pairs : List Setting) → AreSpelled pairs word → ⊥

-- each pair in turn
abbrev pub with_settings : Signature → List Setting → Signature
with_settings s [] = s
with_settings s (p ∷ pairs) = with_settings (with_accidental s p.letter p.accidental) pairs

-- what a word leaves of a signature
pub data WordLeaves (s : Signature) (word : List ℕ) : Signature → Type 0 where
  -- a word of pairs sets each of them, one after another
  by_pairs : (pairs : List Setting) → AreSpelled pairs word
      → WordLeaves s word (with_settings s pairs)
  -- a word that is no pairs changes nothing
  by_others : IsNoPairs word → WordLeaves s word s

-- what words leave, one after another
abbrev pub EachLeaves : Signature → List (List ℕ) → Signature → Type 0
EachLeaves s [] after = after ≡ s
EachLeaves s (word ∷ words) after =
    (next : Signature) × WordLeaves s word next × EachLeaves next words after

-- what the words of a text leave, each in turn; what stands between two blanks next to each other
-- is an empty word, which does nothing
abbrev pub WordsLeave : Signature → List ℕ → Signature → Type 0
WordsLeave s text after = EachLeaves s (slice_split is_blank text) after
