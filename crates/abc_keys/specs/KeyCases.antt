-- A key text read by cases (ABC 2.1, 3.1.14; own profile where the standard is silent).
use Rattle.std.specs.Prelude.{◌≡◌, ◌⊎◌, ℕ, ◌<◌, ℤ, Bool, true, false, ◌||◌, List, [], ◌∷◌, ◌++◌}
use Rattle.std.specs.Prelude.{codes, map, length, Some}
use Rattle.std.specs.Char.{to_ascii_lowercase, is_ascii_alphabetic}
use Rattle.abc_fields.specs.Bytes.{is_blank, is_all_blank, is_one_of, begins}
use Rattle.abc_fields.specs.Words.{ends_part, trimmed}
use Rattle.abc_keys.specs.declared.letters.Letter.{Letter}
use Rattle.abc_keys.specs.declared.letters.Letter.TheVariants.{C, D, E, F, G, A, B}
use Rattle.abc_keys.specs.declared.letters.Accidental.TheVariants as accidental
use Rattle.abc_keys.specs.declared.scales.Sign.{Sign}
use Rattle.abc_keys.specs.declared.scales.Sign.TheVariants.{Natural, Sharp, Flat}
use Rattle.abc_keys.specs.declared.scales.Scale.{Scale}
use Rattle.abc_keys.specs.declared.scales.Mode.TheVariants.{Major, Lydian, Mixolydian, Dorian}
use Rattle.abc_keys.specs.declared.scales.Mode.TheVariants.{Minor, Phrygian, Locrian}
use Rattle.abc_keys.specs.declared.mode_words.ModeWord.{ModeWord}
use Rattle.abc_keys.specs.declared.mode_words.ModeWord.TheVariants.{Mode as AsMode, Explicit}
use Rattle.abc_keys.specs.declared.keys.Key.{Key}
use Rattle.abc_keys.specs.declared.keys.Key.TheVariants as key
use Rattle.abc_keys.specs.ByteRuns.{IsRun}
use Rattle.abc_keys.specs.Signatures.{no_accidentals, of_count}
use Rattle.abc_keys.specs.Fifths.{listed_count}
use Rattle.abc_keys.specs.declared.signatures.Signature.{Signature}
use Rattle.abc_keys.specs.Pairs.{WordsLeave}

-- MODE WORDS
-- the names of modes and of `exp`: the first three letters of their words
abbrev pub IsName : List ℕ → ModeWord → Type 0
IsName name (AsMode Major) = (name ≡ codes "maj") ⊎ (name ≡ codes "ion")
IsName name (AsMode Minor) = (name ≡ codes "min") ⊎ (name ≡ codes "aeo")
IsName name (AsMode Mixolydian) = name ≡ codes "mix"
IsName name (AsMode Dorian) = name ≡ codes "dor"
IsName name (AsMode Phrygian) = name ≡ codes "phr"
IsName name (AsMode Lydian) = name ≡ codes "lyd"
IsName name (AsMode Locrian) = name ≡ codes "loc"
IsName name Explicit = name ≡ codes "exp"

-- a word that says a mode, in any capitals
pub data IsModeWord : List ℕ → ModeWord → Type 0 where
  -- `m` alone
  m_alone : (word : List ℕ) → map to_ascii_lowercase word ≡ codes "m"
      → IsModeWord word (AsMode Minor)
  -- a name, and any letters after it
  begins_with_name : (word name more : List ℕ) (said : ModeWord)
      → map to_ascii_lowercase word ≡ name ++ more → IsName name said → IsModeWord word said

-- a word that says no mode: it stands directly before `=`, or is no mode word
abbrev pub IsOtherWord : List ℕ → List ℕ → Type 0
IsOtherWord word after =
    (begins (is_one_of (codes "=")) after ≡ true) ⊎ ((said : ModeWord) → IsModeWord word said → ⊥)

-- WHAT FOLLOWS A TONIC
-- spaces and tabs, or none, a word of one letter or more, as long as it goes, and what follows it
pub record HasWord (blanks word after text : List ℕ) : Type 0 where
  pub blank : is_all_blank blanks ≡ true
  pub some : 0 < length word
  pub letters : IsRun is_ascii_alphabetic word after
  pub whole : text ≡ blanks ++ (word ++ after)

-- what follows a tonic and its sign, the mode that it says, and the words that set accidentals
pub data SaysMode : List ℕ → ModeWord → List ℕ → Type 0 where
  -- a mode word, not directly before `=`
  by_word : (text blanks word after : List ℕ) (said : ModeWord) → HasWord blanks word after text
      → begins (is_one_of (codes "=")) after ≡ false → IsModeWord word said
      → SaysMode text said after
  -- no word is major
  without_word : (text blanks after : List ℕ) → IsRun is_blank blanks after
      → begins is_ascii_alphabetic after ≡ false → text ≡ blanks ++ after
      → SaysMode text (AsMode Major) text
  -- another word after a space or a tab is major, and is itself one that may set accidentals
  by_other_word : (text blanks word after : List ℕ) → HasWord blanks word after text
      → 0 < length blanks → IsOtherWord word after → SaysMode text (AsMode Major) text

-- THE TONIC
-- how a tonic is written
abbrev pub tonic_text : Letter → List ℕ
tonic_text C = codes "C"
tonic_text D = codes "D"
tonic_text E = codes "E"
tonic_text F = codes "F"
tonic_text G = codes "G"
tonic_text A = codes "A"
tonic_text B = codes "B"

-- how its sign is written
abbrev pub sign_text : Sign → List ℕ
sign_text Natural = []
sign_text Sharp = codes "#"
sign_text Flat = codes "b"

-- what may follow a tonic and its sign: nothing, a space, a tab, a letter, `^`, `_` or `=`
abbrev pub may_follow_tonic : List ℕ → Bool
may_follow_tonic [] = true
may_follow_tonic (byte ∷ text) =
    is_blank byte || is_ascii_alphabetic byte || is_one_of (codes "^_=") byte

-- a text that begins with a tonic and its sign, which is taken where there is one, and the rest of
-- the text, which may follow them
pub record HasTonic (tonic : Letter) (sign : Sign) (rest text : List ℕ) : Type 0 where
  pub taken : sign ≡ Natural → begins (is_one_of (codes "#b")) rest ≡ false
  pub follows : may_follow_tonic rest ≡ true
  pub whole : text ≡ tonic_text tonic ++ (sign_text sign ++ rest)

-- THE CASES
-- the key that a text says which has no spaces and tabs at its ends, case by case
pub data SaysKey : List ℕ → Key → Type 0 where
  -- nothing
  empty : SaysKey [] (key.Bare no_accidentals)
  -- a first word `none` in any capitals, and words that set accidentals
  none_first : (text word after : List ℕ) (s : Signature)
      → map to_ascii_lowercase word ≡ codes "none" → ends_part is_blank after ≡ true
      → text ≡ word ++ after → WordsLeave no_accidentals after s → SaysKey text (key.Bare s)
  -- a first word `HP`: the pipes, which no word after it changes
  pipes : (text after : List ℕ) → ends_part is_blank after ≡ true → text ≡ codes "HP" ++ after
      → SaysKey text (key.Highland no_accidentals)
  -- a first word `Hp`: the same with F and C sharp
  pipes_with_sharps : (text after : List ℕ) → ends_part is_blank after ≡ true
      → text ≡ codes "Hp" ++ after
      → SaysKey text (key.Highland
      (record no_accidentals { c = accidental.Sharp; f = accidental.Sharp }))
  -- a tonic, its sign and a mode that are listed: its sharps or flats, and then the words that set
  -- accidentals
  modal : (text rest after : List ℕ) (scale : Scale) (count : ℤ) (s : Signature)
      → HasTonic scale.tonic scale.sign rest text → SaysMode rest (AsMode scale.mode) after
      → listed_count scale ≡ Some count → WordsLeave (of_count count) after s
      → SaysKey text (key.Modal scale s)
  -- a tonic and `exp`: the accidentals that are set and no others
  explicit : (text rest after : List ℕ) (tonic : Letter) (sign : Sign) (s : Signature)
      → HasTonic tonic sign rest text → SaysMode rest Explicit after
      → WordsLeave no_accidentals after s → SaysKey text (key.Explicit s)

-- the key that a text says; where no case fits, it is unread
pub data ReadsAs : List ℕ → Key → Type 0 where
  by_case : (text : List ℕ) (said : Key) → SaysKey text said → ReadsAs text said
  unread : (text : List ℕ) → ((said : Key) → SaysKey text said → ⊥) → ReadsAs text key.Unread

-- the key of a text, spaces and tabs at its ends off
abbrev pub IsKeyText : List ℕ → Key → Type 0
IsKeyText text said = ReadsAs (trimmed text) said
