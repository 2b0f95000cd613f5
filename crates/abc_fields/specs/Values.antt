-- What the value of a field is (ABC 2.1, 2.2 and 3.1; own profile where the standard is silent).
use Rattle.std.specs.Prelude.{◌≡◌, ℕ, List, [], ◌∷◌, ◌++◌, Bool, true, false, not, ◌==◌, ◌&&◌, ◌⊎◌}
use Rattle.std.specs.Prelude.{drop, if◌then◌else◌}
use Rattle.std.specs.List.{list_any}
use Rattle.abc_fields.specs.Bytes.{percent, backslash, is_blank, is_all_blank}
use Rattle.abc_fields.specs.Words.{trimmed}

-- whether a percent sign stands in a text, which may begin a comment
abbrev pub has_percent : List ℕ → Bool
has_percent text = list_any (λ byte. byte == percent) text

-- the bytes before the first percent sign that no backslash stands directly before; `escaped` says
-- whether one stands before the first byte
abbrev pub uncommented_after : Bool → List ℕ → List ℕ
uncommented_after escaped [] = []
uncommented_after escaped (byte ∷ text) =
    if byte == percent && not escaped then [] else byte ∷ uncommented_after (byte == backslash) text

-- a text without its comment, which the first percent sign begins that no backslash stands directly
-- before
abbrev pub uncommented : List ℕ → List ℕ
uncommented text = uncommented_after false text

-- the value of a field line: what follows the colon, without a comment, and without spaces and tabs
-- at its ends
abbrev pub field_value : List ℕ → List ℕ
field_value line = trimmed (uncommented (drop 2 line))

-- THE SAME IN A READER'S WORDS
-- this byte is the last of the text
abbrev pub EndsWith : ℕ → List ℕ → Type 0
EndsWith byte text = (start : List ℕ) × (start ++ byte ∷ [] ≡ text)

-- a text that a percent sign begins
abbrev pub BeginsWithPercent : List ℕ → Type 0
BeginsWithPercent text = (later : List ℕ) × (percent ∷ later ≡ text)

-- the kept bytes are the front of the line, and the rest is its comment, or nothing
pub record IsUncommented (line kept : List ℕ) : Type 0 where
  pub rest : List ℕ
  pub whole : kept ++ rest ≡ line
  pub comment : (rest ≡ []) ⊎ (BeginsWithPercent rest × ¬ EndsWith backslash kept)
  pub no_earlier : (before after : List ℕ) → before ++ (percent ∷ after) ≡ kept
      → EndsWith backslash before

-- the kept bytes are the text but for blanks at its ends, and are not blank at either end
-- themselves
pub record IsTrimmed (text kept : List ℕ) : Type 0 where
  pub front : List ℕ
  pub back : List ℕ
  pub whole : front ++ (kept ++ back) ≡ text
  pub front_blank : is_all_blank front ≡ true
  pub back_blank : is_all_blank back ≡ true
  pub first : (byte : ℕ) (later : List ℕ) → byte ∷ later ≡ kept → is_blank byte ≡ false
  pub last : (byte : ℕ) (earlier : List ℕ) → earlier ++ byte ∷ [] ≡ kept → is_blank byte ≡ false
