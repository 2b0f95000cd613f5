-- Which article a title has, and what the title is without it (own profile). Titles have no blanks
-- at their ends here; blanks are spaces and tabs.
use Rattle.std.specs.Prelude.{◌≡◌, ℕ, List, [], ◌∷◌, ◌++◌, map, codes, Bool, true, ◌==◌}
use Rattle.std.specs.Prelude.{◌&&◌, ◌||◌, if◌then◌else◌, Option, None, Some}
use Rattle.std.specs.Str.{bytes_eq}
use Rattle.std.specs.Char.{to_ascii_lowercase}
use Rattle.abc_fields.specs.Bytes.{is_blank, is_all_blank, begins}
use Rattle.abc_fields.specs.Fields.{has_bytes}
use Rattle.abc_fields.specs.Words.{trimmed}

-- WORDS
-- the text with its ASCII letters made small; all other bytes, those of 128 and above too, stay
abbrev pub small_letters : List ℕ → List ℕ
small_letters text = map to_ascii_lowercase text

abbrev pub comma : ℕ
comma = 44

-- `The`, `A` or `An`, in any capitals
abbrev pub is_article : List ℕ → Bool
is_article word =
    bytes_eq (small_letters word) (codes "the")
    || (bytes_eq (small_letters word) (codes "a") || bytes_eq (small_letters word) (codes "an"))

-- an article of a title, and the rest of it
pub record Parts : Type 0 where
  pub article : List ℕ
  pub rest : List ℕ

abbrev pub parts_if : Bool → List ℕ → List ℕ → Option Parts
parts_if is article rest =
    if is then Some (record { article = article; rest = rest }) else None

-- A LEADING ARTICLE
-- the bytes before the first blank, and those from it on
abbrev pub first_word : List ℕ → List ℕ
first_word [] = []
first_word (byte ∷ text) = if is_blank byte then [] else byte ∷ first_word text

abbrev pub from_blank : List ℕ → List ℕ
from_blank [] = []
from_blank (byte ∷ text) = if is_blank byte then byte ∷ text else from_blank text

-- the first word is an article, and blanks and more text follow it
abbrev pub leading_at : List ℕ → List ℕ → Option Parts
leading_at word later =
    parts_if (is_article word && has_bytes (trimmed later)) word (trimmed later)

abbrev pub leading : List ℕ → Option Parts
leading title = leading_at (first_word title) (from_blank title)

-- A TRAILING ARTICLE
-- the bytes before the last comma, and those after it
abbrev pub onto_cut : ℕ → List ℕ → Option (List ℕ × List ℕ) → Option (List ℕ × List ℕ)
onto_cut byte text (Some cut) = Some (byte ∷ cut.0, cut.1)
onto_cut byte text None = if byte == comma then Some ([], text) else None

abbrev pub last_cut : List ℕ → Option (List ℕ × List ℕ)
last_cut [] = None
last_cut (byte ∷ text) = onto_cut byte text (last_cut text)

-- after the last comma come blanks and an article alone, and before it text
abbrev pub trailing_at : Option (List ℕ × List ℕ) → Option Parts
trailing_at None = None
trailing_at (Some cut) = parts_if
    (begins is_blank cut.1 && (is_article (trimmed cut.1) && has_bytes (trimmed cut.0)))
    (trimmed cut.1) (trimmed cut.0)

abbrev pub trailing : List ℕ → Option Parts
trailing title = trailing_at (last_cut title)

-- THE REST
-- the rest after an article, or the title where there is none
abbrev pub rest_or : List ℕ → Option Parts → List ℕ
rest_or title None = title
rest_or title (Some parts) = parts.rest

-- a leading article is looked for first, and one is taken at most
abbrev pub rest_after : List ℕ → Option Parts → List ℕ
rest_after title None = rest_or title (trailing title)
rest_after title (Some parts) = parts.rest

abbrev pub title_rest : List ℕ → List ℕ
title_rest title = rest_after title (leading title)

-- THE SAME IN A READER'S WORDS
-- blanks, one or more
pub record AreBlanks (text : List ℕ) : Type 0 where
  pub some : has_bytes text ≡ true
  pub blank : is_all_blank text ≡ true

-- a text that has a byte, and no blanks at its ends
pub record IsBareText (text : List ℕ) : Type 0 where
  pub some : has_bytes text ≡ true
  pub bare : trimmed text ≡ text

-- the title is an article, blanks, and the rest
pub record HasLeading (title article rest : List ℕ) : Type 0 where
  pub blanks : List ℕ
  pub whole : article ++ (blanks ++ rest) ≡ title
  pub is : is_article article ≡ true
  pub apart : AreBlanks blanks
  pub more : IsBareText rest

-- the title is the rest, blanks or none, a comma, blanks, and an article
pub record HasTrailing (title article rest : List ℕ) : Type 0 where
  pub gap : List ℕ
  pub blanks : List ℕ
  pub whole : rest ++ (gap ++ (comma ∷ (blanks ++ article))) ≡ title
  pub is : is_article article ≡ true
  pub apart : AreBlanks blanks
  pub before : is_all_blank gap ≡ true
  pub more : IsBareText rest
