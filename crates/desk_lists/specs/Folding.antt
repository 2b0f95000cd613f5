-- Texts without accents and capitals.
use Rattle.std.specs.Prelude.{ℕ, List, not, filter, chars, encode_utf8_all}
use Rattle.caseless.specs.Caseless.{default_case_fold}
use Rattle.unicode_normalization.specs.Forms.{nfd}
use Rattle.unicode_normalization.specs.Lookups.{is_combining_mark}
use Rattle.desk_lists.specs.ShownTexts.{text_bytes}

-- CHARACTERS
abbrev pub without_marks : List ℕ → List ℕ
without_marks letters = filter (λ letter. not (is_combining_mark letter)) letters

-- letters apart from their marks, without these, and in one case
abbrev pub folded_chars : List ℕ → List ℕ
folded_chars letters = default_case_fold (without_marks (nfd letters))

-- BYTES
-- the same of a text in UTF-8
abbrev pub folded_bytes : List ℕ → List ℕ
folded_bytes text = encode_utf8_all (folded_chars (chars text))

-- the same of a title, whose bytes need not be UTF-8
abbrev pub folded_title : List ℕ → List ℕ
folded_title title = folded_bytes (text_bytes title)
