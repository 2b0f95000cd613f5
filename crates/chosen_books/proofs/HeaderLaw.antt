-- The file header of lines as far as it is read.
use Rattle.std.proofs.Common.{◌≡◌, ◌++◌, ◌∷◌, ℕ, List, [], Bool, false, true, refl, ap, sym, ◌∙◌, append_assoc, append-nil}
use Rattle.std.proofs.lemmas.Bool.{and_parts}
use Rattle.std.proofs.lemmas.Bool.{cond_both}
use Rattle.std.specs.List.{AllByRecursion}
use Rattle.abc_fields.specs.Bytes.{line_feed}
use Rattle.abc_fields.specs.Lines.{lines_of, has_no_ending}
use Rattle.abc_fields.specs.FileHeaders.{file_header}
use Rattle.abc_fields.proofs.BookLemmas.{lines_plain}
use Rattle.chosen_books.specs.Inside.Fronts.{AllPlain, IsCarriedLine}
use Rattle.chosen_books.proofs.FrontLaw.{joined_append}
use Rattle.std.specs.Prelude.{codes}
use Rattle.std.specs.List.{list_all}
use Rattle.abc_fields.specs.Tunes.{is_empty_line, joined}
use Rattle.abc_fields.specs.FileHeaders.{block_of, first_block, is_header_line}

-- what is left of the first block
abbrev pub left_of : Bool → List (List ℕ) → List (List ℕ)
left_of false lines = first_block lines
left_of true lines = block_of lines

-- these lines of the first block are taken
pub record IsTaken (begun : Bool) (bytes : List ℕ) (left all : List (List ℕ)) : Type 0 where
  pub block : List (List ℕ)
  pub whole : block ++ left_of begun left ≡ first_block all
  pub bytes_of : bytes ≡ codes "\n" ++ joined block
  pub allowed : list_all is_header_line block ≡ true
  pub none : begun ≡ false → block ≡ []

all_allowed : (block : List (List ℕ)) (line : List ℕ) → list_all is_header_line block ≡ true → is_header_line line ≡ true
    → list_all is_header_line (block ++ line ∷ []) ≡ true
all_allowed [] line each one = rw one refl
all_allowed (first ∷ block) line each one =
    let parts = and_parts (is_header_line first) (list_all is_header_line block) each in
    rw parts.0 (all_allowed block line parts.1 one)

left_first : (begun : Bool) (line : List ℕ) (rest : List (List ℕ)) → is_empty_line line ≡ false → left_of begun (line ∷ rest) ≡ line ∷ block_of rest
left_first false line rest full = rw full refl
left_first true line rest full = rw full refl

-- a line more is taken
pub taken_more : (begun : Bool) (bytes new : List ℕ) (left rest all : List (List ℕ)) (line : List ℕ) → IsTaken begun bytes left all → left ≡ line ∷ rest
    → is_empty_line line ≡ false → is_header_line line ≡ true → new ≡ bytes ++ (line ++ line_feed ∷ []) → IsTaken true new rest all
taken_more begun bytes new left rest all line was next full allowed written = record {
  block = was.block ++ line ∷ [];
  whole = append_assoc was.block (line ∷ []) (block_of rest)
      ∙ ap (λ ls. was.block ++ ls) (sym (ap (left_of begun) next ∙ left_first begun line rest full)) ∙ was.whole;
  bytes_of = written ∙ ap (λ bs. bs ++ (line ++ line_feed ∷ [])) was.bytes_of ∙ append_assoc (codes "\n") (joined was.block) (line ++ line_feed ∷ [])
      ∙ ap (λ bs. codes "\n" ++ (joined was.block ++ bs)) (sym (append-nil (line ++ line_feed ∷ [])))
      ∙ ap (λ bs. codes "\n" ++ bs) (sym (joined_append was.block (line ∷ [])));
  allowed = all_allowed was.block line was.allowed allowed;
  none = λ e. absurd (let h : true ≡ false = e in cc);
}

-- THE LINES OF A FILE HEADER
-- a line of a block
record IsBlockLine (line : List ℕ) : Type 0 where
  plain : has_no_ending line ≡ true
  some : is_empty_line line ≡ false

block_lines : (lines : List (List ℕ)) → AllPlain lines → AllByRecursion IsBlockLine (block_of lines)
block_lines [] plain = tt
block_lines (line ∷ lines) plain = cond_both (is_empty_line line) [] (line ∷ block_of lines) (λ ls. AllByRecursion IsBlockLine ls)
    (λ empty. tt) (λ some. (record { plain = plain.0; some = some }, block_lines lines plain.1))

first_lines : (lines : List (List ℕ)) → AllPlain lines → AllByRecursion IsBlockLine (first_block lines)
first_lines [] plain = tt
first_lines (line ∷ lines) plain = cond_both (is_empty_line line) (first_block lines) (line ∷ block_of lines) (λ ls. AllByRecursion IsBlockLine ls)
    (λ empty. first_lines lines plain.1) (λ some. (record { plain = plain.0; some = some }, block_lines lines plain.1))

allowed_lines : (block : List (List ℕ)) → AllByRecursion IsBlockLine block → list_all is_header_line block ≡ true → AllByRecursion IsCarriedLine block
allowed_lines [] each all = tt
allowed_lines (line ∷ block) each all =
    let parts = and_parts (is_header_line line) (list_all is_header_line block) all in
    (record { plain = each.0.plain; full = each.0.some; allowed = parts.0 }, allowed_lines block each.1 parts.1)

-- the lines of a file header may be carried
pub header_lines : (text : List ℕ) (lines : List (List ℕ)) → lines ≡ lines_of text → AllByRecursion IsCarriedLine (file_header lines)
header_lines text lines whole =
    let plain : AllPlain lines = rw whole (lines_plain text) in
    cond_both (list_all is_header_line (first_block lines)) (first_block lines) [] (λ ls. AllByRecursion IsCarriedLine ls)
    (λ all. allowed_lines (first_block lines) (first_lines lines plain) all) (λ none. tt)
