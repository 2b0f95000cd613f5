-- What it is for a length to be that of a row of the table.
use Rattle.std.proofs.Common.{◌≡◌, ℕ, ◌+◌, List, [], ◌∷◌, ◌++◌, length, take, drop, Option, Some, None, refl, ap, sym, ◌∙◌, arith}
use Rattle.std.specs.Prelude.{⊤}
use Rattle.std.proofs.lemmas.List.{append_assoc, length-append}
use Rattle.std.proofs.Math.Seq.{take-append_seam}

-- a text of a row, before a rest
abbrev pub RowTexts : Type 1
RowTexts = List ℕ → List ℕ → Type 0

-- the front of that length is of the row
abbrev pub IsOfRow : RowTexts → List ℕ → Option ℕ → Type 0
IsOfRow fits line None = ⊤
IsOfRow fits line (Some n) = fits (take n line) (drop n line)

-- each text of the row has the length that the row gives at its line
abbrev pub GivesEach : RowTexts → (List ℕ → Option ℕ) → Type 0
GivesEach fits row = (text rest : List ℕ) → fits text rest → row (text ++ rest) ≡ Some (length text)

-- the same, or none is of the row
abbrev pub FindsText : RowTexts → List ℕ → Option ℕ → Type 0
FindsText fits line None = (text rest : List ℕ) → text ++ rest ≡ line → fits text rest → ⊥
FindsText fits line (Some n) = fits (take n line) (drop n line)

-- by whether the row gives a length
finds_at : (fits : RowTexts) (row : List ℕ → Option ℕ) (line : List ℕ) (found : Option ℕ) → row line ≡ found → GivesEach fits row → IsOfRow fits line found
    → FindsText fits line found
finds_at fits row line (Some n) is gives sound = sound
finds_at fits row line None is gives sound = λ text rest whole f.
    let some : row line ≡ Some (length text) = ap row (sym whole) ∙ gives text rest f in absurd (cc)

-- a row that gives each of its texts the length that it has, and no other length, finds its texts
pub row_finds : (fits : RowTexts) (row : List ℕ → Option ℕ) → GivesEach fits row → ((line : List ℕ) → IsOfRow fits line (row line)) → (line : List ℕ)
    → FindsText fits line (row line)
row_finds fits row gives sound line = finds_at fits row line (row line) refl gives (sound line)

-- two fronts of a line that are equally long are the same
pub same_front : (text rest other later : List ℕ) → length text ≡ length other → text ++ rest ≡ other ++ later → text ≡ other
same_front text rest other later long same =
    sym (take-append_seam text rest) ∙ (λ i. take (long i) (same i)) ∙ take-append_seam other later

-- a row has at most one text at the front of a line
pub one_text_of : (fits : RowTexts) (row : List ℕ → Option ℕ) → GivesEach fits row → (text rest other later : List ℕ) → fits text rest → fits other later
    → text ++ rest ≡ other ++ later → text ≡ other
one_text_of fits row gives text rest other later f g same =
    let here : row (text ++ rest) ≡ Some (length text) = gives text rest f in
    let there : row (other ++ later) ≡ Some (length other) = gives other later g in
    let lines : row (text ++ rest) ≡ row (other ++ later) = ap row same in
    let long : length text ≡ length other = cc in
    same_front text rest other later long same

-- A TEXT IN MARKS
-- the line that a text in marks begins
pub closed_line : (opening closing : ℕ) (text inside rest : List ℕ) → text ≡ opening ∷ (inside ++ closing ∷ [])
    → text ++ rest ≡ opening ∷ (inside ++ (closing ∷ rest))
closed_line opening closing text inside rest is = ap (λ t. t ++ rest) is ∙ ap (λ t. opening ∷ t) (append_assoc inside (closing ∷ []) rest)

-- the length of a text in marks
pub closed_length : (opening closing : ℕ) (text inside : List ℕ) → text ≡ opening ∷ (inside ++ closing ∷ []) → length text ≡ length inside + 2
closed_length opening closing text inside is = ap length is ∙ simp length-append (omega arith)
