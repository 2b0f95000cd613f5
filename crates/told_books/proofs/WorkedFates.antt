-- Books worked out by hand, computed by the definitions.
use Rattle.std.proofs.Common.{◌≡◌, ◌++◌, [], ◌∷◌, refl, true, false, Some, None, List}
use Rattle.std.specs.Prelude.{codes, ℕ, count_by}
use Rattle.abc_fields.specs.Bytes.{byte_order_mark}
use Rattle.abc_fields.specs.FileHeaders.{file_header}
use Rattle.abc_fields.specs.declared.book.TuneFault.TheVariants.{NoKey, TooLong}
use Rattle.told_books.specs.Fates.{book_lines, fates_of, is_dropped}
use Rattle.told_books.specs.ToldTunes.{told_tunes_from}
use Rattle.told_books.specs.declared.fates.Fate.{Fate}
use Rattle.told_books.specs.declared.fates.Fate.TheVariants.{Kept, Carried, Blank, Version, Dropped}
use Rattle.told_books.specs.declared.tunes.ToldTune.{ToldTune}

-- what becomes of the lines of a book
abbrev fates_in : List ℕ → List Fate
fates_in book = fates_of (book_lines book)

-- how many lines of it are lost
abbrev lost_in : List ℕ → ℕ
lost_in book = count_by is_dropped (fates_in book)

abbrev tunes_in : ℕ → List ℕ → List ToldTune
tunes_in longest book = let lines = book_lines book in told_tunes_from longest (file_header lines) 1 lines

-- a mark, each line ended as on Windows, and lines that each tune carries, some, or none
book_of_another_system : fates_in (byte_order_mark
    ++ (codes "%abc-2.1\r\nR:reel\r\nM:4/4\r\nI:abc-charset utf-8\r\n%%scale 0.75\r\n\r\nA line of free text\r\n\r\n% from the red book\r\n"
    ++ codes "X:7\r\nT:Cooley's\r\nM:C|\r\nK:Edor\r\nEBBA B2 EB|\r\n"))
    ≡ Version ∷ Carried ∷ Dropped false ∷ Dropped false ∷ Carried ∷ Blank ∷ Dropped false ∷ Blank ∷ Dropped false
    ∷ Kept 1 ∷ Kept 1 ∷ Kept 1 ∷ Kept 1 ∷ Kept 1 ∷ []
book_of_another_system = refl

-- free text makes the first block no file header; a directive and a symbol between tunes are lost
free_text : fates_in (codes "R:reel\nfree text\n%%scale 1\n\nX:1\nK:C\n\nU:T=trill\n% why\nX:2\nK:D\nabc\nX:3\nK:E\n")
    ≡ Dropped false ∷ Dropped false ∷ Dropped true ∷ Blank ∷ Kept 1 ∷ Kept 1 ∷ Blank ∷ Dropped true ∷ Dropped false
    ∷ Kept 2 ∷ Kept 2 ∷ Kept 2 ∷ Kept 3 ∷ Kept 3 ∷ []
free_text = refl

-- how many lines are lost, as the front end counts them
nothing_lost : lost_in (codes "X:1\nK:C\n") ≡ 0
nothing_lost = refl

around_a_tune : lost_in (codes "remark\n\nX:1\nK:C\n\nW:verse\n") ≡ 2
around_a_tune = refl

no_header : lost_in (codes "free text\nM:4/4\nR:jig\n\nX:1\nK:C\n") ≡ 3
no_header = refl

header_with_a_tune : lost_in (codes "M:4/4\nX:1\nK:C\n") ≡ 1
header_with_a_tune = refl

of_the_file_itself : lost_in (codes "%abc-2.1\nI:abc-charset utf-8\nI:linebreak $\n% a\n%%staves 1\n\nX:1\nK:C\n") ≡ 2
of_the_file_itself = refl

-- each tune has a rhythm, and one has no metre
carried_by_one : fates_in (codes "M:4/4\n+:more\nR:jig\n\nX:1\nR:reel\nK:C\n\nX:2\nR:jig\nM:2/4\nK:C\nR:in the body\n")
    ≡ Carried ∷ Carried ∷ Dropped false ∷ Blank ∷ Kept 1 ∷ Kept 1 ∷ Kept 1 ∷ Blank ∷ Kept 2 ∷ Kept 2 ∷ Kept 2 ∷ Kept 2 ∷ Kept 2 ∷ []
carried_by_one = refl

-- no tune takes a header; old Mac lines; no last ending; a tune without a line ends at the next
no_tune : fates_in (codes "M:4/4\r%%a\r \rW:x") ≡ Dropped false ∷ Dropped true ∷ Blank ∷ Dropped false ∷ []
no_tune = refl

-- each tune is judged for itself, with what it carries
tunes_judged : tunes_in 12 (codes "M:4/4\n\nX:1\nT:a\n\nX:2\nK:C\n\nX:3\nK:C\nab\nX:4\nM:3\nK:C\nab\nX:5\n")
    ≡ record { line = 3; fault = Some NoKey } ∷ record { line = 6; fault = None } ∷ record { line = 9; fault = Some TooLong }
    ∷ record { line = 12; fault = None } ∷ record { line = 16; fault = Some NoKey } ∷ []
tunes_judged = refl
