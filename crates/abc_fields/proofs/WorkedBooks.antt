-- Books worked out by hand, computed by the definitions.
use Rattle.std.proofs.Common.{◌≡◌, ◌++◌, [], ◌∷◌, refl}
use Rattle.std.specs.Prelude.{codes}
use Rattle.abc_fields.specs.Bytes.{byte_order_mark}
use Rattle.abc_fields.specs.Books.{tune_texts}

-- a mark, each line ended as on Windows, and lines that each tune carries, some, or none
book_of_another_system : tune_texts (byte_order_mark ++ (codes
    "%abc-2.1\r\nR:reel\r\nM:4/4\r\nI:abc-charset utf-8\r\n%%scale 0.75\r\n\r\nA line of free text\r\n\r\n% from the red book\r\n"
    ++ codes "X:7\r\nT:Cooley's\r\nM:C|\r\nK:Edor\r\nEBBA B2 EB|\r\n"))
    ≡ codes "T:Cooley's\nM:C|\nR:reel\n%%scale 0.75\nK:Edor\nEBBA B2 EB|\n" ∷ []
book_of_another_system = refl

-- a line that goes on with a field goes with it, and with the title into no tune
lines_that_go_on : tune_texts (codes "R:reel\n+:more\nT:Book\n+:of tunes\n\nX:1\nR:jig\nK:C\nX:2\nK:D\n")
    ≡ codes "R:jig\nK:C\n" ∷ (codes "R:reel\n+:more\nK:D\n" ∷ [])
lines_that_go_on = refl

-- case matters, an empty field of a tune counts, and two lines of one letter are both carried
letters : tune_texts (codes "R:a\nR:b\nr:c\nU:d\nI:e\nI:abc-version 2.1\n\nX:1\nR:\nK:C\n\nX:2\nr:f\nU:g\nK:D\n")
    ≡ codes "R:\nr:c\nU:d\nI:e\nK:C\n" ∷ (codes "r:f\nU:g\nR:a\nR:b\nU:d\nI:e\nK:D\n" ∷ [])
letters = refl

-- a line before the first field line has none to go on with, and a comment between does not matter
no_field_above : tune_texts (codes "\n \n+:a\n%%b\nO:c\n% d\n%%e\n+:f\n\nX:1\nK:C\nK:D\n") ≡ codes "%%b\nO:c\n%%e\n+:f\nK:C\nK:D\n" ∷ []
no_field_above = refl

-- a first block with a line of another kind, or with a tune, is no file header
no_file_header : tune_texts (codes "R:a\nfree text\n\nX:1\nK:C\n") ≡ codes "K:C\n" ∷ []
no_file_header = refl

header_with_a_tune : tune_texts (codes "R:a\nX:1\nK:C\n") ≡ codes "K:C\n" ∷ []
header_with_a_tune = refl

-- a mark within a book is bytes of a line
mark_within : tune_texts (codes "\nX:1\nT:a\n" ++ (byte_order_mark ++ codes "X:2\nK:C\n")) ≡ (codes "T:a\n" ++ (byte_order_mark ++ codes "X:2\nK:C\n")) ∷ []
mark_within = refl
