-- How long the ending of a line is, and whether line feeds alone end lines.
use Rattle.std.specs.Prelude.{ℕ, List, codes, Bool, ◌==◌, if◌then◌else◌}
use Rattle.std.specs.List.{list_any}
use Rattle.abc_fields.specs.Bytes.{begins_with, carriage_return}

-- how many bytes the ending has that the text begins with
abbrev pub ending_length : List ℕ → ℕ
ending_length text = if begins_with text (codes "\r\n") then 2 else 1

-- whether a carriage return stands in a text
abbrev pub has_return : List ℕ → Bool
has_return text = list_any (λ byte. byte == carriage_return) text
