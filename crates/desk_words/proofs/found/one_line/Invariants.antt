use Rattle.std.proofs.Common.{◌≡◌, string_bytes}
use Rattle.std.specs.Prelude.{encode_utf8, flat_map}
use Rattle.desk_words.specs.Given.{blank_for}
use Rattle.desk_words.proofs.found.one_line.Given as goal

abbrev pub invariant-loop-letter : goal.invariant-loop-letter
invariant-loop-letter l = string_bytes l.line ≡ flat_map (λ letter. encode_utf8 (blank_for letter)) l.yielded
