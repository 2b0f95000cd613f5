use Rattle.std.proofs.Common.{◌≡◌, ◌∷◌, drop, map}
use Rattle.std.specs.Prelude.{string_bytes}
use Rattle.desk_words.specs.JoinedValues.{joined_values}
use Rattle.desk_words.specs.Inside.Joining.{whole}
use Rattle.desk_words.proofs.joining.join_words.Given as goal

abbrev pub invariant-loop-word : goal.invariant-loop-word
invariant-loop-word l = whole l.joined (map string_bytes (drop l.word-index l.words)) ≡ joined_values (l.fn.first ∷ map string_bytes l.words)
