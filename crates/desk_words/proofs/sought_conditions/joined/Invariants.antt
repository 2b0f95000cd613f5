use Rattle.std.proofs.Common.{◌≡◌, ◌++◌, ◌∷◌, drop}
use Rattle.std.specs.Prelude.{flat_map, string_bytes}
use Rattle.desk_words.specs.Given.{one_line}
use Rattle.desk_words.specs.Inside.Sorting.{texts_behind}
use Rattle.desk_words.proofs.sought_conditions.joined.Given as goal

abbrev pub invariant-loop-word : goal.invariant-loop-word
invariant-loop-word l = string_bytes l.all ++ flat_map (λ more. 32 ∷ one_line more) (texts_behind (drop l.word-index l.rest))
    ≡ one_line l.fn.first ++ flat_map (λ more. 32 ∷ one_line more) (texts_behind l.rest)
