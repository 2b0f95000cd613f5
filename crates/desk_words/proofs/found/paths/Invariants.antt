use Rattle.std.proofs.Common.{◌≡◌, drop, map}
use Rattle.std.specs.Prelude.{string_bytes}
use Rattle.desk_words.specs.Given.{each_in, path_in}
use Rattle.desk_words.specs.Inside.Sorting.{texts_behind}
use Rattle.desk_words.proofs.EachLemmas.{behind}
use Rattle.desk_words.proofs.found.paths.Given as goal

abbrev pub invariant-loop-word : goal.invariant-loop-word
invariant-loop-word l = each_in path_in (texts_behind l.words)
    ≡ behind (map string_bytes l.all.items) (each_in path_in (texts_behind (drop l.word-index l.words)))
