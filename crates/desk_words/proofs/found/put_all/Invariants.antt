use Rattle.std.proofs.Common.{◌≡◌, ◌++◌, drop}
use Rattle.desk_words.specs.Inside.Sorting.{texts_behind}
use Rattle.desk_words.proofs.found.put_all.Given as goal

abbrev pub invariant-loop-word : goal.invariant-loop-word
invariant-loop-word l = texts_behind l.all.items ++ texts_behind (drop l.word-index l.more) ≡ texts_behind l.fn.all.items ++ texts_behind l.more
