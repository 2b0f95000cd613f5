use Rattle.std.proofs.Common.{◌≡◌, drop}
use Rattle.desk_words.specs.Given.{each_in, number_in}
use Rattle.desk_words.specs.Inside.Sorting.{texts_behind}
use Rattle.desk_words.proofs.EachLemmas.{behind}
use Rattle.desk_words.proofs.found.numbers.Given as goal

abbrev pub invariant-loop-word : goal.invariant-loop-word
invariant-loop-word l = each_in number_in (texts_behind l.words) ≡ behind (l.all.items) (each_in number_in (texts_behind (drop l.word-index l.words)))
