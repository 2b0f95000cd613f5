use Rattle.std.proofs.Common.{◌≡◌, ◌++◌, map, string_bytes, drop}
use Rattle.desk_lists.specs.FoldedWords.{folded_words}
use Rattle.desk_lists.proofs.folded_words.FoldedWords.of_words.Given as goal

abbrev pub invariant-loop-word : goal.invariant-loop-word
invariant-loop-word l =
    map string_bytes l.all.items ++ folded_words (drop l.word-index l.words) ≡ folded_words l.words
