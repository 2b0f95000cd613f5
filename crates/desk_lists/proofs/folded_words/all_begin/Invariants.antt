use Rattle.std.proofs.Common.{◌≡◌, map, string_bytes, drop}
use Rattle.desk_lists.specs.FoldedWords.{all_begin}
use Rattle.desk_lists.proofs.folded_words.all_begin.Given as goal

abbrev pub invariant-loop-word : goal.invariant-loop-word
invariant-loop-word l =
    all_begin (map string_bytes (drop l.word-index l.words)) l.text ≡ all_begin (map string_bytes l.words) l.text
