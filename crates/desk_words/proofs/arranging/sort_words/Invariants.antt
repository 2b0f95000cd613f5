use Rattle.std.proofs.Common.{◌≡◌, drop, fold, map}
use Rattle.std.specs.Prelude.{string_bytes}
use Rattle.desk_words.specs.Arranged.{put_sorted, sorted_in}
use Rattle.desk_words.specs.Inside.Sorting.{sorted_by}
use Rattle.desk_words.proofs.arranging.sort_words.Given as goal

abbrev pub invariant-loop-word : goal.invariant-loop-word
invariant-loop-word l = fold put_sorted (sorted_by l.sorted) (map string_bytes (drop l.word-index l.words)) ≡ sorted_in (map string_bytes l.words)
