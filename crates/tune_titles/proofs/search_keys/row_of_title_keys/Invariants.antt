use Rattle.std.proofs.Common.{◌≡◌, ◌+◌, ◌≤◌, length, map, drop}
use Rattle.abc_fields.specs.Limits.{most_titles}
use Rattle.index_keys.specs.Cuts.{cut_number}
use Rattle.index_keys.specs.KeyLists.{rising_keys}
use Rattle.tune_titles.specs.Titles.{sorting_title}
use Rattle.tune_titles.proofs.search_keys.row_of_title_keys.Given as goal

abbrev pub invariant-loop-left : goal.invariant-loop-left
invariant-loop-left l = record {
  within : l.left ≤ length l.titles;
  room : length l.keys.items + l.left ≤ most_titles;
  keys : l.keys.items ≡ rising_keys (map (λ title. cut_number 32 0 (sorting_title title.now)) (drop l.left l.titles));
}

abbrev pub decreases-loop-left : goal.decreases-loop-left
decreases-loop-left l = l.left
