use Rattle.std.proofs.Common.{◌≡◌, ◌≤◌, ◌-◌, length, take}
use Rattle.tune_titles.proofs.fronts.alike_blocks.Given as goal

abbrev pub invariant-loop-at : goal.invariant-loop-at
invariant-loop-at l = record {
  one : l.at ≤ length l.one;
  other : l.at ≤ length l.other;
  alike : take l.at l.one ≡ take l.at l.other;
}

abbrev pub decreases-loop-at : goal.decreases-loop-at
decreases-loop-at l = length l.one - l.at
