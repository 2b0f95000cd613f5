use Rattle.std.proofs.Common.{◌≡◌, ◌-◌, ◌≤◌, length, drop, IsTrue}
use Rattle.index_keys.proofs.index_key.are_same.Given as goal

abbrev pub invariant-loop-at : goal.invariant-loop-at
invariant-loop-at l = record {
  within : l.at ≤ length l.one;
  passed : IsTrue l.same → drop l.at l.one ≡ drop l.at l.other → l.one ≡ l.other;
  failed : l.one ≡ l.other → IsTrue l.same;
}

abbrev pub decreases-loop-at : goal.decreases-loop-at
decreases-loop-at l = length l.one - l.at
