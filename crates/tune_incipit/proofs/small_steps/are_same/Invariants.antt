use Rattle.std.proofs.Common.{◌≡◌, take, IsTrue}
use Rattle.tune_incipit.proofs.small_steps.are_same.Given as goal

-- whether the steps so far are the same
abbrev pub invariant-loop-place : goal.invariant-loop-place
invariant-loop-place l = record {
  yes : IsTrue l.same → take l.place l.small ≡ take l.place l.wide;
  no : l.small ≡ l.wide → IsTrue l.same;
}
