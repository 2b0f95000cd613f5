use Rattle.std.proofs.Common.{◌≡◌, ◌-◌, ◌≤◌, length}
use Rattle.tune_disk.specs.Inside.ToldMore.{IsToldRead}
use Rattle.tune_disk.proofs.file.read_all.Given as goal

abbrev pub invariant-loop-done : goal.invariant-loop-done
invariant-loop-done l = record {
  within : l.done ≤ l.size;
  same : l.size ≡ length l.into;
  told : IsToldRead l.at l.done l.into l.initial.log.items l.log.items;
}

abbrev pub decreases-loop-done : goal.decreases-loop-done
decreases-loop-done l = l.size - l.done
