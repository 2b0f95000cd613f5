use Rattle.std.proofs.Common.{◌≡◌, ◌≤◌, ◌-◌, length, take}
use Rattle.sha2.specs.Hashers.{Holds256}
use Rattle.desk_copies.specs.Copies.{IsLookedAt}
use Rattle.desk_copies.proofs.disk_copies.sum_parts.Given as goal

-- the first so many bytes are summed
abbrev pub invariant-loop-at : goal.invariant-loop-at
invariant-loop-at g l =
    let honest = g.D.Disk.honest in
    let state = g.D.Disk.state in
    let file = (state l.fn.disk).seen in
    record {
      within : l.at ≤ l.size;
      disk : IsLookedAt honest state l.fn.disk l.disk;
      summed : honest l.disk → l.size ≡ length file → Holds256 l.sum (take l.at file);
    }

abbrev pub decreases-loop-at : goal.decreases-loop-at
decreases-loop-at g l = l.size - l.at
