use Rattle.std.proofs.Common.{◌≡◌, ◌≤◌, ◌-◌, length, take, []}
use Rattle.sha2.specs.Hashers.{Holds256}
use Rattle.desk_copies.specs.Copies.{IsLookedAt}
use Rattle.desk_copies.proofs.disk_copies.copy_parts.Given as goal

-- the first so many bytes are copied, and summed
abbrev pub invariant-loop-at : goal.invariant-loop-at
invariant-loop-at g l =
    let honest = g.D.Disk.honest in
    let state = g.D.Disk.state in
    let file = (state l.fn.from).seen in
    record {
      within : l.at ≤ l.size;
      from : IsLookedAt honest state l.fn.from l.from;
      to : honest l.to → honest l.fn.to;
      copied : honest l.from → honest l.to → l.size ≡ length file → (state l.fn.to).seen ≡ [] → (state l.to).seen ≡ take l.at file;
      summed : honest l.from → l.size ≡ length file → Holds256 l.sum (take l.at file);
    }

abbrev pub decreases-loop-at : goal.decreases-loop-at
decreases-loop-at g l = l.size - l.at
