use Rattle.std.proofs.Common.{◌≡◌, ◌++◌, ◌-◌, ◌≤◌, List, drop, length, take}
use Rattle.tune_parts.specs.Parts.{Part}
use Rattle.tune_search.specs.LoadedParts.{HasClaimed}
use Rattle.tune_format.specs.Written.{number_entries}
use Rattle.tune_contents.specs.Inside.ClaimedParts.{ClaimsSoFar, tune_site}
use Rattle.tune_contents.proofs.claiming.claim_tunes.Given as goal

abbrev pub invariant-loop-from : goal.invariant-loop-from
invariant-loop-from g l = record {
  honest : g.D.Disk.honest l.opening.disk → g.D.Disk.honest l.initial.opening.disk;
  same : g.D.Disk.honest l.opening.disk → g.D.Disk.state l.opening.disk ≡ g.D.Disk.state l.initial.opening.disk;
  pages : g.D.Disk.honest l.opening.disk → l.opening.pages ≡ l.initial.opening.pages;
  count : length l.opening.pages ≡ length l.initial.opening.pages;
  failures : g.D.Disk.failures l.opening.disk ≡ g.D.Disk.failures l.initial.opening.disk;
  within : l.from ≤ length l.rows;
  room : length l.chains.items ≡ 32;
  long : length l.rows ≡ length l.initial.rows;
  later : drop l.from l.rows ≡ drop l.from l.initial.rows;
  entries : number_entries (take l.from l.rows) ++ number_entries (drop l.from l.initial.rows) ≡ number_entries l.initial.rows;
  claims : g.D.Disk.honest l.opening.disk → (front : List Part) → HasClaimed l.initial.opening.pages l.initial.opening.claimed front
      → ClaimsSoFar (tune_site l.layout l.initial.opening.pages front l.claims.runs) l.initial.rows l.opening.claimed (take l.from l.rows)
      (drop l.from l.initial.rows);
}

abbrev pub decreases-loop-from : goal.decreases-loop-from
decreases-loop-from g l = length l.rows - l.from
