use Rattle.std.proofs.Common.{◌≡◌, ◌≤◌, List, length, take}
use Rattle.tune_parts.specs.Parts.{Part}
use Rattle.tune_search.specs.LoadedParts.{HasClaimed}
use Rattle.tune_contents.specs.Inside.ClaimedParts.{ChainsClaimed}
use Rattle.tune_contents.proofs.claiming.claim_chains.Given as goal

abbrev pub invariant-loop-place : goal.invariant-loop-place
invariant-loop-place g l = record {
  honest : g.D.Disk.honest l.opening.disk → g.D.Disk.honest l.initial.opening.disk;
  same : g.D.Disk.honest l.opening.disk → g.D.Disk.state l.opening.disk ≡ g.D.Disk.state l.initial.opening.disk;
  pages : g.D.Disk.honest l.opening.disk → l.opening.pages ≡ l.initial.opening.pages;
  count : length l.opening.pages ≡ length l.initial.opening.pages;
  failures : g.D.Disk.failures l.opening.disk ≡ g.D.Disk.failures l.initial.opening.disk;
  within : l.place ≤ length l.rows;
  room : length l.chains ≡ length l.initial.chains;
  claims : g.D.Disk.honest l.opening.disk → (front : List Part) → HasClaimed l.initial.opening.pages l.initial.opening.claimed front
      → ChainsClaimed l.initial.opening.pages front l.opening.claimed (take l.place l.rows) (take l.place l.chains);
}
