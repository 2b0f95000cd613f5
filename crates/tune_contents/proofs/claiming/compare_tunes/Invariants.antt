use Rattle.std.proofs.Common.{◌≡◌, ◌++◌, ℕ, List, Bool, drop, length, take}
use Rattle.tune_parts.specs.Parts.{Part}
use Rattle.tune_search.specs.LoadedParts.{HasClaimed}
use Rattle.tune_format.specs.Written.{number_entries}
use Rattle.tune_format.specs.declared.rows.Row.{Row}
use Rattle.tune_contents.specs.Inside.ClaimedParts.{ChainsClaimed}
use Rattle.tune_contents.proofs.ClaimStepLemmas.{ComparedSoFar}
use Rattle.tune_contents.proofs.claiming.compare_tunes.Given as goal

abbrev pub invariant-loop-place : goal.invariant-loop-place
invariant-loop-place l = record {
  long : length l.rows ≡ length l.initial.rows;
  later : drop l.place l.rows ≡ drop l.place l.initial.rows;
  entries : number_entries (take l.place l.rows) ++ number_entries (drop l.place l.initial.rows) ≡ number_entries l.initial.rows;
  claims : (pages : List (List ℕ)) (front : List Part) (was claimed : List Bool) (later : List Row) → HasClaimed pages was front
      → ChainsClaimed pages front claimed l.initial.rows (take (length l.initial.rows) l.chains)
      → ComparedSoFar l.layout pages front l.claims.runs (l.initial.rows ++ later) claimed (take l.place l.rows) (drop l.place l.initial.rows) later
      (drop l.place (take (length l.initial.rows) l.chains));
}
