-- What a stop leaves while a part of a commit is made: the log, the gate, and the gate again.
use Rattle.std.proofs.Common.{ℕ, ◌≤◌, Result}
use Rattle.tune_disk.specs.Disk.{DiskState}
use Rattle.tune_disk.specs.Stops.{SinceThen}
use Rattle.tune_journal.specs.Image.{StandsFor, StandsForEither, pages_of, log_of}
use Rattle.tune_journal.specs.Inside.Phases.{WritesAndSyncs, IsNoLog, IsOutside}
use Rattle.tune_journal.specs.Inside.Rest.{IsAtRest, IsLogged, IsApplied}
use Rattle.tune_journal.specs.FileOffsets.{gate_offset}
use Rattle.tune_journal.specs.Pages.{changed_pages}
use Rattle.tune_journal.proofs.CallRuns.{run_since}
use Rattle.tune_journal.proofs.Standing.{stands_logging, stands_opening, stands_closing}

pub logging_since : {T E : Type 0} (n m : ℕ) (old new : DiskState) (r : Result T E) → IsAtRest n old → n ≤ m → WritesAndSyncs (IsNoLog m) r old new
    → SinceThen old new (StandsFor (pages_of n old.seen))
logging_since n m old new r rest le ran =
    run_since (StandsFor (pages_of n old.seen)) (IsNoLog m) r old new rest.settled ran (stands_logging n m old rest le)

pub opening_since : {T E : Type 0} (n m : ℕ) (old new : DiskState) (r : Result T E) → IsLogged n m old
    → WritesAndSyncs (IsOutside gate_offset 1) r old new
    → SinceThen old new (StandsForEither (pages_of n old.seen) (changed_pages (pages_of m old.seen) (log_of old.seen)))
opening_since n m old new r logged ran =
    run_since (StandsForEither (pages_of n old.seen) (changed_pages (pages_of m old.seen) (log_of old.seen))) (IsOutside gate_offset 1) r old new
    logged.rest.settled ran (stands_opening n m old logged)

pub closing_since : {T E : Type 0} (m : ℕ) (old new : DiskState) (r : Result T E) → IsApplied m old → WritesAndSyncs (IsOutside gate_offset 1) r old new
    → SinceThen old new (StandsFor (pages_of m old.seen))
closing_since m old new r applied ran =
    run_since (StandsFor (pages_of m old.seen)) (IsOutside gate_offset 1) r old new applied.opened.settled ran (stands_closing m old applied)
