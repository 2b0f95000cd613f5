use Rattle.std.proofs.Common.{◌≡◌, ◌++◌, length}
use Rattle.std.specs.List.{AllByRecursion}
use Rattle.tune_undo.specs.OldEntries.{IsEntryPart}
use Rattle.tune_undo.specs.EntryBytes.{parts_bytes}
use Rattle.tune_undo.proofs.parts.parts.Given as goal

abbrev pub invariant-loop-rest : goal.invariant-loop-rest
invariant-loop-rest l = record { same : parts_bytes l.parts.items ++ l.rest ≡ l.bytes; each : AllByRecursion IsEntryPart l.parts.items }

abbrev pub decreases-loop-rest : goal.decreases-loop-rest
decreases-loop-rest l = length l.rest
