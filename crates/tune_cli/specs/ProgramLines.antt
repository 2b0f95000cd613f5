-- What the program writes beside replies, and its statuses.
use Rattle.std.specs.Prelude.{◌≡◌, ◌⊎◌, ℕ, suc, List, codes, length, true}
use Rattle.std.specs.Prelude.{Result, Ok, Err}
use Rattle.std.specs.Io.KnownBytes.{Appends}
use Rattle.tune_journal.specs.declared.open_fault.OpenFault.{OpenFault}
use Rattle.tune_journal.specs.declared.open_fault.OpenFault.TheVariants.{NotArchive, Damaged}
use Rattle.tune_journal.specs.declared.open_fault.OpenFault.TheVariants.{NotEmpty, OutOfMemory}
use Rattle.tune_journal.specs.declared.open_fault.OpenFault.TheVariants.{Device}
use Rattle.tune_store.specs.Limits.{layout_number}
use Rattle.tune_store.specs.State.{State}
use Rattle.tune_store.specs.declared.command.Refusal.{Refusal}
use Rattle.tune_store.specs.declared.command.Reply.{Reply}
use Rattle.tune_scripts.specs.Replies.{line_of}
use Rattle.tune_scripts.specs.Streams.{Output, Streams}
use Rattle.tune_scripts.specs.declared.script_runs.RunEnd.{RunEnd}
use Rattle.tune_scripts.specs.declared.script_runs.RunEnd.TheVariants.{Ended}

-- 0 where the script was run to its end
abbrev pub status_of : RunEnd → ℕ
status_of Ended = 0
status_of _ = 1

-- 0 where the command was carried out
abbrev pub status_of_answer : Result Reply Refusal → ℕ
status_of_answer (Ok reply) = 0
status_of_answer (Err refusal) = 1

-- A line was written, and flushed.
pub record IsWritten (output : Output) (line : List ℕ) : Type 0 where
  pub bytes : Appends output.was.bytes output.now.bytes line
  pub flushed : output.now.flushed ≡ true
  pub faults : output.now.faults ≡ output.was.faults

-- A line was written and flushed, and the status is this one; or the writer failed, and the status
-- is 1. The input is left as it was.
abbrev pub WritesLine : Streams → List ℕ → ℕ → ℕ → Type 0
WritesLine streams line status given = (streams.input.now ≡ streams.input.was)
    × ((IsWritten streams.output line × (given ≡ status))
    ⊎ ((streams.output.now.faults ≡ suc streams.output.was.faults) × (given ≡ 1)))

-- why an archive was not made, or not opened
abbrev pub reason_bytes : OpenFault → List ℕ
reason_bytes OutOfMemory = codes "refused 21 OutOfMemory\n"
reason_bytes Device = codes "refused 22 Device\n"
reason_bytes NotArchive = codes "refused 40 NotArchive\n"
reason_bytes Damaged = codes "refused 41 Damaged\n"
reason_bytes NotEmpty = codes "refused 42 NotEmpty\n"

-- and the status that goes with it
abbrev pub status_of_opening : OpenFault → ℕ
status_of_opening OutOfMemory = 1
status_of_opening Device = 1
status_of_opening NotArchive = 3
status_of_opening Damaged = 3
status_of_opening NotEmpty = 3

-- the layout of an archive, and how many tunes and set lists it holds
abbrev pub counts_bytes : State → List ℕ
counts_bytes state =
    line_of (layout_number state.layout) (length state.tunes) (length state.sets)
