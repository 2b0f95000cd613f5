-- Runs of scripts, over a reader, a writer and a store of any kind.
use Rattle.std.specs.Prelude.{◌≡◌, ℕ, List, [], ◌∷◌, ◌++◌, false, Option, Some, IfSome, ⊤}
use Rattle.std.specs.Io.KnownBytes.{Appends}
use Rattle.tune_store.specs.Answers.{stays_open}
use Rattle.tune_store.specs.Runs.{Answered}
use Rattle.tune_store.specs.declared.tune_store.TuneStore as store
use Rattle.tune_scripts.specs.declared.script_runs.RunEnd.{RunEnd}
use Rattle.tune_scripts.specs.declared.script_runs.RunEnd.TheVariants.{ReaderFault, WriterFault}
use Rattle.tune_scripts.specs.declared.script_runs.RunEnd.TheVariants.{DeviceFault, OutOfMemory}
use Rattle.tune_scripts.specs.Carried.{Carried, CarriesAllOut, LeftByRun, run_of}
use Rattle.tune_scripts.specs.Prefixes.{AreAcknowledged}
use Rattle.tune_scripts.specs.Scripts.{Script}
use Rattle.tune_scripts.specs.Streams.{Streams}

-- HOW A RUN ENDS
-- an end that comes where the last answer was that the device failed: it is written, or the writer
-- fails
abbrev pub IsEndByDevice : RunEnd → Type 0
IsEndByDevice DeviceFault = ⊤
IsEndByDevice WriterFault = ⊤
IsEndByDevice end = ⊥

-- an end that comes where no answer was that the device failed: a run takes no memory before its
-- first line, so it does not end for want of it
abbrev pub IsOtherEnd : RunEnd → Type 0
IsOtherEnd DeviceFault = ⊥
IsOtherEnd OutOfMemory = ⊥
IsOtherEnd end = ⊤

-- How a run ends, by the answers to its commands.
pub data EndsAfter : RunEnd → List Answered → Type 0 where
  -- none was that the device failed
  at_other_end : (end : RunEnd) (run : List Answered) → IsOtherEnd end → AreAcknowledged run
      → EndsAfter end run
  -- the last was, and it alone
  at_device_fault : (end : RunEnd) (run before : List Answered) (last : Answered)
      → run ≡ before ++ last ∷ [] → AreAcknowledged before → stays_open last.answer ≡ false
      → IsEndByDevice end → EndsAfter end run

-- WHAT A RUN READS AND WRITES
-- What a run did, or a part of it.
pub record RunWork : Type 0 where
  -- the bytes of the output before and after it, where the writer tells them
  pub was : Option (List ℕ)
  pub now : Option (List ℕ)
  -- the commands that the store carried out, with their answers
  pub run : List Answered

-- a run from these bytes of the output to these, by these commands
abbrev pub work_by : Option (List ℕ) → Option (List ℕ) → List Answered → RunWork
work_by was now run = record { was = was; now = now; run = run }

-- what holds of what was written: a writer that failed holds any bytes
abbrev pub UnlessWriterFails : RunEnd → Type 0 → Type 0
UnlessWriterFails WriterFault P = ⊤
UnlessWriterFails end P = P

-- what holds of what is left of the input: a reader that failed leaves any bytes
abbrev pub UnlessReaderFails : RunEnd → Type 0 → Type 0
UnlessReaderFails ReaderFault P = ⊤
UnlessReaderFails end P = P

-- A run wrote what the script of this input writes with these answers, left unread what the script
-- leaves, and had the script's commands carried out, and no other. After a fault of the reader what
-- was written is the replies before it, and after one of the writer the commands are those so far.
pub record WritesScript (lines : ℕ) (input : List ℕ) (left : Option (List ℕ)) (work : RunWork)
    (end : RunEnd) : Type 0 where
  pub unread : List ℕ
  pub out : List ℕ
  pub leaves : UnlessReaderFails end (left ≡ Some unread)
  pub written : UnlessWriterFails end (Appends work.was work.now out)
  pub script : Script lines input out work.run end unread

-- the same where the reader tells its bytes, by what is left of them before and after the run
abbrev pub TellsScript : ℕ → Option (List ℕ) → Option (List ℕ) → RunWork → RunEnd → Type 0
TellsScript lines old new work end = IfSome old (λ input. WritesScript lines input new work end)

-- THE WHOLE
-- What a run of a script comes to: one list of commands, of which everything is said.
pub record RunsScript {S : Type 0} (kept : store.Ghosts S) (lines : ℕ) (streams : Streams)
    (old new : S) (end : RunEnd) : Type 0 where
  pub carried : List (Carried S)
  -- the store carried them out, each answered by the rules, and nothing else
  pub carries_out : CarriesAllOut kept old carried new
  -- the run ended by the device exactly where the last answer was that it failed
  pub ends : EndsAfter end (run_of carried)
  -- they are those of the script, and so are the replies
  pub script : TellsScript lines streams.input.was.left streams.input.now.left
      (work_by streams.output.was.bytes streams.output.now.bytes (run_of carried)) end
  -- a stop leaves the state after a prefix of them, and what was acknowledged stays
  pub stops : kept.sound old → kept.closed old ≡ false → LeftByRun kept old carried new
