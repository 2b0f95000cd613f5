-- What the program does for an action, and its status.
use Rattle.std.specs.Prelude.{◌≡◌, ℕ, List, [], ◌∷◌, ◌++◌, true, Some, Result, MatchResult}
use Rattle.std.specs.Prelude.{string_bytes}
use Rattle.tune_disk.specs.Deeds.{Deed, opened, created, closed}
use Rattle.tune_disk.specs.declared.disk.DeviceFault.{DeviceFault}
use Rattle.tune_disk.specs.declared.disk.Disk as disk
use Rattle.tune_disk.specs.declared.drive.Drive as drive
use Rattle.tune_journal.specs.declared.open_fault.OpenFault.TheVariants.{Device}
use Rattle.tune_store.specs.State.{State, empty_state}
use Rattle.tune_store.specs.Answers.{open_at}
use Rattle.tune_store.specs.Runs.{Answered, Runs}
use Rattle.tune_scripts.specs.Limits.{most_lines}
use Rattle.tune_scripts.specs.ScriptRuns.{work_by, TellsScript, IsOtherEnd}
use Rattle.tune_scripts.specs.Looks.{TellsFaults, LooksFlushed, LooksPromptly}
use Rattle.tune_scripts.specs.Streams.{Streams}
use Rattle.tune_scripts.specs.declared.script_runs.RunEnd.{RunEnd}
use Rattle.tune_cli.specs.FileActs.{Makes, Checks, RunsOn, UpgradesOrNot}
use Rattle.tune_cli.specs.ProgramLines.{WritesLine, reason_bytes, status_of}
use Rattle.tune_cli.specs.declared.command_line.Action.{Action}
use Rattle.tune_cli.specs.declared.command_line.Action.TheVariants as action
use Rattle.tune_cli.specs.declared.file_actions.Done.{Done}

-- A script was run from an empty archive, and the status tells how the run ended. One list of
-- commands is spoken of, and of every reader: the archive carried them out one after another, each
-- answered by the rules, stayed open, and no device failed. Where the reader tells its bytes, they
-- are the script's, the output is their replies, and what the script leaves of the input is unread.
pub record ListsScript (streams : Streams) (status : ℕ) : Type 0 where
  pub end : RunEnd
  pub run : List Answered
  pub state : State
  pub ends : status ≡ status_of end
  pub carries_out : Runs (open_at empty_state) run (open_at state)
  pub no_fault : IsOtherEnd end
  pub output : TellsScript most_lines streams.input.was.left streams.input.now.left
      (work_by streams.output.was.bytes streams.output.now.bytes run) end
  pub faults : TellsFaults streams (Some end)
  pub prompt : streams.output.was.flushed ≡ true → LooksPromptly (open_at empty_state) streams
  pub looks : streams.output.was.flushed ≡ true → LooksFlushed streams

-- What a drive had been asked before a call, and after it, and what is known of a disk that it has
-- just opened.
pub record Deeds (D : Type 0) : Type 1 where
  pub was : List (Deed D)
  pub now : List (Deed D)
  pub IsNew : D → Type 0

-- those of a drive
abbrev pub deeds_in : {T D : Type 0} → drive.Ghosts T D → T → T → Deeds D
deeds_in kept old new =
    record { was = kept.deeds old; now = kept.deeds new; IsNew = kept.is_new }

-- A drive was asked for the disk of this path, and for nothing else. It gave one, on which this was
-- done, with this status, and the disk that came of it was closed; or it gave none, and that was
-- written.
abbrev pub OnFile : {D : Type 0} → (List ℕ → Result D DeviceFault → Deed D) → List ℕ
    → (D → Done D → Type 0) → Streams → Deeds D → ℕ → Type 0
OnFile {D} asking path Does streams deeds status =
    (answer : Result D DeviceFault) × MatchResult answer
    (λ old. (done : Done D) × deeds.IsNew old × Does old done × (status ≡ done.status)
    × (deeds.now ≡ deeds.was ++ asking path answer ∷ closed path done.disk ∷ []))
    (λ _. WritesLine streams (reason_bytes Device) 1 status
    × (deeds.now ≡ deeds.was ++ asking path answer ∷ []))

-- What an action does with the input and the output, what it asks of a drive, and the status that
-- it gives: of the file of its path, once, and of no other file.
abbrev pub Acts : {D : Type 0} → disk.Ghosts D → Action → Streams → Deeds D → ℕ → Type 0
Acts disks action.List streams deeds status =
    ListsScript streams status × (deeds.now ≡ deeds.was)
Acts disks (action.Make file) streams deeds status =
    OnFile created (string_bytes file) (Makes disks streams) streams deeds status
Acts disks (action.Run file) streams deeds status =
    OnFile opened (string_bytes file) (RunsOn disks streams) streams deeds status
Acts disks (action.Check file) streams deeds status =
    OnFile opened (string_bytes file) (Checks disks streams) streams deeds status
Acts disks (action.Upgrade file) streams deeds status =
    OnFile opened (string_bytes file) (UpgradesOrNot disks streams) streams deeds status
