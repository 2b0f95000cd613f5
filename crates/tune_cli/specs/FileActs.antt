-- What the program does with an archive in a file, over any disk: by what such disks tell, what was
-- written, the disk before it (`old`), and the disk after it with the status (`done`).
use Rattle.std.specs.Prelude.{◌≡◌, ◌≢◌, ◌⊎◌, ℕ, List, [], ◌∷◌, codes, true, false, Some, Result}
use Rattle.tune_disk.specs.Disk.{DiskState}
use Rattle.tune_disk.specs.Stops.{LeavesOnly, SinceThen}
use Rattle.tune_disk.specs.declared.disk.Disk as disk
use Rattle.tune_journal.specs.Making.{IsEmptyFile}
use Rattle.tune_journal.specs.Moments.{LeftOrSame}
use Rattle.tune_journal.specs.FileOffsets.{gate_open}
use Rattle.tune_journal.specs.Image.{gate_of}
use Rattle.tune_journal.specs.Refusal.{CountsFailureIf, CountsFailureWhere, IsUnwritten}
use Rattle.tune_journal.specs.declared.open_fault.OpenFault.{OpenFault}
use Rattle.tune_pages.specs.Kept.{state_at}
use Rattle.tune_pages.specs.OpenedPages.{IsUnmadePagesFor}
use Rattle.tune_store.specs.State.{State, empty_of}
use Rattle.tune_store.specs.declared.layout.Layout.TheVariants.{Two}
use Rattle.tune_store.specs.Stores.{standing_of}
use Rattle.tune_store.specs.declared.command.Command.TheVariants.{Upgrade}
use Rattle.tune_store.specs.declared.command.Reply.{Reply}
use Rattle.tune_store.specs.declared.command.Refusal.{Refusal}
use Rattle.tune_format.specs.States.{Holds}
use Rattle.tune_archive.specs.AsStore.{store_on}
use Rattle.tune_archive.specs.OpenedArchive.{IsUnopenedArchiveFor, StandsForNoneOrEmpty}
use Rattle.tune_archive.specs.OpenedArchive.{KeepsStates}
use Rattle.tune_archive.specs.Media.{moment_of, LeftFrom}
use Rattle.tune_archive.specs.Shelf.{Shelf, state_of}
use Rattle.tune_scripts.specs.Carried.{Carried, IsCarried, LeftByRun, run_of}
use Rattle.tune_scripts.specs.Limits.{most_lines}
use Rattle.tune_scripts.specs.Prefixes.{StandsForPrefix}
use Rattle.tune_scripts.specs.Replies.{answer_bytes, line_of}
use Rattle.tune_scripts.specs.ScriptRuns.{RunsScript}
use Rattle.tune_scripts.specs.Looks.{TellsFaults, LooksFlushed, LooksPromptly}
use Rattle.tune_scripts.specs.Streams.{Streams}
use Rattle.tune_scripts.specs.declared.script_runs.RunEnd.{RunEnd}
use Rattle.tune_cli.specs.ProgramLines.{WritesLine, reason_bytes, status_of, status_of_opening}
use Rattle.tune_cli.specs.ProgramLines.{counts_bytes, status_of_answer}
use Rattle.tune_cli.specs.declared.file_actions.Done.{Done}

-- MAKE
-- An archive was made: a stop now leaves the empty one, and no call of the disk failed.
pub record HasMade {D : Type 0} (disks : disk.Ghosts D) (streams : Streams) (old : D)
    (done : Done D) : Type 0 where
  pub line : WritesLine streams (codes "made\n") 0 done.status
  pub empty : disks.honest done.disk → (disks.state old).seen ≡ []
  pub rest : disks.honest done.disk → LeavesOnly (disks.state done.disk).now
      (λ file. Holds file (empty_of Two))
  pub counted : disks.failures done.disk ≡ disks.failures old

-- It was not, and why.
pub record HasNotMade {D : Type 0} (disks : disk.Ghosts D) (streams : Streams) (old : D)
    (done : Done D) : Type 0 where
  pub why : OpenFault
  pub line : WritesLine streams (reason_bytes why) (status_of_opening why)
      done.status
  pub refused : disks.honest done.disk
      → IsUnmadePagesFor why (disks.state old) (disks.state done.disk)
  pub counted : CountsFailureIf why (disks.failures old) (disks.failures done.disk)

-- An archive was made, or not; meanwhile a stop leaves none or an empty one.
pub record Makes {D : Type 0} (disks : disk.Ghosts D) (streams : Streams) (old : D)
    (done : Done D) : Type 0 where
  pub moments : disks.honest done.disk → LeavesOnly (disks.state old).now IsEmptyFile
      → SinceThen (disks.state old) (disks.state done.disk) StandsForNoneOrEmpty
  pub made : HasMade disks streams old done ⊎ HasNotMade disks streams old done

-- OPENING
-- An archive was not opened, and why; meanwhile a stop leaves what it might have left before, or
-- the same pages as the disk showed, and so the same states.
pub record HasNotOpened {D : Type 0} (disks : disk.Ghosts D) (streams : Streams) (old : D)
    (done : Done D) : Type 0 where
  pub why : OpenFault
  pub line : WritesLine streams (reason_bytes why) (status_of_opening why)
      done.status
  pub refused : disks.honest done.disk
      → IsUnopenedArchiveFor why (disks.state old) (disks.state done.disk)
  pub counted : CountsFailureWhere (disks.honest done.disk) why
      (disks.failures old) (disks.failures done.disk)
  pub leaves : disks.honest done.disk
      → SinceThen (disks.state old) (disks.state done.disk) (LeftOrSame (disks.state old))
  pub moments : disks.honest done.disk → KeepsStates (disks.state old) (disks.state done.disk)
  -- behind a closed gate nothing was written
  pub untouched : disks.honest done.disk → gate_of (disks.state old).seen ≢ gate_open
      → IsUnwritten (disks.state old) (disks.state done.disk)

-- CHECK
-- The disk stands for this state, and how much that holds was written; a stop now leaves it.
pub record TellsState (old new : DiskState) (streams : Streams) (status : ℕ) : Type 0 where
  pub held : State
  pub stands : Holds old.seen held
  pub line : WritesLine streams (counts_bytes held) 0 status
  pub rest : LeavesOnly new.now (λ file. Holds file held)

-- The archive was opened; meanwhile a stop leaves what it might have left before, or the same pages
-- as the disk showed, and so the same states; and no call of the disk failed.
pub record HasChecked {D : Type 0} (disks : disk.Ghosts D) (streams : Streams) (old : D)
    (done : Done D) : Type 0 where
  -- on any disk counts were written
  pub said : (layout tunes sets : ℕ) × WritesLine streams (line_of layout tunes sets) 0 done.status
  pub tells : disks.honest done.disk
      → TellsState (disks.state old) (disks.state done.disk) streams done.status
  pub counted : disks.failures done.disk ≡ disks.failures old
  pub leaves : disks.honest done.disk
      → SinceThen (disks.state old) (disks.state done.disk) (LeftOrSame (disks.state old))
  pub moments : disks.honest done.disk → KeepsStates (disks.state old) (disks.state done.disk)
  -- behind a closed gate nothing was written
  pub untouched : disks.honest done.disk → gate_of (disks.state old).seen ≢ gate_open
      → IsUnwritten (disks.state old) (disks.state done.disk)

-- It was, or it was not.
abbrev pub Checks : {D : Type 0} → disk.Ghosts D → Streams → D → Done D → Type 0
Checks disks streams old done =
    HasChecked disks streams old done ⊎ HasNotOpened disks streams old done

-- RUN
-- A script was run on the archive of a disk, from its opening to its end.
pub record RanScript {D : Type 0} (disks : disk.Ghosts D) (streams : Streams) (old new : D)
    (end : RunEnd) : Type 0 where
  -- the archive as it was opened, and as it was at the end
  pub before : Shelf D
  pub after : Shelf D
  -- it was opened with the state that the disk stood for; meanwhile a stop leaves what it might
  -- have left before, or the same pages as the disk showed
  pub opened : Holds (disks.state old).seen (state_of disks.state before)
  pub opening : SinceThen (disks.state old) (state_at disks.state before.pages.disk)
      (LeftOrSame (disks.state old))
  pub is_open : before.closed ≡ false
  -- then one list of commands was carried out, of which everything is said
  pub runs : RunsScript (store_on disks) most_lines streams before after end
  -- whenever the input was looked at, the lines that were taken whole had been answered
  pub prompt : streams.output.was.flushed ≡ true
      → LooksPromptly (standing_of (store_on disks) before) streams
  -- a stop since a command was answered leaves a state that holds it, and one at the end the last
  pub stops : LeftByRun (store_on disks) before runs.carried after
  -- where each file that a stop may leave at the start stands for one state, a stop at any moment,
  -- while the archive was opened too, leaves the state after a prefix of the commands
  pub since_start : (start : State)
      → LeavesOnly (disks.state old).now (λ file. Holds file start)
      → (file : List ℕ) → LeftFrom (disks.state new) (moment_of (disks.state old)) file
      → StandsForPrefix Holds start [] (run_of runs.carried) file
  -- the disk that is handed back is that of the archive
  pub held : after.pages.disk ≡ Some new

-- The archive was opened and the script run, with the status of its end.
pub record HasRun {D : Type 0} (disks : disk.Ghosts D) (streams : Streams) (old : D)
    (done : Done D) : Type 0 where
  pub end : RunEnd
  pub ends : done.status ≡ status_of end
  -- on any disk: the end is by a fault just where one was counted, and whenever the input was
  -- looked at, all that was written had been flushed
  pub faults : TellsFaults streams (Some end)
  pub looks : streams.output.was.flushed ≡ true → LooksFlushed streams
  pub ran : disks.honest done.disk → RanScript disks streams old done.disk end

-- It was, or it was not opened.
abbrev pub RunsOn : {D : Type 0} → disk.Ghosts D → Streams → D → Done D → Type 0
RunsOn disks streams old done =
    HasRun disks streams old done ⊎ HasNotOpened disks streams old done

-- UPGRADE
-- The archive of a disk was brought to layout 2, from its opening on.
pub record Upgraded {D : Type 0} (disks : disk.Ghosts D) (streams : Streams) (old new : D)
    (status : ℕ) : Type 0 where
  -- the archive as it was opened, the command with its answer, and the archive after it
  pub before : Shelf D
  pub carried : Carried (Shelf D)
  pub asked : carried.command ≡ Upgrade
  -- it was opened with the state that the disk stood for; meanwhile a stop leaves what it might
  -- have left before, or the same pages as the disk showed
  pub opened : Holds (disks.state old).seen (state_of disks.state before)
  pub opening : SinceThen (disks.state old) (state_at disks.state before.pages.disk)
      (LeftOrSame (disks.state old))
  pub is_open : before.closed ≡ false
  -- then that one command was carried out, and its answer written
  pub carries_out : IsCarried (store_on disks) before carried
  pub line : WritesLine streams (answer_bytes carried.answer)
      (status_of_answer carried.answer) status
  -- a stop since then leaves the state before it or after it, and the one after it once answered
  pub stops : LeftByRun (store_on disks) before (carried ∷ []) carried.after
  -- where each file that a stop may leave at the start stands for one state, a stop at any moment,
  -- while the archive was opened too, leaves that state, or the one after the command
  pub since_start : (start : State)
      → LeavesOnly (disks.state old).now (λ file. Holds file start)
      → (file : List ℕ) → LeftFrom (disks.state new) (moment_of (disks.state old)) file
      → StandsForPrefix Holds start [] (run_of (carried ∷ [])) file
  -- the disk that is handed back is that of the archive
  pub held : carried.after.pages.disk ≡ Some new

-- The archive was opened and the command carried out.
pub record HasUpgraded {D : Type 0} (disks : disk.Ghosts D) (streams : Streams) (old : D)
    (done : Done D) : Type 0 where
  -- on any disk the command was answered, and the answer written
  pub said : (answer : Result Reply Refusal)
      × WritesLine streams (answer_bytes answer) (status_of_answer answer) done.status
  pub upgraded : disks.honest done.disk → Upgraded disks streams old done.disk done.status

-- It was, or it was not opened.
abbrev pub UpgradesOrNot : {D : Type 0} → disk.Ghosts D → Streams → D → Done D → Type 0
UpgradesOrNot disks streams old done =
    HasUpgraded disks streams old done ⊎ HasNotOpened disks streams old done
