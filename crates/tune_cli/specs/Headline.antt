-- THE HEADLINE: what the program does for its words, over what a disk is, what is read and what is
-- written. FILE holds a state. Each file that a stop (a crash or power loss) leaves, at any moment
-- since the program asked for FILE, holds the state after the first so many commands: all that were
-- answered by then, and the next one or not. Each answer is that of `step`, or memory or the device
-- failed, and a refused command changes nothing. What is written is the answers.
use Rattle.std.specs.Prelude.{◌≡◌, ◌⊎◌, ℕ, ◌<◌, ◌≤◌, List, [], ◌∷◌, codes, string_bytes, map}
use Rattle.std.specs.Prelude.{Some}
use Rattle.tune_disk.specs.Deeds.{opened, created}
use Rattle.tune_disk.specs.Disk.{DiskState, MayLeave}
use Rattle.tune_disk.specs.Stops.{LeavesOnly}
use Rattle.tune_disk.specs.declared.disk.Disk as disk
use Rattle.tune_journal.specs.declared.open_fault.OpenFault.{OpenFault}
use Rattle.tune_journal.specs.declared.open_fault.OpenFault.TheVariants as fault
use Rattle.tune_store.specs.State.{State, empty_of, empty_state}
use Rattle.tune_store.specs.declared.layout.Layout.TheVariants.{Two}
use Rattle.tune_store.specs.declared.command.Command.TheVariants.{Upgrade}
use Rattle.tune_format.specs.States.{Holds}
use Rattle.tune_archive.specs.Media.{moment_of, LeftAt}
use Rattle.tune_scripts.specs.Timelines.{Timed, Timeline, RisesTo, AreAnswered, StandsForFirst}
use Rattle.tune_scripts.specs.Timelines.{answered_of}
use Rattle.tune_scripts.specs.Looks.{TellsFaults}
use Rattle.tune_scripts.specs.Limits.{most_lines}
use Rattle.tune_scripts.specs.Replies.{answer_bytes}
use Rattle.tune_scripts.specs.ScriptRuns.{TellsScript, work_by}
use Rattle.tune_scripts.specs.Streams.{Streams}
use Rattle.tune_scripts.specs.declared.script_runs.RunEnd.{RunEnd}
use Rattle.tune_cli.specs.Acts.{Deeds, OnFile}
use Rattle.tune_cli.specs.ProgramLines.{WritesLine, reason_bytes, status_of, status_of_opening}
use Rattle.tune_cli.specs.ProgramLines.{counts_bytes, status_of_answer}
use Rattle.tune_cli.specs.declared.command_line.Action.{Action}
use Rattle.tune_cli.specs.declared.command_line.Action.TheVariants as action
use Rattle.tune_cli.specs.declared.file_actions.Done.{Done}

-- COMMANDS AND ANSWERS
-- Which commands there were, what was written, and the status. A script asks for its commands, and
-- what is written is their answers, up to a fault of the reader or the writer. `check` asks for no
-- command, and tells how much FILE holds; `upgrade` asks for one.
abbrev pub Says : Action → Streams → Timeline → ℕ → Type 0
Says (action.Check file) streams timeline status =
    (timeline.run ≡ []) × WritesLine streams (counts_bytes timeline.start) 0 status
Says (action.Upgrade file) streams timeline status =
    (next : Timed) × (timeline.run ≡ next ∷ []) × (next.command ≡ Upgrade)
    × WritesLine streams (answer_bytes next.answer) (status_of_answer next.answer) status
Says script streams timeline status =
    (end : RunEnd) × (status ≡ status_of end) × TellsFaults streams (Some end)
    × TellsScript most_lines streams.input.was.left streams.input.now.left
    (work_by streams.output.was.bytes streams.output.now.bytes (map answered_of timeline.run)) end

-- FILE, AND WHAT STOPS LEAVE OF IT
-- FILE on its disk, before an action and after it.
pub record File : Type 0 where
  pub was : DiskState
  pub now : DiskState

-- A stop at any moment since the action began leaves files of this kind alone.
abbrev pub EachStopLeaves : File → (ℕ → List ℕ → Type 0) → Type 0
EachStopLeaves file Kind = (moment : ℕ) (left : List ℕ) → moment_of file.was ≤ moment
    → LeftAt file.now moment left → Kind moment left

-- FILE held the state with which a timeline of commands starts. Each file that a stop leaves holds
-- the state after those that were answered by then, and the next one or not; while FILE was still
-- being opened it may also be one that a stop might have left before.
pub record HoldsThroughout (file : File) (timeline : Timeline) : Type 0 where
  pub held : Holds file.was.seen timeline.start
  pub opened : moment_of file.was ≤ timeline.began
  pub rises : RisesTo timeline.began timeline.run (moment_of file.now)
  pub answered : AreAnswered timeline.start timeline.run
  pub stops : EachStopLeaves file (λ moment left. StandsForFirst Holds timeline moment left
      ⊎ ((moment < timeline.began) × MayLeave file.was.now left))

-- WHAT COMES OF AN ACTION ON FILE
-- It was opened, and so it was done.
pub record IsDone (given : Action) (streams : Streams) (file : File) (status : ℕ) : Type 0 where
  pub timeline : Timeline
  pub holds : HoldsThroughout file timeline
  pub says : Says given streams timeline status

-- It was not, and why. A file that holds a state is refused for want of memory, or because the
-- device failed; and a stop leaves a file that it might have left before, or one that holds the
-- state. A file that is no archive has the same bytes as before.
pub record IsRefused (streams : Streams) (file : File) (status : ℕ) : Type 0 where
  pub why : OpenFault
  pub line : WritesLine streams (reason_bytes why) (status_of_opening why) status
  pub cause : (state : State) → Holds file.was.seen state
      → (why ≡ fault.OutOfMemory) ⊎ (why ≡ fault.Device)
  pub unwritten : why ≡ fault.NotArchive → file.now.seen ≡ file.was.seen
  pub stops : EachStopLeaves file (λ moment left. MayLeave file.was.now left
      ⊎ ((state : State) → Holds file.was.seen state → Holds left state))

-- An empty archive was made, of a file without a byte.
pub record IsMade (streams : Streams) (file : File) (status : ℕ) : Type 0 where
  pub line : WritesLine streams (codes "made\n") 0 status
  pub empty : file.was.seen ≡ []
  pub holds : LeavesOnly file.now.now (λ left. Holds left (empty_of Two))

-- It was not, and why.
pub record IsNotMade (streams : Streams) (file : File) (status : ℕ) : Type 0 where
  pub why : OpenFault
  pub line : WritesLine streams (reason_bytes why) (status_of_opening why) status
  pub unwritten : why ≡ fault.NotEmpty → file.now.seen ≡ file.was.seen

-- Where FILE was empty, a stop leaves a file that holds nothing, or the empty state.
abbrev pub Makes : Streams → File → ℕ → Type 0
Makes streams file status = (IsMade streams file status ⊎ IsNotMade streams file status)
    × (LeavesOnly file.was.now (λ left. left ≡ []) → EachStopLeaves file
    (λ moment left. (state : State) → Holds left state → state ≡ empty_of Two))

-- what an action does with FILE
abbrev pub Does : Action → Streams → File → ℕ → Type 0
Does (action.Make file) streams made status = Makes streams made status
Does given streams file status =
    IsDone given streams file status ⊎ IsRefused streams file status

-- by what disks of a kind tell, where the disk that came of it is honest
abbrev pub DoesOn : {D : Type 0} → disk.Ghosts D → Action → Streams → D → Done D → Type 0
DoesOn disks given streams old done = disks.honest done.disk
    → Does given streams (record { was = disks.state old; now = disks.state done.disk }) done.status

-- THE PROGRAM
-- A script was run in memory, from the empty state.
pub record RunsInMemory (streams : Streams) (status : ℕ) : Type 0 where
  pub timeline : Timeline
  pub starts : timeline.start ≡ empty_state
  pub answered : AreAnswered empty_state timeline.run
  pub says : Says action.List streams timeline status

-- What the program does for an action: of a script in memory there are the answers alone; else it
-- asks a drive for FILE, and for no other file.
abbrev pub Headline : {D : Type 0} → disk.Ghosts D → Action → Streams → Deeds D → ℕ → Type 0
Headline disks action.List streams deeds status =
    RunsInMemory streams status × (deeds.now ≡ deeds.was)
Headline disks (action.Make file) streams deeds status = OnFile created (string_bytes file)
    (DoesOn disks (action.Make file) streams) streams deeds status
Headline disks (action.Run file) streams deeds status = OnFile opened (string_bytes file)
    (DoesOn disks (action.Run file) streams) streams deeds status
Headline disks (action.Check file) streams deeds status = OnFile opened (string_bytes file)
    (DoesOn disks (action.Check file) streams) streams deeds status
Headline disks (action.Upgrade file) streams deeds status = OnFile opened (string_bytes file)
    (DoesOn disks (action.Upgrade file) streams) streams deeds status
