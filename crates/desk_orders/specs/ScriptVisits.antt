-- What a script does with FILE, which was opened to read alone.
use Rattle.std.specs.Prelude.{◌≡◌, ◌⊎◌, ℕ, false}
use Rattle.std.specs.List.{AllByRecursion}
use Rattle.tune_disk.specs.declared.disk.Disk as disk
use Rattle.tune_store.specs.Answers.{may_write}
use Rattle.tune_scripts.specs.Streams.{Streams}
use Rattle.tune_scripts.specs.Timelines.{Timeline}
use Rattle.tune_cli.specs.Headline.{File, HoldsThroughout, IsRefused, Says}
use Rattle.tune_cli.specs.declared.command_line.Action.TheVariants as action
use Rattle.tune_cli.specs.declared.file_actions.Done.{Done}
use Rattle.desk_scenes.specs.Visits.{IsSpared}

-- each command was a question, or it was refused, and not because the device failed
abbrev pub LeaveAll : Timeline → Type 0
LeaveAll timeline =
    AllByRecursion (λ next. may_write next.command next.answer ≡ false) timeline.run

-- The script was run: its commands, their answers, and what stops leave of FILE are those of one
-- timeline, as the headline says. Where each command leaves all as it is, FILE is spared.
pub record RunsSparing (streams : Streams) (file : File) (status : ℕ) : Type 0 where
  pub timeline : Timeline
  pub holds : HoldsThroughout file timeline
  pub says : Says action.List streams timeline status
  pub spares : LeaveAll timeline → IsSpared file

-- FILE held an archive, on which the script was run; or it was refused, and is spared.
abbrev pub RunsOrRefuses : Streams → File → ℕ → Type 0
RunsOrRefuses streams file status =
    RunsSparing streams file status ⊎ (IsRefused streams file status × IsSpared file)

-- the same of FILE on a disk, where the disk is honest
abbrev pub AsksScript : {D : Type 0} → disk.Ghosts D → Streams → D → Done D → Type 0
AsksScript disks streams old done = disks.honest done.disk → RunsOrRefuses streams
    (record { was = disks.state old; now = disks.state done.disk }) done.status
