-- What is done with the archive in a file, and what a drive is asked for it.
use Rattle.std.specs.Prelude.{ℕ, List, Result}
use Rattle.tune_disk.specs.Deeds.{Deed, opened, created}
use Rattle.tune_disk.specs.declared.disk.DeviceFault.{DeviceFault}
use Rattle.tune_disk.specs.declared.disk.Disk as disk
use Rattle.tune_scripts.specs.Streams.{Streams}
use Rattle.tune_cli.specs.FileActs.{Makes, Checks, RunsOn, UpgradesOrNot}
use Rattle.tune_cli.specs.declared.file_actions.Done.{Done}
use Rattle.tune_cli.specs.declared.file_actions.FileAction.{FileAction}
use Rattle.tune_cli.specs.declared.file_actions.FileAction.TheVariants as what

abbrev pub Does : {D : Type 0} → disk.Ghosts D → FileAction → Streams → D → Done D → Type 0
Does disks what.Make streams old done = Makes disks streams old done
Does disks what.Run streams old done = RunsOn disks streams old done
Does disks what.Check streams old done = Checks disks streams old done
Does disks what.Upgrade streams old done = UpgradesOrNot disks streams old done

-- a file that an archive is made in may have to be made
abbrev pub asking_to : {D : Type 0} → FileAction → List ℕ → Result D DeviceFault → Deed D
asking_to what.Make path answer = created path answer
asking_to other path answer = opened path answer
