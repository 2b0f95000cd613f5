-- What an order does that makes an archive of a script.
use Rattle.std.specs.Prelude.{◌≡◌, ◌≢◌, ◌⊎◌, ℕ, List, [], ◌∷◌, ◌++◌, codes, IsOk, Ok}
use Rattle.tune_disk.specs.Disk.{Medium}
use Rattle.tune_disk.specs.Stops.{LeavesOnly}
use Rattle.tune_disk.specs.declared.disk.Disk as disk
use Rattle.tune_store.specs.State.{State, empty_of}
use Rattle.tune_store.specs.Step.{step}
use Rattle.tune_store.specs.declared.command.Command.{Command}
use Rattle.tune_store.specs.declared.layout.Layout.TheVariants.{Two}
use Rattle.tune_format.specs.States.{Holds}
use Rattle.tune_archive.specs.declared.archive.Counts.{Counts}
use Rattle.tune_scripts.specs.Replies.{line_of}
use Rattle.tune_scripts.specs.Scripts.{reading_of, at_end, blank_line, whole_command}
use Rattle.tune_scripts.specs.Streams.{Streams}
use Rattle.tune_changes.specs.BroughtParts.{loaded_parts}
use Rattle.tune_undo.specs.EntryBytes.{entry_bytes}
use Rattle.tune_undo.specs.OldEntries.{EntryValue}
use Rattle.tune_undo.specs.declared.old_entries.EntryKind.TheVariants.{Load}
use Rattle.tune_undo.specs.declared.old_entries.Part.{Part}
use Rattle.tune_desk.specs.ArchiveFiles.{KeepsEntry, IsBegunArchive, MakesArchiveBy, MakesNoneBy}
use Rattle.tune_desk.specs.ArchiveFiles.{PutsArchiveBy}
use Rattle.tune_desk.specs.DeskDeeds.{DeskDeed, read}
use Rattle.tune_desk.specs.OldTexts.{Grows}
use Rattle.desk_scenes.specs.OpenedFile.{CountsOf}
use Rattle.desk_scenes.specs.Printing.{ReadsAll, WritesNothing, WritesOrFails}
use Rattle.desk_scenes.specs.Scenes.{Scene}

-- WHAT A SCRIPT MEANS
-- These are the commands of a script, all of them in their order: each of its lines has no word, or
-- is a command, with its book behind it where it asks for one.
pub data MeansCommands : List ℕ → List Command → Type 0 where
  ended : (script : List ℕ) → reading_of script ≡ at_end → MeansCommands script []
  after_blank : (script rest : List ℕ) (commands : List Command)
      → reading_of script ≡ blank_line rest → MeansCommands rest commands
      → MeansCommands script commands
  after_command : (script rest : List ℕ) (command : Command) (commands : List Command)
      → reading_of script ≡ whole_command command rest → MeansCommands rest commands
      → MeansCommands script (command ∷ commands)

-- Commands lead from one state to another, each of them accepted.
abbrev pub LeadTo : State → List Command → State → Type 0
LeadTo old [] new = new ≡ old
LeadTo old (command ∷ commands) new =
    IsOk (step old command).1 × LeadTo (step old command).0 commands new

-- THE ARCHIVE
-- What a stop leaves of a disk holds the state to which the commands of a script lead from the
-- empty one, each accepted; these are its numbers, and what an entry of its load says: that each of
-- its tunes and set lists comes.
pub record HoldsScript (script : List ℕ) (medium : Medium) (counts : Counts) (parts : List Part)
    : Type 0 where
  pub commands : List Command
  pub state : State
  pub means : MeansCommands script commands
  pub leads : LeadTo (empty_of Two) commands state
  pub holds : LeavesOnly medium (λ left. Holds left state)
  pub counted : CountsOf counts state
  pub come : parts ≡ loaded_parts state

-- the entry of a load
abbrev pub entry_of_load : List Part → EntryValue
entry_of_load parts = record { kind = Load; parts = parts }

-- It was put at the end of the book of old texts of FILE, and the device keeps it; of an archive in
-- which nothing is there is none.
abbrev pub KeepsLoad : {D : Type 0} → List ℕ → List Part → List (DeskDeed D) → List (DeskDeed D)
    → Type 0
KeepsLoad file [] was now = now ≡ was
KeepsLoad file (part ∷ parts) was now =
    Grows file (entry_bytes (entry_of_load (part ∷ parts))) was now

-- Such an archive was put where FILE leads: TARGET.new was made, then the entry was kept, and then
-- it got its name.
pub record PutsScript {D : Type 0} (disks : disk.Ghosts D) (file script : List ℕ) (counts : Counts)
    (was now : List (DeskDeed D)) : Type 0 where
  pub disk : D
  pub parts : List Part
  pub target : List ℕ
  pub filled : List (DeskDeed D)
  pub makes : MakesArchiveBy KeepsEntry file was now
  pub begun : IsBegunArchive file target was filled
  pub puts : PutsArchiveBy KeepsEntry file disk was now
  pub keeps : KeepsLoad file parts filled puts.mid
  pub loads : disks.honest disk → HoldsScript script (disks.state disk).now counts parts

-- THE ORDER
-- A script was read: standard input to its end, for the path `-`, or the file of a path.
abbrev pub ReadsScript : {D : Type 0} → List ℕ → List ℕ → Streams → List (DeskDeed D)
    → List (DeskDeed D) → Type 0
ReadsScript path script streams was now =
    ((path ≡ codes "-") × ReadsAll streams script × (now ≡ was))
    ⊎ ((path ≢ codes "-") × (streams.input.now ≡ streams.input.was)
    × (now ≡ was ++ read path (Ok script) ∷ []))

-- A script was read, its archive put where FILE leads, behind the entry of all that it holds, and
-- how much that is was printed, or could not be.
pub record LoadsScript {D : Type 0} (disks : disk.Ghosts D) (file path : List ℕ) (scene : Scene D)
    : Type 0 where
  pub script : List ℕ
  pub counts : Counts
  pub mid : List (DeskDeed D)
  pub makes : MakesArchiveBy KeepsEntry file scene.was scene.now
  pub reads : ReadsScript path script scene.streams scene.was mid
  pub puts : PutsScript disks file script counts mid scene.now
  pub prints : WritesOrFails scene.streams
      (line_of counts.layout counts.tunes counts.sets) scene.status
      ⊎ (WritesNothing scene.streams × (scene.status ≢ 0))

-- THE THEOREM OF A LOAD: this was done; or no archive was put where FILE leads, and the status says
-- so.
abbrev pub Loads : {D : Type 0} → disk.Ghosts D → List ℕ → List ℕ → Scene D → Type 0
Loads disks file path scene = LoadsScript disks file path scene
    ⊎ (MakesNoneBy KeepsEntry file scene.was scene.now × WritesNothing scene.streams
    × (scene.status ≢ 0))
