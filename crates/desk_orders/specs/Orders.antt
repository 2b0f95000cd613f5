-- What is done for an order.
use Rattle.std.specs.Prelude.{◌≡◌, ◌≢◌, ◌⊎◌, ℕ, Bool, true, false, List, [], ◌∷◌, ◌++◌, codes}
use Rattle.std.specs.Prelude.{if◌then◌else◌, Option, Some, None, Result, Ok, Err, String, ⊤}
use Rattle.std.specs.Prelude.{decimal, MatchResult, string_bytes}
use Rattle.std.specs.List.{AllByRecursion}
use Rattle.std.specs.Str.{bytes_eq}
use Rattle.tune_disk.specs.declared.disk.Disk as disk
use Rattle.tune_disk.specs.declared.file.Access.TheVariants.{Read}
use Rattle.tune_books.specs.WrittenBooks.{written_tune}
use Rattle.tune_store.specs.State.{State, tune_at}
use Rattle.tune_store.specs.declared.tune.Tune.{Tune}
use Rattle.tune_scripts.specs.Streams.{Streams}
use Rattle.tune_cli.specs.FileActs.{RunsOn}
use Rattle.tune_cli.specs.ProgramLines.{counts_bytes}
use Rattle.tune_cli.specs.declared.file_actions.Done.{Done}
use Rattle.tune_desk.specs.DeskDeeds.{DeskDeed, opened, closed, ChangesNothing}
use Rattle.tune_desk.specs.ArchiveFiles.{KeepsEntry, MakesArchive, MakesArchiveBy}
use Rattle.tune_desk.specs.Results.{Places, result_places, SparesFiles, WritesTarget}
use Rattle.tune_desk.specs.Refusals.{Refuses}
use Rattle.tune_desk.specs.declared.desk.DeskFault.{DeskFault}
use Rattle.tune_desk.specs.declared.refusals.ResultFault.{ResultFault}
use Rattle.desk_questions.specs.Told.{told}
use Rattle.desk_terms.specs.declared.alteration.Alteration.{Alteration}
use Rattle.tune_changes.specs.Planning.{planned_by}
use Rattle.desk_changes.specs.ChangedFiles.{ChangesFile}
use Rattle.desk_changes.specs.Kinds.{kind_of_alteration}
use Rattle.desk_backups.specs.BackupFiles.{SparesCopies}
use Rattle.desk_backups.specs.Backups.{Backs}
use Rattle.desk_backups.specs.CheckedCopies.{TellsCopy}
use Rattle.desk_changes.specs.ReplacedTunes.{ReplacesTune}
use Rattle.desk_changes.specs.Undone.{Undoes}
use Rattle.desk_copies.specs.Made.{MakesEmpty}
use Rattle.desk_copies.specs.Restored.{Restores}
use Rattle.desk_loads.specs.LoadedScripts.{Loads}
use Rattle.desk_loads.specs.Upgraded.{Upgrades}
use Rattle.desk_words.specs.declared.asked.Order.{Order}
use Rattle.desk_words.specs.declared.asked.Order.TheVariants as order
use Rattle.desk_words.specs.declared.asked.Target.{Target}
use Rattle.desk_books.specs.AddedBooks.{Adds}
use Rattle.desk_books.specs.CheckedBooks.{TellsPaths}
use Rattle.desk_books.specs.Stages.{Stage}
use Rattle.desk_scenes.specs.FileAnswers.{Did, IsAsked, IsUnasked}
use Rattle.desk_scenes.specs.Printing.{WritesOrFails, Prints, WritesNothing, IsSilent, ReadsAll}
use Rattle.desk_orders.specs.ScriptVisits.{AsksScript}
use Rattle.desk_scenes.specs.Scenes.{Scene, IsQuiet, WritesResult}
use Rattle.desk_scenes.specs.Visits.{visit, failed_visit}

-- how far it was at its beginning, and at its end
abbrev pub stage_before : {D : Type 0} → Scene D → Stage D
stage_before scene = record {
  deeds = scene.was;
  input = scene.streams.input.was;
  output = scene.streams.output.was;
}

abbrev pub stage_after : {D : Type 0} → Scene D → Stage D
stage_after scene = record {
  deeds = scene.now;
  input = scene.streams.input.now;
  output = scene.streams.output.now;
}

-- QUESTIONS
-- FILE was not asked, or it refused to tell: nothing was printed, and the status says so.
abbrev pub IsUntold : {D : Type 0} → disk.Ghosts D → List ℕ → Scene D → Type 0
IsUntold disks file scene = Did scene.was scene.now (IsUnasked disks file)
    × IsSilent scene.streams × (scene.status ≢ 0)

-- FILE was asked, and what it told was printed; or not.
abbrev pub TellsAnswer : {D : Type 0} → disk.Ghosts D → List ℕ → (State → List ℕ → Type 0) → Scene D
    → Type 0
TellsAnswer disks file Told scene = ((bytes : List ℕ)
    × Did scene.was scene.now (IsAsked disks file (λ state. Told state bytes))
    × Prints scene.streams bytes scene.status)
    ⊎ IsUntold disks file scene

-- RESULTS
-- the files of an order whose result goes to a target
abbrev pub places_to : List ℕ → Target → Places
places_to file target =
    record { file = file; out = Some (string_bytes target.out); force = target.force }

-- A result goes where a target says: to standard output, or to a file.
abbrev pub DeliversRead : {D : Type 0} → List ℕ → Target → List ℕ → Scene D → Type 0
DeliversRead file target bytes scene =
    ((string_bytes target.out ≡ codes "-") × (scene.now ≡ scene.was)
    × WritesOrFails scene.streams bytes scene.status)
    ⊎ ((string_bytes target.out ≢ codes "-") × WritesNothing scene.streams
    × WritesResult (places_to file target) bytes scene.was scene.now scene.status)

-- And nothing is read.
abbrev pub Delivers : {D : Type 0} → List ℕ → Target → List ℕ → Scene D → Type 0
Delivers file target bytes scene =
    (scene.streams.input.now ≡ scene.streams.input.was) × DeliversRead file target bytes scene

-- FILE was asked, and what it told was written where a target says; or it was not asked.
abbrev pub WritesAnswer : {D : Type 0} → disk.Ghosts D → List ℕ → (State → List ℕ → Type 0)
    → Target → Scene D → Type 0
WritesAnswer {D} disks file Told target scene = ((bytes : List ℕ) × (mid : List (DeskDeed D))
    × Did scene.was mid (IsAsked disks file (λ state. Told state bytes))
    × Delivers file target bytes (record scene { was = mid }))
    ⊎ IsUntold disks file scene

-- A tune was written to a new file, whole, and then its revision was printed; or it was not
-- written, and the status says so.
pub record DraftsTo {D : Type 0} (file : List ℕ) (tune : Tune) (out : List ℕ) (scene : Scene D)
    : Type 0 where
  pub written : ℕ
  pub result : WritesResult (record { file = file; out = Some out; force = false })
      (written_tune tune.number tune.text) scene.was scene.now written
  pub told : ((written ≡ 0)
      × Prints scene.streams (decimal tune.revision ++ codes "\n") scene.status)
      ⊎ ((written ≢ 0) × IsSilent scene.streams × (scene.status ≡ written))

-- or there was no memory for its text
abbrev pub WritesDraft : {D : Type 0} → List ℕ → Tune → List ℕ → Scene D → Type 0
WritesDraft file tune out scene = DraftsTo file tune out scene
    ⊎ ((scene.now ≡ scene.was) × IsSilent scene.streams × (scene.status ≢ 0))

-- The tune of a number was asked for, and so written; or it was not told.
abbrev pub Drafts : {D : Type 0} → disk.Ghosts D → List ℕ → ℕ → List ℕ → Scene D → Type 0
Drafts {D} disks file number out scene = ((tune : Tune) × (mid : List (DeskDeed D))
    × Did scene.was mid (IsAsked disks file (λ state. tune_at number state.tunes ≡ Some tune))
    × WritesDraft file tune out (record scene { was = mid }))
    ⊎ IsUntold disks file scene

-- INPUT
-- The input was read to its end, and what was read was written where a target says; or it was not
-- read to its end, and the status says so.
abbrev pub PlacesInput : {D : Type 0} → List ℕ → Target → Scene D → Type 0
PlacesInput file target scene = ((bytes : List ℕ) × ReadsAll scene.streams bytes
    × DeliversRead file target bytes scene)
    ⊎ ((scene.now ≡ scene.was) × WritesNothing scene.streams × (scene.status ≢ 0))

-- Books were read, and told one after another.
abbrev pub ChecksBooks : {A D : Type 0} → List (String A) → Scene D → Type 0
ChecksBooks books scene = IsQuiet scene.was scene.now
    × TellsPaths books (stage_before scene) (stage_after scene) scene.status

-- A script was run on FILE, opened to read alone; or FILE was not opened.
abbrev pub RunsOnce : {D : Type 0} → disk.Ghosts D → List ℕ → Scene D → Type 0
RunsOnce {D} disks file scene = ((old : D) × (done : Done D)
    × (scene.now ≡ scene.was ++ visit file Read old done.disk)
    × RunsOn disks scene.streams old done × AsksScript disks scene.streams old done
    × (scene.status ≡ done.status))
    ⊎ ((fault : DeskFault) × (scene.now ≡ scene.was ++ failed_visit file Read fault)
    × IsSilent scene.streams × (scene.status ≢ 0))

-- This was done once FILE was at rest; or FILE could not be brought to rest.
abbrev pub RunsOnFile : {D : Type 0} → disk.Ghosts D → List ℕ → Scene D → Type 0
RunsOnFile {D} disks file scene = ((mid : List (DeskDeed D))
    × Did scene.was mid (IsUnasked disks file)
    × RunsOnce disks file (record scene { was = mid }))
    ⊎ IsUntold disks file scene

-- THE FILES OF AN ORDER: FILE, where its result goes if it writes one to a file, and whether a file
-- there may be written over. `SparesFiles` says what an order may do with its files.
abbrev pub files_of : List ℕ → Order → Places
files_of file (order.Write question target) = places_to file target
files_of file (order.Draft number out) = result_places file (Some (string_bytes out)) false
files_of file (order.Place target) = places_to file target
files_of file order = result_places file None false

-- WHAT AN ORDER MAY DO WITH FILES: one that puts an archive where FILE leads makes it there, and
-- one that makes it of a script keeps an entry before; one that copies FILE spares files, and takes
-- old copies away; every other one spares files.
abbrev pub KeepsFiles : {D : Type 0} → List ℕ → Order → List (DeskDeed D) → List (DeskDeed D)
    → Type 0
KeepsFiles file order.Make was now = MakesArchive file was now
KeepsFiles file (order.Restore copy force) was now = MakesArchive file was now
KeepsFiles file (order.Load script) was now = MakesArchiveBy KeepsEntry file was now
KeepsFiles file (order.Backup copy keep) was now =
    SparesCopies file (string_bytes copy) keep was now
KeepsFiles file other was now = SparesFiles (files_of file other) was now

-- CHANGES
-- The turns that a change means, of the state that FILE held, were brought about; or the status
-- says that they were not.
abbrev pub CarriesAlteration : {D : Type 0} → disk.Ghosts D → List ℕ → Alteration → Scene D → Type 0
CarriesAlteration disks file change scene = IsSilent scene.streams
    × ChangesFile disks file (kind_of_alteration change)
    (λ state turns. planned_by change state ≡ Ok turns)
    (record { was = scene.was; now = scene.now; status = scene.status })

-- THE THEOREM OF THE FRONT END: what an order does with FILE, with other files, with standard
-- input and output, and its status.
abbrev pub CarriesOut : {D : Type 0} → disk.Ghosts D → List ℕ → Order → Scene D → Type 0
CarriesOut disks file (order.Tell question) scene =
    TellsAnswer disks file (λ state bytes. told question state ≡ Ok bytes) scene
CarriesOut disks file (order.Write question target) scene =
    WritesAnswer disks file (λ state bytes. told question state ≡ Ok bytes) target scene
CarriesOut disks file order.Check scene =
    TellsAnswer disks file (λ state bytes. bytes ≡ counts_bytes state) scene
CarriesOut disks file (order.CheckCopy copy) scene = TellsCopy disks (string_bytes copy) scene
CarriesOut disks file (order.Draft number out) scene =
    Drafts disks file number (string_bytes out) scene
CarriesOut disks file (order.Place target) scene = PlacesInput file target scene
CarriesOut disks file (order.CheckBooks books) scene = ChecksBooks books.items scene
CarriesOut disks file order.Ask scene = RunsOnFile disks file scene
CarriesOut disks file order.Make scene =
    IsSilent scene.streams × MakesEmpty disks file scene.was scene.now scene.status
CarriesOut disks file (order.Restore copy force) scene =
    Restores disks file (string_bytes copy) scene
CarriesOut disks file (order.Alter change) scene = CarriesAlteration disks file change scene
CarriesOut disks file (order.Replace number revision book) scene = ReplacesTune disks file
    (record { number = number; revision = revision; book = string_bytes book }) scene
CarriesOut disks file (order.Undo undoing) scene = Undoes disks file undoing scene
CarriesOut disks file (order.Load script) scene = Loads disks file (string_bytes script) scene
CarriesOut disks file order.Upgrade scene = Upgrades disks file scene
CarriesOut disks file (order.Backup copy keep) scene =
    Backs disks file (string_bytes copy) keep scene
CarriesOut disks file (order.Add books how) scene =
    Adds disks file how scene.was scene.now scene.status
