-- THE THEOREM ON FILES: what an order may do with files, and when. Of the deeds of one call, each
-- is judged by those that came before it.
use Rattle.std.specs.Prelude.{◌≡◌, ◌≢◌, ◌⊎◌, ℕ, Bool, true, false, List, [], ◌∷◌, ◌++◌, codes}
use Rattle.std.specs.Prelude.{Option, Some, Ok, Err, string_bytes}
use Rattle.std.specs.List.{AllByRecursion, Contains}
use Rattle.tune_disk.specs.declared.file.Access.TheVariants.{Change}
use Rattle.tune_desk.specs.DeskDeeds.{DeskDeed, Answer, looked, compared, tested, followed, made}
use Rattle.tune_desk.specs.DeskDeeds.{named}
use Rattle.tune_desk.specs.DeskDeeds.{named_over, removed, opened, changed_by, ChangesNothing}
use Rattle.tune_desk.specs.DeskDeeds.{grown, created, linked, shared}
use Rattle.tune_desk.specs.KeptNames.{folder_of, IsNamesake, IsKeptName}
use Rattle.tune_desk.specs.declared.desk.DeskFault.TheVariants.{Missing, Unkept}
use Rattle.tune_desk.specs.declared.desk.Standing.TheVariants as standing
use Rattle.tune_desk.specs.declared.destinations.Destination.{Destination}

-- The files of an order: FILE, its archive; OUT, where its result goes, if it has one; and whether
-- a file that stands there may be written over.
pub record Places : Type 0 where
  pub file : List ℕ
  pub out : Option (List ℕ)
  pub force : Bool

abbrev pub result_places : List ℕ → Option (List ℕ) → Bool → Places
result_places file out force = record { file = file; out = out; force = force }

-- those of a result that goes to a destination
abbrev pub places_for : Destination → Places
places_for to =
    result_places (string_bytes to.file.now) (Some (string_bytes to.out.now)) to.force

-- OUT was found to lead to this TARGET.
pub record LeadsTo {D : Type 0} (places : Places) (target : List ℕ) (before : List (DeskDeed D))
    : Type 0 where
  pub out : List ℕ
  pub asked : places.out ≡ Some out
  pub answered : Contains before (followed out (Ok target))

-- TARGET.new: the result is written to it, whole, and then it is named TARGET
abbrev pub new_of : List ℕ → List ℕ
new_of target = target ++ codes ".new"

-- FILE.old.abc: the book of old texts of FILE
abbrev pub old_of : List ℕ → List ℕ
old_of file = file ++ codes ".old.abc"

-- every archive begins with these bytes
abbrev pub archive_head : List ℕ
archive_head = codes "ABCTUNE1"

-- WHICH FILES. A deed keeps to the files of its order: FILE may change as a disk alone, and what
-- grows is its book of old texts; the result is made as TARGET.new, which is named TARGET, or taken
-- away.
abbrev pub KeepsTo : {D : Type 0} → Places → List (DeskDeed D) → DeskDeed D → Type 0
KeepsTo places before (made path bytes answer) =
    (target : List ℕ) × LeadsTo places target before × (path ≡ new_of target)
KeepsTo places before (named from to answer) = LeadsTo places to before × (from ≡ new_of to)
KeepsTo places before (named_over from to answer) =
    LeadsTo places to before × (from ≡ new_of to)
KeepsTo places before (removed path answer) =
    (target : List ℕ) × LeadsTo places target before × (path ≡ new_of target)
KeepsTo places before (opened path Change answer) = path ≡ places.file
KeepsTo places before (grown path bytes answer) = path ≡ old_of places.file
KeepsTo places before (created path answer) =
    (target : List ℕ) × LeadsTo places target before × (path ≡ new_of target)
KeepsTo places before (linked from to answer) = ⊥
KeepsTo places before (shared path like answer) =
    (target : List ℕ) × LeadsTo places target before × (path ≡ new_of target)
KeepsTo places before deed = Unit {0}

-- IN WHICH ORDER. Two paths were compared, and do not lead to one file or folder.
abbrev pub AreFoundApart : {D : Type 0} → List ℕ → List ℕ → List (DeskDeed D) → Type 0
AreFoundApart path other before = Contains before (compared path other (Ok false))
    ⊎ Contains before (compared path other (Err Missing))

-- A path is neither an archive's path nor a name that is kept for it: another name, or in another
-- folder.
abbrev pub SparesNames : {D : Type 0} → List ℕ → List ℕ → List (DeskDeed D) → Type 0
SparesNames path file before = IsNamesake path file ⊎ IsKeptName path file
    → AreFoundApart (folder_of path) (folder_of file) before

-- So it is of FILE, and of the path to which FILE leads.
pub record SparesArchive {D : Type 0} (places : Places) (target : List ℕ)
    (before : List (DeskDeed D)) : Type 0 where
  pub file : List ℕ
  pub leads : Contains before (followed places.file (Ok file))
  pub here : SparesNames target places.file before
  pub there : SparesNames target file before

-- A file may be written over: there is leave to do so, it is a regular file, it is not FILE by any
-- name, and it does not begin as an archive.
pub record MayBeReplaced {D : Type 0} (places : Places) (target : List ℕ)
    (before : List (DeskDeed D)) : Type 0 where
  pub leave : places.force ≡ true
  pub stands : Contains before (looked target (Ok standing.File))
  pub other : AreFoundApart target places.file before
  pub no_archive : Contains before (tested target archive_head (Ok false))

-- The book at a path may grow: nothing stands there; or a regular file does, which is not FILE by
-- any name, and does not begin as an archive.
abbrev pub MayGrow : {D : Type 0} → Places → List ℕ → List (DeskDeed D) → Type 0
MayGrow places path before = Contains before (looked path (Ok standing.Nothing))
    ⊎ (Contains before (looked path (Ok standing.File)) × AreFoundApart path places.file before
    × Contains before (tested path archive_head (Ok false)))

-- A deed leaves the file at a path as it is, byte for byte. A naming that failed left both paths as
-- they were.
abbrev pub LeavesFile : {D : Type 0} → List ℕ → DeskDeed D → Type 0
LeavesFile path (named from to (Err fault)) = fault ≢ Unkept
LeavesFile path (named_over from to (Err fault)) = fault ≢ Unkept
LeavesFile path (shared other like answer) = Unit {0}
LeavesFile path deed = ¬ Contains (changed_by deed) path

-- A deed made the file at a path, where nothing stood: of bytes, or as a disk.
abbrev pub IsMaking : {D : Type 0} → List ℕ → DeskDeed D → Type 0
IsMaking {D} path deed = ((bytes : List ℕ) × (deed ≡ made path bytes (Ok tt)))
    ⊎ ((disk : D) × (deed ≡ created path (Ok disk)))

-- The file at a path is the order's own: it was made by the order, and each deed since left it.
pub record IsOwn {D : Type 0} (path : List ℕ) (before : List (DeskDeed D)) : Type 0 where
  pub making : DeskDeed D
  pub earlier : List (DeskDeed D)
  pub since : List (DeskDeed D)
  pub makes : IsMaking path making
  pub history : before ≡ earlier ++ making ∷ since
  pub left : AllByRecursion (LeavesFile path) since

-- A deed comes in order: nothing is named or taken away but what is the order's own, nothing is
-- made or named where a name is kept for the archive, a file is written over where it may be, and
-- grows where it may.
abbrev pub ComesInOrder : {D : Type 0} → Places → List (DeskDeed D) → DeskDeed D → Type 0
ComesInOrder places before (made path bytes answer) =
    (target : List ℕ) × SparesArchive places target before × (path ≡ new_of target)
ComesInOrder places before (named from to answer) =
    IsOwn from before × SparesArchive places to before
ComesInOrder places before (named_over from to answer) =
    IsOwn from before × SparesArchive places to before × MayBeReplaced places to before
ComesInOrder places before (removed path answer) = IsOwn path before
ComesInOrder places before (shared path like answer) = IsOwn path before
ComesInOrder places before (grown path bytes answer) = MayGrow places path before
ComesInOrder places before (created path answer) =
    (target : List ℕ) × SparesArchive places target before × (path ≡ new_of target)
ComesInOrder places before deed = Unit {0}

-- each of these deeds, by what came before it
abbrev pub EachAfter : {D : Type 0} → (List (DeskDeed D) → DeskDeed D → Type 0) → List (DeskDeed D)
    → List (DeskDeed D) → Type 0
EachAfter Fits before [] = Unit {0}
EachAfter Fits before (deed ∷ more) =
    Fits before deed × EachAfter Fits (before ++ deed ∷ []) more

-- What was done since keeps to the files of the order, and comes in order.
pub record SparesFiles {D : Type 0} (places : Places) (was now : List (DeskDeed D)) : Type 0 where
  pub since : List (DeskDeed D)
  pub history : now ≡ was ++ since
  pub keeps : EachAfter (KeepsTo places) [] since
  pub in_order : EachAfter (ComesInOrder places) [] since

-- WHAT WAS WRITTEN. TARGET.new got the name TARGET, which nothing had, or that of another file.
abbrev pub Names : {D : Type 0} → List ℕ → Answer → DeskDeed D → Type 0
Names target answer deed = (deed ≡ named (new_of target) target answer)
    ⊎ (deed ≡ named_over (new_of target) target answer)

-- After what changed nothing, TARGET.new was made of just these bytes, and got the name TARGET.
pub record WritesTarget {D : Type 0} (places : Places) (bytes : List ℕ)
    (was now : List (DeskDeed D))
    : Type 0 where
  pub target : List ℕ
  pub asked : List (DeskDeed D)
  pub naming : DeskDeed D
  pub history : now ≡ was ++ asked ++ made (new_of target) bytes (Ok tt) ∷ naming ∷ []
  pub changes_nothing : AllByRecursion ChangesNothing asked
  pub leads : LeadsTo places target asked
  pub names : Names target (Ok tt) naming

-- A deed of reading: it changes no file, but that FILE may be opened to be changed, as a disk.
abbrev pub IsReading : {D : Type 0} → Places → DeskDeed D → Type 0
IsReading places (opened path Change answer) = path ≡ places.file
IsReading places deed = ChangesNothing deed
