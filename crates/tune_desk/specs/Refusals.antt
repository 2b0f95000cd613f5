-- Why a result was not written, and what was done then.
use Rattle.std.specs.Prelude.{◌≡◌, ◌≢◌, ◌⊎◌, ℕ, true, false, List, ◌++◌}
use Rattle.std.specs.Prelude.{Option, Some, None, Ok, Err, IsErr, MatchOption, string_bytes}
use Rattle.std.specs.List.{AllByRecursion, Contains}
use Rattle.tune_desk.specs.DeskDeeds.{DeskDeed, Answer, looked, compared, tested, followed, made}
use Rattle.tune_desk.specs.DeskDeeds.{named, created}
use Rattle.tune_desk.specs.DeskDeeds.{named_over, removed, ChangesNothing}
use Rattle.tune_desk.specs.KeptNames.{folder_of, IsNamesake, IsKeptName}
use Rattle.tune_desk.specs.Results.{Places, LeadsTo, Names, new_of, archive_head}
use Rattle.tune_desk.specs.declared.desk.DeskFault.{DeskFault}
use Rattle.tune_desk.specs.declared.desk.DeskFault.TheVariants as desk
use Rattle.tune_desk.specs.declared.desk.Standing.{Standing}
use Rattle.tune_desk.specs.declared.desk.Standing.TheVariants as standing
use Rattle.tune_desk.specs.declared.refusals.ResultFault.{ResultFault}
use Rattle.tune_desk.specs.declared.refusals.ResultRefusal.{ResultRefusal}
use Rattle.tune_desk.specs.declared.refusals.ResultRefusal.TheVariants.{Archive, OtherArchive}
use Rattle.tune_desk.specs.declared.refusals.ResultRefusal.TheVariants.{Companion}
use Rattle.tune_desk.specs.declared.refusals.ResultRefusal.TheVariants.{Standing as StandsThere}
use Rattle.tune_desk.specs.declared.refusals.ResultRefusal.TheVariants.{Folder, NotFile, NoFolder}
use Rattle.tune_desk.specs.declared.refusals.ResultRefusal.TheVariants.{Unasked, OutOfMemory}
use Rattle.tune_desk.specs.declared.refusals.ResultRefusal.TheVariants.{NewStands, NotMade}
use Rattle.tune_desk.specs.declared.refusals.ResultRefusal.TheVariants.{NotNamed, Left, Unkept}

-- the fault with which a question was answered
abbrev pub fault_of : {D : Type 0} → DeskDeed D → Option DeskFault
fault_of (looked path (Err fault)) = Some fault
fault_of (compared path other (Err fault)) = Some fault
fault_of (tested path bytes (Err fault)) = Some fault
fault_of (followed path (Err fault)) = Some fault
fault_of deed = None

-- TARGET has a name of this kind beside FILE, or beside the path to which FILE leads: the folders
-- were compared, and are one.
pub record IsBeside {D : Type 0} (HasName : List ℕ → List ℕ → Type 0) (places : Places)
    (target : List ℕ) (since : List (DeskDeed D)) : Type 0 where
  pub file : List ℕ
  pub is_file : (file ≡ places.file) ⊎ Contains since (followed places.file (Ok file))
  pub has_name : HasName target file
  pub one_folder : Contains since (compared (folder_of target) (folder_of file) (Ok true))

-- a question had this fault for its answer
abbrev pub HasFault : {D : Type 0} → DeskFault → List (DeskDeed D) → Type 0
HasFault {D} fault since = (deed : DeskDeed D) × (fault_of deed ≡ Some fault) × Contains since deed

-- TARGET.new was to be made, of bytes or as a disk, and this was the fault.
abbrev pub WasUnmade : {D : Type 0} → List ℕ → DeskFault → List (DeskDeed D) → Type 0
WasUnmade target fault since =
    ((bytes : List ℕ) × Contains since (made (new_of target) bytes (Err fault)))
    ⊎ Contains since (created (new_of target) (Err fault))

-- It was to be named TARGET, and this was the answer.
abbrev pub WasNamed : {D : Type 0} → List ℕ → Answer → List (DeskDeed D) → Type 0
WasNamed {D} target answer since =
    (naming : DeskDeed D) × Names target answer naming × Contains since naming

-- What was answered is the cause of a refusal.
abbrev pub HasCause : {D : Type 0} → Places → List ℕ → ResultRefusal → List (DeskDeed D)
    → Type 0
HasCause places target Archive since = Contains since (compared target places.file (Ok true))
    ⊎ IsBeside IsNamesake places target since
HasCause places target OtherArchive since =
    Contains since (tested target archive_head (Ok true))
HasCause places target Companion since = IsBeside IsKeptName places target since
HasCause places target StandsThere since =
    (places.force ≡ false) × Contains since (looked target (Ok standing.File))
HasCause places target Folder since = Contains since (looked target (Ok standing.Folder))
HasCause places target NotFile since = Contains since (looked target (Ok standing.Other))
HasCause places target NoFolder since = (found : Standing) × (found ≢ standing.Folder)
    × Contains since (looked (folder_of target) (Ok found))
HasCause places target (Unasked fault) since = HasFault fault since
HasCause places target OutOfMemory since = Unit {0}
HasCause places target NewStands since = WasUnmade target desk.Taken since
HasCause places target (NotMade fault) since = WasUnmade target fault since
HasCause places target (NotNamed fault) since = WasNamed target (Err fault) since
    × Contains since (removed (new_of target) (Ok tt))
HasCause places target (Left fault) since =
    Contains since (removed (new_of target) (Err fault))
HasCause places target Unkept since = WasNamed target (Err desk.Unkept) since

-- A deed gave no file the name of another.
abbrev pub NamesNothing : {D : Type 0} → DeskDeed D → Type 0
NamesNothing (named from to answer) = IsErr answer × (answer ≢ Err desk.Unkept)
NamesNothing (named_over from to answer) = IsErr answer × (answer ≢ Err desk.Unkept)
NamesNothing deed = Unit {0}

-- What a deed of a result is that was refused for this: nothing was changed, or TARGET.new was not
-- made, or was not named TARGET; or its name was not kept.
abbrev pub DoneBefore : {D : Type 0} → ResultRefusal → DeskDeed D → Type 0
DoneBefore Unkept deed = Unit {0}
DoneBefore NewStands deed = NamesNothing deed
DoneBefore (NotMade fault) deed = NamesNothing deed
DoneBefore (NotNamed fault) deed = NamesNothing deed
DoneBefore (Left fault) deed = NamesNothing deed
DoneBefore refusal deed = ChangesNothing deed

-- OUT led to no TARGET that was found.
abbrev pub LeadsNowhere : {D : Type 0} → Places → List (DeskDeed D) → ResultRefusal → Type 0
LeadsNowhere places since why = (out : List ℕ) × (fault : DeskFault) × (places.out ≡ Some out)
    × (why ≡ Unasked fault) × Contains since (followed out (Err fault))

-- A result was refused: no file got the name of another, but for one whose name the device did not
-- keep; and what was answered is the cause.
pub record Refuses {D : Type 0} (places : Places) (fault : ResultFault)
    (was now : List (DeskDeed D))
    : Type 0 where
  pub since : List (DeskDeed D)
  pub history : now ≡ was ++ since
  pub done : AllByRecursion (DoneBefore fault.why) since
  pub cause : MatchOption fault.target (LeadsNowhere places since fault.why)
      (λ target. LeadsTo places (string_bytes target) since
      × HasCause places (string_bytes target) fault.why since)
