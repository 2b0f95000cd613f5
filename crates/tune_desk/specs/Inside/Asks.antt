-- What is known after questions alone.
use Rattle.std.specs.Prelude.{◌≡◌, ◌⊎◌, ℕ, Bool, true, false, List, [], ◌++◌, Result, Ok}
use Rattle.std.specs.Prelude.{MatchResult}
use Rattle.std.specs.List.{AllByRecursion, Contains}
use Rattle.tune_desk.specs.DeskDeeds.{DeskDeed, looked, compared, tested, ChangesNothing}
use Rattle.tune_desk.specs.KeptNames.{folder_of, IsNamesake, IsKeptName, IsKeptEnding}
use Rattle.tune_desk.specs.Refusals.{HasCause, HasFault}
use Rattle.tune_desk.specs.Results.{Places, AreFoundApart, SparesNames, SparesArchive}
use Rattle.tune_desk.specs.Results.{MayBeReplaced}
use Rattle.tune_desk.specs.Results.{archive_head}
use Rattle.tune_desk.specs.declared.desk.Standing.TheVariants as standing
use Rattle.tune_desk.specs.declared.kept_names.Kinship.{Kinship}
use Rattle.tune_desk.specs.declared.kept_names.Kinship.TheVariants as kinship
use Rattle.tune_desk.specs.declared.refusals.ResultRefusal.{ResultRefusal}
use Rattle.tune_desk.specs.declared.refusals.ResultRefusal.TheVariants.{Unasked, OutOfMemory}
use Rattle.tune_desk.specs.declared.refusals.ResultRefusal.TheVariants.{Archive, Companion}
use Rattle.tune_desk.specs.declared.refusals.ResultRefusal.TheVariants.{OtherArchive, Standing}

-- What was done since changes nothing, and this is known by it.
pub record Asks {D : Type 0} (Known : List (DeskDeed D) → Type 0) (was now : List (DeskDeed D))
    : Type 0 where
  pub since : List (DeskDeed D)
  pub history : now ≡ was ++ since
  pub changes_nothing : AllByRecursion ChangesNothing since
  pub known : Known since

-- whether two paths lead to one file or folder
abbrev pub KnowsSame : {D : Type 0} → List ℕ → List ℕ → Bool → List (DeskDeed D) → Type 0
KnowsSame path other true since = Contains since (compared path other (Ok true))
KnowsSame path other false since = AreFoundApart path other since

-- why that could not be found out
abbrev pub IsCauseUnasked : {D : Type 0} → ResultRefusal → List (DeskDeed D) → Type 0
IsCauseUnasked (Unasked fault) since = HasFault fault since
IsCauseUnasked OutOfMemory since = Unit {0}
IsCauseUnasked why since = ⊥

abbrev pub TellsSame : {D : Type 0} → List ℕ → List ℕ → Result Bool ResultRefusal
    → List (DeskDeed D) → Type 0
TellsSame path other result since =
    MatchResult result (λ same. KnowsSame path other same since) (λ why. IsCauseUnasked why since)

-- what the ending of a name says
abbrev pub FitsEnding : List ℕ → Kinship → Type 0
FitsEnding ending kinship.Other = ¬ ((ending ≡ []) ⊎ IsKeptEnding ending)
FitsEnding ending kinship.Namesake = ending ≡ []
FitsEnding ending kinship.Kept = IsKeptEnding ending

-- whether a path has a name of another
abbrev pub FitsKinship : List ℕ → List ℕ → Kinship → Type 0
FitsKinship path file kinship.Other = ¬ (IsNamesake path file ⊎ IsKeptName path file)
FitsKinship path file kinship.Namesake = IsNamesake path file
FitsKinship path file kinship.Kept = IsKeptName path file

-- why a path is refused for such a name
abbrev pub IsNamedLike : {D : Type 0} → List ℕ → List ℕ → ResultRefusal → List (DeskDeed D) → Type 0
IsNamedLike path file Archive since = IsNamesake path file
    × Contains since (compared (folder_of path) (folder_of file) (Ok true))
IsNamedLike path file Companion since = IsKeptName path file
    × Contains since (compared (folder_of path) (folder_of file) (Ok true))
IsNamedLike path file why since = IsCauseUnasked why since

abbrev pub TellsNames : {D : Type 0} → List ℕ → List ℕ → Result (Unit {0}) ResultRefusal
    → List (DeskDeed D) → Type 0
TellsNames path file result since =
    MatchResult result (λ _. SparesNames path file since) (λ why. IsNamedLike path file why since)

-- this is known for an answer, or the cause of a refusal
abbrev pub Judges : {D A : Type 0} → Places → List ℕ → (A → List (DeskDeed D) → Type 0)
    → Result A ResultRefusal → List (DeskDeed D) → Type 0
Judges places target Known result since = MatchResult result (λ answer. Known answer since)
    (λ why. HasCause places target why since)

-- whether a file stands there, or nothing
abbrev pub KnowsStanding : {D : Type 0} → List ℕ → Bool → List (DeskDeed D) → Type 0
KnowsStanding target true since = Contains since (looked target (Ok standing.File))
KnowsStanding target false since = Unit {0}

-- the file that stands there may be written over, as far as is found without a look
pub record IsReplaceable {D : Type 0} (places : Places) (target : List ℕ)
    (since : List (DeskDeed D))
    : Type 0 where
  pub leave : places.force ≡ true
  pub other : AreFoundApart target places.file since
  pub no_archive : Contains since (tested target archive_head (Ok false))

-- why it may not be
abbrev pub IsHeld : {D : Type 0} → Places → List ℕ → ResultRefusal → List (DeskDeed D) → Type 0
IsHeld places target Archive since = Contains since (compared target places.file (Ok true))
IsHeld places target OtherArchive since = Contains since (tested target archive_head (Ok true))
IsHeld places target Standing since = places.force ≡ false
IsHeld places target why since = IsCauseUnasked why since

abbrev pub TellsHeld : {D : Type 0} → Places → List ℕ → Result (Unit {0}) ResultRefusal
    → List (DeskDeed D) → Type 0
TellsHeld places target result since = MatchResult result
    (λ _. IsReplaceable places target since) (λ why. IsHeld places target why since)

-- whether it is to be written over
pub record MayBeWritten {D : Type 0} (places : Places) (target : List ℕ) (over : Bool)
    (since : List (DeskDeed D)) : Type 0 where
  pub spares : SparesArchive places target since
  pub replaces : over ≡ true → MayBeReplaced places target since
