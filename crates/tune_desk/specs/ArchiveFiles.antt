-- THE THEOREM ON FILES of the orders that put an archive where FILE leads: a new one, where nothing
-- stands, or a copy, in the place of what stands there. Of the deeds of one call, each is judged by
-- those that came before it.
use Rattle.std.specs.Prelude.{◌≡◌, ◌≢◌, ℕ, Bool, false, List, [], ◌∷◌, ◌++◌, None, Ok, IsErr}
use Rattle.tune_desk.specs.BegunResults.{naming_of}
use Rattle.std.specs.List.{AllByRecursion, Contains}
use Rattle.tune_disk.specs.declared.file.Access.TheVariants.{Change}
use Rattle.tune_desk.specs.DeskDeeds.{DeskDeed, followed, made, named, named_over, removed, opened}
use Rattle.tune_desk.specs.DeskDeeds.{closed, grown, created, linked, shared, ChangesNothing}
use Rattle.tune_desk.specs.KeptNames.{IsNumbered}
use Rattle.tune_desk.specs.Results.{EachAfter, IsOwn, LeavesFile, MayGrow, new_of, old_of}
use Rattle.tune_desk.specs.Results.{result_places}

-- FILE was found to lead to this TARGET.
abbrev pub FileLeads : {D : Type 0} → List ℕ → List ℕ → List (DeskDeed D) → Type 0
FileLeads file target before = Contains before (followed file (Ok target))

-- TARGET, a number and `.old`: the name of an archive that was put aside
abbrev pub IsAside : List ℕ → List ℕ → Type 0
IsAside target aside = (ending : List ℕ) × IsNumbered ending × (aside ≡ target ++ ending)

-- a deed does not close the disk of a path
abbrev pub KeepsOpen : {D : Type 0} → List ℕ → DeskDeed D → Type 0
KeepsOpen path (closed other disk) = other ≢ path
KeepsOpen path deed = Unit {0}

-- The file at a path is held: it was opened to change, alone, and is open since.
pub record IsHeld {D : Type 0} (path : List ℕ) (before : List (DeskDeed D)) : Type 0 where
  pub disk : D
  pub earlier : List (DeskDeed D)
  pub since : List (DeskDeed D)
  pub history : before ≡ earlier ++ opened path Change (Ok disk) ∷ since
  pub kept : AllByRecursion (KeepsOpen path) since

-- What stands at TARGET was put aside: it got the name TARGET.N.old too, and each deed since left
-- both.
pub record IsPutAside {D : Type 0} (target : List ℕ) (before : List (DeskDeed D)) : Type 0 where
  pub aside : List ℕ
  pub earlier : List (DeskDeed D)
  pub since : List (DeskDeed D)
  pub is_aside : IsAside target aside
  pub history : before ≡ earlier ++ linked target aside (Ok tt) ∷ since
  pub left : AllByRecursion (λ deed. LeavesFile target deed × LeavesFile aside deed) since

-- Whether an order keeps an entry of what it makes, which may then grow at the end of the book of
-- old texts of FILE, or leaves that book as it is.
pub data Keeping : Type 0 where
  KeepsNone : Keeping
  KeepsEntry : Keeping

-- An order that keeps an entry may let the book of old texts of FILE grow, and no other file, where
-- every order may that changes FILE: nothing stands there; or a regular file does, which is not
-- FILE by any name, and does not begin as an archive.
abbrev pub MayKeep : {D : Type 0} → Keeping → List ℕ → List (DeskDeed D) → List ℕ → Type 0
MayKeep KeepsNone file before path = ⊥
MayKeep KeepsEntry file before path =
    (path ≡ old_of file) × MayGrow (result_places file None false) path before

-- A deed makes an archive: TARGET.new is made, and named TARGET, which nothing has; or it is named
-- over what stands at TARGET, which is held, and was put aside. Else TARGET.new is taken away. All
-- of this is done with a TARGET.new of the order's own, and nothing else is changed, but for an
-- entry that is kept.
abbrev pub MakesItBy : {D : Type 0} → Keeping → List ℕ → List (DeskDeed D) → DeskDeed D → Type 0
MakesItBy keeping file before (created path answer) =
    (target : List ℕ) × FileLeads file target before × (path ≡ new_of target)
MakesItBy keeping file before (shared path like answer) =
    (target : List ℕ) × FileLeads file target before × (path ≡ new_of target) × IsOwn path before
MakesItBy keeping file before (named from to answer) =
    FileLeads file to before × (from ≡ new_of to) × IsOwn from before
MakesItBy keeping file before (opened path Change answer) = FileLeads file path before
MakesItBy keeping file before (linked from to answer) =
    FileLeads file from before × IsAside from to × IsHeld from before
MakesItBy keeping file before (named_over from to answer) = FileLeads file to before
    × (from ≡ new_of to) × IsOwn from before × IsHeld to before × IsPutAside to before
MakesItBy keeping file before (removed path answer) =
    (target : List ℕ) × FileLeads file target before × (path ≡ new_of target) × IsOwn path before
MakesItBy keeping file before (made path bytes answer) = ⊥
MakesItBy keeping file before (grown path bytes answer) = MayKeep keeping file before path
MakesItBy keeping file before deed = Unit {0}

-- What was done since makes an archive where FILE leads, or none.
pub record MakesArchiveBy {D : Type 0} (keeping : Keeping) (file : List ℕ)
    (was now : List (DeskDeed D)) : Type 0 where
  pub since : List (DeskDeed D)
  pub history : now ≡ was ++ since
  pub each : EachAfter (MakesItBy keeping file) [] since

-- A deed gave no file a name that the device kept.
abbrev pub NamesNone : {D : Type 0} → DeskDeed D → Type 0
NamesNone (named from to answer) = IsErr answer
NamesNone (named_over from to answer) = IsErr answer
NamesNone deed = Unit {0}

-- TARGET.new was made where FILE leads, and is the order's own, and no file got a name. What was
-- done so far makes an archive, or none.
pub record IsBegunArchiveBy {D : Type 0} (keeping : Keeping) (file target : List ℕ)
    (was now : List (DeskDeed D)) : Type 0 where
  pub since : List (DeskDeed D)
  pub history : now ≡ was ++ since
  pub each : EachAfter (MakesItBy keeping file) [] since
  pub unnamed : AllByRecursion NamesNone since
  pub leads : FileLeads file target since
  pub own : IsOwn (new_of target) since

-- An archive was put where FILE leads: TARGET.new was made, closed as this disk, and named TARGET.
-- After that nothing was changed.
pub record PutsArchiveBy {D : Type 0} (keeping : Keeping) (file : List ℕ) (disk : D)
    (was now : List (DeskDeed D)) : Type 0 where
  pub target : List ℕ
  pub over : Bool
  pub mid : List (DeskDeed D)
  pub rest : List (DeskDeed D)
  pub begun : IsBegunArchiveBy keeping file target was mid
  pub history : now
      ≡ mid ++ closed (new_of target) disk ∷ naming_of target over (Ok tt) ∷ rest
  pub quiet : AllByRecursion ChangesNothing rest

-- It was, and this was done before TARGET.new was closed.
abbrev pub PutsArchiveAfter : {D : Type 0} → Keeping → List ℕ → D → List (DeskDeed D)
    → List (DeskDeed D) → List (DeskDeed D) → Type 0
PutsArchiveAfter keeping file disk was mid now =
    (puts : PutsArchiveBy keeping file disk was now) × (puts.mid ≡ mid)

-- No archive was put where FILE leads. An order that keeps an entry may have kept it before that.
pub record MakesNoneBy {D : Type 0} (keeping : Keeping) (file : List ℕ)
    (was now : List (DeskDeed D)) : Type 0 where
  pub since : List (DeskDeed D)
  pub history : now ≡ was ++ since
  pub each : EachAfter (MakesItBy keeping file) [] since
  pub unnamed : AllByRecursion NamesNone since

-- THE SAME, WITHOUT AN ENTRY
abbrev pub MakesIt : {D : Type 0} → List ℕ → List (DeskDeed D) → DeskDeed D → Type 0
MakesIt file before deed = MakesItBy KeepsNone file before deed

abbrev pub MakesArchive : {D : Type 0} → List ℕ → List (DeskDeed D) → List (DeskDeed D) → Type 0
MakesArchive file was now = MakesArchiveBy KeepsNone file was now

abbrev pub IsBegunArchive : {D : Type 0} → List ℕ → List ℕ → List (DeskDeed D)
    → List (DeskDeed D) → Type 0
IsBegunArchive file target was now = IsBegunArchiveBy KeepsNone file target was now

abbrev pub PutsArchive : {D : Type 0} → List ℕ → D → List (DeskDeed D) → List (DeskDeed D)
    → Type 0
PutsArchive file disk was now = PutsArchiveBy KeepsNone file disk was now

abbrev pub MakesNone : {D : Type 0} → List ℕ → List (DeskDeed D) → List (DeskDeed D) → Type 0
MakesNone file was now = MakesNoneBy KeepsNone file was now
