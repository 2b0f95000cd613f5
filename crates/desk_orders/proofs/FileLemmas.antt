-- An order spares files, whatever it is.
use Rattle.std.proofs.Common.{◌≡◌, ◌⊎◌, inl, inr, ℕ, List, [], ◌∷◌, ◌++◌, refl, sym, subst, string_bytes}
use Rattle.std.specs.Prelude.{Some, None, false}
use Rattle.std.specs.List.{AllByRecursion}
use Rattle.tune_disk.specs.declared.disk.Disk as disk
use Rattle.tune_disk.specs.declared.file.Access.{Access}
use Rattle.tune_disk.specs.declared.file.Access.TheVariants.{Read, Change}
use Rattle.tune_store.specs.State.{State}
use Rattle.tune_desk.specs.DeskDeeds.{DeskDeed, ChangesNothing}
use Rattle.tune_desk.specs.Results.{Places, SparesFiles, IsReading, result_places}
use Rattle.tune_desk.proofs.SpareLemmas.{spares_none, spares_reading, spares_both, quiet_all}
use Rattle.desk_words.specs.declared.asked.Order.{Order}
use Rattle.desk_words.specs.declared.asked.Order.TheVariants as order
use Rattle.desk_words.specs.declared.asked.Target.{Target}
use Rattle.desk_scenes.specs.FileAnswers.{Did, IsVisited, IsAsked, IsUnasked}
use Rattle.desk_scenes.specs.Scenes.{Scene, IsQuiet}
use Rattle.desk_orders.specs.Orders.{CarriesOut, TellsAnswer, WritesAnswer, DeliversRead, Drafts, WritesDraft, PlacesInput, RunsOnce, RunsOnFile}
use Rattle.tune_desk.specs.ArchiveFiles.{Keeping, KeepsEntry, MakesArchive, MakesArchiveBy, MakesNoneBy}
use Rattle.desk_copies.specs.Made.{MakesEmpty}
use Rattle.desk_loads.specs.LoadedScripts.{Loads}
use Rattle.desk_copies.specs.Restored.{Restores}
use Rattle.desk_orders.specs.Orders.{IsUntold, KeepsFiles, files_of, places_to}
use Rattle.desk_scenes.specs.Visits.{Visits, Mends, Comes, ComesToNothing, visit, failed_visit, spared, failed}
use Rattle.desk_scenes.proofs.FileLemmas.{asked_spares, unasked_spares, spares_since, quiet_spares}

module _ {D : Type 0} (disks : disk.Ghosts D) (places : Places) where
  -- ORDERS
  tells_spares : (Told : State → List ℕ → Type 0) (scene : Scene D) → TellsAnswer disks places.file Told scene → SparesFiles places scene.was scene.now
  tells_spares Told scene (inl (bytes, did, prints)) = asked_spares disks places (λ state. Told state bytes) scene.was scene.now did
  tells_spares Told scene (inr refused) = unasked_spares disks places scene.was scene.now refused.0

  once_spares : (scene : Scene D) → RunsOnce disks places.file scene → SparesFiles places scene.was scene.now
  once_spares scene (inl (old, done, e, ran, asks, status)) = spares_since disks places scene.was scene.now (visit places.file Read old done.disk) e
      (refl, (refl, tt))
  once_spares scene (inr (fault, e, silent, status)) = spares_since disks places scene.was scene.now (failed_visit places.file Read fault) e (refl, tt)

  runs_spares : (scene : Scene D) → RunsOnFile disks places.file scene → SparesFiles places scene.was scene.now
  runs_spares scene (inl (mid, did, once)) =
      spares_both places scene.was mid scene.now (unasked_spares disks places scene.was mid did) (once_spares (record scene { was = mid }) once)
  runs_spares scene (inr refused) = unasked_spares disks places scene.was scene.now refused.0

delivered : {D : Type 0} (file : List ℕ) (target : Target) (bytes : List ℕ) (scene : Scene D) → DeliversRead file target bytes scene
    → SparesFiles (places_to file target) scene.was scene.now
delivered file target bytes scene (inl (dash, same, written)) =
    subst (SparesFiles (places_to file target) scene.was) (sym same) (spares_none (places_to file target) scene.was)
delivered file target bytes scene (inr (other, nothing, result)) = result.spares

pub writes_spares : {D : Type 0} (disks : disk.Ghosts D) (file : List ℕ) (Told : State → List ℕ → Type 0) (target : Target) (scene : Scene D)
    → WritesAnswer disks file Told target scene → SparesFiles (places_to file target) scene.was scene.now
writes_spares disks file Told target scene (inl (bytes, mid, did, delivers)) =
    let places = places_to file target in
    spares_both places scene.was mid scene.now (asked_spares disks places (λ state. Told state bytes) scene.was mid did)
    (delivered file target bytes (record scene { was = mid }) delivers.1)
writes_spares disks file Told target scene (inr refused) = unasked_spares disks (places_to file target) scene.was scene.now refused.0

drafted : {D : Type 0} (file : List ℕ) (out : List ℕ) (tune : _) (scene : Scene D) → WritesDraft file tune out scene
    → SparesFiles (result_places file (Some out) false) scene.was scene.now
drafted file out tune scene (inl written) = written.result.spares
drafted file out tune scene (inr (same, silent, status)) =
    subst (SparesFiles (result_places file (Some out) false) scene.was) (sym same) (spares_none (result_places file (Some out) false) scene.was)

pub drafts_spares : {D : Type 0} (disks : disk.Ghosts D) (file : List ℕ) (number : ℕ) (out : List ℕ) (scene : Scene D)
    → Drafts disks file number out scene → SparesFiles (result_places file (Some out) false) scene.was scene.now
drafts_spares disks file number out scene (inl (tune, mid, did, writes)) =
    let places = result_places file (Some out) false in
    spares_both places scene.was mid scene.now (asked_spares disks places _ scene.was mid did)
    (drafted file out tune (record scene { was = mid }) writes)
drafts_spares disks file number out scene (inr refused) =
    unasked_spares disks (result_places file (Some out) false) scene.was scene.now refused.0

pub places_spares : {D : Type 0} (file : List ℕ) (target : Target) (scene : Scene D) → PlacesInput file target scene
    → SparesFiles (places_to file target) scene.was scene.now
places_spares file target scene (inl (bytes, reads, delivers)) = delivered file target bytes scene delivers
places_spares file target scene (inr (same, nothing, status)) =
    subst (SparesFiles (places_to file target) scene.was) (sym same) (spares_none (places_to file target) scene.was)

-- FILES, BY ORDER
-- where the order is known to be this one
pub kept_by : {D : Type 0} (file : List ℕ) (asked by : Order) (was now : List (DeskDeed D)) → asked ≡ by → KeepsFiles file by was now
    → KeepsFiles file asked was now
kept_by file asked by was now e h = subst (λ o. KeepsFiles file o was now) (sym e) h

pub carried_by : {D : Type 0} (disks : disk.Ghosts D) (file : List ℕ) (asked by : Order) (scene : Scene D) → asked ≡ by
    → CarriesOut disks file by scene → CarriesOut disks file asked scene
carried_by disks file asked by scene e h = subst (λ o. CarriesOut disks file o scene) (sym e) h

pub told_keeps : {D : Type 0} (disks : disk.Ghosts D) (file : List ℕ) (Told : State → List ℕ → Type 0) (scene : Scene D) → TellsAnswer disks file Told scene
    → SparesFiles (result_places file None false) scene.was scene.now
told_keeps disks file Told scene h = tells_spares disks (result_places file None false) Told scene h

pub asked_keeps : {D : Type 0} (disks : disk.Ghosts D) (file : List ℕ) (scene : Scene D) → RunsOnFile disks file scene
    → SparesFiles (result_places file None false) scene.was scene.now
asked_keeps disks file scene h = runs_spares disks (result_places file None false) scene h

-- an archive was put where FILE leads, or none
pub none_keeps : {D : Type 0} {keeping : Keeping} (file : List ℕ) (was now : List (DeskDeed D)) → MakesNoneBy keeping file was now
    → MakesArchiveBy keeping file was now
none_keeps file was now h = record { since = h.since; history = h.history; each = h.each }

pub empty_keeps : {D : Type 0} (disks : disk.Ghosts D) (file : List ℕ) (was now : List (DeskDeed D)) (status : ℕ) → MakesEmpty disks file was now status
    → MakesArchive file was now
empty_keeps disks file was now status (inl made) = made.1.makes
empty_keeps disks file was now status (inr none) = none_keeps file was now none.1

pub restored_keeps : {D : Type 0} (disks : disk.Ghosts D) (file copy : List ℕ) (scene : Scene D) → Restores disks file copy scene
    → MakesArchive file scene.was scene.now
restored_keeps disks file copy scene (inl restored) = restored.1.makes
restored_keeps disks file copy scene (inr none) = none_keeps file scene.was scene.now none.0

pub loaded_keeps : {D : Type 0} (disks : disk.Ghosts D) (file path : List ℕ) (scene : Scene D) → Loads disks file path scene
    → MakesArchiveBy KeepsEntry file scene.was scene.now
loaded_keeps disks file path scene (inl loaded) = loaded.makes
loaded_keeps disks file path scene (inr none) = none_keeps file scene.was scene.now none.0

-- nothing was done
pub left_keeps : {D : Type 0} (file : List ℕ) (was : List (DeskDeed D)) → SparesFiles (result_places file None false) was was
left_keeps file was = spares_none (result_places file None false) was
