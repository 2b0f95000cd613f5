-- What is done with FILE alone spares files.
use Rattle.std.proofs.Common.{◌≡◌, ◌⊎◌, inl, inr, ℕ, List, [], ◌∷◌, ◌++◌, refl, sym, subst}
use Rattle.std.specs.List.{AllByRecursion}
use Rattle.tune_disk.specs.declared.disk.Disk as disk
use Rattle.tune_disk.specs.declared.file.Access.{Access}
use Rattle.tune_disk.specs.declared.file.Access.TheVariants.{Read, Change}
use Rattle.tune_store.specs.State.{State}
use Rattle.tune_desk.specs.DeskDeeds.{DeskDeed, ChangesNothing}
use Rattle.tune_desk.specs.Results.{Places, SparesFiles, IsReading, result_places}
use Rattle.tune_desk.proofs.SpareLemmas.{spares_none, spares_reading, spares_both, quiet_all}
use Rattle.desk_scenes.specs.FileAnswers.{Did, IsVisited, IsAsked, IsUnasked}
use Rattle.desk_scenes.specs.Scenes.{IsQuiet}
use Rattle.desk_scenes.specs.Visits.{Visits, Mends, Comes, ComesToNothing, visit, failed_visit, spared, failed}
use Rattle.desk_scenes.proofs.QuietLemmas.{all_both}

module _ {D : Type 0} (disks : disk.Ghosts D) (places : Places) where
  -- VISITS
  pub visits_read : (access : Access) (deeds : List (DeskDeed D)) → Visits disks places.file access deeds → AllByRecursion (IsReading places) deeds
  visits_read Read _ (spared old new spares) = (refl, (refl, tt))
  visits_read Read _ (failed fault) = (refl, tt)
  visits_read Change _ (spared old new spares) = (refl, (refl, tt))
  visits_read Change _ (failed fault) = (refl, tt)

  pub reads_by : (deeds parts : List (DeskDeed D)) → deeds ≡ parts → AllByRecursion (IsReading places) parts → AllByRecursion (IsReading places) deeds
  reads_by deeds parts e h = subst (AllByRecursion (IsReading places)) (sym e) h

  pub mends_read : (deeds : List (DeskDeed D)) → Mends disks places.file deeds → AllByRecursion (IsReading places) deeds
  mends_read deeds (tried, mended, first, second, e) =
      reads_by deeds (tried ++ mended) e (all_both (IsReading places) tried mended (visits_read Read tried first) (visits_read Change mended second))

  pub comes_read : (deeds : List (DeskDeed D)) → Comes disks places.file deeds → AllByRecursion (IsReading places) deeds
  comes_read deeds (inl none) = reads_by deeds [] none tt
  comes_read deeds (inr mends) = mends_read deeds mends

  pub nothing_reads : (deeds : List (DeskDeed D)) → ComesToNothing disks places.file deeds → AllByRecursion (IsReading places) deeds
  nothing_reads deeds (inl mends) = mends_read deeds mends
  nothing_reads deeds (inr (before, tried, comes, visits, e)) =
      reads_by deeds (before ++ tried) e (all_both (IsReading places) before tried (comes_read before comes) (visits_read Read tried visits))

  pub visited_reads : (deeds : List (DeskDeed D)) → IsVisited disks places.file deeds → AllByRecursion (IsReading places) deeds
  visited_reads deeds h =
      reads_by deeds (h.before ++ visit places.file Read h.old h.new) h.are
      (all_both (IsReading places) h.before (visit places.file Read h.old h.new) (comes_read h.before h.comes) (refl, (refl, tt)))

  pub unasked_reads : (deeds : List (DeskDeed D)) → IsUnasked disks places.file deeds → AllByRecursion (IsReading places) deeds
  unasked_reads deeds (inl nothing) = nothing_reads deeds nothing
  unasked_reads deeds (inr visited) = visited_reads deeds visited

  -- what was done since is reading
  pub spares_since : (was now since : List (DeskDeed D)) → now ≡ was ++ since → AllByRecursion (IsReading places) since → SparesFiles places was now
  spares_since was now since e h = subst (SparesFiles places was) (sym e) (spares_reading places was since h)

  pub spares_same : (was now : List (DeskDeed D)) → now ≡ was → SparesFiles places was now
  spares_same was now e = subst (SparesFiles places was) (sym e) (spares_none places was)

  pub asked_spares : (Told : State → Type 0) (was now : List (DeskDeed D)) → Did was now (IsAsked disks places.file Told) → SparesFiles places was now
  asked_spares Told was now did = spares_since was now did.0 did.1 (visited_reads did.0 did.2.visited)

  pub unasked_spares : (was now : List (DeskDeed D)) → Did was now (IsUnasked disks places.file) → SparesFiles places was now
  unasked_spares was now did = spares_since was now did.0 did.1 (unasked_reads did.0 did.2)

  pub quiet_spares : (was now : List (DeskDeed D)) → IsQuiet was now → SparesFiles places was now
  quiet_spares was now did = spares_since was now did.0 did.1 (quiet_all places did.0 did.2)
