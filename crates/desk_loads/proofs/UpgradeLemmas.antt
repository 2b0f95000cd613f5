-- FILE, brought to layout 2.
use Rattle.std.proofs.Common.{◌≡◌, ◌⊎◌, inl, inr, ℕ, List, [], ◌∷◌, ◌++◌, refl, ap, ◌∙◌, None, Some, false, Ok, Err, arith}
use Rattle.std.proofs.lemmas.List.{append_assoc}
use Rattle.tune_disk.specs.Stops.{LeavesOnly}
use Rattle.tune_disk.specs.declared.disk.Disk as disk
use Rattle.tune_disk.specs.declared.file.Access.TheVariants.{Change}
use Rattle.tune_pages.specs.Kept.{HonestAt}
use Rattle.tune_store.specs.Limits.{layout_number}
use Rattle.tune_store.specs.declared.layout.Layout.{Layout}
use Rattle.tune_store.specs.declared.layout.Layout.TheVariants.{One, Two}
use Rattle.tune_format.specs.States.{Holds}
use Rattle.tune_archive.specs.Shelf.{Shelf, state_of}
use Rattle.tune_desk.specs.DeskDeeds.{DeskDeed, opened, closed}
use Rattle.tune_desk.specs.Results.{SparesFiles, result_places}
use Rattle.desk_scenes.specs.OpenedFile.{Opens}
use Rattle.desk_scenes.specs.FileAnswers.{Did}
use Rattle.desk_scenes.specs.Visits.{Visits, visit}
use Rattle.desk_scenes.specs.declared.unanswered.Unanswered.{Unanswered}
use Rattle.desk_scenes.specs.declared.unanswered.Unanswered.TheVariants.{Unopened, Refused}
use Rattle.desk_scenes.proofs.FileLemmas.{spares_since}
use Rattle.desk_loads.specs.Inside.LayoutChanges.{UpgradesFile}
use Rattle.desk_loads.specs.Upgraded.{IsOpenedOnce, RefusesUpgrade}

pub layout_two : (layout : Layout) → layout_number layout ≡ 2 → layout ≡ Two
layout_two One e = absurd (omega (arith, e))
layout_two Two e = refl

module _ {D : Type 0} (disks : disk.Ghosts D) (file : List ℕ) (start finish : Shelf D) (was mid now : List (DeskDeed D)) (new : D) where
  pub visited : (h : Opens disks file Change start was mid) → now ≡ mid ++ closed file new ∷ [] → now ≡ was ++ visit file Change h.old new
  visited h e = e ∙ ap (λ l. l ++ closed file new ∷ []) h.deeds ∙ append_assoc was (opened file Change (Ok h.old) ∷ []) (closed file new ∷ [])

  pub opened_once : (Does : Shelf D → Shelf D → Type 0) → Opens disks file Change start was mid → finish.pages.disk ≡ Some new
      → now ≡ mid ++ closed file new ∷ []
      → (HonestAt disks.honest finish.pages.disk → finish.closed ≡ false → LeavesOnly (disks.state new).now (λ left. Holds left (state_of disks.state finish)))
      → Does start finish → IsOpenedOnce disks file Does was now
  opened_once Does h held e rest does = record {
    old = h.old;
    new = new;
    start = start;
    finish = finish;
    is = h.is;
    became = held;
    deeds = visited h e;
    rest = rest;
    does = does;
  }

  pub visit_spares : Opens disks file Change start was mid → now ≡ mid ++ closed file new ∷ [] → SparesFiles (result_places file None false) was now
  visit_spares h e = spares_since disks (result_places file None false) was now (visit file Change h.old new) (visited h e) (refl, (refl, tt))

-- FILE was not opened, or it refused
pub not_upgraded : {D : Type 0} (disks : disk.Ghosts D) (file : List ℕ) (why : Unanswered) (was now : List (DeskDeed D))
    → UpgradesFile disks file (Err why) was now → Did was now (Visits disks file Change) ⊎ IsOpenedOnce disks file (RefusesUpgrade disks) was now
not_upgraded disks file (Unopened why) was now h = inl h
not_upgraded disks file (Refused refusal) was now h = inr (record {
  old = h.old;
  new = h.new;
  start = h.start;
  finish = h.finish;
  is = h.is;
  became = h.became;
  deeds = h.deeds;
  rest = h.rest;
  does = (refusal, h.does);
})
