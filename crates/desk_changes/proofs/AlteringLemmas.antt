-- A change, by its parts: the look, the entry and the turns, and FILE around them.
use Rattle.std.proofs.Common.{◌≡◌, inl, inr, ℕ, List, [], ◌∷◌, ◌++◌, Some, None, Ok, Err, false, refl, sym, subst, append-nil}
use Rattle.std.specs.Prelude.{Result}
use Rattle.tune_disk.specs.declared.disk.Disk as disk
use Rattle.tune_disk.specs.declared.file.Access.TheVariants.{Change}
use Rattle.tune_pages.specs.Kept.{HonestAt}
use Rattle.tune_archive.specs.AsStore.{store_on}
use Rattle.tune_archive.specs.Shelf.{Shelf, state_of}
use Rattle.tune_asking.specs.Asking.{IsOnlyAsked}
use Rattle.tune_changes.specs.declared.turns.Turn.{Turn}
use Rattle.tune_desk.specs.DeskDeeds.{DeskDeed, closed}
use Rattle.tune_desk.specs.OldTexts.{GrowsNot}
use Rattle.tune_desk.specs.Results.{SparesFiles, IsReading, result_places}
use Rattle.tune_desk.proofs.SpareLemmas.{spares_one_more, spares_both, spares_none}
use Rattle.tune_store.specs.State.{State}
use Rattle.tune_undo.specs.declared.old_entries.EntryKind.{EntryKind}
use Rattle.desk_scenes.specs.OpenedFile.{Opens}
use Rattle.desk_changes.specs.ChangedFiles.{Passage, ChangesBy, LeavesAll, IsChangedWithin}
use Rattle.desk_changes.specs.Inside.Turning.{TurnsBehindEntry, Alters, AltersFile}

-- nothing was kept
pub grows_none : {D : Type 0} (file : List ℕ) (was : List (DeskDeed D)) → GrowsNot file was was
grows_none file was =
    record { asked = []; tried = []; history = sym (append-nil was); changes_nothing = tt; failed = inl refl }

module _ {D : Type 0} (disks : disk.Ghosts D) (file : List ℕ) (kind : EntryKind) (Means : State → List Turn → Type 0) where
  -- a look that was refused
  pub look_refused : {A : Type 0} (T : Type 0) (start finish : Shelf D) (was : List (DeskDeed D)) (why : A) → IsOnlyAsked (store_on disks) start finish
      → Alters {T = T} disks file kind Means (Err why) (record { start = start; finish = finish; was = was; now = was })
  look_refused T start finish was why asked = inl (record { asked = asked; unkept = grows_none file was })

  -- turns behind a look
  pub look_then : {T A : Type 0} (turns : List Turn) (start mid finish : Shelf D) (was now : List (DeskDeed D)) (result : Result T A)
      → IsOnlyAsked (store_on disks) start mid
      → (HonestAt disks.honest mid.pages.disk → Means (state_of disks.state start) turns)
      → TurnsBehindEntry disks file kind turns result (record { start = mid; finish = finish; was = was; now = now })
      → Alters disks file kind Means result (record { start = start; finish = finish; was = was; now = now })
  look_then turns start mid finish was now (Ok done) asked means brings =
      record { turns = turns; mid = mid; looked = asked; means = means; brings = brings }
  look_then turns start mid finish was now (Err why) asked means (inl left) =
      inl (record { asked = subst (λ end. IsOnlyAsked (store_on disks) start end) (sym left.0) asked; unkept = left.1 })
  look_then turns start mid finish was now (Err why) asked means (inr (refusal, brings)) =
      inr (refusal, record { turns = turns; mid = mid; looked = asked; means = means; brings = brings })

  -- FILE around it
  pub held : (Does : Passage D → Type 0) (start finish : Shelf D) (was began ended now : List (DeskDeed D)) (new : D)
      → Opens disks file Change start was began → finish.pages.disk ≡ Some new → now ≡ ended ++ closed file new ∷ []
      → Does (record { start = start; finish = finish; was = began; now = ended }) → IsChangedWithin disks file Does was now
  held Does start finish was began ended now new opens became close does = record {
    old = opens.old;
    new = new;
    course = record { start = start; finish = finish; was = began; now = ended };
    is = opens.is;
    became = became;
    began = opens.deeds;
    ended = close;
    does = does;
  }

  pub alters_file : {T A : Type 0} (start finish : Shelf D) (was began ended now : List (DeskDeed D)) (new : D) (result : Result T A)
      → Opens disks file Change start was began → finish.pages.disk ≡ Some new → now ≡ ended ++ closed file new ∷ []
      → Alters disks file kind Means result (record { start = start; finish = finish; was = began; now = ended })
      → AltersFile disks file kind Means result (record { was = was; now = now })
  alters_file start finish was began ended now new (Ok done) opens became close alters =
      held (ChangesBy disks file kind Means (Ok tt)) start finish was began ended now new opens became close alters
  alters_file start finish was began ended now new (Err why) opens became close (inl left) =
      inr (inl (held (LeavesAll disks file) start finish was began ended now new opens became close left))
  alters_file start finish was began ended now new (Err why) opens became close (inr (refusal, changes)) =
      inr (inr (refusal, held (ChangesBy disks file kind Means (Err refusal)) start finish was began ended now new opens became close changes))

-- FILES
-- opening FILE to change, and closing it, spares files
pub opens_spares : {D : Type 0} (file : List ℕ) (was mid : List (DeskDeed D)) (deed : DeskDeed D) → mid ≡ was ++ deed ∷ []
    → IsReading (result_places file None false) deed → SparesFiles (result_places file None false) was mid
opens_spares file was mid deed e reads =
    spares_one_more (result_places file None false) was was mid deed (spares_none (result_places file None false) was) e reads

pub around_spares : {D : Type 0} (file : List ℕ) (was began ended now : List (DeskDeed D)) (first last : DeskDeed D) → began ≡ was ++ first ∷ []
    → IsReading (result_places file None false) first → SparesFiles (result_places file None false) began ended → now ≡ ended ++ last ∷ []
    → IsReading (result_places file None false) last → SparesFiles (result_places file None false) was now
around_spares file was began ended now first last e reads spares f closes =
    spares_one_more (result_places file None false) was ended now last
    (spares_both (result_places file None false) was began ended (opens_spares file was began first e reads) spares) f closes
