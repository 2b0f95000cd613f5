-- Calls that work on FILE's archive, one after another.
use Rattle.std.proofs.Common.{ℕ, List, [], ◌++◌, refl, None, false}
use Rattle.std.specs.Prelude.{Result}
use Rattle.tune_disk.specs.declared.disk.Disk as disk
use Rattle.tune_archive.specs.AsStore.{store_on}
use Rattle.tune_archive.specs.Shelf.{Shelf}
use Rattle.tune_asking.specs.Asking.{IsOnlyAsked}
use Rattle.tune_changes.specs.Carrying.{Carries}
use Rattle.tune_scripts.proofs.CarriedLemmas.{carries_more}
use Rattle.tune_store.specs.declared.command.Command.{Command}
use Rattle.tune_store.specs.declared.command.Refusal.{Refusal}
use Rattle.tune_desk.specs.DeskDeeds.{DeskDeed}
use Rattle.tune_desk.specs.Results.{SparesFiles, result_places}
use Rattle.tune_desk.proofs.SpareLemmas.{spares_both, spares_none}
use Rattle.desk_changes.specs.ChangedFiles.{Passage}
use Rattle.desk_changes.specs.Inside.Works.{Works, WorksBeside}

module _ {D : Type 0} (disks : disk.Ghosts D) where
  pub works_none : (here : Shelf D) → Works disks here here
  works_none here = record { was_honest = λ h. h; stays_sound = λ h. h; carried = λ h. ([], refl) }

  pub works_asked : (start finish : Shelf D) → IsOnlyAsked (store_on disks) start finish → Works disks start finish
  works_asked start finish asked = record {
    was_honest = asked.was_honest;
    stays_sound = asked.stays_sound;
    carried = λ h. (let by = asked.carried h in (by.carried, by.carries_out));
  }

  pub works_carried : {T : Type 0} (start finish : Shelf D) (commands : List Command) (result : Result T Refusal)
      → Carries (store_on disks) start finish commands result → Works disks start finish
  works_carried start finish commands result carries = record {
    was_honest = carries.was_honest;
    stays_sound = carries.stays_sound;
    carried = λ h. (let by = carries.carried h in (by.carried, by.carries_out));
  }

  pub works_both : (start mid finish : Shelf D) → Works disks start mid → Works disks mid finish → Works disks start finish
  works_both start mid finish first second = record {
    was_honest = λ h. first.was_honest (second.was_honest h);
    stays_sound = λ h. second.stays_sound (first.stays_sound h);
    carried = λ h.
        let one = first.carried (second.was_honest h) in
        let more = second.carried h in
        (one.0 ++ more.0, carries_more (store_on disks) one.0 more.0 start mid finish one.1 more.1);
  }

  module _ (file : List ℕ) where
    -- a course of these ends
    abbrev pub course_of : Shelf D → Shelf D → List (DeskDeed D) → List (DeskDeed D) → Passage D
    course_of start finish was now = record { start = start; finish = finish; was = was; now = now }

    pub beside_none : (here : Shelf D) (was : List (DeskDeed D)) → WorksBeside disks file (course_of here here was was)
    beside_none here was = record { works = works_none here; spares = spares_none (result_places file None false) was }

    pub beside_both : (start mid finish : Shelf D) (was then_ now : List (DeskDeed D)) → WorksBeside disks file (course_of start mid was then_)
        → WorksBeside disks file (course_of mid finish then_ now) → WorksBeside disks file (course_of start finish was now)
    beside_both start mid finish was then_ now first second = record {
      works = works_both start mid finish first.works second.works;
      spares = spares_both (result_places file None false) was then_ now first.spares second.spares;
    }

    -- the archive alone was worked on; the book of old texts alone grew
    pub beside_archive : (start finish : Shelf D) (was : List (DeskDeed D)) → Works disks start finish → WorksBeside disks file (course_of start finish was was)
    beside_archive start finish was works = record { works = works; spares = spares_none (result_places file None false) was }

    pub beside_files : (here : Shelf D) (was now : List (DeskDeed D)) → SparesFiles (result_places file None false) was now
        → WorksBeside disks file (course_of here here was now)
    beside_files here was now spares = record { works = works_none here; spares = spares }

    pub beside_asked : (start finish : Shelf D) (was : List (DeskDeed D)) → IsOnlyAsked (store_on disks) start finish
        → WorksBeside disks file (course_of start finish was was)
    beside_asked start finish was asked = beside_archive start finish was (works_asked start finish asked)

    -- one more of either
    pub then_works : (start mid finish : Shelf D) (was now : List (DeskDeed D)) → WorksBeside disks file (course_of start mid was now) → Works disks mid finish
        → WorksBeside disks file (course_of start finish was now)
    then_works start mid finish was now first works = beside_both start mid finish was now now first (beside_archive mid finish now works)

    pub then_files : (start finish : Shelf D) (was mid now : List (DeskDeed D)) → WorksBeside disks file (course_of start finish was mid)
        → SparesFiles (result_places file None false) mid now → WorksBeside disks file (course_of start finish was now)
    then_files start finish was mid now first spares = beside_both start finish finish was mid now first (beside_files finish mid now spares)
