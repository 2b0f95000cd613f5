-- Copies that are checked.
use Rattle.std.proofs.Common.{◌≡◌, ℕ, List, [], ◌∷◌, ◌++◌, refl, ap, sym, ◌∙◌, subst, Some, Result, Ok, Err, append-nil, length}
use Rattle.std.specs.Prelude.{IfOk}
use Rattle.std.proofs.lemmas.List.{append_assoc}
use Rattle.sha2.specs.Sha256.{sha256}
use Rattle.tune_disk.specs.Disk.{DiskState}
use Rattle.tune_disk.specs.declared.disk.Disk as disk
use Rattle.tune_disk.specs.declared.file.Access.TheVariants.{Read}
use Rattle.tune_pages.specs.Kept.{HonestAt}
use Rattle.tune_store.specs.Limits.{layout_number}
use Rattle.tune_format.specs.States.{Holds}
use Rattle.tune_archive.specs.Shelf.{Shelf, state_of}
use Rattle.tune_archive.specs.declared.archive.Counts.{Counts}
use Rattle.tune_desk.specs.DeskDeeds.{DeskDeed, opened, closed}
use Rattle.desk_copies.specs.Copies.{IsLookedAt}
use Rattle.desk_copies.specs.Inside.Asked.{AsksSum}
use Rattle.desk_scenes.specs.FileAnswers.{HeldState}
use Rattle.desk_scenes.specs.OpenedFile.{CountsOf}
use Rattle.desk_scenes.specs.Scenes.{IsQuiet}
use Rattle.desk_scenes.proofs.QuietLemmas.{quiet_both, quiet_one}
use Rattle.desk_backups.specs.CheckedCopies.{ChecksFile}
use Rattle.desk_backups.specs.Inside.Checking.{ChecksDisk, IsGood}
use Rattle.desk_backups.specs.declared.backup_reasons.Unchecked.{Unchecked}
use Rattle.desk_backups.specs.declared.checked_copies.Checking.{Checking}

module _ {D : Type 0} (disks : disk.Ghosts D) where
  -- the archive of a disk told its counts
  pub counts_held : (disk after : D) (archive : Shelf D) (counts : Counts) → archive.pages.disk ≡ Some after
      → (HonestAt disks.honest archive.pages.disk → Holds (disks.state disk).seen (state_of disks.state archive))
      → (HonestAt disks.honest archive.pages.disk → (counts.layout ≡ layout_number (state_of disks.state archive).layout)
      × (counts.tunes ≡ length (state_of disks.state archive).tunes) × (counts.sets ≡ length (state_of disks.state archive).sets))
      → HeldState disks (CountsOf counts) disk after
  counts_held disk after archive counts at held counted honest =
      let met : HonestAt disks.honest archive.pages.disk = subst (HonestAt disks.honest) (sym at) honest in
      let all = counted met in (state_of disks.state archive, held met, record { layout = all.0; tunes = all.1; sets = all.2 })

  module _ (copy : List ℕ) where
    -- its sum agreed before
    pub agreed_held : {T E : Type 0} (done : T) (source looked : D) (sum : List ℕ) (checking : Checking D) (was now : List (DeskDeed D))
        → IsLookedAt disks.honest disks.state source looked → (disks.honest looked → sum ≡ sha256 (disks.state source).seen)
        → AsksSum {T = T} {E = E} copy sum (Ok done) was now → (disks.honest checking.disk → disks.honest looked)
        → IfOk checking.outcome (λ counts. HeldState disks (CountsOf counts) looked checking.disk) → ChecksDisk disks copy source checking was now
    agreed_held {T} {E} done source looked sum checking was now first summed asks kept told = record {
      asked = asks.asked;
      history = asks.history;
      quiet = asks.quiet;
      good = by checking.outcome told;
    }
      where
        by : (outcome : Result Counts Unchecked) → IfOk outcome (λ counts. HeldState disks (CountsOf counts) looked checking.disk)
            → IfOk outcome (IsGood disks copy source checking.disk asks.asked)
        by (Ok counts) held = record {
          sum = sum;
          agrees = asks.agrees;
          summed = λ met. summed (kept met);
          told = λ met. (let all = held met in
              (all.0, subst (λ (s : DiskState). Holds s.seen all.0) (first.same (kept met)) all.1, all.2));
        }
        by (Err why) held = tt

    pub disagreed : {T E : Type 0} (why : E) (source : D) (sum : List ℕ) (checking : Checking D) (fault : Unchecked) (was now : List (DeskDeed D))
        → AsksSum {T = T} {E = E} copy sum (Err why) was now → checking.outcome ≡ Err fault → ChecksDisk disks copy source checking was now
    disagreed why source sum checking fault was now asks is = record {
      asked = asks.asked;
      history = asks.history;
      quiet = asks.quiet;
      good = subst (λ outcome. IfOk outcome (IsGood disks copy source checking.disk asks.asked)) (sym is) tt;
    }

    pub unsummed : (source : D) (checking : Checking D) (fault : Unchecked) (was : List (DeskDeed D)) → checking.outcome ≡ Err fault
        → ChecksDisk disks copy source checking was was
    unsummed source checking fault was is = record {
      asked = [];
      history = sym (append-nil was);
      quiet = tt;
      good = subst (λ outcome. IfOk outcome (IsGood disks copy source checking.disk [])) (sym is) tt;
    }

    -- COPY was opened, and closed
    pub quiet_checked : (source : D) (checking : Checking D) (was first last now : List (DeskDeed D))
        → first ≡ was ++ opened copy Read (Ok source) ∷ [] → ChecksDisk disks copy source checking first last
        → now ≡ last ++ closed copy checking.disk ∷ [] → IsQuiet was now
    quiet_checked source checking was first last now e h k =
        quiet_both was last now (quiet_both was first last (quiet_one was first (opened copy Read (Ok source)) e refl) (h.asked, h.history, h.quiet))
        (quiet_one last now (closed copy checking.disk) k refl)

    pub tells_counts : (source : D) (checking : Checking D) (was first last now : List (DeskDeed D))
        → first ≡ was ++ opened copy Read (Ok source) ∷ [] → ChecksDisk disks copy source checking first last
        → now ≡ last ++ closed copy checking.disk ∷ [] → ChecksFile disks copy checking.outcome was now
    tells_counts source checking was first last now e h k = by checking.outcome h.good
      where
        all : now ≡ was ++ opened copy Read (Ok source) ∷ (h.asked ++ closed copy checking.disk ∷ [])
        all = k ∙ ap (λ l. l ++ closed copy checking.disk ∷ []) (h.history ∙ ap (λ l. l ++ h.asked) e)
            ∙ append_assoc (was ++ opened copy Read (Ok source) ∷ []) h.asked (closed copy checking.disk ∷ [])
            ∙ append_assoc was (opened copy Read (Ok source) ∷ []) (h.asked ++ closed copy checking.disk ∷ [])

        by : (outcome : Result Counts Unchecked) → IfOk outcome (IsGood disks copy source checking.disk h.asked) → ChecksFile disks copy outcome was now
        by (Ok counts) good = record {
          source = source;
          after = checking.disk;
          sum = good.sum;
          asked = h.asked;
          history = all;
          quiet = h.quiet;
          agrees = good.agrees;
          summed = good.summed;
          told = good.told;
        }
        by (Err why) good = quiet_checked source checking was first last now e h k
