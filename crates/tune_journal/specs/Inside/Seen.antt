-- How a journal and the states of a commit are seen, and what holds of them.
use Rattle.std.specs.Prelude.{ℕ, ◌≤◌, List, refl}
use Rattle.std.specs.Coded.{Coded, code_by, coded×, coded_list, coded_ℕ}
use Rattle.tune_disk.specs.Disk.{DiskState}
use Rattle.tune_journal.specs.Held.{Held, Staged, Decided}
use Rattle.tune_journal.specs.Image.{pages_of, log_of}
use Rattle.tune_journal.specs.Inside.ReadAhead.{AheadPages, IsAhead}
use Rattle.tune_journal.specs.Inside.Rest.{IsAtRest, IsLogged, IsOpened, IsApplied}
use Rattle.tune_journal.specs.FileOffsets.{most_pages}
use Rattle.tune_journal.specs.Pages.{changed_pages}

-- codes of lists of pages, and of changes
abbrev pages_code : Coded (List (List ℕ))
pages_code = coded_list (coded_list coded_ℕ)

abbrev changes_code : Coded (List (ℕ × List ℕ))
changes_code = coded_list (coded× coded_ℕ (coded_list coded_ℕ))

module _ {D : Type 0} where
  -- each is stored as the tuple of its fields
  abbrev pub held_code : Coded D → Coded (Held D)
  held_code code =
      code_by (D × List (List ℕ)) (coded× code pages_code)
      (λ h. (h.disk, h.pages)) (λ p. record { disk = p.0; pages = p.1 }) (λ _. refl)

  abbrev pub decided_code : Coded D → Coded (Decided D)
  decided_code code =
      code_by (D × (List (List ℕ) × List (ℕ × List ℕ)))
      (coded× code (coded× pages_code changes_code))
      (λ h. (h.disk, (h.pages, h.changes)))
      (λ p. record { disk = p.0; pages = p.1.0; changes = p.1.1 }) (λ _. refl)

  abbrev pub staged_code : Coded D → Coded (Staged D)
  staged_code code =
      code_by (D × (List (List ℕ) × (List (ℕ × List ℕ) × List (List ℕ))))
      (coded× code (coded× pages_code (coded× changes_code pages_code)))
      (λ h. (h.disk, (h.pages, (h.changes, h.next))))
      (λ p. record { disk = p.0; pages = p.1.0; changes = p.1.1.0; next = p.1.1.1 }) (λ _. refl)

  module _ (state : D → DiskState) where
    -- the first n pages of the disk
    abbrev pub held : D → ℕ → Held D
    held disk n = record { disk = disk; pages = pages_of n (state disk).seen }

    -- the first n pages, and what the log makes of the first m
    abbrev pub staged : D → ℕ → ℕ → Staged D
    staged disk n m = record {
      disk = disk;
      pages = pages_of n (state disk).seen;
      changes = log_of (state disk).seen;
      next = changed_pages (pages_of m (state disk).seen) (log_of (state disk).seen);
    }

    -- what the log makes of the first m pages
    abbrev pub decided : D → ℕ → Decided D
    decided disk m = record {
      disk = disk;
      pages = changed_pages (pages_of m (state disk).seen) (log_of (state disk).seen);
      changes = log_of (state disk).seen;
    }

  -- A count is in bounds whatever the disk answered; the rest holds of an honest disk alone.
  module _ (honest : D → Type 0) (state : D → DiskState) where
    pub record IsSound (disk : D) (n : ℕ) (held_ahead : AheadPages) : Type 0 where
      pub least : 1 ≤ n
      pub most : n ≤ most_pages
      pub rest : honest disk → IsAtRest n (state disk)
      pub ahead : IsAhead honest state disk n held_ahead

    pub record IsSoundLogged (disk : D) (n m : ℕ) : Type 0 where
      pub least : 1 ≤ m
      pub most : m ≤ most_pages
      pub logged : honest disk → IsLogged n m (state disk)

    pub record IsSoundOpened (disk : D) (m : ℕ) : Type 0 where
      pub least : 1 ≤ m
      pub most : m ≤ most_pages
      pub opened : honest disk → IsOpened m (state disk)

    pub record IsSoundApplied (disk : D) (m : ℕ) : Type 0 where
      pub least : 1 ≤ m
      pub most : m ≤ most_pages
      pub applied : honest disk → IsApplied m (state disk)
