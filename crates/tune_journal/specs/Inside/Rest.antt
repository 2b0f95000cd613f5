-- The states of a journal's disk between its calls.
use Rattle.std.specs.Prelude.{◌≡◌, ◌≢◌, ℕ}
use Rattle.tune_disk.specs.Disk.{DiskState, settled}
use Rattle.tune_journal.specs.Image.{IsHeaded, HasPageCount, HasLog, count_of, new_count_of}
use Rattle.tune_journal.specs.Image.{gate_of, pages_of, log_of, entry_count_of}
use Rattle.tune_journal.specs.FileOffsets.{gate_open}
use Rattle.tune_journal.specs.Pages.{changed_pages}

-- n pages at their offsets behind a closed gate, all of it on the disk
pub record IsAtRest (n : ℕ) (s : DiskState) : Type 0 where
  pub settled : s.now ≡ settled s.seen
  pub headed : IsHeaded s.seen
  pub gate : gate_of s.seen ≢ gate_open
  pub count : count_of s.seen ≡ n
  pub pages : HasPageCount n s.seen

-- and a whole log behind m pages
pub record IsLogged (n m : ℕ) (s : DiskState) : Type 0 where
  pub rest : IsAtRest n s
  pub new_count : new_count_of s.seen ≡ m
  pub log : HasLog m (entry_count_of s.seen) s.seen

-- the gate is open
pub record IsOpened (m : ℕ) (s : DiskState) : Type 0 where
  pub settled : s.now ≡ settled s.seen
  pub headed : IsHeaded s.seen
  pub gate : gate_of s.seen ≡ gate_open
  pub new_count : new_count_of s.seen ≡ m
  pub log : HasLog m (entry_count_of s.seen) s.seen

-- and the images stand in their pages too
pub record IsApplied (m : ℕ) (s : DiskState) : Type 0 where
  pub opened : IsOpened m s
  pub count : count_of s.seen ≡ m
  pub pages : pages_of m s.seen ≡ changed_pages (pages_of m s.seen) (log_of s.seen)
