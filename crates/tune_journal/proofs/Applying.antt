-- Images that are put into their pages behind an open gate: those of a commit, or those of the log.
use Rattle.std.proofs.Common.{◌≡◌, ℕ, List, length, sym, ◌∙◌, ap, subst, Result}
use Rattle.tune_disk.specs.Disk.{DiskState}
use Rattle.tune_disk.specs.Stops.{SinceThen}
use Rattle.tune_journal.specs.Image.{StandsFor, log_of, entries, pages_of, entry_count_of, new_count_of, count_of}
use Rattle.tune_journal.specs.Inside.Looking.{HasEntries}
use Rattle.tune_journal.specs.Inside.Phases.{KeepsBoth, WritesAndSyncs, Settles}
use Rattle.tune_journal.specs.Inside.Rest.{IsOpened, IsApplied}
use Rattle.tune_journal.specs.Pages.{changed_pages}
use Rattle.tune_journal.proofs.CallRuns.{run_since}
use Rattle.tune_journal.proofs.AfterParts.{applied_after}
use Rattle.tune_journal.proofs.Agreeing.{length-entries}
use Rattle.tune_journal.proofs.Standing.{stands_applying, log_same}
use Rattle.tune_journal.proofs.Openings.{opened_entries}

module _ (m : ℕ) (old new : DiskState) (log : List (ℕ × List ℕ)) (opened : IsOpened m old) (is : log ≡ log_of old.seen) where
  abbrev behind : List (ℕ × List ℕ)
  behind = entries m (entry_count_of old.seen) old.seen

  same : log ≡ behind
  same = is ∙ log_same m old.seen opened.new_count

  pub applying_since : {T E : Type 0} (r : Result T E) → WritesAndSyncs (KeepsBoth log) r old new
      → SinceThen old new (StandsFor (changed_pages (pages_of m old.seen) (log_of old.seen)))
  applying_since r ran =
      run_since (StandsFor (changed_pages (pages_of m old.seen) (log_of old.seen))) (KeepsBoth behind) r old new opened.settled
      (subst (λ (l : List (ℕ × List ℕ)). WritesAndSyncs (KeepsBoth l) r old new) same ran)
      (λ file agrees. subst (λ (l : List (ℕ × List ℕ)). StandsFor (changed_pages (pages_of m old.seen) l) file)
      (sym (log_same m old.seen opened.new_count)) (stands_applying m old opened file agrees))

  pub applying_ends : Settles (KeepsBoth log) old new → count_of new.seen ≡ m
      → pages_of m new.seen ≡ changed_pages (pages_of m old.seen) log → IsApplied m new
  applying_ends ran count pages =
      applied_after m old new opened (subst (λ (l : List (ℕ × List ℕ)). Settles (KeepsBoth l) old new) same ran) count
      (pages ∙ ap (changed_pages (pages_of m old.seen)) is)

-- A log of k entries is the one that stands behind m pages.
module _ (m k : ℕ) (s : DiskState) (opened : IsOpened m s) (size : length (log_of s.seen) ≡ k) where
  counted : entry_count_of s.seen ≡ k
  counted = sym (length-entries (new_count_of s.seen) (entry_count_of s.seen) s.seen) ∙ size

  pub has_entries : HasEntries m k s.seen
  has_entries = opened_entries m k s opened counted

  pub entries_are_log : entries m k s.seen ≡ log_of s.seen
  entries_are_log = ap (λ (j : ℕ). entries m j s.seen) (sym counted) ∙ sym (log_same m s.seen opened.new_count)
