-- What a stop leaves between the parts of a commit.
use Rattle.std.proofs.Common.{◌≡◌, ℕ, List, refl, sym, subst, arith}
use Rattle.tune_disk.specs.Disk.{DiskState, MayLeave, settled}
use Rattle.tune_disk.specs.Inside.Spares.{Agrees}
use Rattle.tune_disk.specs.Stops.{LeavesOnly}
use Rattle.tune_disk.proofs.Moments.{settled_leaves}
use Rattle.tune_journal.specs.Image.{StandsFor, pages_of, log_of, entries, entry_count_of}
use Rattle.tune_journal.specs.Inside.Phases.{KeepsBoth, IsOutside}
use Rattle.tune_journal.specs.Inside.Rest.{IsAtRest, IsOpened, IsApplied}
use Rattle.tune_journal.specs.FileOffsets.{gate_offset}
use Rattle.tune_journal.specs.Pages.{changed_pages}
use Rattle.tune_journal.proofs.Standing.{stands_closed, stands_applying, stands_closing, log_same}

-- a stop over a settled disk leaves its file
settled_only : (P : List ℕ → Type 0) (s : DiskState) → s.now ≡ settled s.seen → P s.seen → LeavesOnly s.now P
settled_only P s rest here file left =
    (let l : MayLeave (settled s.seen) file = subst (λ m. MayLeave m file) rest left in subst P (sym (settled_leaves s.seen file l)) here)

agrees_self : (Kept : ℕ → Type 0) (f : List ℕ) → Agrees Kept f f
agrees_self Kept f = record { longer = omega arith; same = λ i lt kept. refl }

pub rest_stands : (n : ℕ) (s : DiskState) → IsAtRest n s → StandsFor (pages_of n s.seen) s.seen
rest_stands n s rest = stands_closed n s.seen s.seen rest.headed rest.gate rest.count rest.pages refl

pub rest_leaves : (n : ℕ) (s : DiskState) → IsAtRest n s → LeavesOnly s.now (StandsFor (pages_of n s.seen))
rest_leaves n s rest = settled_only (StandsFor (pages_of n s.seen)) s rest.settled (rest_stands n s rest)

pub opened_leaves : (m : ℕ) (s : DiskState) → IsOpened m s → LeavesOnly s.now (StandsFor (changed_pages (pages_of m s.seen) (log_of s.seen)))
opened_leaves m s opened = settled_only (StandsFor (changed_pages (pages_of m s.seen) (log_of s.seen))) s opened.settled
    (subst (λ (l : List (ℕ × List ℕ)). StandsFor (changed_pages (pages_of m s.seen) l) s.seen) (sym (log_same m s.seen opened.new_count))
    (stands_applying m s opened s.seen (agrees_self (KeepsBoth (entries m (entry_count_of s.seen) s.seen)) s.seen)))

pub applied_leaves : (m : ℕ) (s : DiskState) → IsApplied m s → LeavesOnly s.now (StandsFor (pages_of m s.seen))
applied_leaves m s applied =
    settled_only (StandsFor (pages_of m s.seen)) s applied.opened.settled (stands_closing m s applied s.seen (agrees_self (IsOutside gate_offset 1) s.seen))
