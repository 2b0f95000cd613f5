use Rattle.std.proofs.Common.{◌≡◌, ℕ, ◌<◌, ◌≤◌, length, take, All}
use Rattle.tune_disk.specs.Inside.Spares.{SparesOffsets}
use Rattle.tune_journal.specs.Image.{pages_of, page_offset}
use Rattle.tune_journal.specs.Inside.Phases.{IsInNoPage}
use Rattle.tune_journal.specs.Inside.ShortImages.{IsBlankFrom}
use Rattle.tune_journal.specs.Pages.{changed_pages}
use Rattle.tune_journal.proofs.commit.write_images.Given as goal

abbrev pub invariant-loop-place : goal.invariant-loop-place
invariant-loop-place g l = record {
  used : IsBlankFrom l.used l.image.bytes;
  honest : g.D.Disk.honest l.disk → g.D.Disk.honest l.initial.disk;
  spares : g.D.Disk.honest l.disk → SparesOffsets (IsInNoPage l.changes) (g.D.Disk.state l.initial.disk) (g.D.Disk.state l.disk);
  images : g.D.Disk.honest l.disk → (n : ℕ) → page_offset n ≤ length (g.D.Disk.state l.initial.disk).seen → All (λ e. e.0 < n) l.changes
      → pages_of n (g.D.Disk.state l.disk).seen ≡ changed_pages (pages_of n (g.D.Disk.state l.initial.disk).seen) (take l.place l.changes);
  failures : g.D.Disk.failures l.disk ≡ g.D.Disk.failures l.initial.disk;
}
