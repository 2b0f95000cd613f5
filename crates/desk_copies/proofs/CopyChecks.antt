-- Archives that are copied, and checked.
use Rattle.std.proofs.Common.{◌≡◌, ℕ, List, ap, sym, ◌∙◌, subst, Some, Result, Ok, Err, length}
use Rattle.std.specs.Prelude.{IfOk}
use Rattle.sha2.specs.Sha256.{sha256}
use Rattle.tune_disk.specs.Disk.{DiskState}
use Rattle.tune_disk.specs.Stops.{LeavesOnly}
use Rattle.tune_pages.specs.Kept.{HonestAt}
use Rattle.tune_store.specs.Limits.{layout_number}
use Rattle.tune_store.specs.State.{State}
use Rattle.tune_format.specs.States.{Holds}
use Rattle.tune_archive.specs.Shelf.{Shelf, state_of}
use Rattle.tune_archive.specs.declared.archive.Counts.{Counts}
use Rattle.desk_scenes.specs.OpenedFile.{CountsOf}
use Rattle.desk_copies.specs.Copies.{CopiesArchive, IsCopied, IsLookedAt}
use Rattle.desk_copies.specs.Inside.Checks.{ChecksCopy}
use Rattle.desk_copies.specs.declared.archive_copies.Copied.{Copied}
use Rattle.desk_copies.specs.declared.archive_copies.Uncopied.{Uncopied}

module _ {D : Type 0} (honest : D → Type 0) (state : D → DiskState) where
  -- it was opened, and read once more
  pub checks_copy : (result : Result Copied Uncopied) (disk opened final : D) (archive : Shelf D) (counts : Counts) (sum : List ℕ)
      → archive.pages.disk ≡ Some opened → (HonestAt honest archive.pages.disk → Holds (state disk).seen (state_of state archive))
      → (HonestAt honest archive.pages.disk → LeavesOnly (state opened).now (λ file. Holds file (state_of state archive)))
      → (HonestAt honest archive.pages.disk → (counts.layout ≡ layout_number (state_of state archive).layout)
      × (counts.tunes ≡ length (state_of state archive).tunes) × (counts.sets ≡ length (state_of state archive).sets))
      → IsLookedAt honest state opened final → IfOk result (λ copied. honest final → sum ≡ sha256 (state opened).seen)
      → IfOk result (λ copied. (copied.counts ≡ counts) × (copied.sum ≡ sum))
      → IfOk result (λ copied. honest final → ChecksCopy (state disk) (state final) sum copied)
  checks_copy (Ok copied) disk opened final archive counts sum held holds rest counted looked summed same = λ h.
      let met : HonestAt honest archive.pages.disk = subst (HonestAt honest) (sym held) (looked.was_honest h) in
      let now : state final ≡ state opened = looked.same h in
      let st : State = state_of state archive in
      let all = counted met in
      record {
        state = st;
        held = holds met;
        kept = subst (λ (s : DiskState). LeavesOnly s.now (λ file. Holds file st)) (sym now) (rest met);
        counts = subst (λ n. CountsOf n st) (sym same.0) (record { layout = all.0; tunes = all.1; sets = all.2 });
        summed = same.1;
        same = summed h ∙ ap (λ (s : DiskState). sha256 s.seen) (sym now);
      }
  checks_copy (Err why) disk opened final archive counts sum held holds rest counted looked summed same = tt

  -- the bytes were copied before
  pub copies_archive : (result : Result Copied Uncopied) (from from1 to1 final : D) (sum : List ℕ)
      → IfOk result (λ copied. honest final → ChecksCopy (state to1) (state final) sum copied)
      → (honest from1 → honest to1 → IsCopied (state from) (state to1) sum) → (honest final → honest to1)
      → IfOk result (λ copied. honest from1 → honest final → CopiesArchive (state from) (state final) copied)
  copies_archive (Ok copied) from from1 to1 final sum checks copies kept = λ h k.
      let check = checks k in
      let copy = copies h (kept k) in
      record {
        state = check.state;
        held = subst (λ seen. Holds seen check.state) copy.shown check.held;
        kept = check.kept;
        counts = check.counts;
        summed = check.summed ∙ copy.summed;
        same = check.summed ∙ check.same;
      }
  copies_archive (Err why) from from1 to1 final sum checks copies kept = tt
