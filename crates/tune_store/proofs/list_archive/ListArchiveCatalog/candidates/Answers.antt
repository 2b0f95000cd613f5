use Rattle.std.proofs.Common.{◌≡◌, ◌+◌, ◌<◌, ◌≤◌, refl, length, ap, arith}
use Rattle.tune_store.proofs.PlanLemmas.{labels_long}
use Rattle.tune_store.proofs.CandidateLemmas.{range_rises, range_has}
use Rattle.tune_store.specs.State.{State}
use Rattle.tune_store.specs.Labels.{labels_of}
use Rattle.tune_store.proofs.list_archive.ListArchiveCatalog.candidates.Goals as goal

pub returns : goal.returns
returns c =
    let tunes = c.args.self.now.tunes in
    let count = c.len.result in
    let items = c.in_ok-all_places.ensures in
    let many = labels_long tunes (labels_of tunes) refl in
    let whole : count ≡ length tunes = omega (arith, c.len.ensures, ap (λ (s : State). length s.tunes) c.self.view_is) in
    let fits : 0 + count ≤ length (labels_of tunes) = omega (arith, many, whole) in (
      refl,
      rw items (range_rises 0 count _ fits),
      λ honest place d l found.
          let in_range : place < count = omega (arith, l, whole) in
          rw items (range_has count place in_range),
    )
