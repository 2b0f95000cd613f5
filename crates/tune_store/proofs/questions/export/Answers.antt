use Rattle.std.proofs.Common.{◌≡◌, ◌<◌, length, sym, ap, ◌∙◌, arith}
use Rattle.tune_store.specs.State.{State}
use Rattle.tune_store.specs.Labels.{labels_of}
use Rattle.tune_store.proofs.PlanLemmas.{export_next}
use Rattle.tune_store.proofs.questions.export.Goals as goal

pub loop-place-preserved : goal.loop-place-preserved
loop-place-preserved g c =
    let catalog = g.C.Catalog in
    let law = g.met.C.Catalog in
    let old = c.args.catalog.now in
    let mid = c.loop-place.catalog in
    let new = c.fetch.new.self in
    let tunes = (catalog.state old).tunes in
    let before = c.loop-place.invariant.fetched in
    let one = c.in_ok-fetch.ensures.0 in
    let all = law.more_fetched old mid new before one in
    let labels = law.labels_stay old mid before in
    let within : c.loop-place.place < length (catalog.labels mid) = omega (arith, c.loop-place-test.true, c.len-place-end.ensures.count, ap length labels) in
    record {
      fetched = all;
      book = λ honest.
          let honest_mid = law.was_honest mid new one honest in
          let honest_old = law.was_honest old new all honest in
          let same : labels_of tunes ≡ catalog.labels mid = sym (labels ∙ law.labels_are old honest_old) in
          let stays = ap (λ (s : State). s.tunes) (law.state_stays old new all honest) in
          export_next tunes (catalog.labels mid) c.loop-place.place c.label-number.result _ c.loop-place.book c.in_ok-book-2.book _ same within
          c.label-number.ensures (rw (← stays) (c.text.ensures honest)) c.in_ok-book-2.ensures (c.loop-place.invariant.book honest_mid);
    }
