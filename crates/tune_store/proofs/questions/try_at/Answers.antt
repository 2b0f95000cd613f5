use Rattle.std.proofs.Common.{◌≡◌, get_or, sym, ap, ◌∙◌}
use Rattle.tune_store.specs.State.{State}
use Rattle.tune_store.specs.Labels.{labels_of}
use Rattle.tune_store.specs.declared.catalog.Label.{Label}
use Rattle.tune_store.proofs.PlanLemmas.{label_at, no_label}
use Rattle.tune_store.proofs.questions.try_at.Goals as goal

pub returns-clause-row : goal.returns-clause-row
returns-clause-row g c = λ honest d.
    let law = g.met.C.Catalog in
    let old = c.args.catalog.now in
    let tunes = (g.C.Catalog.state old).tunes in
    let one = c.in_ok-fetch.ensures.0 in
    let stays = ap (λ (s : State). s.tunes) (law.state_stays old c.fetch.new.self one honest) in
    let same : labels_of tunes ≡ g.C.Catalog.labels old = sym (law.labels_are old (law.was_honest old c.fetch.new.self one honest)) in
    let named : c.label-number.result.number ≡ (get_or tunes c.args.place d).number =
    ap (λ (r : Label). r.number) (c.label-number.ensures no_label ∙ label_at tunes (g.C.Catalog.labels old) c.args.place d no_label same c.requires.place) in
    let written = rw stays at (c.text.ensures honest d) in
    rw (← named, ← written) c.in_ok-add_if_found.ensures
