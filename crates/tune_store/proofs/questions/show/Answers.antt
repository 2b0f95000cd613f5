use Rattle.std.proofs.Common.{◌≡◌, get_or, sym, ap, inr, refl}
use Rattle.tune_store.specs.declared.tune.Tune.{Tune}
use Rattle.tune_store.specs.State.{State}
use Rattle.tune_store.specs.Labels.{labels_of}
use Rattle.tune_store.proofs.PlanLemmas.{IsPlaceOf, place_none, tune_shown}
use Rattle.tune_store.proofs.questions.show.Goals as goal

pub returns-in_default-clause-planned : goal.returns-in_default-clause-planned
returns-in_default-clause-planned g c = λ honest rises.
    let catalog = g.C.Catalog in
    let old = c.args.catalog.now in
    let tunes = (catalog.state old).tunes in
    let same : labels_of tunes ≡ catalog.labels old = sym (g.met.C.Catalog.labels_are old honest) in
    inr (rw (place_none c.args.number tunes _ same c.in_default.ensures.none) refl)

pub returns-clause-planned : goal.returns-clause-planned
returns-clause-planned g c = λ honest rises.
    let catalog = g.C.Catalog in
    let law = g.met.C.Catalog in
    let old = c.args.catalog.now in
    let new = c.fetch.new.self in
    let tunes = (catalog.state old).tunes in
    let one = c.in_ok-fetch.ensures.0 in
    let honest_old = law.was_honest old new one honest in
    let same : labels_of tunes ≡ catalog.labels old = sym (law.labels_are old honest_old) in
    let stays = ap (λ (s : State). s.tunes) (law.state_stays old new one honest) in
    let at : IsPlaceOf c.args.number tunes (catalog.labels old) c.in-Some.place =
    record { rises = rises; same = same; within = c.in-Some.ensures.within; found = c.in-Some.ensures.found } in
    let read : (d : Tune) → c.text.result.now ≡ (get_or tunes c.in-Some.place d).text = rw (← stays) (c.text.ensures honest) in
    let label = c.label-revision in
    let tune = tune_shown c.args.number tunes (catalog.labels old) c.in-Some.place label.result c.text.result.now at label.ensures read in
    rw (c.answer.ensures.change, c.answer.ensures.reply, c.in_ok-text.ensures, tune) refl
