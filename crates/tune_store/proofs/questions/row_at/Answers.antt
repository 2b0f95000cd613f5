use Rattle.std.proofs.Common.{◌≡◌, get_or, sym, ap, refl}
use Rattle.tune_store.specs.declared.tune.Tune.{Tune}
use Rattle.tune_store.specs.State.{State}
use Rattle.tune_store.specs.Labels.{labels_of}
use Rattle.tune_store.proofs.PlanLemmas.{IsPlaceOf, place_none}
use Rattle.tune_store.proofs.QuestionLemmas.{row_there}
use Rattle.tune_store.proofs.questions.row_at.Goals as goal

pub returns-in_default-clause-row : goal.returns-in_default-clause-row
returns-in_default-clause-row g c = λ honest rises.
    let tunes = (g.C.Catalog.state c.args.catalog.now).tunes in
    let same : labels_of tunes ≡ g.C.Catalog.labels c.args.catalog.now = sym (g.met.C.Catalog.labels_are c.args.catalog.now honest) in
    rw (place_none c.args.number tunes _ same c.in_default.ensures.none) refl

pub returns-clause-row : goal.returns-clause-row
returns-clause-row g c = λ honest rises.
    let catalog = g.C.Catalog in
    let law = g.met.C.Catalog in
    let old = c.args.catalog.now in
    let new = c.fetch.new.self in
    let tunes = (catalog.state old).tunes in
    let one = c.in_ok-fetch.ensures.0 in
    let same : labels_of tunes ≡ catalog.labels old = sym (law.labels_are old (law.was_honest old new one honest)) in
    let stays = ap (λ (s : State). s.tunes) (law.state_stays old new one honest) in
    let at : IsPlaceOf c.args.number tunes (catalog.labels old) c.in-Some.place =
    record { rises = rises; same = same; within = c.in-Some.ensures.within; found = c.in-Some.ensures.found } in
    let read : (d : Tune) → c.text.result.now ≡ (get_or tunes c.in-Some.place d).text = rw (← stays) (c.text.ensures honest) in
    row_there c.args.number tunes _ c.in-Some.place _ _ at read c.in_ok-row_of.ensures
