use Rattle.std.proofs.Common.{◌≡◌, Some, None, inr, refl, sym, ap, ◌∙◌, rules}
use Rattle.tune_sets.specs.Sets.{holder}
use Rattle.tune_store.specs.TuneSteps.{tunes_step}
use Rattle.tune_store.proofs.PlanLemmas.{IsPlaceOf, place_none, place_found, delete_takes}
use Rattle.tune_store.proofs.tune_plans.delete.Goals as goal

pub returns-in_default-clause-planned : goal.returns-in_default-clause-planned
returns-in_default-clause-planned g c = λ state rises same sets. inr (rw (place_none c.args.number state.tunes _ same c.in_default.ensures.none) refl)

pub returns-in-Some-holds-clause-planned : goal.returns-in-Some-holds-clause-planned
returns-in-Some-holds-clause-planned g c = λ state rises same sets.
    let at : IsPlaceOf c.args.number state.tunes (g.C.Catalog.labels c.args.catalog.now) c.in-Some.place =
    record { rises = rises; same = same; within = c.in-Some.ensures.within; found = c.in-Some.ensures.found } in
    let held : holder c.args.number state.sets ≡ Some c.in-Some-holds.name =
    ap (holder c.args.number) (sym (c.sets.ensures ∙ sets)) ∙ sym c.in-Some-holds.ensures in
    inr (rw (place_found c.args.number state.tunes _ c.in-Some.place at, held) refl)

pub returns-clause-planned : goal.returns-clause-planned
returns-clause-planned g c = λ state rises same sets.
    let at : IsPlaceOf c.args.number state.tunes (g.C.Catalog.labels c.args.catalog.now) c.in-Some.place =
    record { rises = rises; same = same; within = c.in-Some.ensures.within; found = c.in-Some.ensures.found } in
    let free : holder c.args.number state.sets ≡ None = search rules in
    rw (c.change.ensures.change, c.change.ensures.reply, free)
    (ap (tunes_step state) (delete_takes c.args.number state.tunes _ c.in-Some.place at))
