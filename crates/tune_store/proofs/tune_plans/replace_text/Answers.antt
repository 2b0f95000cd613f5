use Rattle.std.proofs.Common.{◌≡◌, ◌<◌, ◌≤◌, ap, inr, refl, rules}
use Rattle.tune_store.specs.Limits.{greatest_revision}
use Rattle.tune_store.specs.TuneSteps.{tunes_step}
use Rattle.tune_store.proofs.PlanLemmas.{IsPlaceOf, place_none, replace_stale, replace_worn, replace_puts}
use Rattle.tune_store.proofs.tune_plans.replace_text.Goals as goal

pub returns-in_default-clause-planned : goal.returns-in_default-clause-planned
returns-in_default-clause-planned g c = λ state rises same. inr (rw (place_none c.args.number state.tunes _ same c.in_default.ensures.none) refl)

pub returns-then-from-revision-clause-planned : goal.returns-then-from-revision-clause-planned
returns-then-from-revision-clause-planned g c = λ state rises same.
    let at : IsPlaceOf c.args.number state.tunes (g.C.Catalog.labels c.args.catalog.now) c.in-Some.place =
    record { rises = rises; same = same; within = c.in-Some.ensures.within; found = c.in-Some.ensures.found } in
    let other : c.label-current.result.revision ≡ c.args.revision → ⊥ = search rules in
    inr (ap (tunes_step state)
    (replace_stale c.args.number c.args.revision c.args.text state.tunes _ c.in-Some.place c.label-current.result at c.label-current.ensures other))

pub returns-then-current-ge-GREATEST_REVISION-clause-planned :
    goal.returns-then-current-ge-GREATEST_REVISION-clause-planned
returns-then-current-ge-GREATEST_REVISION-clause-planned g c = λ state rises same.
    let at : IsPlaceOf c.args.number state.tunes (g.C.Catalog.labels c.args.catalog.now) c.in-Some.place =
    record { rises = rises; same = same; within = c.in-Some.ensures.within; found = c.in-Some.ensures.found } in
    let current : c.label-current.result.revision ≡ c.args.revision = search rules in
    let old : greatest_revision ≤ c.label-current.result.revision = search rules in
    inr (ap (tunes_step state)
    (replace_worn c.args.number c.args.revision c.args.text state.tunes _ c.in-Some.place c.label-current.result at c.label-current.ensures current old))

pub returns-clause-planned : goal.returns-clause-planned
returns-clause-planned g c = λ state rises same.
    let at : IsPlaceOf c.args.number state.tunes (g.C.Catalog.labels c.args.catalog.now) c.in-Some.place =
    record { rises = rises; same = same; within = c.in-Some.ensures.within; found = c.in-Some.ensures.found } in
    let current : c.label-current.result.revision ≡ c.args.revision = search rules in
    let young : c.label-current.result.revision < greatest_revision = search rules in
    rw (c.change.ensures.change, c.change.ensures.reply)
    (ap (tunes_step state)
    (replace_puts c.args.number c.args.revision c.args.text state.tunes _ c.in-Some.place c.label-current.result at c.label-current.ensures current young))
