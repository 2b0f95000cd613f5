use Rattle.std.proofs.Common.{◌≡◌, not, true, false, is_some, inr, refl, ap, ◌∙◌, rules}
use Rattle.tune_store.proofs.LookUpLemmas.{IsLookUp, AreLabelled, missing, there}
use Rattle.tune_store.proofs.set_plans.set_add.Goals as goal

pub returns-then-is_none-clause-planned : goal.returns-then-is_none-clause-planned
returns-then-is_none-clause-planned g c = λ state rises same sets.
    let look : IsLookUp c.args.number (g.C.Catalog.labels c.args.catalog.now) c.place_of.result =
    record { within = c.place_of.ensures.within; found = c.place_of.ensures.found; none = c.place_of.ensures.none } in
    let are : AreLabelled state.tunes (g.C.Catalog.labels c.args.catalog.now) = record { rises = rises; same = same } in
    let no : is_some c.place_of.result ≡ false = c.is_none.ensures ∙ ap not c.if-is_none.true in
    inr (rw (missing c.args.number state.tunes _ _ look are no) refl)

pub returns-in_err-numbers-clause-planned : goal.returns-in_err-numbers-clause-planned
returns-in_err-numbers-clause-planned g c = λ state rises same sets.
    let look : IsLookUp c.args.number (g.C.Catalog.labels c.args.catalog.now) c.place_of.result =
    record { within = c.place_of.ensures.within; found = c.place_of.ensures.found; none = c.place_of.ensures.none } in
    let are : AreLabelled state.tunes (g.C.Catalog.labels c.args.catalog.now) = record { rises = rises; same = same } in
    let has : is_some c.place_of.result ≡ true = c.is_none.ensures ∙ ap not c.if-is_none.false in
    let tune = there c.args.number state.tunes _ _ look are has in
    rw tune.1 (search rules)

pub returns-then-numbers-ge-MOST_PLACES-clause-planned :
    goal.returns-then-numbers-ge-MOST_PLACES-clause-planned
returns-then-numbers-ge-MOST_PLACES-clause-planned g c = λ state rises same sets.
    let look : IsLookUp c.args.number (g.C.Catalog.labels c.args.catalog.now) c.place_of.result =
    record { within = c.place_of.ensures.within; found = c.place_of.ensures.found; none = c.place_of.ensures.none } in
    let are : AreLabelled state.tunes (g.C.Catalog.labels c.args.catalog.now) = record { rises = rises; same = same } in
    let has : is_some c.place_of.result ≡ true = c.is_none.ensures ∙ ap not c.if-is_none.false in
    let tune = there c.args.number state.tunes _ _ look are has in
    rw tune.1 (search rules)

pub returns-clause-planned : goal.returns-clause-planned
returns-clause-planned g c = λ state rises same sets.
    let look : IsLookUp c.args.number (g.C.Catalog.labels c.args.catalog.now) c.place_of.result =
    record { within = c.place_of.ensures.within; found = c.place_of.ensures.found; none = c.place_of.ensures.none } in
    let are : AreLabelled state.tunes (g.C.Catalog.labels c.args.catalog.now) = record { rises = rises; same = same } in
    let has : is_some c.place_of.result ≡ true = c.is_none.ensures ∙ ap not c.if-is_none.false in
    let tune = there c.args.number state.tunes _ _ look are has in
    rw tune.1 (search rules)
