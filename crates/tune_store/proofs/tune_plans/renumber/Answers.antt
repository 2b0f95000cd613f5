use Rattle.std.proofs.Common.{◌≡◌, not, true, false, is_some, inr, ap, ◌∙◌, arith, rules}
use Rattle.tune_store.proofs.LookUpLemmas.{IsLookUp, AreLabelled, missing, there, among, not_among}
use Rattle.tune_store.proofs.LookUpLemmas.{renumber_unknown, renumber_taken, renumber_same, renumber_moves}
use Rattle.tune_store.proofs.tune_plans.renumber.Goals as goal

pub returns-then-is_none-clause-planned : goal.returns-then-is_none-clause-planned
returns-then-is_none-clause-planned g c = λ state rises same.
    let look : IsLookUp c.args.number (g.C.Catalog.labels c.args.catalog.now) c.place_of.result =
    record { within = c.place_of.ensures.within; found = c.place_of.ensures.found; none = c.place_of.ensures.none } in
    let are : AreLabelled state.tunes (g.C.Catalog.labels c.args.catalog.now) = record { rises = rises; same = same } in
    let no : is_some c.place_of.result ≡ false = c.is_none.ensures ∙ ap not c.if-is_none.true in
    inr (renumber_unknown state c.args.number c.args.to (omega arith) (omega arith) (missing c.args.number state.tunes _ _ look are no))

pub returns-then-is_some-clause-planned : goal.returns-then-is_some-clause-planned
returns-then-is_some-clause-planned g c = λ state rises same.
    let look : IsLookUp c.args.number (g.C.Catalog.labels c.args.catalog.now) c.place_of.result =
    record { within = c.place_of.ensures.within; found = c.place_of.ensures.found; none = c.place_of.ensures.none } in
    let look_to : IsLookUp c.args.to (g.C.Catalog.labels c.args.catalog.now) c.place_of-2.result =
    record { within = c.place_of-2.ensures.within; found = c.place_of-2.ensures.found; none = c.place_of-2.ensures.none } in
    let are : AreLabelled state.tunes (g.C.Catalog.labels c.args.catalog.now) = record { rises = rises; same = same } in
    let has : is_some c.place_of.result ≡ true = c.is_none.ensures ∙ ap not c.if-is_none.false in
    let tune = there c.args.number state.tunes _ _ look are has in
    let taken : is_some c.place_of-2.result ≡ true = search rules in
    let other = there c.args.to state.tunes _ _ look_to are taken in
    let apart : c.args.number ≡ c.args.to → ⊥ = search rules in
    inr (renumber_taken state c.args.number c.args.to tune.0 other.0 (omega arith) (omega arith) tune.1 other.1 apart)

pub returns-then-to-number-clause-planned : goal.returns-then-to-number-clause-planned
returns-then-to-number-clause-planned g c = λ state rises same.
    let look : IsLookUp c.args.number (g.C.Catalog.labels c.args.catalog.now) c.place_of.result =
    record { within = c.place_of.ensures.within; found = c.place_of.ensures.found; none = c.place_of.ensures.none } in
    let are : AreLabelled state.tunes (g.C.Catalog.labels c.args.catalog.now) = record { rises = rises; same = same } in
    let has : is_some c.place_of.result ≡ true = c.is_none.ensures ∙ ap not c.if-is_none.false in
    let tune = there c.args.number state.tunes _ _ look are has in
    let own : c.args.number ≡ c.args.to = search rules in
    rw (c.answer.ensures.change, c.answer.ensures.reply) (renumber_same state c.args.number c.args.to tune.0 (omega arith) (omega arith) tune.1 own)

pub returns-clause-planned : goal.returns-clause-planned
returns-clause-planned g c = λ state rises same.
    let look : IsLookUp c.args.number (g.C.Catalog.labels c.args.catalog.now) c.place_of.result =
    record { within = c.place_of.ensures.within; found = c.place_of.ensures.found; none = c.place_of.ensures.none } in
    let look_to : IsLookUp c.args.to (g.C.Catalog.labels c.args.catalog.now) c.place_of-2.result =
    record { within = c.place_of-2.ensures.within; found = c.place_of-2.ensures.found; none = c.place_of-2.ensures.none } in
    let are : AreLabelled state.tunes (g.C.Catalog.labels c.args.catalog.now) = record { rises = rises; same = same } in
    let has : is_some c.place_of.result ≡ true = c.is_none.ensures ∙ ap not c.if-is_none.false in
    let tune = there c.args.number state.tunes _ _ look are has in
    let free : is_some c.place_of-2.result ≡ false = search rules in
    let none = missing c.args.to state.tunes _ _ look_to are free in
    rw (c.change.ensures.change, c.change.ensures.reply)
    (renumber_moves state c.args.number c.args.to tune.0 (omega arith) (omega arith) tune.1 none)

pub returns-clause-possible : goal.returns-clause-possible
returns-clause-possible g c =
    let look : IsLookUp c.args.number (g.C.Catalog.labels c.args.catalog.now) c.place_of.result =
    record { within = c.place_of.ensures.within; found = c.place_of.ensures.found; none = c.place_of.ensures.none } in
    let look_to : IsLookUp c.args.to (g.C.Catalog.labels c.args.catalog.now) c.place_of-2.result =
    record { within = c.place_of-2.ensures.within; found = c.place_of-2.ensures.found; none = c.place_of-2.ensures.none } in
    let has : is_some c.place_of.result ≡ true = c.is_none.ensures ∙ ap not c.if-is_none.false in
    let free : is_some c.place_of-2.result ≡ false = search rules in
    rw c.change.ensures.change
    (among c.args.number _ _ look has, not_among c.args.to _ _ look_to free, omega arith, omega arith)
