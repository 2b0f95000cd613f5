use Rattle.std.proofs.Common.{refl, ap, Ok, []}
use Rattle.tune_sets.proofs.SearchLemmas.{found_set, missing_set, without-index}
use Rattle.tune_sets.proofs.ChangeLemmas.{dropped_are}
use Rattle.tune_sets.proofs.set_changes.drop_set.Goals as goal

pub returns-in_default-clause-gives : goal.returns-in_default-clause-gives
returns-in_default-clause-gives c =
    let missing = rw c.deref.ensures.value at c.in_default.ensures.missing in
    rw (missing_set c.args.name.now _ c.args.sets.now.items missing) refl

pub returns-clause-limits : goal.returns-clause-limits
returns-clause-limits c = rw c.remove.ensures.items (dropped_are c.args.sets.now.items c.in-Ok.index c.requires)

pub returns-clause-gives : goal.returns-clause-gives
returns-clause-gives c =
    let sets = c.args.sets.now.items in
    let found = rw c.deref.ensures.value at c.in-Ok.ensures.found in
    rw (found_set c.args.name.now c.in-Ok.index sets c.remove.result c.requires.rises found c.remove.ensures.value, c.remove.ensures.items)
    (ap (λ less. (less, Ok tt)) (without-index [] c.args.name.now sets c.in-Ok.index c.remove.result c.requires.rises found.within
    (found.named c.remove.result)))
