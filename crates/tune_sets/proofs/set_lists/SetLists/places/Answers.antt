use Rattle.std.proofs.Common.{refl, ap, sym, Ok}
use Rattle.tune_sets.proofs.SearchLemmas.{found_set, missing_set}
use Rattle.tune_sets.proofs.set_lists.SetLists.places.Goals as goal

pub returns-in-Ok-clause-ok : goal.returns-in-Ok-clause-ok
returns-in-Ok-clause-ok c =
    let found = rw c.deref.ensures.value at c.in-Ok.ensures.found in
    rw (← c.self.view_is, found_set c.args.name.now c.in-Ok.index c.self.inside.sets.items c.index.result.now c.self.invariant.rises found c.index.ensures)
    (ap (λ numbers. Ok numbers) (sym c.as_slice.ensures))

pub returns-in-Err-clause-err : goal.returns-in-Err-clause-err
returns-in-Err-clause-err c =
    let missing = rw c.deref.ensures.value at c.in-Err.ensures.missing in
    rw (← c.self.view_is, missing_set c.args.name.now _ c.self.inside.sets.items missing) refl
