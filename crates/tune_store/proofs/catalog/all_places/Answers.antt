use Rattle.std.proofs.Common.{◌≡◌, ◌+◌, add-one, arith}
use Rattle.tune_store.proofs.CandidateLemmas.{range_next}
use Rattle.tune_store.proofs.catalog.all_places.Goals as goal

pub loop-place-preserved : goal.loop-place-preserved
loop-place-preserved c =
    let i = c.loop-place.place in
    let e : 0 + i ≡ i = omega arith in
    rw (add-one i, range_next 0 i, e, ← c.loop-place.invariant) c.in_ok-push.ensures.items
