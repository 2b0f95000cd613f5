use Rattle.std.proofs.Common.{◌≤◌, inl, inr, arith}
use Rattle.test_stores.proofs.any_store.apply_to_open.Goals as goal

pub returns-clause-left : goal.returns-clause-left
returns-clause-left g c = λ honest file left.
    let early : g.S.TuneStore.moment c.args.store.now ≤ g.S.TuneStore.moment c.args.store.now = omega arith in
    elim (c.apply.ensures.stops.leaves c.requires.sound honest (g.S.TuneStore.moment c.args.store.now) file early left) [
      | inl before ↦ inl (g.met.S.TuneStore.settled c.args.store.now file c.requires.sound (c.apply.ensures.stops.was_honest honest) c.requires.is_open before)
      | inr one ↦ one
    ]
