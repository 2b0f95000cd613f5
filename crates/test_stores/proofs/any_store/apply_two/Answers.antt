use Rattle.std.proofs.Common.{◌≡◌, ◌≤◌, true, ap, ◌∙◌, subst, inl, inr, arith, not}
use Rattle.tune_store.specs.Answers.{stays_open}
use Rattle.test_stores.proofs.any_store.apply_two.Goals as goal

pub returns-clause-closed : goal.returns-clause-closed
returns-clause-closed g c = λ failed.
    c.apply-next.ensures.when_closed.1 (c.apply-answer.ensures.closes ∙ ap (λ a. not (stays_open a)) failed)

pub returns-clause-left : goal.returns-clause-left
returns-clause-left g c = λ honest failed since file late left.
    let s = g.S.TuneStore in
    let old = c.args.store.now in
    let mid = c.apply-answer.new.self in
    let shut : s.closed mid ≡ true = c.apply-answer.ensures.closes ∙ ap (λ a. not (stays_open a)) failed in
    let left_mid = subst (λ store. s.left_since store since file) (c.apply-next.ensures.idle shut) left in
    let left_first = g.met.S.TuneStore.since_earlier mid since (s.moment old) file late left_mid in
    let honest_mid = c.apply-next.ensures.stops.was_honest honest in
    let early : s.moment old ≤ s.moment old = omega arith in
    elim (c.apply-answer.ensures.stops.leaves c.requires.sound honest_mid (s.moment old) file early left_first) [
      | inl before ↦ inl (g.met.S.TuneStore.settled old file c.requires.sound (c.apply-answer.ensures.stops.was_honest honest_mid) c.requires.is_open before)
      | inr one ↦ (rw failed at one)
    ]
