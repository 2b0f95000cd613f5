use Rattle.std.proofs.Common.{◌≡◌, ◌<◌, inl, inr, arith, length, [], subst, List, ℕ}
use Rattle.std.proofs.lemmas.Result.{err_from_is_err_and}
use Rattle.std.proofs.lemmas.List.{nil_from_length}
use Rattle.std.proofs.lemmas.Bool.Decides.{nat_tests}
use Rattle.tune_sets.proofs.ByteLemmas.{GoOn, stops_at, goes_on, refused_at, same_more, done_at}
use Rattle.tune_sets.proofs.set_lists.SetLists.read.Goals as goal

pub returns-in_err-set-clause-damaged : goal.returns-in_err-set-clause-damaged
returns-in_err-set-clause-damaged c =
    let p = err_from_is_err_and c.from_residual.result c.from_residual.ensures.1 in
    let some : 0 < length c.loop-rest.rest.now = grind (arith, nat_tests) in
    rw (p.1, p.2) (elim c.in_err-set.ensures.damaged [
      | inl e ↦ inl e
      | inr d ↦ inr (d.0, λ sets are written. stops_at c.loop-rest.lists c.loop-rest.rest.now sets d.1 some are (c.loop-rest.invariant.only sets are written))
    ])

pub returns-in_err-lists-clause-damaged : goal.returns-in_err-lists-clause-damaged
returns-in_err-lists-clause-damaged c =
    let p = err_from_is_err_and c.from_residual-in_err-lists.result c.from_residual-in_err-lists.ensures.1 in
    let some : 0 < length c.loop-rest.rest.now = grind (arith, nat_tests) in
    let read = c.in_ok-set.ensures.ok in
    rw (p.1, p.2) (elim c.in_err-lists.ensures.damaged [
      | inl e ↦ inl e
      | inr d ↦ inr (
        d.0,
        λ sets are written. refused_at c.loop-rest.lists c.in_ok-set.set sets d.1 c.in_ok-set.later.now are
            (goes_on c.loop-rest.lists c.in_ok-set.set c.loop-rest.rest.now c.in_ok-set.later.now sets read.0 read.1 some are
            (c.loop-rest.invariant.only sets are written)),
      )
    ])

pub loop-rest-preserved : goal.loop-rest-preserved
loop-rest-preserved c =
    let some : 0 < length c.loop-rest.rest.now = grind (arith, nat_tests) in
    let read = c.in_ok-set.ensures.ok in
    rw c.in_ok-lists.ensures.ok record {
      same = same_more c.loop-rest.lists c.in_ok-set.set c.loop-rest.rest.now c.in_ok-set.later.now c.args.bytes.now c.loop-rest.invariant.same read.1;
      only = λ sets are written. goes_on c.loop-rest.lists c.in_ok-set.set c.loop-rest.rest.now c.in_ok-set.later.now sets read.0 read.1 some are
          (c.loop-rest.invariant.only sets are written);
    }

pub returns-clause-only : goal.returns-clause-only
returns-clause-only c =
    let none : c.loop-rest.rest.now ≡ [] = nil_from_length _ (grind (arith, nat_tests)) in
    λ sets are written. done_at c.loop-rest.lists sets are (subst (λ (rest : List ℕ). GoOn c.loop-rest.lists rest sets) none
    (c.loop-rest.invariant.only sets are written))
