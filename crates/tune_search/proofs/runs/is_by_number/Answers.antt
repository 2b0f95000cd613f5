use Rattle.std.proofs.Common.{ℕ, ◌<◌, ◌≤◌, subst, arith, rules, length, All}
use Rattle.std.proofs.lemmas.List.{take_all}
use Rattle.std.specs.List.Sorted.{IsNonDecreasingBy}
use Rattle.tune_search.proofs.RunOrders.{still_below, still_by_number}
use Rattle.tune_search.proofs.runs.is_by_number.Goals as goal

pub loop-place-preserved : goal.loop-place-preserved
loop-place-preserved g c =
    let run = c.args.run.now in
    let k : ℕ = c.loop-place.place in
    let lt : k < length run = search rules in
    let le : c.loop-place.last ≤ c.index-run-place.result.1 = search rules in
    record {
      by_number = still_by_number (λ e. e.1) run k c.loop-place.last c.index-run-place.result lt (search (rules, le))
          c.loop-place.invariant.by_number c.loop-place.invariant.below;
      below = still_below (λ e. e.1) run k c.loop-place.last c.index-run-place.result lt (search (rules, le)) c.loop-place.invariant.below;
      small = search rules;
    }

pub returns-clause-by_number : goal.returns-clause-by_number
returns-clause-by_number g c = λ is.
    subst (IsNonDecreasingBy (λ e. e.1)) (take_all c.loop-place.place c.args.run.now c.loop-place-test.false) c.loop-place.invariant.by_number

pub returns-clause-small : goal.returns-clause-small
returns-clause-small g c = λ is k d lt.
    (let all = subst (All (λ e. e.1 ≤ c.loop-place.last)) (take_all c.loop-place.place c.args.run.now c.loop-place-test.false) c.loop-place.invariant.below in
    let one = all k d lt in omega (arith, one, c.loop-place.invariant.small))
