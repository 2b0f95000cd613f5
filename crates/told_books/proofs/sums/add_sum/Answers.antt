use Rattle.std.proofs.Common.{◌≡◌, ◌+◌, ◌<◌, ◌∙◌, ap, arith, length}
use Rattle.told_books.specs.Inside.Sums.{sum_carried_by, sum_of_rules}
use Rattle.told_books.proofs.SumLemmas.{bytes_if, sum_carried-push, sum_all-push, carried_grown, all_grown, length_within}
use Rattle.told_books.proofs.sums.add_sum.Goals as goal

pub overflow_add-sum : goal.overflow_add-sum
overflow_add-sum c =
    let items = c.args.sums.now.items in
    let within : c.in-Some.place < length items = omega (arith, ap length c.deref.ensures.value, c.in-Some.ensures.0) in
    omega (arith, length_within items c.in-Some.place c.index_mut-sum.result.now within c.index_mut-sum.ensures.value)

pub returns-in-Some-clause-each : goal.returns-in-Some-clause-each
returns-in-Some-clause-each c = λ owns.
    let items = c.args.sums.now.items in
    let sum = c.index_mut-sum.result.now in
    let within : c.in-Some.place < length items = omega (arith, ap length c.deref.ensures.value, c.in-Some.ensures.0) in
    let rule : sum.rule ≡ c.args.rule = ap (λ s. s.rule) c.index_mut-sum.ensures.value ∙ (rw c.deref.ensures.value at c.in-Some.ensures.1 sum) in
    carried_grown owns items c.in-Some.place c.args.length sum within c.index_mut-sum.ensures.value
    ∙ ap (λ r. sum_carried_by owns items + bytes_if owns r c.args.length) rule

pub returns-in-Some-clause-all : goal.returns-in-Some-clause-all
returns-in-Some-clause-all c =
    let items = c.args.sums.now.items in
    let within : c.in-Some.place < length items = omega (arith, ap length c.deref.ensures.value, c.in-Some.ensures.0) in
    all_grown items c.in-Some.place c.args.length c.index_mut-sum.result.now within c.index_mut-sum.ensures.value

pub returns-in_ok-push-in-None-clause-each : goal.returns-in_ok-push-in-None-clause-each
returns-in_ok-push-in-None-clause-each c = λ owns.
    ap (sum_carried_by owns) c.in_ok-push-in-None.ensures.items
    ∙ sum_carried-push owns c.args.sums.now.items (record { rule = c.args.rule; length = c.args.length })

pub returns-in_ok-push-in-None-clause-all : goal.returns-in_ok-push-in-None-clause-all
returns-in_ok-push-in-None-clause-all c =
    ap sum_of_rules c.in_ok-push-in-None.ensures.items ∙ sum_all-push c.args.sums.now.items (record { rule = c.args.rule; length = c.args.length })
