use Rattle.std.proofs.Common.{◌∙◌, sym, arith, inl, inr, ⊎_elim, length}
use Rattle.std.proofs.lemmas.Bool.{cases_lt}
use Rattle.tune_titles.proofs.OrderLemmas.{order_at_end, order_behind}
use Rattle.tune_titles.proofs.fronts.small_order.Goals as goal

pub loop-i-init : goal.loop-i-init
loop-i-init c = order_behind c.args.one.now c.args.other.now c.alike_blocks-alike.result c.alike_blocks-alike.ensures.alike

pub returns : goal.returns
returns c =
    let a = c.args.one.now in
    let b = c.args.other.now in
    let done = order_at_end a b c.loop-i.i (omega arith) (omega arith)
    (⊎_elim (λ l. inl (omega arith)) (λ g. inr (omega arith)) (cases_lt (length a) (length b))) in
    c.cmp-2.ensures ∙ sym done ∙ c.loop-i.invariant
