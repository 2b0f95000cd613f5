use Rattle.std.proofs.Common.{arith}
use Rattle.tune_titles.proofs.FrontOrder.{by_fronts}
use Rattle.tune_titles.proofs.fronts.order_by_fronts.Goals as goal

pub returns-in_default : goal.returns-in_default
returns-in_default c =
    by_fronts 16 c.args.one.now c.args.other.now _ (λ i. omega (arith, c.type_inv.one i)) (λ i. omega (arith, c.type_inv.other i))
    (rw (← c.requires.one, ← c.requires.other) c.cmp.ensures)
    c.in_default.not-Equal
