use Rattle.std.proofs.Common.{◌≡◌, drop}
use Rattle.tune_titles.specs.Order.{small_order}
use Rattle.tune_titles.proofs.fronts.small_order.Given as goal

abbrev pub invariant-loop-i : goal.invariant-loop-i
invariant-loop-i l = small_order (drop l.i l.one) (drop l.i l.other) ≡ small_order l.one l.other
