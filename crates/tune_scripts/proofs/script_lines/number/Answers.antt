use Rattle.std.proofs.Common.{arith}
use Rattle.tune_scripts.proofs.Decimals.{small_power}
use Rattle.tune_scripts.proofs.script_lines.number.Goals as goal

pub overflow_mul-value : goal.overflow_mul-value
overflow_mul-value c = let small = small_power c.loop-digit.value c.loop-digit.digit-index c.loop-digit.invariant.bound (omega arith) in omega arith

pub overflow_add-value : goal.overflow_add-value
overflow_add-value c = let small = small_power c.loop-digit.value c.loop-digit.digit-index c.loop-digit.invariant.bound (omega arith) in omega arith
