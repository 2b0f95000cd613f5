-- How great a number of few digits may be.
use Rattle.std.proofs.Common.{◌≤◌, ◌<◌, ◌^◌, ℕ, arith}
use Rattle.std.proofs.Math.Nat.{pow-le-pow_right}

-- a number of at most eight digits
pub small_power : (value digits : ℕ) → value < 10 ^ digits → digits ≤ 8 → value < 100000000
small_power value digits h l = let top : 10 ^ digits ≤ 10 ^ 8 = pow-le-pow_right {n = 10} (omega arith) {i = digits} {j = 8} l in omega arith
