-- How entries are shared among leaves: quotients that are rounded up.
use Rattle.std.proofs.Common.{◌≡◌, ℕ, zero, suc, ◌+◌, ◌*◌, ◌/◌, ◌%◌, ◌<◌, ◌≤◌, min, sym, subst, inl, inr, arith}
use Rattle.std.proofs.lemmas.Bool.{cases_lt}
use Rattle.std.proofs.lemmas.Grind.{div_ceil_times}
use Rattle.std.proofs.Math.Nat.{mul_comm, mul-le-mul_right}

-- what covers some has one at least
pub covers_some : (count each times : ℕ) → 1 ≤ count → count ≤ times * each → 1 ≤ times
covers_some count each zero some covers = omega (arith, some, covers)
covers_some count each (suc times) some covers = omega arith

-- the quotient that is rounded up covers, and it is the least that does
pub covers : (count each times : ℕ) → 1 ≤ each → times ≡ count / each + min 1 (count % each)
    → (count ≤ times * each) × ((other : ℕ) → count ≤ other * each → times ≤ other)
covers count each times some is =
    let round = subst (λ (k : ℕ). (count ≤ k * each) × (k * each < count + each)) (sym is) (div_ceil_times count each (omega (arith, some))) in (
      round.0,
      λ other enough. elim (cases_lt other times) [
        | inl more ↦ absurd (let over : suc other * each ≤ times * each = mul-le-mul_right each (omega (arith, more)) in omega (arith, over, round.1, enough))
        | inr within ↦ omega (arith, within)
      ],
    )

-- so many of each, or each of so many
pub turned : (count a b : ℕ) → count ≤ a * b → count ≤ b * a
turned count a b covered = let same = mul_comm a b in omega (arith, same, covered)

-- more cover as well
pub covers_more : (count each times other : ℕ) → count ≤ times * each → times ≤ other → count ≤ other * each
covers_more count each times other covered within = let over = mul-le-mul_right each within in omega (arith, over, covered)
