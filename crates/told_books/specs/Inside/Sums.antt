-- How many bytes the lines of a file header have that tunes carry, by the rules of the lines.
use Rattle.std.specs.Prelude.{◌≡◌, ℕ, ◌+◌, List, [], ◌∷◌, length, Bool, true, false}
use Rattle.std.specs.Prelude.{if◌then◌else◌}
use Rattle.abc_fields.specs.Tunes.{joined}
use Rattle.abc_fields.specs.FileHeaders.{carries, carried, block_of, first_block}
use Rattle.abc_fields.specs.declared.carry_rules.CarryRule.TheVariants.{Never}
use Rattle.told_books.specs.declared.sums.RuleSum.{RuleSum}

-- the bytes of the lines that such a tune carries, by the sums of the rules
abbrev pub sum_carried_by : (ℕ → Bool) → List RuleSum → ℕ
sum_carried_by owns [] = 0
sum_carried_by owns (sum ∷ sums) =
    (if carries owns sum.rule then sum.length else 0) + sum_carried_by owns sums

-- the bytes of all these sums
abbrev pub sum_of_rules : List RuleSum → ℕ
sum_of_rules [] = 0
sum_of_rules (sum ∷ sums) = sum.length + sum_of_rules sums

-- these sums are those of the lines of this file header, each with its line feed
abbrev pub AreHeaderSums : List RuleSum → List (List ℕ) → Type 0
AreHeaderSums sums header = (owns : ℕ → Bool)
    → sum_carried_by owns sums ≡ length (joined (carried owns Never header))

-- the lines that are left of the first block, where it has begun or has not
abbrev pub block_left : Bool → List (List ℕ) → List (List ℕ)
block_left false lines = first_block lines
block_left true lines = block_of lines
