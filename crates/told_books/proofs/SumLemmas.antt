-- The sums of rules tell how many bytes the lines have that a tune carries.
use Rattle.std.proofs.Common.{◌≡◌, ℕ, zero, suc, ◌+◌, ◌<◌, ◌≤◌, Bool, true, false, cond, List, [], ◌∷◌, ◌++◌, length, get_or, set, drop, refl, ap, sym, ◌∙◌}
use Rattle.std.proofs.Common.{subst, arith, ◌-◌}
use Rattle.std.specs.Prelude.{nat_le}
use Rattle.std.proofs.lemmas.Bool.{le-leb, lt-leb, leb-true, leb-false, cases_Bool}
use Rattle.std.proofs.Common.{inl, inr}
use Rattle.std.proofs.lemmas.List.{at_drop_more}
use Rattle.abc_fields.specs.Tunes.{joined, is_empty_line}
use Rattle.abc_fields.specs.FileHeaders.{carries, carried, block_of, rule_of, rule_below}
use Rattle.abc_fields.proofs.RuleSums.{joined-length}
use Rattle.abc_fields.specs.declared.carry_rules.CarryRule.{CarryRule}
use Rattle.told_books.specs.Inside.Sums.{sum_carried_by, sum_of_rules, block_left}
use Rattle.told_books.specs.declared.sums.RuleSum.{RuleSum}

-- so many bytes, where a tune carries a line of this rule
abbrev pub bytes_if : (ℕ → Bool) → CarryRule → ℕ → ℕ
bytes_if owns rule n = cond (carries owns rule) n 0

-- SUMS
pub sum_carried-push : (owns : ℕ → Bool) (sums : List RuleSum) (sum : RuleSum)
    → sum_carried_by owns (sums ++ sum ∷ []) ≡ sum_carried_by owns sums + bytes_if owns sum.rule sum.length
sum_carried-push owns [] sum = omega arith
sum_carried-push owns (first ∷ sums) sum = omega (arith, sum_carried-push owns sums sum)

pub sum_all-push : (sums : List RuleSum) (sum : RuleSum) → sum_of_rules (sums ++ sum ∷ []) ≡ sum_of_rules sums + sum.length
sum_all-push [] sum = omega arith
sum_all-push (first ∷ sums) sum = omega (arith, sum_all-push sums sum)

more_if : (is : Bool) (m n : ℕ) → cond is (m + n) 0 ≡ cond is m 0 + cond is n 0
more_if true m n = refl
more_if false m n = refl

-- one rule's bytes, and more of them
bytes_more : (owns : ℕ → Bool) (rule : CarryRule) (m n : ℕ) → bytes_if owns rule (m + n) ≡ bytes_if owns rule m + bytes_if owns rule n
bytes_more owns rule m n = more_if (carries owns rule) m n

-- more bytes at one place of the sums
pub sum_carried-set : (owns : ℕ → Bool) (sums : List RuleSum) (place n : ℕ) (d : RuleSum) → place < length sums
    → sum_carried_by owns (set sums place (record { rule = (get_or sums place d).rule; length = (get_or sums place d).length + n }))
    ≡ sum_carried_by owns sums + bytes_if owns (get_or sums place d).rule n
sum_carried-set owns [] place n d within = absurd (omega arith)
sum_carried-set owns (sum ∷ sums) zero n d within = omega (arith, bytes_more owns sum.rule sum.length n)
sum_carried-set owns (sum ∷ sums) (suc place) n d within = omega (arith, sum_carried-set owns sums place n d (omega arith))

pub sum_all-set : (sums : List RuleSum) (place n : ℕ) (d : RuleSum) (rule : CarryRule) → place < length sums
    → sum_of_rules (set sums place (record { rule = rule; length = (get_or sums place d).length + n })) ≡ sum_of_rules sums + n
sum_all-set [] place n d rule within = absurd (omega arith)
sum_all-set (sum ∷ sums) zero n d rule within = omega arith
sum_all-set (sum ∷ sums) (suc place) n d rule within = omega (arith, sum_all-set sums place n d rule (omega arith))

-- one sum is at most all of them
pub sum_within : (sums : List RuleSum) (place : ℕ) (d : RuleSum) → place < length sums → (get_or sums place d).length ≤ sum_of_rules sums
sum_within [] place d within = absurd (omega arith)
sum_within (sum ∷ sums) zero d within = omega arith
sum_within (sum ∷ sums) (suc place) d within = omega (arith, sum_within sums place d (omega arith))

bytes_at_most : (is : Bool) (n : ℕ) → cond is n 0 ≤ n
bytes_at_most true n = omega arith
bytes_at_most false n = omega arith

-- what a tune carries is at most all of them
pub carried_within : (owns : ℕ → Bool) (sums : List RuleSum) → sum_carried_by owns sums ≤ sum_of_rules sums
carried_within owns [] = omega arith
carried_within owns (sum ∷ sums) = omega (arith, bytes_at_most (carries owns sum.rule) sum.length, carried_within owns sums)

-- the sums from one place on are that sum and those behind it
pub carried_at : (owns : ℕ → Bool) (sums : List RuleSum) (i : ℕ) (d : RuleSum) → i < length sums
    → sum_carried_by owns (drop i sums) ≡ bytes_if owns (get_or sums i d).rule (get_or sums i d).length + sum_carried_by owns (drop (i + 1) sums)
carried_at owns sums i d within = at_drop_more (sum_carried_by owns) sums i d within

-- the same for a sum that was read there
pub carried_grown : (owns : ℕ → Bool) (sums : List RuleSum) (place n : ℕ) (sum : RuleSum) → place < length sums → sum ≡ get_or sums place sum
    → sum_carried_by owns (set sums place (record { rule = sum.rule; length = sum.length + n })) ≡ sum_carried_by owns sums + bytes_if owns sum.rule n
carried_grown owns sums place n sum within read =
    let P : RuleSum
    → Type 0 = λ s. sum_carried_by owns (set sums place (record { rule = s.rule; length = s.length + n }))
    ≡ sum_carried_by owns sums + bytes_if owns s.rule n in
    subst P (sym read) (sum_carried-set owns sums place n sum within)

pub all_grown : (sums : List RuleSum) (place n : ℕ) (sum : RuleSum) → place < length sums → sum ≡ get_or sums place sum
    → sum_of_rules (set sums place (record { rule = sum.rule; length = sum.length + n })) ≡ sum_of_rules sums + n
all_grown sums place n sum within read =
    let P : RuleSum → Type 0 = λ s. sum_of_rules (set sums place (record { rule = s.rule; length = s.length + n })) ≡ sum_of_rules sums + n in
    subst P (sym read) (sum_all-set sums place n sum (get_or sums place sum).rule within)

pub length_within : (sums : List RuleSum) (place : ℕ) (sum : RuleSum) → place < length sums → sum ≡ get_or sums place sum → sum.length ≤ sum_of_rules sums
length_within sums place sum within read =
    let P : RuleSum → Type 0 = λ s. s.length ≤ sum_of_rules sums in
    subst P (sym read) (sum_within sums place sum within)

-- LINES OF A FILE HEADER
-- a line of the first block
pub block_line : (begun : Bool) (line : List ℕ) (rest : List (List ℕ)) → is_empty_line line ≡ false → block_left begun (line ∷ rest) ≡ line ∷ block_of rest
block_line true line rest some = rw some refl
block_line false line rest some = rw some refl

one_carried : (is : Bool) (line : List ℕ) (later : List (List ℕ))
    → length (joined (cond is (line ∷ later) later)) ≡ cond is (length line + 1) 0 + length (joined later)
one_carried true line later = joined-length line later
one_carried false line later = omega arith

-- one more line was summed up
pub sum_step : (owns : ℕ → Bool) (begun : Bool) (above : CarryRule) (line : List ℕ) (left rest : List (List ℕ)) (old new target : ℕ)
    → left ≡ line ∷ rest → is_empty_line line ≡ false → old + length (joined (carried owns above (block_left begun left))) ≡ target
    → new ≡ old + bytes_if owns (rule_of above line) (length line + 1)
    → new + length (joined (carried owns (rule_below above line) (block_of rest))) ≡ target
sum_step owns begun above line left rest old new target step some before more =
    let block : block_left begun left ≡ line ∷ block_of rest = ap (block_left begun) step ∙ block_line begun line rest some in
    let whole = ap (λ ls. length (joined (carried owns above ls))) block
    ∙ one_carried (carries owns (rule_of above line)) line (carried owns (rule_below above line) (block_of rest)) in
    omega (arith, whole)

-- ROOM
-- a part of what has to fit was taken
pub le-take : (a b c : ℕ) → a ≤ c → nat_le b (c - a) ≡ nat_le (a + b) c
le-take a b c within = elim (cases_Bool (nat_le (a + b) c)) [
  | inl fits ↦ le-leb b (c - a) (omega (arith, leb-true (a + b) c fits)) ∙ sym fits
  | inr over ↦ lt-leb b (c - a) (omega (arith, leb-false (a + b) c over)) ∙ sym over
]

-- the next sum was taken from the room that is left
pub fit_more : (owns : ℕ → Bool) (sums : List RuleSum) (i left new : ℕ) (d : RuleSum) → i < length sums → carries owns (get_or sums i d).rule ≡ true
    → (get_or sums i d).length ≤ left → new ≡ left - (get_or sums i d).length
    → nat_le (sum_carried_by owns (drop (i + 1) sums)) new ≡ nat_le (sum_carried_by owns (drop i sums)) left
fit_more owns sums i left new d within is fits taken =
    let sum = get_or sums i d in
    let later = sum_carried_by owns (drop (i + 1) sums) in
    let whole : sum_carried_by owns (drop i sums) ≡ sum.length + later = carried_at owns sums i d within ∙ ap (λ b. cond b sum.length 0 + later) is in
    ap (nat_le later) taken ∙ le-take sum.length later left fits ∙ ap (λ n. nat_le n left) (sym whole)

-- the next sum is of no line that is carried
pub fit_other : (owns : ℕ → Bool) (sums : List RuleSum) (i : ℕ) (d : RuleSum) → i < length sums → carries owns (get_or sums i d).rule ≡ false
    → sum_carried_by owns (drop (i + 1) sums) ≡ sum_carried_by owns (drop i sums)
fit_other owns sums i d within other =
    let sum = get_or sums i d in
    let later = sum_carried_by owns (drop (i + 1) sums) in
    let whole : sum_carried_by owns (drop i sums) ≡ 0 + later = carried_at owns sums i d within ∙ ap (λ b. cond b sum.length 0 + later) other in
    omega (arith, whole)
