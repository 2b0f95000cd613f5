-- The sums of rules tell how many bytes the lines have that a tune carries.
use Rattle.std.proofs.Common.{◌≡◌, ℕ, zero, suc, ◌+◌, ◌<◌, ◌≤◌, Bool, true, false, cond, List, [], ◌∷◌, ◌++◌, length, get_or, set, drop, refl, ap, sym, ◌∙◌}
use Rattle.std.proofs.Common.{subst, arith}
use Rattle.std.proofs.lemmas.Bool.{cond_both}
use Rattle.std.proofs.lemmas.List.{append_assoc, append-nil, length-append, map-append, at_drop_more}
use Rattle.abc_fields.specs.Bytes.{line_feed}
use Rattle.abc_fields.specs.Limits.{longest_book}
use Rattle.abc_fields.specs.Tunes.{joined}
use Rattle.abc_fields.specs.FileHeaders.{carries}
use Rattle.abc_fields.specs.Inside.HeaderRows.{HeaderRow, row_list, rows_with, taken_lines, AreSums, AreByteRows, IsByteRule, sum_carried, sum_all}
use Rattle.abc_fields.specs.declared.carry_rules.CarryRule.{CarryRule}
use Rattle.abc_fields.specs.declared.carry_rules.CarryRule.TheVariants.{Never, Always, Unless}
use Rattle.abc_fields.specs.declared.file_header.RuleSum.{RuleSum}
use Rattle.abc_fields.specs.declared.file_header.HeaderLine.{HeaderLine}

-- so many bytes, where a tune carries a line of this rule
abbrev pub bytes_if : (ℕ → Bool) → CarryRule → ℕ → ℕ
bytes_if owns rule n = cond (carries owns rule) n 0

-- SUMS
pub sum_carried-push : (owns : ℕ → Bool) (sums : List RuleSum) (sum : RuleSum)
    → sum_carried owns (sums ++ sum ∷ []) ≡ sum_carried owns sums + bytes_if owns sum.rule sum.length
sum_carried-push owns [] sum = omega arith
sum_carried-push owns (first ∷ sums) sum = omega (arith, sum_carried-push owns sums sum)

pub sum_all-push : (sums : List RuleSum) (sum : RuleSum) → sum_all (sums ++ sum ∷ []) ≡ sum_all sums + sum.length
sum_all-push [] sum = omega arith
sum_all-push (first ∷ sums) sum = omega (arith, sum_all-push sums sum)

more_if : (is : Bool) (m n : ℕ) → cond is (m + n) 0 ≡ cond is m 0 + cond is n 0
more_if true m n = refl
more_if false m n = refl

-- one rule's bytes, and more of them
bytes_more : (owns : ℕ → Bool) (rule : CarryRule) (m n : ℕ) → bytes_if owns rule (m + n) ≡ bytes_if owns rule m + bytes_if owns rule n
bytes_more owns rule m n = more_if (carries owns rule) m n

-- more bytes at one place of the sums
pub sum_carried-set : (owns : ℕ → Bool) (sums : List RuleSum) (place n : ℕ) (d : RuleSum) → place < length sums
    → sum_carried owns (set sums place (record { rule = (get_or sums place d).rule; length = (get_or sums place d).length + n }))
    ≡ sum_carried owns sums + bytes_if owns (get_or sums place d).rule n
sum_carried-set owns [] place n d within = absurd (omega arith)
sum_carried-set owns (sum ∷ sums) zero n d within = omega (arith, bytes_more owns sum.rule sum.length n)
sum_carried-set owns (sum ∷ sums) (suc place) n d within = omega (arith, sum_carried-set owns sums place n d (omega arith))

pub sum_all-set : (sums : List RuleSum) (place n : ℕ) (d : RuleSum) (rule : CarryRule) → place < length sums
    → sum_all (set sums place (record { rule = rule; length = (get_or sums place d).length + n })) ≡ sum_all sums + n
sum_all-set [] place n d rule within = absurd (omega arith)
sum_all-set (sum ∷ sums) zero n d rule within = omega arith
sum_all-set (sum ∷ sums) (suc place) n d rule within = omega (arith, sum_all-set sums place n d rule (omega arith))

-- one sum is at most all of them
pub sum_within : (sums : List RuleSum) (place : ℕ) (d : RuleSum) → place < length sums → (get_or sums place d).length ≤ sum_all sums
sum_within [] place d within = absurd (omega arith)
sum_within (sum ∷ sums) zero d within = omega arith
sum_within (sum ∷ sums) (suc place) d within = omega (arith, sum_within sums place d (omega arith))

bytes_at_most : (is : Bool) (n : ℕ) → cond is n 0 ≤ n
bytes_at_most true n = omega arith
bytes_at_most false n = omega arith

-- what a tune carries is at most all of them
pub carried_within : (owns : ℕ → Bool) (sums : List RuleSum) → sum_carried owns sums ≤ sum_all sums
carried_within owns [] = omega arith
carried_within owns (sum ∷ sums) = omega (arith, bytes_at_most (carries owns sum.rule) sum.length, carried_within owns sums)

-- ROWS
-- this line, where a tune carries it
abbrev pub one_if : Bool → List ℕ → List (List ℕ)
one_if is line = cond is (line ∷ []) []

taken-push : (owns : ℕ → Bool) (rows : List HeaderRow) (row : HeaderRow)
    → taken_lines owns (rows ++ row ∷ []) ≡ taken_lines owns rows ++ one_if (carries owns row.rule) row.text
taken-push owns [] row = refl
taken-push owns (first ∷ rows) row =
    cond_both (carries owns first.rule) (first.text ∷ taken_lines owns (rows ++ row ∷ [])) (taken_lines owns (rows ++ row ∷ []))
    (λ all. all ≡ cond (carries owns first.rule) (first.text ∷ taken_lines owns rows) (taken_lines owns rows) ++ one_if (carries owns row.rule) row.text)
    (λ is. rw is (ap (λ ls. first.text ∷ ls) (taken-push owns rows row)))
    (λ no. rw no (taken-push owns rows row))

-- one more row, unless no tune carries it
pub taken-with : (owns : ℕ → Bool) (rows : List HeaderRow) (rule : CarryRule) (line : List ℕ)
    → taken_lines owns (rows_with rows rule line) ≡ taken_lines owns rows ++ one_if (carries owns rule) line
taken-with owns rows Never line = sym (append-nil (taken_lines owns rows))
taken-with owns rows Always line = taken-push owns rows (record { rule = Always; text = line })
taken-with owns rows (Unless letter) line = taken-push owns rows (record { rule = Unless letter; text = line })

pub joined-append : (xs ys : List (List ℕ)) → joined (xs ++ ys) ≡ joined xs ++ joined ys
joined-append [] ys = refl
joined-append (x ∷ xs) ys =
    ap (λ t. (x ++ line_feed ∷ []) ++ t) (joined-append xs ys) ∙ sym (append_assoc (x ++ line_feed ∷ []) (joined xs) (joined ys))

pub joined-length : (line : List ℕ) (lines : List (List ℕ)) → length (joined (line ∷ lines)) ≡ length line + 1 + length (joined lines)
joined-length line lines = simp length-append (omega arith)

one_length : (is : Bool) (line : List ℕ) → length (joined (one_if is line)) ≡ cond is (length line + 1) 0
one_length true line = omega (arith, joined-length line [])
one_length false line = refl

taken_length : (owns : ℕ → Bool) (rows : List HeaderRow) (rule : CarryRule) (line : List ℕ)
    → length (joined (taken_lines owns (rows_with rows rule line))) ≡ length (joined (taken_lines owns rows)) + bytes_if owns rule (length line + 1)
taken_length owns rows rule line =
    ap (λ ls. length (joined ls)) (taken-with owns rows rule line)
    ∙ ap length (joined-append (taken_lines owns rows) (one_if (carries owns rule) line))
    ∙ length-append (joined (taken_lines owns rows)) (joined (one_if (carries owns rule) line))
    ∙ ap (λ n. length (joined (taken_lines owns rows)) + n) (one_length (carries owns rule) line)

each_row-push : (rows : List HeaderRow) (row : HeaderRow) → AreByteRows rows → IsByteRule row.rule → AreByteRows (rows ++ row ∷ [])
each_row-push [] row each is = (is, tt)
each_row-push (first ∷ rows) row each is = (each.0, each_row-push rows row each.1 is)

bytes_with : (rows : List HeaderRow) (rule : CarryRule) (line : List ℕ) → AreByteRows rows → IsByteRule rule → AreByteRows (rows_with rows rule line)
bytes_with rows Never line each is = each
bytes_with rows Always line each is = each_row-push rows (record { rule = Always; text = line }) each is
bytes_with rows (Unless letter) line each is = each_row-push rows (record { rule = Unless letter; text = line }) each is

-- the sums of rows and of one more
pub sums_more : (rows : List HeaderRow) (old new : List RuleSum) (rule : CarryRule) (line : List ℕ) → AreSums rows old → IsByteRule rule
    → ((owns : ℕ → Bool) → sum_carried owns new ≡ sum_carried owns old + bytes_if owns rule (length line + 1)) → sum_all new ≤ longest_book + 1
    → AreSums (rows_with rows rule line) new
sums_more rows old new rule line are is more few = record {
  each = λ owns. more owns ∙ ap (λ n. n + bytes_if owns rule (length line + 1)) (are.each owns) ∙ sym (taken_length owns rows rule line);
  few = few;
  bytes = bytes_with rows rule line are.bytes is;
}

-- no row has no sum
pub no_sums : AreSums [] []
no_sums = record { each = λ owns. refl; few = omega arith; bytes = tt }

-- the sums from one place on are that sum and those behind it
pub carried_at : (owns : ℕ → Bool) (sums : List RuleSum) (i : ℕ) (d : RuleSum) → i < length sums
    → sum_carried owns (drop i sums) ≡ bytes_if owns (get_or sums i d).rule (get_or sums i d).length + sum_carried owns (drop (i + 1) sums)
carried_at owns sums i d within = at_drop_more (sum_carried owns) sums i d within

row_case : (rows : List HeaderRow) (rule : CarryRule) (text : List ℕ) → (rule ≡ Never → ⊥)
    → rows ++ record { rule = rule; text = text } ∷ [] ≡ rows_with rows rule text
row_case rows Never text some = absurd (some refl)
row_case rows Always text some = refl
row_case rows (Unless letter) text some = refl

-- one more line, as a row
pub row_push : (lines : List HeaderLine) (line : HeaderLine) → (line.rule ≡ Never → ⊥)
    → row_list (lines ++ line ∷ []) ≡ rows_with (row_list lines) line.rule line.text.now
row_push lines line some =
    map-append (λ (l : HeaderLine). record { rule = l.rule; text = l.text.now }) lines (line ∷ []) ∙ row_case (row_list lines) line.rule line.text.now some

-- the same for a sum that was read there
pub carried_grown : (owns : ℕ → Bool) (sums : List RuleSum) (place n : ℕ) (sum : RuleSum) → place < length sums → sum ≡ get_or sums place sum
    → sum_carried owns (set sums place (record { rule = sum.rule; length = sum.length + n })) ≡ sum_carried owns sums + bytes_if owns sum.rule n
carried_grown owns sums place n sum within read =
    let P : RuleSum
    → Type 0 = λ s. sum_carried owns (set sums place (record { rule = s.rule; length = s.length + n })) ≡ sum_carried owns sums + bytes_if owns s.rule n in
    subst P (sym read) (sum_carried-set owns sums place n sum within)

pub all_grown : (sums : List RuleSum) (place n : ℕ) (sum : RuleSum) → place < length sums → sum ≡ get_or sums place sum
    → sum_all (set sums place (record { rule = sum.rule; length = sum.length + n })) ≡ sum_all sums + n
all_grown sums place n sum within read =
    let P : RuleSum → Type 0 = λ s. sum_all (set sums place (record { rule = s.rule; length = s.length + n })) ≡ sum_all sums + n in
    subst P (sym read) (sum_all-set sums place n sum (get_or sums place sum).rule within)

pub length_within : (sums : List RuleSum) (place : ℕ) (sum : RuleSum) → place < length sums → sum ≡ get_or sums place sum → sum.length ≤ sum_all sums
length_within sums place sum within read =
    let P : RuleSum → Type 0 = λ s. s.length ≤ sum_all sums in
    subst P (sym read) (sum_within sums place sum within)
