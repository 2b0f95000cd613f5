-- The lines of a file header by their rules, and where each stands among the rows.
use Rattle.std.specs.Prelude.{◌≡◌, ℕ, suc, ◌+◌, ◌<◌, ◌≤◌, List, [], ◌∷◌, ◌++◌, length, map, drop}
use Rattle.std.specs.Prelude.{Bool, true, false, ◌==◌, if◌then◌else◌, nat_lt, slice_index_or, ⊤}
use Rattle.std.specs.Prelude.{◌⊎◌, Option, Some, None, MatchOption}
use Rattle.std.specs.List.{AllByRecursion, list_any}
use Rattle.abc_fields.specs.Bytes.{line_feed}
use Rattle.abc_fields.specs.Tunes.{joined}
use Rattle.abc_fields.specs.Inside.HeaderRows.{HeaderRow}
use Rattle.abc_fields.specs.declared.carry_rules.CarryRule.{CarryRule}
use Rattle.abc_fields.specs.declared.carry_rules.CarryRule.TheVariants.{Never, Always, Unless}
use Rattle.abc_fields.specs.declared.shares.Mark.{Mark}
use Rattle.abc_fields.specs.declared.shares.Turn.{Turn}

-- lines of one rule, each with its line feed, and a mark for each
pub record RuleLines : Type 0 where
  pub rule : CarryRule
  pub bytes : List ℕ
  pub marks : List Mark

-- the same with one more line, which stands at this place
abbrev pub with_line : RuleLines → ℕ → List ℕ → RuleLines
with_line lines place text = record {
  rule = lines.rule;
  bytes = lines.bytes ++ (text ++ line_feed ∷ []);
  marks = lines.marks ++ record { place = place; length = length text + 1 } ∷ [];
}

-- THE LINES OF A RULE
abbrev pub same_rule : CarryRule → CarryRule → Bool
same_rule Never Never = true
same_rule Always Always = true
same_rule (Unless first) (Unless second) = first == second
same_rule _ _ = false

-- the lines of rows that have this rule
abbrev pub texts_by : CarryRule → List HeaderRow → List (List ℕ)
texts_by rule [] = []
texts_by rule (row ∷ rows) =
    if same_rule rule row.rule then row.text ∷ texts_by rule rows else texts_by rule rows

-- their marks, where the first of the rows stands at this place
abbrev pub marks_by : CarryRule → ℕ → List HeaderRow → List Mark
marks_by rule place [] = []
marks_by rule place (row ∷ rows) =
    if same_rule rule row.rule
    then record { place = place; length = length row.text + 1 } ∷ marks_by rule (place + 1) rows
    else marks_by rule (place + 1) rows

-- the lines of their rule among rows, of which the first stands at this place
pub record AreOf (place : ℕ) (rows : List HeaderRow) (lines : RuleLines) : Type 0 where
  pub marks : lines.marks ≡ marks_by lines.rule place rows
  pub bytes : lines.bytes ≡ joined (texts_by lines.rule rows)

-- no two of these rules are the same
abbrev pub AreDistinctRules : List CarryRule → Type 0
AreDistinctRules [] = ⊤
AreDistinctRules (rule ∷ rules) =
    AllByRecursion (λ other. same_rule rule other ≡ false) rules × AreDistinctRules rules

abbrev pub rules_of : List RuleLines → List CarryRule
rules_of shares = map (λ lines. lines.rule) shares

-- the lines of rows, of which the first stands at this place, for each rule that passes a test and
-- that a row has
pub record AreShares (test : CarryRule → Bool) (place : ℕ) (rows : List HeaderRow)
    (shares : List RuleLines) : Type 0 where
  pub each : AllByRecursion (AreOf place rows) shares
  pub tested : AllByRecursion (λ rule. test rule ≡ true) (rules_of shares)
  pub apart : AreDistinctRules (rules_of shares)
  pub all : (rule : CarryRule) → test rule ≡ true
      → (list_any (same_rule rule) (rules_of shares) ≡ true) ⊎ (marks_by rule place rows ≡ [])

-- RUNS
-- how many of the marks, from the first on, stand before a place
abbrev pub run_count : ℕ → List Mark → ℕ
run_count place [] = 0
run_count place (mark ∷ marks) = if nat_lt mark.place place then suc (run_count place marks) else 0

-- how many bytes their lines have
abbrev pub run_length : ℕ → List Mark → ℕ
run_length place [] = 0
run_length place (mark ∷ marks) =
    if nat_lt mark.place place then mark.length + run_length place marks else 0

-- the lines but for those that stand before a place
abbrev pub lines_from : ℕ → RuleLines → RuleLines
lines_from place lines = record {
  rule = lines.rule;
  bytes = drop (run_length place lines.marks) lines.bytes;
  marks = drop (run_count place lines.marks) lines.marks;
}

-- none of the marks stands before this place
abbrev pub StartFrom : ℕ → List Mark → Type 0
StartFrom place [] = ⊤
StartFrom place (mark ∷ marks) = place ≤ mark.place

-- the first of the marks stands at this place
abbrev pub StartAt : ℕ → List Mark → Type 0
StartAt place [] = ⊥
StartAt place (mark ∷ marks) = place ≡ mark.place

-- the first of the marks stands at this place, or there is neither
abbrev pub BeginAt : Option ℕ → List Mark → Type 0
BeginAt place marks = MatchOption place (marks ≡ []) (λ at. StartAt at marks)

-- the same of the marks of a share
abbrev pub ShareBegins : ℕ → Option ℕ → List RuleLines → Type 0
ShareBegins index place shares = (none : RuleLines)
    → BeginAt place (slice_index_or shares index none).marks

-- of the first so many shares but one, this one comes first, at this place
pub record IsFirstAt (below except : ℕ) (shares : List RuleLines) (index place : ℕ) : Type 0 where
  pub within : index < below
  pub other : index ≡ except → ⊥
  pub starts : (none : RuleLines) → StartAt place (slice_index_or shares index none).marks
  pub others : (other : ℕ) (none : RuleLines) → other < below → (other ≡ except → ⊥)
      → StartFrom place (slice_index_or shares other none).marks

-- the same, where one of them has a line
abbrev pub IsFirst : ℕ → ℕ → List RuleLines → Option Turn → Type 0
IsFirst below except shares (Some turn) = IsFirstAt below except shares turn.index turn.place
IsFirst below except shares None = (other : ℕ) (none : RuleLines) → other < below
    → (other ≡ except → ⊥) → (slice_index_or shares other none).marks ≡ []
