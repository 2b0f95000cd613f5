-- What a tune carries is the lines of the rules that it carries, taken in turn by where they stand.
use Rattle.std.proofs.Common.{◌≡◌, ℕ, zero, suc, ◌+◌, ◌<◌, ◌≤◌, Bool, true, false, cond, ltb, ◌||◌, List, [], ◌∷◌, ◌++◌, length, take, drop, get_or, set}
use Rattle.std.proofs.Common.{refl, ap, sym, ◌∙◌, subst, arith, inl, inr, Some, None}
use Rattle.std.specs.List.{AllByRecursion, list_any}
use Rattle.std.specs.Prelude.{Option}
use Rattle.std.proofs.lemmas.Bool.{true≢false, cases_Bool, cases_lt, cases_eq, cases_order, eqb-true, eq-eqb, false_from_ne_true}
use Rattle.std.proofs.lemmas.Bool.{lt-ltb, le-ltb, ltb-true, ltb-false, or_right, or_left, or_cases}
use Rattle.std.proofs.lemmas.List.{append_assoc, append-nil, length-append, map-append, take_more, get_or_default, length-set, get_or-set_other}
use Rattle.std.proofs.lemmas.Grind.{get_or-set_at}
use Rattle.std.proofs.lemmas.List.Folds.{list_any-append}
use Rattle.std.proofs.Math.Seq.{take-append-add, drop-append-add}
use Rattle.abc_fields.specs.Bytes.{line_feed}
use Rattle.abc_fields.specs.Tunes.{joined}
use Rattle.abc_fields.specs.FileHeaders.{carries}
use Rattle.abc_fields.specs.Inside.HeaderRows.{HeaderRow, row_list, taken_lines}
use Rattle.abc_fields.specs.Inside.Shares.{RuleLines, with_line, same_rule, texts_by, marks_by, AreOf, AreDistinctRules, rules_of, AreShares}
use Rattle.abc_fields.specs.Inside.Shares.{run_count, run_length, lines_from, StartFrom, StartAt, IsFirstAt, IsFirst}
use Rattle.abc_fields.specs.declared.carry_rules.CarryRule.{CarryRule}
use Rattle.abc_fields.specs.declared.carry_rules.CarryRule.TheVariants.{Never, Always, Unless}
use Rattle.abc_fields.specs.declared.file_header.HeaderLine.{HeaderLine}
use Rattle.abc_fields.specs.declared.shares.Mark.{Mark}
use Rattle.abc_fields.specs.declared.shares.Turn.{Turn}
use Rattle.abc_fields.proofs.RuleSums.{joined-append, joined-length}

-- RULES
pub rule_equal : (first second : CarryRule) → same_rule first second ≡ true → first ≡ second
rule_equal Never Never is = refl
rule_equal Never Always is = absurd (true≢false (sym is))
rule_equal Never (Unless b) is = absurd (true≢false (sym is))
rule_equal Always Never is = absurd (true≢false (sym is))
rule_equal Always Always is = refl
rule_equal Always (Unless b) is = absurd (true≢false (sym is))
rule_equal (Unless a) Never is = absurd (true≢false (sym is))
rule_equal (Unless a) Always is = absurd (true≢false (sym is))
rule_equal (Unless a) (Unless b) is = ap (λ letter. Unless letter) (eqb-true a b is)

pub rule_itself : (rule : CarryRule) → same_rule rule rule ≡ true
rule_itself Never = refl
rule_itself Always = refl
rule_itself (Unless letter) = eq-eqb letter letter refl

pub rule_differs : (first second : CarryRule) → (first ≡ second → ⊥) → same_rule first second ≡ false
rule_differs first second differ = false_from_ne_true (same_rule first second) (λ is. differ (rule_equal first second is))

pub rule_back : (first second : CarryRule) → same_rule first second ≡ false → same_rule second first ≡ false
rule_back first second differ = rule_differs second first
    (λ same. true≢false (sym (rule_itself first) ∙ ap (same_rule first) (sym same) ∙ differ))

-- ROWS OF A RULE AND OTHERS
pub marks_same : (rule : CarryRule) (place : ℕ) (row : HeaderRow) (rows : List HeaderRow) → same_rule rule row.rule ≡ true
    → marks_by rule place (row ∷ rows) ≡ record { place = place; length = length row.text + 1 } ∷ marks_by rule (place + 1) rows
marks_same rule place row rows is = rw is refl

pub marks_other : (rule : CarryRule) (place : ℕ) (row : HeaderRow) (rows : List HeaderRow) → same_rule rule row.rule ≡ false
    → marks_by rule place (row ∷ rows) ≡ marks_by rule (place + 1) rows
marks_other rule place row rows is = rw is refl

pub texts_same : (rule : CarryRule) (row : HeaderRow) (rows : List HeaderRow) → same_rule rule row.rule ≡ true
    → texts_by rule (row ∷ rows) ≡ row.text ∷ texts_by rule rows
texts_same rule row rows is = rw is refl

pub texts_other : (rule : CarryRule) (row : HeaderRow) (rows : List HeaderRow) → same_rule rule row.rule ≡ false
    → texts_by rule (row ∷ rows) ≡ texts_by rule rows
texts_other rule row rows is = rw is refl

taken_is : (owns : ℕ → Bool) (row : HeaderRow) (rows : List HeaderRow) → carries owns row.rule ≡ true → taken_lines owns (row ∷ rows) ≡ row.text
    ∷ taken_lines owns rows
taken_is owns row rows is = rw is refl

taken_not : (owns : ℕ → Bool) (row : HeaderRow) (rows : List HeaderRow) → carries owns row.rule ≡ false → taken_lines owns (row ∷ rows) ≡ taken_lines owns rows
taken_not owns row rows is = rw is refl

-- marks from a place on, where no row before it has the rule
pub StartFrom-marks : (rule : CarryRule) (limit place : ℕ) (rows : List HeaderRow) → limit ≤ place → StartFrom limit (marks_by rule place rows)
StartFrom-marks rule limit place [] high = tt
StartFrom-marks rule limit place (row ∷ rows) high = elim (cases_Bool (same_rule rule row.rule)) [
  | inl is ↦ subst (StartFrom limit) (sym (marks_same rule place row rows is)) high
  | inr is ↦ subst (StartFrom limit) (sym (marks_other rule place row rows is)) (StartFrom-marks rule limit (place + 1) rows (omega arith))
]

no_run : (limit : ℕ) (marks : List Mark) → StartFrom limit marks → (run_count limit marks ≡ 0) × (run_length limit marks ≡ 0)
no_run limit [] from = (refl, refl)
no_run limit (mark ∷ marks) from = let above = le-ltb mark.place limit from in (rw above refl, rw above refl)

run_more : (limit : ℕ) (mark : Mark) (marks : List Mark) → mark.place < limit
    → (run_count limit (mark ∷ marks) ≡ suc (run_count limit marks)) × (run_length limit (mark ∷ marks) ≡ mark.length + run_length limit marks)
run_more limit mark marks below = let before = lt-ltb mark.place limit below in (rw before refl, rw before refl)

-- ONE TURN
-- the rows that are left after the lines of a rule that stand before a place
pub record IsAdvanced (owns : ℕ → Bool) (rule : CarryRule) (limit place : ℕ) (rows : List HeaderRow) : Type 0 where
  pub at : ℕ
  pub later : List HeaderRow
  pub bytes : take (run_length limit (marks_by rule place rows)) (joined (texts_by rule rows)) ++ joined (taken_lines owns later)
      ≡ joined (taken_lines owns rows)
  pub own_marks : drop (run_count limit (marks_by rule place rows)) (marks_by rule place rows) ≡ marks_by rule at later
  pub own_bytes : drop (run_length limit (marks_by rule place rows)) (joined (texts_by rule rows)) ≡ joined (texts_by rule later)
  pub other_marks : (other : CarryRule) → carries owns other ≡ true → same_rule rule other ≡ false → marks_by other place rows ≡ marks_by other at later
  pub other_texts : (other : CarryRule) → carries owns other ≡ true → same_rule rule other ≡ false → texts_by other rows ≡ texts_by other later

-- no other rule that the tune carries has a line before this place
abbrev pub NoOther : (ℕ → Bool) → CarryRule → ℕ → ℕ → List HeaderRow → Type 0
NoOther owns rule limit place rows = (other : CarryRule) → carries owns other ≡ true → same_rule rule other ≡ false
    → StartFrom limit (marks_by other place rows)

-- nothing is written
advance_none : (owns : ℕ → Bool) (rule : CarryRule) (limit place : ℕ) (rows : List HeaderRow) → StartFrom limit (marks_by rule place rows)
    → IsAdvanced owns rule limit place rows
advance_none owns rule limit place rows from =
    let none = no_run limit (marks_by rule place rows) from in
    record {
      at = place;
      later = rows;
      bytes = rw none.1 refl;
      own_marks = rw none.0 refl;
      own_bytes = rw none.1 refl;
      other_marks = λ other carried differ. refl;
      other_texts = λ other carried differ. refl;
    }

-- a row of the rule
advance_same : (owns : ℕ → Bool) (rule : CarryRule) (limit place : ℕ) (row : HeaderRow) (rows : List HeaderRow) → same_rule rule row.rule ≡ true
    → carries owns rule ≡ true → place < limit → IsAdvanced owns rule limit (place + 1) rows → IsAdvanced owns rule limit place (row ∷ rows)
advance_same owns rule limit place row rows is carried below to =
    let mark : Mark = record { place = place; length = length row.text + 1 } in
    let marks = marks_by rule (place + 1) rows in
    let own = marks_same rule place row rows is in
    let texts = texts_same rule row rows is in
    let more = run_more limit mark marks below in
    let front = row.text ++ line_feed ∷ [] in
    let long : length front ≡ length row.text + 1 = length-append row.text (line_feed ∷ []) in
    let taken_row : carries owns row.rule ≡ true = ap (carries owns) (sym (rule_equal rule row.rule is)) ∙ carried in
    let count : run_count limit (marks_by rule place (row ∷ rows)) ≡ suc (run_count limit marks) = ap (run_count limit) own ∙ more.0 in
    let size : run_length limit (marks_by rule place (row ∷ rows)) ≡ length front + run_length limit marks =
    ap (run_length limit) own ∙ more.1 ∙ ap (λ n. n + run_length limit marks) (sym long) in
    let other_row : (other : CarryRule) → same_rule rule other ≡ false → same_rule other row.rule ≡ false =
    λ other differ. subst (λ r. same_rule other r ≡ false) (rule_equal rule row.rule is) (rule_back rule other differ) in
    record {
      at = to.at;
      later = to.later;
      bytes = rw (size, texts, take-append-add front (joined (texts_by rule rows)) (run_length limit marks), taken_is owns row rows taken_row)
          (append_assoc front (take (run_length limit marks) (joined (texts_by rule rows))) (joined (taken_lines owns to.later))
          ∙ ap (λ t. front ++ t) to.bytes);
      own_marks = rw (count, own) to.own_marks;
      own_bytes = rw (size, texts, drop-append-add front (joined (texts_by rule rows)) (run_length limit marks)) to.own_bytes;
      other_marks = λ other on differ. marks_other other place row rows (other_row other differ) ∙ to.other_marks other on differ;
      other_texts = λ other on differ. texts_other other row rows (other_row other differ) ∙ to.other_texts other on differ;
    }

-- a row of a rule that the tune does not carry
advance_not : (owns : ℕ → Bool) (rule : CarryRule) (limit place : ℕ) (row : HeaderRow) (rows : List HeaderRow) → same_rule rule row.rule ≡ false
    → carries owns row.rule ≡ false → IsAdvanced owns rule limit (place + 1) rows → IsAdvanced owns rule limit place (row ∷ rows)
advance_not owns rule limit place row rows is carried to =
    let own = marks_other rule place row rows is in
    let texts = texts_other rule row rows is in
    let other_row : (other : CarryRule) → carries owns other ≡ true → same_rule other row.rule ≡ false =
    λ other on. rule_differs other row.rule (λ same. true≢false (sym on ∙ ap (carries owns) same ∙ carried)) in
    record {
      at = to.at;
      later = to.later;
      bytes = rw (own, texts, taken_not owns row rows carried) to.bytes;
      own_marks = rw own to.own_marks;
      own_bytes = rw (own, texts) to.own_bytes;
      other_marks = λ other on differ. marks_other other place row rows (other_row other on) ∙ to.other_marks other on differ;
      other_texts = λ other on differ. texts_other other row rows (other_row other on) ∙ to.other_texts other on differ;
    }

-- no row before the limit has another rule that the tune carries
not_carried : (owns : ℕ → Bool) (rule : CarryRule) (limit place : ℕ) (row : HeaderRow) (rows : List HeaderRow) → NoOther owns rule limit place (row ∷ rows)
    → same_rule rule row.rule ≡ false → place < limit → carries owns row.rule ≡ false
not_carried owns rule limit place row rows none is below = false_from_ne_true (carries owns row.rule) (λ on.
    let from : limit ≤ place = subst (StartFrom limit) (marks_same row.rule place row rows (rule_itself row.rule)) (none row.rule on is) in
    omega arith)

no_other_later : (owns : ℕ → Bool) (rule : CarryRule) (limit place : ℕ) (row : HeaderRow) (rows : List HeaderRow) → NoOther owns rule limit place (row ∷ rows)
    → place < limit → NoOther owns rule limit (place + 1) rows
no_other_later owns rule limit place row rows none below = λ other on differ. elim (cases_Bool (same_rule other row.rule)) [
  | inl is ↦ let from : limit ≤ place = subst (StartFrom limit) (marks_same other place row rows is) (none other on differ) in absurd (omega arith)
  | inr is ↦ subst (StartFrom limit) (marks_other other place row rows is) (none other on differ)
]

pub advance : (owns : ℕ → Bool) (rule : CarryRule) (limit place : ℕ) (rows : List HeaderRow) → carries owns rule ≡ true → NoOther owns rule limit place rows
    → IsAdvanced owns rule limit place rows
advance owns rule limit place [] carried none = advance_none owns rule limit place [] tt
advance owns rule limit place (row ∷ rows) carried none = elim (cases_Bool (ltb place limit)) [
  | inl below ↦
      let under = ltb-true place limit below in
      let to = advance owns rule limit (place + 1) rows carried (no_other_later owns rule limit place row rows none under) in
      elim (cases_Bool (same_rule rule row.rule)) [
        | inl is ↦ advance_same owns rule limit place row rows is carried under to
        | inr is ↦ advance_not owns rule limit place row rows is (not_carried owns rule limit place row rows none is under) to
      ]
  | inr above ↦ advance_none owns rule limit place (row ∷ rows) (StartFrom-marks rule limit place (row ∷ rows) (ltb-false place limit above))
]

-- the lines that stand before a place are lines of the rule
pub run_within : (rule : CarryRule) (limit place : ℕ) (rows : List HeaderRow)
    → run_length limit (marks_by rule place rows) ≤ length (joined (texts_by rule rows))
run_within rule limit place [] = omega arith
run_within rule limit place (row ∷ rows) = elim (cases_Bool (same_rule rule row.rule)) [
  | inl is ↦ elim (cases_Bool (ltb place limit)) [
    | inl below ↦ omega (
      arith,
      run_within rule limit (place + 1) rows,
      joined-length row.text (texts_by rule rows),
      ap (run_length limit) (marks_same rule place row rows is),
      ap (λ ls. length (joined ls)) (texts_same rule row rows is),
      (run_more limit (record { place = place; length = length row.text + 1 }) (marks_by rule (place + 1) rows) (ltb-true place limit below)).1,
    )
    | inr above ↦
        let from = StartFrom-marks rule limit place (row ∷ rows) (ltb-false place limit above) in
        omega (arith, (no_run limit (marks_by rule place (row ∷ rows)) from).1)
  ]
  | inr is ↦ omega (
    arith,
    run_within rule limit (place + 1) rows,
    ap (run_length limit) (marks_other rule place row rows is),
    ap (λ ls. length (joined ls)) (texts_other rule row rows is),
  )
]

later_marks : (marks : List Mark) (at limit : ℕ) → StartFrom limit marks → StartAt at marks → at < limit → ⊥
later_marks [] at limit from one below = one
later_marks (mark ∷ marks) at limit from one below = omega arith

-- a line of later rows stands at a later place
late : (rule : CarryRule) (at place : ℕ) (rows : List HeaderRow) → at ≡ place → StartAt at (marks_by rule (place + 1) rows) → ⊥
late rule at place rows here one =
    let from = StartFrom-marks rule (place + 1) (place + 1) rows (omega arith) in
    later_marks (marks_by rule (place + 1) rows) at (place + 1) from one (omega arith)

-- two rules have no line at one place
pub starts_apart : (first second : CarryRule) (at place : ℕ) (rows : List HeaderRow) → same_rule first second ≡ false
    → StartAt at (marks_by first place rows) → StartAt at (marks_by second place rows) → ⊥
starts_apart first second at place [] differ one two = one
starts_apart first second at place (row ∷ rows) differ one two = elim (cases_Bool (same_rule first row.rule)) [
  | inl is ↦ elim (cases_Bool (same_rule second row.rule)) [
    | inl too ↦ true≢false (sym (subst (λ r. same_rule first r ≡ true) (sym (rule_equal second row.rule too)) is) ∙ differ)
    | inr not ↦ late second at place rows (subst (StartAt at) (marks_same first place row rows is) one)
        (subst (StartAt at) (marks_other second place row rows not) two)
  ]
  | inr not ↦ elim (cases_Bool (same_rule second row.rule)) [
    | inl too ↦ late first at place rows (subst (StartAt at) (marks_same second place row rows too) two)
        (subst (StartAt at) (marks_other first place row rows not) one)
    | inr neither ↦ starts_apart first second at (place + 1) rows differ (subst (StartAt at) (marks_other first place row rows not) one)
        (subst (StartAt at) (marks_other second place row rows neither) two)
  ]
]

-- THE FIRST OF SOME
others_more : (P : ℕ → Type 0) (index : ℕ) → ((other : ℕ) → other < index → P other) → P index → (other : ℕ) → other < index + 1 → P other
others_more P index before here other below = elim (cases_lt other index) [
  | inl less ↦ before other less
  | inr more ↦ let same : other ≡ index = omega arith in subst P (sym same) here
]

-- the marks of the lines of one index
abbrev pub marks_at : List RuleLines → ℕ → RuleLines → List Mark
marks_at shares index none = (get_or shares index none).marks

from_empty : (marks : List Mark) (place : ℕ) → marks ≡ [] → StartFrom place marks
from_empty marks place empty = subst (StartFrom place) (sym empty) tt

from_at : (marks : List Mark) (place at : ℕ) → StartAt at marks → place ≤ at → StartFrom place marks
from_at [] place at starts low = absurd starts
from_at (mark ∷ marks) place at starts low = omega arith

from_less : (marks : List Mark) (low high : ℕ) → low ≤ high → StartFrom high marks → StartFrom low marks
from_less [] low high is from = tt
from_less (mark ∷ marks) low high is from = omega arith

-- one more, which is left out
pub first_except : (index except : ℕ) (shares : List RuleLines) (found : Option Turn) → index ≡ except → IsFirst index except shares found
    → IsFirst (index + 1) except shares found
first_except index except shares None is first = λ other none.
    others_more (λ other. (other ≡ except → ⊥) → marks_at shares other none ≡ []) index (λ o below. first o none below) (λ not. absurd (not is)) other
first_except index except shares (Some turn) is first = record {
  within = omega (arith, first.within);
  other = first.other;
  starts = first.starts;
  others = λ other none. others_more (λ other. (other ≡ except → ⊥) → StartFrom turn.place (marks_at shares other none)) index
      (λ o below. first.others o none below) (λ not. absurd (not is)) other;
}

-- one more, which has no line
pub first_skip : (index except : ℕ) (shares : List RuleLines) (found : Option Turn) → ((none : RuleLines) → marks_at shares index none ≡ [])
    → IsFirst index except shares found → IsFirst (index + 1) except shares found
first_skip index except shares None empty first = λ other none.
    others_more (λ other. (other ≡ except → ⊥) → marks_at shares other none ≡ []) index (λ o below. first o none below) (λ not. empty none) other
first_skip index except shares (Some turn) empty first = record {
  within = omega (arith, first.within);
  other = first.other;
  starts = first.starts;
  others = λ other none. others_more (λ other. (other ≡ except → ⊥) → StartFrom turn.place (marks_at shares other none)) index
      (λ o below. first.others o none below) (λ not. from_empty (marks_at shares index none) turn.place (empty none)) other;
}

-- one more, which comes later
pub first_stays : (index except : ℕ) (shares : List RuleLines) (turn : Turn) (at : ℕ) → ((none : RuleLines) → StartAt at (marks_at shares index none))
    → turn.place ≤ at → IsFirst index except shares (Some turn) → IsFirst (index + 1) except shares (Some turn)
first_stays index except shares turn at starts later first = record {
  within = omega (arith, first.within);
  other = first.other;
  starts = first.starts;
  others = λ other none. others_more (λ other. (other ≡ except → ⊥) → StartFrom turn.place (marks_at shares other none)) index
      (λ o below. first.others o none below) (λ not. from_at (marks_at shares index none) turn.place at (starts none) later) other;
}

-- one more, which comes before the others
pub first_before : (index except : ℕ) (shares : List RuleLines) (turn : Turn) (at : ℕ) → (index ≡ except → ⊥)
    → ((none : RuleLines) → StartAt at (marks_at shares index none)) → at ≤ turn.place → IsFirst index except shares (Some turn)
    → IsFirst (index + 1) except shares (Some (record { index = index; place = at }))
first_before index except shares turn at not starts sooner first = record {
  within = omega arith;
  other = not;
  starts = starts;
  others = λ other none. others_more (λ other. (other ≡ except → ⊥) → StartFrom at (marks_at shares other none)) index
      (λ o below is. from_less (marks_at shares o none) at turn.place sooner (first.others o none below is))
      (λ is. from_at (marks_at shares index none) at at (starts none) (omega arith)) other;
}

-- one more, and the first that has a line
pub first_found : (index except : ℕ) (shares : List RuleLines) (at : ℕ) → (index ≡ except → ⊥)
    → ((none : RuleLines) → StartAt at (marks_at shares index none)) → IsFirst index except shares None
    → IsFirst (index + 1) except shares (Some (record { index = index; place = at }))
first_found index except shares at not starts first = record {
  within = omega arith;
  other = not;
  starts = starts;
  others = λ other none. others_more (λ other. (other ≡ except → ⊥) → StartFrom at (marks_at shares other none)) index
      (λ o below is. from_empty (marks_at shares o none) at (first o none below is))
      (λ is. from_at (marks_at shares index none) at at (starts none) (omega arith)) other;
}

-- LISTS OF SHARES
pub all_push : {X : Type 0} (P : X → Type 0) (xs : List X) (x : X) → AllByRecursion P xs → P x → AllByRecursion P (xs ++ x ∷ [])
all_push P [] x each is = (is, tt)
all_push P (y ∷ ys) x each is = (each.0, all_push P ys x each.1 is)

all_at : (P : RuleLines → Type 0) (shares : List RuleLines) (index : ℕ) (none : RuleLines) → AllByRecursion P shares → index < length shares
    → P (get_or shares index none)
all_at P [] index none each within = absurd (omega arith)
all_at P (lines ∷ shares) zero none each within = each.0
all_at P (lines ∷ shares) (suc index) none each within = all_at P shares index none each.1 (omega arith)

rule_at : (P : CarryRule → Type 0) (shares : List RuleLines) (index : ℕ) (none : RuleLines) → AllByRecursion P (rules_of shares) → index < length shares
    → P (get_or shares index none).rule
rule_at P [] index none each within = absurd (omega arith)
rule_at P (lines ∷ shares) zero none each within = each.0
rule_at P (lines ∷ shares) (suc index) none each within = rule_at P shares index none each.1 (omega arith)

rules_set : (shares : List RuleLines) (index : ℕ) (lines none : RuleLines) → lines.rule ≡ (get_or shares index none).rule
    → index < length shares → rules_of (set shares index lines) ≡ rules_of shares
rules_set [] index lines none same within = absurd (omega arith)
rules_set (first ∷ shares) zero lines none same within = ap (λ rule. rule ∷ rules_of shares) same
rules_set (first ∷ shares) (suc index) lines none same within = ap (λ rules. first.rule ∷ rules) (rules_set shares index lines none same (omega arith))

-- one of the rules is at this index
any_at : (rule : CarryRule) (shares : List RuleLines) (index : ℕ) (none : RuleLines) → index < length shares
    → same_rule rule (get_or shares index none).rule ≡ true → list_any (same_rule rule) (rules_of shares) ≡ true
any_at rule [] index none within is = absurd (omega arith)
any_at rule (lines ∷ shares) zero none within is = rw is refl
any_at rule (lines ∷ shares) (suc index) none within is =
    or_right (same_rule rule lines.rule) (list_any (same_rule rule) (rules_of shares)) (any_at rule shares index none (omega arith) is)

-- and the other way round
any_index : (rule : CarryRule) (shares : List RuleLines) → list_any (same_rule rule) (rules_of shares) ≡ true
    → (index : ℕ) × (index < length shares) × ((none : RuleLines) → (get_or shares index none).rule ≡ rule)
any_index rule [] any = absurd (true≢false (sym any))
any_index rule (lines ∷ shares) any = elim (or_cases (same_rule rule lines.rule) (list_any (same_rule rule) (rules_of shares)) any) [
  | inl is ↦ (0, omega arith, λ none. sym (rule_equal rule lines.rule is))
  | inr later ↦ let found = any_index rule shares later in (suc found.0, omega (arith, found.1), λ none. found.2 none)
]

keep_all : (P Q : RuleLines → Type 0) (rule : CarryRule) (shares : List RuleLines) → AllByRecursion P shares
    → AllByRecursion (λ other. same_rule rule other ≡ false) (rules_of shares)
    → ((other : RuleLines) → P other → same_rule rule other.rule ≡ false → Q other) → AllByRecursion Q shares
keep_all P Q rule [] each apart keeps = tt
keep_all P Q rule (lines ∷ shares) each apart keeps = (keeps lines each.0 apart.0, keep_all P Q rule shares each.1 apart.1 keeps)

-- one of them changes, and what holds of the others is told by their rules
each_set : (P Q : RuleLines → Type 0) (shares : List RuleLines) (index : ℕ) (none lines : RuleLines) → AllByRecursion P shares
    → AreDistinctRules (rules_of shares) → index < length shares
    → ((other : RuleLines) → P other → same_rule (get_or shares index none).rule other.rule ≡ false → Q other) → Q lines
    → AllByRecursion Q (set shares index lines)
each_set P Q [] index none lines each apart within keeps is = absurd (omega arith)
each_set P Q (first ∷ shares) zero none lines each apart within keeps is = (is, keep_all P Q first.rule shares each.1 apart.0 keeps)
each_set P Q (first ∷ shares) (suc index) none lines each apart within keeps is = (
  keeps first each.0 (rule_back first.rule (get_or shares index none).rule
      (rule_at (λ other. same_rule first.rule other ≡ false) shares index none apart.0 (omega arith))),
  each_set P Q shares index none lines each.1 apart.1 (omega arith) keeps is,
)

with_rules : (P : RuleLines → Type 0) (T : CarryRule → Type 0) (shares : List RuleLines) → AllByRecursion P shares → AllByRecursion T (rules_of shares)
    → AllByRecursion (λ lines. P lines × T lines.rule) shares
with_rules P T [] each tested = tt
with_rules P T (lines ∷ shares) each tested = ((each.0, tested.0), with_rules P T shares each.1 tested.1)

-- A SHARE MORE
not_in : (shares : List RuleLines) (rule : CarryRule)
    → ((index : ℕ) (none : RuleLines) → index < length shares → (get_or shares index none).rule ≡ rule → ⊥)
    → AllByRecursion (λ other. same_rule other rule ≡ false) (rules_of shares)
not_in [] rule none = tt
not_in (lines ∷ shares) rule none = (
  rule_differs lines.rule rule (λ same. none 0 lines (omega arith) same),
  not_in shares rule (λ index d within same. none (suc index) d (omega arith) same),
)

any_none : (rules : List CarryRule) (rule : CarryRule) → AllByRecursion (λ other. same_rule other rule ≡ false) rules → list_any (same_rule rule) rules ≡ false
any_none [] rule each = refl
any_none (other ∷ rules) rule each = rw (rule_back other rule each.0, any_none rules rule each.1) refl

apart_push : (rules : List CarryRule) (rule : CarryRule) → AreDistinctRules rules → AllByRecursion (λ other. same_rule other rule ≡ false) rules
    → AreDistinctRules (rules ++ rule ∷ [])
apart_push [] rule apart each = (tt, tt)
apart_push (first ∷ rules) rule apart each =
    (all_push (λ other. same_rule first other ≡ false) rules rule apart.0 each.0, apart_push rules rule apart.1 each.1)

no_texts : (rule : CarryRule) (place : ℕ) (rows : List HeaderRow) → marks_by rule place rows ≡ [] → texts_by rule rows ≡ []
no_texts rule place [] empty = refl
no_texts rule place (row ∷ rows) empty = elim (cases_Bool (same_rule rule row.rule)) [
  | inl is ↦ let full = ap length (sym (marks_same rule place row rows is) ∙ empty) in absurd (omega (arith, full))
  | inr is ↦ texts_other rule row rows is ∙ no_texts rule (place + 1) rows (sym (marks_other rule place row rows is) ∙ empty)
]

pub add_empty : (rows : List HeaderRow) (shares : List RuleLines) (rule : CarryRule)
    → ((index : ℕ) (none : RuleLines) → index < length shares → (get_or shares index none).rule ≡ rule → ⊥) → AreShares (λ _. true) 0 rows shares
    → AreShares (λ _. true) 0 rows (shares ++ record { rule = rule; bytes = []; marks = [] } ∷ [])
add_empty rows shares rule none are =
    let lines : RuleLines = record { rule = rule; bytes = []; marks = [] } in
    let others = not_in shares rule none in
    let rules : rules_of (shares ++ lines ∷ []) ≡ rules_of shares ++ rule ∷ [] = map-append (λ (l : RuleLines). l.rule) shares (lines ∷ []) in
    let empty : marks_by rule 0 rows ≡ [] = elim (are.all rule refl) [
      | inl any ↦ absurd (true≢false (sym any ∙ any_none (rules_of shares) rule others))
      | inr gone ↦ gone
    ] in
    let P : List CarryRule → Type 0 = λ rs. AllByRecursion (λ r. true ≡ true) rs in
    record {
      each = all_push (AreOf 0 rows) shares lines are.each
          (record { marks = sym empty; bytes = ap joined (sym (no_texts rule 0 rows empty)) });
      tested = subst P (sym rules) (all_push (λ r. true ≡ true) (rules_of shares) rule are.tested refl);
      apart = subst AreDistinctRules (sym rules) (apart_push (rules_of shares) rule are.apart others);
      all = λ other is. elim (are.all other is) [
        | inl any ↦ inl (ap (list_any (same_rule other)) rules ∙ list_any-append (same_rule other) (rules_of shares) (rule ∷ [])
            ∙ or_left (list_any (same_rule other) (rules_of shares)) (list_any (same_rule other) (rule ∷ [])) any)
        | inr gone ↦ inr gone
      ];
    }

-- A LINE MORE
marks_push_other : (rule : CarryRule) (place : ℕ) (rows : List HeaderRow) (row : HeaderRow) → same_rule rule row.rule ≡ false
    → marks_by rule place (rows ++ row ∷ []) ≡ marks_by rule place rows
marks_push_other rule place [] row differ = marks_other rule place row [] differ
marks_push_other rule place (first ∷ rows) row differ = elim (cases_Bool (same_rule rule first.rule)) [
  | inl is ↦ marks_same rule place first (rows ++ row ∷ []) is
      ∙ ap (λ ms. record { place = place; length = length first.text + 1 } ∷ ms) (marks_push_other rule (place + 1) rows row differ)
      ∙ sym (marks_same rule place first rows is)
  | inr is ↦ marks_other rule place first (rows ++ row ∷ []) is ∙ marks_push_other rule (place + 1) rows row differ
      ∙ sym (marks_other rule place first rows is)
]

marks_push_same : (rule : CarryRule) (place at : ℕ) (rows : List HeaderRow) (row : HeaderRow) → same_rule rule row.rule ≡ true → at ≡ place + length rows
    → marks_by rule place (rows ++ row ∷ []) ≡ marks_by rule place rows ++ record { place = at; length = length row.text + 1 } ∷ []
marks_push_same rule place at [] row same here =
    let is : at ≡ place = omega (arith, here) in
    marks_same rule place row [] same ∙ ap (λ (n : ℕ). record { place = n; length = length row.text + 1 } ∷ []) (sym is)
marks_push_same rule place at (first ∷ rows) row same here =
    let later = marks_push_same rule (place + 1) at rows row same (omega (arith, here)) in
    elim (cases_Bool (same_rule rule first.rule)) [
      | inl is ↦ marks_same rule place first (rows ++ row ∷ []) is
          ∙ ap (λ ms. record { place = place; length = length first.text + 1 } ∷ ms) later
          ∙ ap (λ ms. ms ++ record { place = at; length = length row.text + 1 } ∷ []) (sym (marks_same rule place first rows is))
      | inr is ↦ marks_other rule place first (rows ++ row ∷ []) is ∙ later
          ∙ ap (λ ms. ms ++ record { place = at; length = length row.text + 1 } ∷ []) (sym (marks_other rule place first rows is))
    ]

texts_push_other : (rule : CarryRule) (rows : List HeaderRow) (row : HeaderRow) → same_rule rule row.rule ≡ false
    → texts_by rule (rows ++ row ∷ []) ≡ texts_by rule rows
texts_push_other rule [] row differ = texts_other rule row [] differ
texts_push_other rule (first ∷ rows) row differ = elim (cases_Bool (same_rule rule first.rule)) [
  | inl is ↦ texts_same rule first (rows ++ row ∷ []) is ∙ ap (λ ls. first.text ∷ ls) (texts_push_other rule rows row differ)
      ∙ sym (texts_same rule first rows is)
  | inr is ↦ texts_other rule first (rows ++ row ∷ []) is ∙ texts_push_other rule rows row differ ∙ sym (texts_other rule first rows is)
]

texts_push_same : (rule : CarryRule) (rows : List HeaderRow) (row : HeaderRow) → same_rule rule row.rule ≡ true
    → texts_by rule (rows ++ row ∷ []) ≡ texts_by rule rows ++ row.text ∷ []
texts_push_same rule [] row same = texts_same rule row [] same
texts_push_same rule (first ∷ rows) row same = elim (cases_Bool (same_rule rule first.rule)) [
  | inl is ↦ texts_same rule first (rows ++ row ∷ []) is ∙ ap (λ ls. first.text ∷ ls) (texts_push_same rule rows row same)
      ∙ ap (λ ls. ls ++ row.text ∷ []) (sym (texts_same rule first rows is))
  | inr is ↦ texts_other rule first (rows ++ row ∷ []) is ∙ texts_push_same rule rows row same
      ∙ ap (λ ls. ls ++ row.text ∷ []) (sym (texts_other rule first rows is))
]

joined_push : (lines : List (List ℕ)) (line : List ℕ) → joined (lines ++ line ∷ []) ≡ joined lines ++ (line ++ line_feed ∷ [])
joined_push lines line = joined-append lines (line ∷ []) ∙ ap (λ t. joined lines ++ t) (append-nil (line ++ line_feed ∷ []))

-- one more line, at the share of its rule
pub add_row : (rows : List HeaderRow) (row : HeaderRow) (shares : List RuleLines) (index place : ℕ) (none : RuleLines) → index < length shares
    → (get_or shares index none).rule ≡ row.rule → place ≡ length rows → AreShares (λ _. true) 0 rows shares
    → AreShares (λ _. true) 0 (rows ++ row ∷ []) (set shares index (with_line (get_or shares index none) place row.text))
add_row rows row shares index place none within same here are =
    let lines = get_or shares index none in
    let grown = with_line lines place row.text in
    let old = all_at (AreOf 0 rows) shares index none are.each within in
    let own : same_rule lines.rule row.rule ≡ true = subst (λ rule. same_rule lines.rule rule ≡ true) same (rule_itself lines.rule) in
    let rules : rules_of (set shares index grown) ≡ rules_of shares = rules_set shares index grown none refl within in
    let P : List CarryRule → Type 0 = λ rs. AllByRecursion (λ r. true ≡ true) rs in
    record {
      each = each_set (AreOf 0 rows) (AreOf 0 (rows ++ row ∷ [])) shares index none grown are.each are.apart within
          (λ other of differ.
          let away : same_rule other.rule row.rule ≡ false = rule_back row.rule other.rule (subst (λ rule. same_rule rule other.rule ≡ false) same differ) in
          record {
            marks = of.marks ∙ sym (marks_push_other other.rule 0 rows row away);
            bytes = of.bytes ∙ ap joined (sym (texts_push_other other.rule rows row away));
          })
          (record {
            marks = ap (λ ms. ms ++ record { place = place; length = length row.text + 1 } ∷ []) old.marks
                ∙ sym (marks_push_same lines.rule 0 place rows row own (omega (arith, here)));
            bytes = ap (λ t. t ++ (row.text ++ line_feed ∷ [])) old.bytes ∙ sym (joined_push (texts_by lines.rule rows) row.text)
                ∙ ap joined (sym (texts_push_same lines.rule rows row own));
          });
      tested = subst P (sym rules) are.tested;
      apart = subst AreDistinctRules (sym rules) are.apart;
      all = λ rule is. elim (cases_Bool (same_rule rule row.rule)) [
        | inl it ↦ inl (ap (list_any (same_rule rule)) rules
            ∙ any_at rule shares index none within (subst (λ r. same_rule rule r ≡ true) (sym same) it))
        | inr away ↦ elim (are.all rule is) [
          | inl any ↦ inl (ap (list_any (same_rule rule)) rules ∙ any)
          | inr gone ↦ inr (marks_push_other rule 0 rows row away ∙ gone)
        ]
      ];
    }

-- SOME OF THE SHARES
-- those of the shares whose rules pass a test
abbrev pub chosen : (CarryRule → Bool) → List RuleLines → List RuleLines
chosen test [] = []
chosen test (lines ∷ shares) = cond (test lines.rule) (lines ∷ chosen test shares) (chosen test shares)

chosen_is : (test : CarryRule → Bool) (lines : RuleLines) (shares : List RuleLines) → test lines.rule ≡ true
    → chosen test (lines ∷ shares) ≡ lines ∷ chosen test shares
chosen_is test lines shares is = rw is refl

chosen_not : (test : CarryRule → Bool) (lines : RuleLines) (shares : List RuleLines) → test lines.rule ≡ false
    → chosen test (lines ∷ shares) ≡ chosen test shares
chosen_not test lines shares is = rw is refl

each_chosen : (P : RuleLines → Type 0) (test : CarryRule → Bool) (shares : List RuleLines) → AllByRecursion P shares
    → AllByRecursion P (chosen test shares)
each_chosen P test [] each = tt
each_chosen P test (lines ∷ shares) each = elim (cases_Bool (test lines.rule)) [
  | inl is ↦ subst (λ ss. AllByRecursion P ss) (sym (chosen_is test lines shares is)) (each.0, each_chosen P test shares each.1)
  | inr is ↦ subst (λ ss. AllByRecursion P ss) (sym (chosen_not test lines shares is)) (each_chosen P test shares each.1)
]

rules_chosen : (P : CarryRule → Type 0) (test : CarryRule → Bool) (shares : List RuleLines) → AllByRecursion P (rules_of shares)
    → AllByRecursion P (rules_of (chosen test shares))
rules_chosen P test [] each = tt
rules_chosen P test (lines ∷ shares) each = elim (cases_Bool (test lines.rule)) [
  | inl is ↦ subst (λ ss. AllByRecursion P (rules_of ss)) (sym (chosen_is test lines shares is)) (each.0, rules_chosen P test shares each.1)
  | inr is ↦ subst (λ ss. AllByRecursion P (rules_of ss)) (sym (chosen_not test lines shares is)) (rules_chosen P test shares each.1)
]

tested_chosen : (test : CarryRule → Bool) (shares : List RuleLines) → AllByRecursion (λ rule. test rule ≡ true) (rules_of (chosen test shares))
tested_chosen test [] = tt
tested_chosen test (lines ∷ shares) = elim (cases_Bool (test lines.rule)) [
  | inl is ↦ subst (λ ss. AllByRecursion (λ rule. test rule ≡ true) (rules_of ss)) (sym (chosen_is test lines shares is)) (is, tested_chosen test shares)
  | inr is ↦ subst (λ ss. AllByRecursion (λ rule. test rule ≡ true) (rules_of ss)) (sym (chosen_not test lines shares is)) (tested_chosen test shares)
]

apart_chosen : (test : CarryRule → Bool) (shares : List RuleLines) → AreDistinctRules (rules_of shares) → AreDistinctRules (rules_of (chosen test shares))
apart_chosen test [] apart = tt
apart_chosen test (lines ∷ shares) apart = elim (cases_Bool (test lines.rule)) [
  | inl is ↦ subst (λ ss. AreDistinctRules (rules_of ss)) (sym (chosen_is test lines shares is))
      (rules_chosen (λ other. same_rule lines.rule other ≡ false) test shares apart.0, apart_chosen test shares apart.1)
  | inr is ↦ subst (λ ss. AreDistinctRules (rules_of ss)) (sym (chosen_not test lines shares is)) (apart_chosen test shares apart.1)
]

any_chosen : (test : CarryRule → Bool) (rule : CarryRule) (shares : List RuleLines) → test rule ≡ true
    → list_any (same_rule rule) (rules_of (chosen test shares)) ≡ list_any (same_rule rule) (rules_of shares)
any_chosen test rule [] on = refl
any_chosen test rule (lines ∷ shares) on = elim (cases_Bool (test lines.rule)) [
  | inl is ↦ ap (λ ss. list_any (same_rule rule) (rules_of ss)) (chosen_is test lines shares is)
      ∙ ap (λ b. same_rule rule lines.rule || b) (any_chosen test rule shares on)
  | inr is ↦ ap (λ ss. list_any (same_rule rule) (rules_of ss)) (chosen_not test lines shares is) ∙ any_chosen test rule shares on
      ∙ ap (λ b. b || list_any (same_rule rule) (rules_of shares))
      (sym (rule_differs rule lines.rule (λ same. true≢false (sym on ∙ ap test same ∙ is))))
]

pub chosen_shares : (test : CarryRule → Bool) (rows : List HeaderRow) (shares : List RuleLines) → AreShares (λ _. true) 0 rows shares
    → AreShares test 0 rows (chosen test shares)
chosen_shares test rows shares are = record {
  each = each_chosen (AreOf 0 rows) test shares are.each;
  tested = tested_chosen test shares;
  apart = apart_chosen test shares are.apart;
  all = λ rule on. elim (are.all rule refl) [
    | inl any ↦ inl (any_chosen test rule shares on ∙ any)
    | inr gone ↦ inr gone
  ];
}

-- one more line of a header, as a row
pub rows_more : (lines : List HeaderLine) (place : ℕ) (none : HeaderLine) → place < length lines
    → row_list (take (place + 1) lines)
    ≡ row_list (take place lines) ++ record { rule = (get_or lines place none).rule; text = (get_or lines place none).text.now } ∷ []
rows_more lines place none within =
    ap row_list (take_more lines place none within)
    ∙ map-append (λ (l : HeaderLine). record { rule = l.rule; text = l.text.now }) (take place lines) (get_or lines place none ∷ [])

-- THE LINES OF A TUNE
-- these shares have the lines that are left to write, and these are their bytes
pub record AreLeft (owns : ℕ → Bool) (shares : List RuleLines) (bytes : List ℕ) : Type 0 where
  pub at : ℕ
  pub rows : List HeaderRow
  pub are : AreShares (carries owns) at rows shares
  pub whole : joined (taken_lines owns rows) ≡ bytes

-- each line that is left has the rule, or no line has another that the tune carries
taken_alone : (owns : ℕ → Bool) (rule : CarryRule) (place : ℕ) (rows : List HeaderRow) → carries owns rule ≡ true
    → ((other : CarryRule) → carries owns other ≡ true → same_rule rule other ≡ false → marks_by other place rows ≡ [])
    → taken_lines owns rows ≡ texts_by rule rows
taken_alone owns rule place [] carried none = refl
taken_alone owns rule place (row ∷ rows) carried none =
    let later = taken_alone owns rule (place + 1) rows carried
    (λ other on differ. elim (cases_Bool (same_rule other row.rule)) [
      | inl is ↦ let full = ap length (sym (marks_same other place row rows is) ∙ none other on differ) in absurd (omega (arith, full))
      | inr is ↦ sym (marks_other other place row rows is) ∙ none other on differ
    ]) in
    elim (cases_Bool (same_rule rule row.rule)) [
      | inl is ↦ taken_is owns row rows (ap (carries owns) (sym (rule_equal rule row.rule is)) ∙ carried) ∙ ap (λ ls. row.text ∷ ls) later
          ∙ sym (texts_same rule row rows is)
      | inr is ↦
          let away : carries owns row.rule ≡ false = false_from_ne_true (carries owns row.rule) (λ on.
          let full = ap length (sym (marks_same row.rule place row rows (rule_itself row.rule)) ∙ none row.rule on is) in omega (arith, full)) in
          taken_not owns row rows away ∙ later ∙ sym (texts_other rule row rows is)
    ]

taken_none : (owns : ℕ → Bool) (place : ℕ) (rows : List HeaderRow) → ((other : CarryRule) → carries owns other ≡ true → marks_by other place rows ≡ [])
    → taken_lines owns rows ≡ []
taken_none owns place [] none = refl
taken_none owns place (row ∷ rows) none =
    let later = taken_none owns (place + 1) rows
    (λ other on. elim (cases_Bool (same_rule other row.rule)) [
      | inl is ↦ let full = ap length (sym (marks_same other place row rows is) ∙ none other on) in absurd (omega (arith, full))
      | inr is ↦ sym (marks_other other place row rows is) ∙ none other on
    ]) in
    let away : carries owns row.rule ≡ false = false_from_ne_true (carries owns row.rule) (λ on.
    let full = ap length (sym (marks_same row.rule place row rows (rule_itself row.rule)) ∙ none row.rule on) in omega (arith, full)) in
    taken_not owns row rows away ∙ later

-- what holds of the marks of each of the shares holds of the marks of each rule that the tune carries
by_rule : (P : List Mark → Type 0) (owns : ℕ → Bool) (at : ℕ) (rows : List HeaderRow) (shares : List RuleLines) (rule : CarryRule)
    → AreShares (carries owns) at rows shares → carries owns rule ≡ true → P []
    → ((index : ℕ) (none : RuleLines) → index < length shares → (get_or shares index none).rule ≡ rule → P (marks_at shares index none))
    → P (marks_by rule at rows)
by_rule P owns at rows shares rule are on empty each = elim (are.all rule on) [
  | inl any ↦
      let found = any_index rule shares any in
      let none : RuleLines = record { rule = rule; bytes = []; marks = [] } in
      let of = all_at (AreOf at rows) shares found.0 none are.each found.1 in
      subst P (of.marks ∙ ap (λ r. marks_by r at rows) (found.2 none)) (each found.0 none found.1 (found.2 none))
  | inr gone ↦ subst P (sym gone) empty
]

-- a share of another rule stands elsewhere
other_index : (first second : CarryRule) (shares : List RuleLines) (index other : ℕ) (one two : RuleLines) → other < length shares → other ≡ index
    → (get_or shares index one).rule ≡ first → (get_or shares other two).rule ≡ second → same_rule first second ≡ false → ⊥
other_index first second shares index other one two within same is too differ =
    let equal : first ≡ second = sym is ∙ ap (λ n. (get_or shares n one).rule) (sym same)
    ∙ ap (λ (l : RuleLines). l.rule) (get_or_default shares other one two within) ∙ too in
    true≢false (sym (rule_itself first) ∙ ap (same_rule first) equal ∙ differ)

-- nothing is left
pub none_left : (owns : ℕ → Bool) (shares : List RuleLines) (bytes : List ℕ) (except : ℕ) → AreLeft owns shares bytes → length shares ≤ except
    → IsFirst (length shares) except shares None → bytes ≡ []
none_left owns shares bytes except left past first =
    sym left.whole ∙ ap joined (taken_none owns left.at left.rows (λ rule on.
    by_rule (λ marks. marks ≡ []) owns left.at left.rows shares rule left.are on refl
    (λ index none within is. first index none within (λ same. omega arith))))

-- one share alone is left
pub one_left : (owns : ℕ → Bool) (shares : List RuleLines) (bytes : List ℕ) (index : ℕ) (none : RuleLines) → AreLeft owns shares bytes → index < length shares
    → IsFirst (length shares) index shares None → (get_or shares index none).bytes ≡ bytes
one_left owns shares bytes index none left within first =
    let lines = get_or shares index none in
    let of = all_at (AreOf left.at left.rows) shares index none left.are.each within in
    let carried = rule_at (λ rule. carries owns rule ≡ true) shares index none left.are.tested within in
    of.bytes ∙ ap joined (sym (taken_alone owns lines.rule left.at left.rows carried (λ rule on differ.
    by_rule (λ marks. marks ≡ []) owns left.at left.rows shares rule left.are on refl
    (λ other d inside is. first other d inside (λ same. other_index lines.rule rule shares index other none d inside same refl is differ)))))
    ∙ left.whole

-- one share is written up to the first line of another
pub turn_taken : (owns : ℕ → Bool) (shares : List RuleLines) (bytes : List ℕ) (index limit : ℕ) (none : RuleLines) → AreLeft owns shares bytes
    → index < length shares
    → ((other : ℕ) (d : RuleLines) → other < length shares → (other ≡ index → ⊥) → StartFrom limit (marks_at shares other d))
    → (later : List ℕ) × (take (run_length limit (marks_at shares index none)) (get_or shares index none).bytes ++ later ≡ bytes)
    × AreLeft owns (set shares index (lines_from limit (get_or shares index none))) later
turn_taken owns shares bytes index limit none left within others =
    let at = left.at in
    let rows = left.rows in
    let are = left.are in
    let lines = get_or shares index none in
    let of = all_at (AreOf at rows) shares index none are.each within in
    let carried = rule_at (λ rule. carries owns rule ≡ true) shares index none are.tested within in
    let from : NoOther owns lines.rule limit at rows = λ rule on differ.
    by_rule (StartFrom limit) owns at rows shares rule are on tt
    (λ other d inside is. others other d inside (λ same. other_index lines.rule rule shares index other none d inside same refl is differ)) in
    let to = advance owns lines.rule limit at rows carried from in
    let size : run_length limit lines.marks ≡ run_length limit (marks_by lines.rule at rows) = ap (run_length limit) of.marks in
    let count : run_count limit lines.marks ≡ run_count limit (marks_by lines.rule at rows) = ap (run_count limit) of.marks in
    let rules : rules_of (set shares index (lines_from limit lines)) ≡ rules_of shares = rules_set shares index (lines_from limit lines) none refl within in
    let P : RuleLines → Type 0 = λ l. AreOf at rows l × (carries owns l.rule ≡ true) in
    let T : List CarryRule → Type 0 = λ rs. AllByRecursion (λ rule. carries owns rule ≡ true) rs in (
      joined (taken_lines owns to.later),
      ap (λ t. t ++ joined (taken_lines owns to.later)) (rw (size, of.bytes) refl) ∙ to.bytes ∙ left.whole,
      record {
        at = to.at;
        rows = to.later;
        are = record {
          each = each_set P (AreOf to.at to.later) shares index none (lines_from limit lines)
              (with_rules (AreOf at rows) (λ rule. carries owns rule ≡ true) shares are.each are.tested) are.apart within
              (λ other is differ. record {
                marks = is.0.marks ∙ to.other_marks other.rule is.1 differ;
                bytes = is.0.bytes ∙ ap joined (to.other_texts other.rule is.1 differ);
              })
              (record { marks = rw (count, of.marks) to.own_marks; bytes = rw (size, of.bytes) to.own_bytes });
          tested = subst T (sym rules) are.tested;
          apart = subst AreDistinctRules (sym rules) are.apart;
          all = λ rule on. elim (are.all rule on) [
            | inl any ↦ inl (ap (list_any (same_rule rule)) rules ∙ any)
            | inr gone ↦ elim (cases_Bool (same_rule lines.rule rule)) [
              | inl is ↦ inl (ap (list_any (same_rule rule)) rules ∙ any_at rule shares index none within
                  (subst (λ r. same_rule rule r ≡ true) (sym (rule_equal lines.rule rule is)) (rule_itself rule)))
              | inr is ↦ inr (sym (to.other_marks rule on is) ∙ gone)
            ]
          ];
        };
        whole = refl;
      },
    )

-- TURNS
after_run : (limit : ℕ) (marks : List Mark) → StartFrom limit (drop (run_count limit marks) marks)
after_run limit [] = tt
after_run limit (mark ∷ marks) = elim (cases_lt mark.place limit) [
  | inl below ↦ rw (run_more limit mark marks below).0 (after_run limit marks)
  | inr above ↦ rw (no_run limit (mark ∷ marks) above).0 above
]

-- the next turn comes first, once the turn before it is taken
pub next_first : (shares : List RuleLines) (index : ℕ) (none : RuleLines) (next place : ℕ) → index < length shares
    → IsFirstAt (length shares) index shares next place
    → (let after = set shares index (lines_from place (get_or shares index none)) in IsFirstAt (length after) (length after) after next place)
next_first shares index none next place within first =
    let lines = lines_from place (get_or shares index none) in
    let long : length (set shares index lines) ≡ length shares = length-set shares index lines in
    record {
      within = omega (arith, long, first.within);
      other = λ same. omega (arith, long, first.within, same);
      starts = λ d. subst (λ (l : RuleLines). StartAt place l.marks) (sym (get_or-set_other shares index next lines d first.other)) (first.starts d);
      others = λ other d inside differ. elim (cases_eq other index) [
        | inl same ↦ subst (λ (l : RuleLines). StartFrom place l.marks) (sym (get_or-set_at shares index other lines d same within))
            (after_run place (get_or shares index none).marks)
        | inr away ↦ subst (λ (l : RuleLines). StartFrom place l.marks) (sym (get_or-set_other shares index other lines d away))
            (first.others other d (omega (arith, long, inside)) away)
      ];
    }

-- two of the shares have different rules
apart_at : (shares : List RuleLines) (first second : ℕ) (one two : RuleLines) → AreDistinctRules (rules_of shares) → first < length shares
    → second < length shares
    → (first ≡ second → ⊥) → same_rule (get_or shares first one).rule (get_or shares second two).rule ≡ false
apart_at [] first second one two apart within inside differ = absurd (omega arith)
apart_at (lines ∷ shares) zero zero one two apart within inside differ = absurd (differ refl)
apart_at (lines ∷ shares) zero (suc second) one two apart within inside differ =
    rule_at (λ other. same_rule lines.rule other ≡ false) shares second two apart.0 (omega arith)
apart_at (lines ∷ shares) (suc first) zero one two apart within inside differ =
    rule_back lines.rule (get_or shares first one).rule (rule_at (λ other. same_rule lines.rule other ≡ false) shares first one apart.0 (omega arith))
apart_at (lines ∷ shares) (suc first) (suc second) one two apart within inside differ =
    apart_at shares first second one two apart.1 (omega arith) (omega arith) (λ same. differ (ap suc same))

-- the next turn stands at a later place
pub next_later : (owns : ℕ → Bool) (shares : List RuleLines) (bytes : List ℕ) (index next place later : ℕ) → AreLeft owns shares bytes
    → index < length shares → IsFirstAt (length shares) (length shares) shares index place → IsFirstAt (length shares) index shares next later → place < later
next_later owns shares bytes index next place later left within first second =
    let none : RuleLines = record { rule = Never; bytes = []; marks = [] } in
    let one = get_or shares index none in
    let two = get_or shares next none in
    let of = all_at (AreOf left.at left.rows) shares index none left.are.each within in
    let other = all_at (AreOf left.at left.rows) shares next none left.are.each second.within in
    let low : StartFrom place two.marks = first.others next none second.within (λ same. omega (arith, second.within, same)) in
    let differ : same_rule one.rule two.rule ≡ false =
    apart_at shares index next none none left.are.apart within second.within (λ same. second.other (sym same)) in
    elim (cases_order place later) [
      | inl same ↦ absurd (starts_apart one.rule two.rule place left.at left.rows differ (subst (StartAt place) of.marks (first.starts none))
          (subst (StartAt place) other.marks (subst (λ p. StartAt p two.marks) (sym same) (second.starts none))))
      | inr either ↦ elim either [
        | inl less ↦ less
        | inr more ↦ absurd (later_marks two.marks later place low (second.starts none) more)
      ]
    ]

-- what is written of a share is a part of it
pub run_fits : (owns : ℕ → Bool) (shares : List RuleLines) (bytes : List ℕ) (index limit : ℕ) (none : RuleLines) → AreLeft owns shares bytes
    → index < length shares → run_length limit (marks_at shares index none) ≤ length (get_or shares index none).bytes
run_fits owns shares bytes index limit none left within =
    let of = all_at (AreOf left.at left.rows) shares index none left.are.each within in
    rw (of.marks, of.bytes) (run_within (get_or shares index none).rule limit left.at left.rows)

-- at first all lines are left
pub all_left : (owns : ℕ → Bool) (rows : List HeaderRow) (shares : List RuleLines) → AreShares (carries owns) 0 rows shares
    → AreLeft owns shares (joined (taken_lines owns rows))
all_left owns rows shares are = record { at = 0; rows = rows; are = are; whole = refl }

-- the same of the same shares
pub first_of : (shares seen : List RuleLines) (except left_out : ℕ) (found : Option Turn) → seen ≡ shares → left_out ≡ except
    → IsFirst (length seen) left_out seen found → IsFirst (length shares) except shares found
first_of shares seen except left_out found same out first =
    subst (λ n. IsFirst (length shares) n shares found) out (subst (λ ss. IsFirst (length ss) left_out ss found) same first)
