-- The lines told as carried are those of the file header that some tune carries.
use Rattle.std.proofs.Common.{◌≡◌, ℕ, ◌+◌, ◌<◌, Bool, true, false, cond, not, ◌||◌, ◌&&◌, List, [], ◌∷◌, length, refl, ap, sym, ◌∙◌, arith}
use Rattle.std.specs.List.{list_all}
use Rattle.std.proofs.lemmas.Bool.{and_parts, not-true, true≢false}
use Rattle.abc_fields.specs.Tunes.{is_empty_line, is_tune_start, tune_runs}
use Rattle.abc_fields.specs.Fields.{header_of}
use Rattle.abc_fields.specs.FileHeaders.{block_of, first_block, file_header, is_header_line, rule_of, rule_below, carries, carried, has_letter}
use Rattle.abc_fields.specs.declared.carry_rules.CarryRule.{CarryRule}
use Rattle.abc_fields.specs.declared.carry_rules.CarryRule.TheVariants.{Never, Always, Unless}
use Rattle.told_books.specs.Fates.{fates_of, fates_from, fate_at, stand_after, header_fate, is_carried, lines_told}
use Rattle.told_books.specs.Fates.{some_carries, engraves}
use Rattle.told_books.specs.FateLines.{each_has, TellsCarriedLines}
use Rattle.told_books.specs.declared.fates.Fate.TheVariants.{Carried, Dropped}
use Rattle.told_books.specs.declared.fates.Stand.{Stand}
use Rattle.told_books.specs.declared.fates.Stand.TheVariants.{Front, Header, Tune, Outside}
use Rattle.told_books.proofs.FateLemmas.{never_carried}
use Rattle.told_books.proofs.LineSteps.{kind_of, empty, starts, other, fate_empty, fate_start, fate_other, stand_empty, stand_start, stand_other}
use Rattle.told_books.proofs.KeptLaw.{told_no, told_of}

-- the lines of a header whose rule passes a test
abbrev carried_by : (CarryRule → Bool) → CarryRule → List (List ℕ) → List (List ℕ)
carried_by carry above [] = []
carried_by carry above (line ∷ lines) =
    cond (carry (rule_of above line)) (line ∷ carried_by carry (rule_below above line) lines) (carried_by carry (rule_below above line) lines)

-- the lines told as carried, from a line on that stands there
abbrev told : (CarryRule → Bool) → Stand → List (List ℕ) → List (List ℕ)
told carry stand lines = lines_told is_carried (fates_from carry stand lines) lines

told_one : (carry : CarryRule → Bool) (stand next : Stand) (line : List ℕ) (lines : List (List ℕ)) → is_carried (fate_at carry stand line) ≡ false
    → stand_after stand line ≡ next → told carry stand (line ∷ lines) ≡ told carry next lines
told_one carry stand next line lines isnt moves =
    told_no is_carried (fate_at carry stand line) (fates_from carry (stand_after stand line) lines) line lines isnt ∙ ap (λ s. told carry s lines) moves

-- AFTER THE FILE HEADER
-- no line behind is of a file header
told_outside : (carry : CarryRule → Bool) (tunes : ℕ) (lines : List (List ℕ)) → (told carry (Outside tunes) lines ≡ []) × (told carry (Tune tunes) lines ≡ [])
told_outside carry tunes [] = (refl, refl)
told_outside carry tunes (line ∷ lines) = elim (kind_of line) [
  | empty is isnt ↦ (
    told_one carry (Outside tunes) (Outside tunes) line lines (ap is_carried (fate_empty carry (Outside tunes) line is)) (stand_empty (Outside tunes) line is)
        ∙ (told_outside carry tunes lines).0,
    told_one carry (Tune tunes) (Outside tunes) line lines (ap is_carried (fate_empty carry (Tune tunes) line is)) (stand_empty (Tune tunes) line is)
        ∙ (told_outside carry tunes lines).0,
  )
  | starts some is ↦ (
    told_one carry (Outside tunes) (Tune (tunes + 1)) line lines (ap is_carried (fate_start carry (Outside tunes) line some is))
        (stand_start (Outside tunes) line some is)
        ∙ (told_outside carry (tunes + 1) lines).1,
    told_one carry (Tune tunes) (Tune (tunes + 1)) line lines (ap is_carried (fate_start carry (Tune tunes) line some is))
        (stand_start (Tune tunes) line some is)
        ∙ (told_outside carry (tunes + 1) lines).1,
  )
  | other some isnt ↦ (
    told_one carry (Outside tunes) (Outside tunes) line lines (ap is_carried (fate_other carry (Outside tunes) line some isnt))
        (stand_other (Outside tunes) line some isnt)
        ∙ (told_outside carry tunes lines).0,
    told_one carry (Tune tunes) (Tune tunes) line lines (ap is_carried (fate_other carry (Tune tunes) line some isnt)) (stand_other (Tune tunes) line some isnt)
        ∙ (told_outside carry tunes lines).1,
  )
]

-- WITHIN IT
carried_if : (is : Bool) (line : List ℕ) → is_carried (cond is Carried (Dropped (engraves line))) ≡ is
carried_if true line = refl
carried_if false line = refl

-- one line of a file header, before the later ones
header_step : (carry : CarryRule → Bool) (stand : Stand) (rule below : CarryRule) (line : List ℕ) (lines : List (List ℕ))
    → fate_at carry stand line ≡ header_fate carry rule line → stand_after stand line ≡ Header below
    → told carry stand (line ∷ lines) ≡ cond (carry rule) (line ∷ told carry (Header below) lines) (told carry (Header below) lines)
header_step carry stand rule below line lines fate moves =
    let whole : told carry stand (line ∷ lines) ≡ cond (is_carried (fate_at carry stand line))
    (line ∷ told carry (stand_after stand line) lines) (told carry (stand_after stand line) lines) = refl in
    whole ∙ ap (λ is. cond is (line ∷ told carry (stand_after stand line) lines) (told carry (stand_after stand line) lines))
    (ap is_carried fate ∙ carried_if (carry rule) line)
    ∙ ap (λ s. cond (carry rule) (line ∷ told carry s lines) (told carry s lines)) moves

-- a line of a block
block_line : (line : List ℕ) (lines : List (List ℕ)) → is_empty_line line ≡ false → block_of (line ∷ lines) ≡ line ∷ block_of lines
block_line line lines some = rw some refl

block_end : (line : List ℕ) (lines : List (List ℕ)) → is_empty_line line ≡ true → block_of (line ∷ lines) ≡ []
block_end line lines is = rw is refl

first_line : (line : List ℕ) (lines : List (List ℕ)) → is_empty_line line ≡ false → first_block (line ∷ lines) ≡ line ∷ block_of lines
first_line line lines some = rw some refl

first_empty : (line : List ℕ) (lines : List (List ℕ)) → is_empty_line line ≡ true → first_block (line ∷ lines) ≡ first_block lines
first_empty line lines is = rw is refl

-- no line of a file header starts a tune
no_start : (line : List ℕ) (block : List (List ℕ)) → list_all is_header_line (line ∷ block) ≡ true → is_tune_start line ≡ true → ⊥
no_start line block all is =
    let header = (and_parts (is_header_line line) (list_all is_header_line block) all).0 in
    let other = not-true (is_tune_start line) (and_parts (not (is_tune_start line)) _ header).0 in
    true≢false (sym is ∙ other)

told_header : (carry : CarryRule → Bool) (above : CarryRule) (lines : List (List ℕ)) → list_all is_header_line (block_of lines) ≡ true
    → told carry (Header above) lines ≡ carried_by carry above (block_of lines)
told_header carry above [] all = refl
told_header carry above (line ∷ lines) all = elim (kind_of line) [
  | empty is isnt ↦
      told_one carry (Header above) (Outside 0) line lines (ap is_carried (fate_empty carry (Header above) line is)) (stand_empty (Header above) line is)
      ∙ (told_outside carry 0 lines).0 ∙ ap (carried_by carry above) (sym (block_end line lines is))
  | starts some is ↦ absurd (no_start line (block_of lines) (ap (list_all is_header_line) (sym (block_line line lines some)) ∙ all) is)
  | other some isnt ↦
      let rest = (and_parts (is_header_line line) (list_all is_header_line (block_of lines))
      (ap (list_all is_header_line) (sym (block_line line lines some)) ∙ all)).1 in
      let rule = rule_of above line in
      header_step carry (Header above) rule (rule_below above line) line lines (fate_other carry (Header above) line some isnt)
      (stand_other (Header above) line some isnt)
      ∙ ap (λ later. cond (carry rule) (line ∷ later) later) (told_header carry (rule_below above line) lines rest)
      ∙ ap (carried_by carry above) (sym (block_line line lines some))
]

told_front : (carry : CarryRule → Bool) (lines : List (List ℕ)) → list_all is_header_line (first_block lines) ≡ true
    → told carry Front lines ≡ carried_by carry Never (first_block lines)
told_front carry [] all = refl
told_front carry (line ∷ lines) all = elim (kind_of line) [
  | empty is isnt ↦
      told_one carry Front Front line lines (ap is_carried (fate_empty carry Front line is)) (stand_empty Front line is)
      ∙ told_front carry lines (ap (list_all is_header_line) (sym (first_empty line lines is)) ∙ all)
      ∙ ap (carried_by carry Never) (sym (first_empty line lines is))
  | starts some is ↦ absurd (no_start line (block_of lines) (ap (list_all is_header_line) (sym (first_line line lines some)) ∙ all) is)
  | other some isnt ↦
      let rest = (and_parts (is_header_line line) (list_all is_header_line (block_of lines))
      (ap (list_all is_header_line) (sym (first_line line lines some)) ∙ all)).1 in
      let rule = rule_of Never line in
      header_step carry Front rule (rule_below Never line) line lines (fate_other carry Front line some isnt) (stand_other Front line some isnt)
      ∙ ap (λ later. cond (carry rule) (line ∷ later) later) (told_header carry (rule_below Never line) lines rest)
      ∙ ap (carried_by carry Never) (sym (first_line line lines some))
]

told_if : (carry : CarryRule → Bool) (lines : List (List ℕ)) (all : Bool) → list_all is_header_line (first_block lines) ≡ all
    → told carry (cond all Front (Outside 0)) lines ≡ carried_by carry Never (cond all (first_block lines) [])
told_if carry lines true is = told_front carry lines is
told_if carry lines false isnt = (told_outside carry 0 lines).0

-- the lines told as carried
told_all : (lines : List (List ℕ)) → lines_told is_carried (fates_of lines) lines ≡ carried_by (some_carries (tune_runs lines)) Never (file_header lines)
told_all lines =
    told_of is_carried lines refl (λ directive. refl)
    ∙ told_if (some_carries (tune_runs lines)) lines (list_all is_header_line (first_block lines)) refl

-- SOME TUNE
-- a tune without a letter, or each tune with it
some_lacks : (runs : List (List (List ℕ))) (letter : ℕ) → some_carries runs (Unless letter) ≡ not (each_has runs letter)
some_lacks [] letter = refl
some_lacks (run ∷ runs) letter =
    ap (λ is. not (has_letter (header_of run) letter) || is) (some_lacks runs letter) ∙ not_both (has_letter (header_of run) letter) (each_has runs letter)
  where
    not_both : (a b : Bool) → (not a || not b) ≡ not (a && b)
    not_both true b = refl
    not_both false b = refl

same_rule : (runs : List (List (List ℕ))) (rule : CarryRule) → 0 < length runs → some_carries runs rule ≡ carries (each_has runs) rule
same_rule runs Never some = never_carried runs
same_rule [] Always some = absurd (omega arith)
same_rule (run ∷ runs) Always some = refl
same_rule runs (Unless letter) some = some_lacks runs letter

by_some : (runs : List (List (List ℕ))) (above : CarryRule) (header : List (List ℕ)) → 0 < length runs
    → carried_by (some_carries runs) above header ≡ carried (each_has runs) above header
by_some runs above [] some = refl
by_some runs above (line ∷ header) some =
    let rule = rule_of above line in
    ap (λ later. cond (some_carries runs rule) (line ∷ later) later) (by_some runs (rule_below above line) header some)
    ∙ ap (λ is. cond is (line ∷ carried (each_has runs) (rule_below above line) header) (carried (each_has runs) (rule_below above line) header))
    (same_rule runs rule some)

by_none : (above : CarryRule) (header : List (List ℕ)) → carried_by (some_carries []) above header ≡ []
by_none above [] = refl
by_none above (line ∷ header) = by_none (rule_below above line) header

-- the lines told as carried are those of the file header that some tune carries
pub carried_told : (lines : List (List ℕ)) → TellsCarriedLines (fates_of lines) lines
carried_told lines = record {
  some = λ some. told_all lines ∙ by_some (tune_runs lines) Never (file_header lines) some;
  none = λ none. told_all lines ∙ ap (λ runs. carried_by (some_carries runs) Never (file_header lines)) none ∙ by_none Never (file_header lines);
}
