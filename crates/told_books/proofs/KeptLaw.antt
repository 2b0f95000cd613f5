-- The lines told of each tune are that tune.
use Rattle.std.proofs.Common.{◌≡◌, ℕ, zero, suc, ◌+◌, ◌<◌, ◌≤◌, Bool, true, false, eqb, List, [], ◌∷◌, length, refl, ap, sym, ◌∙◌, arith}
use Rattle.std.proofs.Common.{Some, None}
use Rattle.std.specs.Prelude.{slice_get}
use Rattle.std.proofs.lemmas.Bool.{cond_both, ne_eqb, eq-eqb}
use Rattle.abc_fields.specs.Tunes.{is_empty_line, is_tune_start, tune_run, tune_runs}
use Rattle.std.specs.List.{list_all}
use Rattle.abc_fields.specs.FileHeaders.{first_block, is_header_line}
use Rattle.abc_fields.specs.declared.carry_rules.CarryRule.{CarryRule}
use Rattle.told_books.specs.Fates.{fates_of, fates_from, fate_at, stand_after, tunes_begun, after_empty, after_other, other_fate, header_fate}
use Rattle.told_books.specs.Fates.{is_kept_of, lines_told}
use Rattle.told_books.specs.Fates.{with_version, first_stand, some_carries, is_version, engraves}
use Rattle.told_books.specs.FateLines.{IsWholeTune, TellsTunes}
use Rattle.told_books.specs.declared.fates.Fate.{Fate}
use Rattle.told_books.specs.declared.fates.Fate.TheVariants.{Carried, Version, Dropped}
use Rattle.told_books.specs.declared.fates.Stand.{Stand}
use Rattle.told_books.specs.declared.fates.Stand.TheVariants.{Front, Header, Tune, Outside}
use Rattle.told_books.proofs.FateLemmas.{at_empty, at_other}
use Rattle.told_books.proofs.LineSteps.{kind_of, empty, starts, other, fate_empty, fate_start, fate_other, stand_empty, stand_start, stand_other, version_fate}

-- ONE LINE MORE
-- the lines told, of which the first passes the test or does not
pub told_yes : (test : Fate → Bool) (fate : Fate) (fates : List Fate) (line : List ℕ) (lines : List (List ℕ)) → test fate ≡ true
    → lines_told test (fate ∷ fates) (line ∷ lines) ≡ line ∷ lines_told test fates lines
told_yes test fate fates line lines is = rw is refl

pub told_no : (test : Fate → Bool) (fate : Fate) (fates : List Fate) (line : List ℕ) (lines : List (List ℕ)) → test fate ≡ false
    → lines_told test (fate ∷ fates) (line ∷ lines) ≡ lines_told test fates lines
told_no test fate fates line lines isnt = rw isnt refl

-- whether a line that stands there is in this tune
abbrev in_tune : Stand → ℕ → Bool
in_tune Front n = false
in_tune (Header above) n = false
in_tune (Tune number) n = eqb number n
in_tune (Outside tunes) n = false

header_kept : (carry : CarryRule → Bool) (rule : CarryRule) (line : List ℕ) (n : ℕ) → is_kept_of n (header_fate carry rule line) ≡ false
header_kept carry rule line n = cond_both (carry rule) Carried (Dropped (engraves line)) (λ fate. is_kept_of n fate ≡ false) (λ is. refl) (λ isnt. refl)

other_kept : (carry : CarryRule → Bool) (stand : Stand) (line : List ℕ) (n : ℕ) → is_kept_of n (other_fate carry stand line) ≡ in_tune stand n
other_kept carry Front line n = header_kept carry _ line n
other_kept carry (Header above) line n = header_kept carry _ line n
other_kept carry (Tune number) line n = refl
other_kept carry (Outside tunes) line n = refl

left_empty : (stand : Stand) (n : ℕ) → in_tune (after_empty stand) n ≡ false
left_empty Front n = refl
left_empty (Header above) n = refl
left_empty (Tune number) n = refl
left_empty (Outside tunes) n = refl

left_other : (stand : Stand) (line : List ℕ) (n : ℕ) → in_tune (after_other stand line) n ≡ in_tune stand n
left_other Front line n = refl
left_other (Header above) line n = refl
left_other (Tune number) line n = refl
left_other (Outside tunes) line n = refl

-- the lines told of a tune, from a line on that stands there
abbrev kept : (CarryRule → Bool) → ℕ → Stand → List (List ℕ) → List (List ℕ)
kept carry n stand lines = lines_told (is_kept_of n) (fates_from carry stand lines) lines

kept_empty : (carry : CarryRule → Bool) (n : ℕ) (stand : Stand) (line : List ℕ) (lines : List (List ℕ)) → is_empty_line line ≡ true
    → kept carry n stand (line ∷ lines) ≡ kept carry n (after_empty stand) lines
kept_empty carry n stand line lines is =
    told_no (is_kept_of n) (fate_at carry stand line) (fates_from carry (stand_after stand line) lines) line lines
    (ap (is_kept_of n) (fate_empty carry stand line is))
    ∙ ap (λ s. kept carry n s lines) (stand_empty stand line is)

kept_next : (carry : CarryRule → Bool) (n : ℕ) (stand : Stand) (line : List ℕ) (lines : List (List ℕ)) → is_empty_line line ≡ false → is_tune_start line ≡ true
    → eqb (tunes_begun stand + 1) n ≡ false → kept carry n stand (line ∷ lines) ≡ kept carry n (Tune (tunes_begun stand + 1)) lines
kept_next carry n stand line lines some is differs =
    told_no (is_kept_of n) (fate_at carry stand line) (fates_from carry (stand_after stand line) lines) line lines
    (ap (is_kept_of n) (fate_start carry stand line some is) ∙ differs)
    ∙ ap (λ s. kept carry n s lines) (stand_start stand line some is)

kept_this : (carry : CarryRule → Bool) (n : ℕ) (stand : Stand) (line : List ℕ) (lines : List (List ℕ)) → is_empty_line line ≡ false → is_tune_start line ≡ true
    → eqb (tunes_begun stand + 1) n ≡ true → kept carry n stand (line ∷ lines) ≡ line ∷ kept carry n (Tune (tunes_begun stand + 1)) lines
kept_this carry n stand line lines some is same =
    told_yes (is_kept_of n) (fate_at carry stand line) (fates_from carry (stand_after stand line) lines) line lines
    (ap (is_kept_of n) (fate_start carry stand line some is) ∙ same)
    ∙ ap (λ s. line ∷ kept carry n s lines) (stand_start stand line some is)

kept_out : (carry : CarryRule → Bool) (n : ℕ) (stand : Stand) (line : List ℕ) (lines : List (List ℕ)) → is_empty_line line ≡ false → is_tune_start line ≡ false
    → in_tune stand n ≡ false → kept carry n stand (line ∷ lines) ≡ kept carry n (after_other stand line) lines
kept_out carry n stand line lines some isnt out =
    told_no (is_kept_of n) (fate_at carry stand line) (fates_from carry (stand_after stand line) lines) line lines
    (ap (is_kept_of n) (fate_other carry stand line some isnt) ∙ other_kept carry stand line n ∙ out)
    ∙ ap (λ s. kept carry n s lines) (stand_other stand line some isnt)

kept_within : (carry : CarryRule → Bool) (n : ℕ) (line : List ℕ) (lines : List (List ℕ)) → is_empty_line line ≡ false → is_tune_start line ≡ false
    → kept carry n (Tune n) (line ∷ lines) ≡ line ∷ kept carry n (Tune n) lines
kept_within carry n line lines some isnt =
    told_yes (is_kept_of n) (fate_at carry (Tune n) line) (fates_from carry (stand_after (Tune n) line) lines) line lines
    (ap (is_kept_of n) (fate_other carry (Tune n) line some isnt) ∙ eq-eqb n n refl)
    ∙ ap (λ s. line ∷ kept carry n s lines) (stand_other (Tune n) line some isnt)

-- WHOLE TUNES
-- an earlier tune has ended
kept_passed : (carry : CarryRule → Bool) (n : ℕ) (stand : Stand) (lines : List (List ℕ)) → n ≤ tunes_begun stand → in_tune stand n ≡ false
    → kept carry n stand lines ≡ []
kept_passed carry n stand [] before out = refl
kept_passed carry n stand (line ∷ lines) before out = elim (kind_of line) [
  | empty is isnt ↦ kept_empty carry n stand line lines is
      ∙ kept_passed carry n (after_empty stand) lines (omega (arith, at_empty stand)) (left_empty stand n)
  | starts some is ↦
      let differs : eqb (tunes_begun stand + 1) n ≡ false = ne_eqb (tunes_begun stand + 1) n (λ e. omega arith) in
      kept_next carry n stand line lines some is differs ∙ kept_passed carry n (Tune (tunes_begun stand + 1)) lines (omega arith) differs
  | other some isnt ↦ kept_out carry n stand line lines some isnt out
      ∙ kept_passed carry n (after_other stand line) lines (omega (arith, at_other stand line)) (left_other stand line n ∙ out)
]

run_empty : (line : List ℕ) (lines : List (List ℕ)) → is_empty_line line ≡ true → tune_run (line ∷ lines) ≡ []
run_empty line lines is = rw is refl

run_start : (line : List ℕ) (lines : List (List ℕ)) → is_empty_line line ≡ false → is_tune_start line ≡ true → tune_run (line ∷ lines) ≡ []
run_start line lines some is = rw (some, is) refl

run_other : (line : List ℕ) (lines : List (List ℕ)) → is_empty_line line ≡ false → is_tune_start line ≡ false → tune_run (line ∷ lines) ≡ line ∷ tune_run lines
run_other line lines some isnt = rw (some, isnt) refl

-- the rest of the tune in which a line stands
kept_open : (carry : CarryRule → Bool) (n : ℕ) (lines : List (List ℕ)) → kept carry n (Tune n) lines ≡ tune_run lines
kept_open carry n [] = refl
kept_open carry n (line ∷ lines) = elim (kind_of line) [
  | empty is isnt ↦ kept_empty carry n (Tune n) line lines is ∙ kept_passed carry n (Outside n) lines (omega arith) refl ∙ sym (run_empty line lines is)
  | starts some is ↦
      let differs : eqb (n + 1) n ≡ false = ne_eqb (n + 1) n (λ e. omega arith) in
      kept_next carry n (Tune n) line lines some is differs ∙ kept_passed carry n (Tune (n + 1)) lines (omega arith) differs
      ∙ sym (run_start line lines some is)
  | other some isnt ↦ kept_within carry n line lines some isnt ∙ ap (λ ls. line ∷ ls) (kept_open carry n lines) ∙ sym (run_other line lines some isnt)
]

runs_start : (line : List ℕ) (lines : List (List ℕ)) → is_tune_start line ≡ true → tune_runs (line ∷ lines) ≡ tune_run lines ∷ tune_runs lines
runs_start line lines is = rw is refl

runs_other : (line : List ℕ) (lines : List (List ℕ)) → is_tune_start line ≡ false → tune_runs (line ∷ lines) ≡ tune_runs lines
runs_other line lines isnt = rw isnt refl

some_same : {A : Type 0} (x y : A) → Some x ≡ Some y → x ≡ y
some_same x y e = cc

whole_moved : (told moved run : List (List ℕ)) → told ≡ moved → IsWholeTune moved run → IsWholeTune told run
whole_moved told moved run e is = record { start = is.start; starts = is.starts; whole = is.whole ∙ sym e }

-- the tune that a line starts
first_tune : (carry : CarryRule → Bool) (n : ℕ) (stand : Stand) (line : List ℕ) (lines run : List (List ℕ)) → is_empty_line line ≡ false
    → is_tune_start line ≡ true
    → n ≡ tunes_begun stand + 1 → tune_run lines ≡ run → IsWholeTune (kept carry n stand (line ∷ lines)) run
first_tune carry n stand line lines run some is number same =
    let this = kept_this carry n stand line lines some is (eq-eqb (tunes_begun stand + 1) n (sym number)) in
    let whole : kept carry n stand (line ∷ lines) ≡ line ∷ run =
    this ∙ ap (λ m. line ∷ kept carry n (Tune m) lines) (sym number) ∙ ap (λ ls. line ∷ ls) (kept_open carry n lines ∙ same) in
    record { start = line; starts = is; whole = sym whole }

-- the tune after so many others
tune_told : (carry : CarryRule → Bool) (n k : ℕ) (stand : Stand) (lines run : List (List ℕ)) → n ≡ tunes_begun stand + k + 1
    → in_tune stand n ≡ false → slice_get (tune_runs lines) k ≡ Some run → IsWholeTune (kept carry n stand lines) run
tune_told carry n k stand [] run number out found = absurd (let h : None ≡ Some run = found in cc)
tune_told carry n zero stand (line ∷ lines) run number out found = elim (kind_of line) [
  | empty is isnt ↦ whole_moved _ _ run (kept_empty carry n stand line lines is)
      (tune_told carry n zero (after_empty stand) lines run (omega (arith, at_empty stand)) (left_empty stand n)
      (ap (λ rs. slice_get rs 0) (sym (runs_other line lines isnt)) ∙ found))
  | starts some is ↦ first_tune carry n stand line lines run some is (omega arith)
      (some_same (tune_run lines) run (ap (λ rs. slice_get rs 0) (sym (runs_start line lines is)) ∙ found))
  | other some isnt ↦ whole_moved _ _ run (kept_out carry n stand line lines some isnt out)
      (tune_told carry n zero (after_other stand line) lines run (omega (arith, at_other stand line)) (left_other stand line n ∙ out)
      (ap (λ rs. slice_get rs 0) (sym (runs_other line lines isnt)) ∙ found))
]
tune_told carry n (suc k) stand (line ∷ lines) run number out found = elim (kind_of line) [
  | empty is isnt ↦ whole_moved _ _ run (kept_empty carry n stand line lines is)
      (tune_told carry n (suc k) (after_empty stand) lines run (omega (arith, at_empty stand)) (left_empty stand n)
      (ap (λ rs. slice_get rs (suc k)) (sym (runs_other line lines isnt)) ∙ found))
  | starts some is ↦
      let differs : eqb (tunes_begun stand + 1) n ≡ false = ne_eqb (tunes_begun stand + 1) n (λ e. omega arith) in
      whole_moved _ _ run (kept_next carry n stand line lines some is differs)
      (tune_told carry n k (Tune (tunes_begun stand + 1)) lines run (omega arith) differs
      (ap (λ rs. slice_get rs (suc k)) (sym (runs_start line lines is)) ∙ found))
  | other some isnt ↦ whole_moved _ _ run (kept_out carry n stand line lines some isnt out)
      (tune_told carry n (suc k) (after_other stand line) lines run (omega (arith, at_other stand line)) (left_other stand line n ∙ out)
      (ap (λ rs. slice_get rs (suc k)) (sym (runs_other line lines isnt)) ∙ found))
]

-- there is no such tune
kept_none : (carry : CarryRule → Bool) (n : ℕ) (stand : Stand) (lines : List (List ℕ)) → tunes_begun stand + length (tune_runs lines) < n
    → in_tune stand n ≡ false → kept carry n stand lines ≡ []
kept_none carry n stand [] past out = refl
kept_none carry n stand (line ∷ lines) past out = elim (kind_of line) [
  | empty is isnt ↦ kept_empty carry n stand line lines is
      ∙ kept_none carry n (after_empty stand) lines (omega (arith, at_empty stand, ap length (runs_other line lines isnt))) (left_empty stand n)
  | starts some is ↦
      let differs : eqb (tunes_begun stand + 1) n ≡ false = ne_eqb (tunes_begun stand + 1) n (λ e. omega (arith, ap length (runs_start line lines is))) in
      kept_next carry n stand line lines some is differs
      ∙ kept_none carry n (Tune (tunes_begun stand + 1)) lines (omega (arith, ap length (runs_start line lines is))) differs
  | other some isnt ↦ kept_out carry n stand line lines some isnt out
      ∙ kept_none carry n (after_other stand line) lines (omega (arith, at_other stand line, ap length (runs_other line lines isnt)))
      (left_other stand line n ∙ out)
]

-- THE WHOLE BOOK
-- the version changes nothing of what is told of other fates
version_told : (test : Fate → Bool) (carry : CarryRule → Bool) (stand : Stand) (lines : List (List ℕ)) → test Version ≡ false
    → ((directive : Bool) → test (Dropped directive) ≡ false)
    → ((line : List ℕ) → is_version line ≡ true → fate_at carry stand line ≡ Dropped (engraves line))
    → lines_told test (with_version lines (fates_from carry stand lines)) lines ≡ lines_told test (fates_from carry stand lines) lines
version_told test carry stand [] version dropped first = refl
version_told test carry stand (line ∷ lines) version dropped first =
    let later = fates_from carry (stand_after stand line) lines in
    cond_both (is_version line) Version (fate_at carry stand line)
    (λ fate. lines_told test (fate ∷ later) (line ∷ lines) ≡ lines_told test (fate_at carry stand line ∷ later) (line ∷ lines))
    (λ is. told_no test Version later line lines version
    ∙ sym (told_no test (fate_at carry stand line) later line lines (ap test (first line is) ∙ dropped (engraves line))))
    (λ isnt. refl)

pub told_of : (test : Fate → Bool) (lines : List (List ℕ)) → test Version ≡ false → ((directive : Bool) → test (Dropped directive) ≡ false)
    → lines_told test (fates_of lines) lines ≡ lines_told test (fates_from (some_carries (tune_runs lines)) (first_stand lines) lines) lines
told_of test lines version dropped =
    let runs = tune_runs lines in
    version_told test (some_carries runs) (first_stand lines) lines version dropped
    (λ line is. cond_both (list_all is_header_line (first_block lines)) Front (Outside 0)
    (λ stand. fate_at (some_carries runs) stand line ≡ Dropped (engraves line))
    (λ all. (version_fate runs line is).0) (λ not_all. (version_fate runs line is).1))

first_tunes : (lines : List (List ℕ)) → tunes_begun (first_stand lines) ≡ 0
first_tunes lines = cond_both (list_all is_header_line (first_block lines)) Front (Outside 0) (λ stand. tunes_begun stand ≡ 0) (λ all. refl) (λ not_all. refl)

first_out : (lines : List (List ℕ)) (n : ℕ) → in_tune (first_stand lines) n ≡ false
first_out lines n =
    cond_both (list_all is_header_line (first_block lines)) Front (Outside 0) (λ stand. in_tune stand n ≡ false) (λ all. refl) (λ not_all. refl)

kept_of : (lines : List (List ℕ)) (n : ℕ)
    → lines_told (is_kept_of n) (fates_of lines) lines ≡ kept (some_carries (tune_runs lines)) n (first_stand lines) lines
kept_of lines n = told_of (is_kept_of n) lines refl (λ directive. refl)

-- the lines told of each tune are that tune, and no line is told of another
pub tunes_told : (lines : List (List ℕ)) → TellsTunes (fates_of lines) lines
tunes_told lines =
    let carry = some_carries (tune_runs lines) in
    record {
      each = λ n run found. whole_moved _ _ run (kept_of lines (n + 1))
          (tune_told carry (n + 1) n (first_stand lines) lines run (omega (arith, first_tunes lines)) (first_out lines (n + 1)) found);
      none_before = kept_of lines 0 ∙ kept_passed carry 0 (first_stand lines) lines (omega arith) (first_out lines 0);
      none_after = λ n past. kept_of lines n ∙ kept_none carry n (first_stand lines) lines (omega (arith, first_tunes lines)) (first_out lines n);
    }

-- ONE FATE FOR EACH LINE
from_length : (carry : CarryRule → Bool) (stand : Stand) (lines : List (List ℕ)) → length (fates_from carry stand lines) ≡ length lines
from_length carry stand [] = refl
from_length carry stand (line ∷ lines) = ap suc (from_length carry (stand_after stand line) lines)

version_length : (lines : List (List ℕ)) (fates : List Fate) → length (with_version lines fates) ≡ length fates
version_length [] fates = refl
version_length (line ∷ lines) [] = refl
version_length (line ∷ lines) (fate ∷ fates) = refl

pub fates_length : (lines : List (List ℕ)) → length (fates_of lines) ≡ length lines
fates_length lines =
    version_length lines (fates_from (some_carries (tune_runs lines)) (first_stand lines) lines)
    ∙ from_length (some_carries (tune_runs lines)) (first_stand lines) lines
