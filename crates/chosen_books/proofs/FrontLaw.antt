-- What a tune carries of lines between tunes, and why it is refused with them.
use Rattle.std.proofs.Common.{◌≡◌, ℕ, ◌+◌, ◌<◌, ◌≤◌, Bool, true, false, cond, not, ltb, List, [], ◌∷◌, ◌++◌, length, drop}
use Rattle.std.proofs.Common.{Some, None, refl, ap, sym, ◌∙◌, subst, arith, inl, inr, append_assoc, append-nil}
use Rattle.std.specs.Prelude.{codes}
use Rattle.std.specs.List.{AllByRecursion, starts_with}
use Rattle.std.specs.Prelude.{nat_eq}
use Rattle.std.proofs.lemmas.Bool.{cases_Bool, lt-ltb, ltb-false, ltb-true}
use Rattle.std.proofs.lemmas.Bool.Decides.{Decides-eqb}
use Rattle.std.proofs.lemmas.List.{length-append}
use Rattle.std.proofs.lemmas.Slice.Eq.{starts_is}
use Rattle.abc_fields.specs.Bytes.{begins_with, line_feed}
use Rattle.abc_fields.specs.Limits.{longest_book, longest_tune}
use Rattle.abc_fields.specs.Tunes.{is_empty_line, joined, has_key, ends_tune, tune_run, IsTuneLine}
use Rattle.abc_fields.specs.Fields.{header_of}
use Rattle.abc_fields.specs.FileHeaders.{is_directive, is_header_line, rule_of, rule_below, carries, carried, has_letter, with_header}
use Rattle.abc_fields.specs.declared.carry_rules.CarryRule.{CarryRule}
use Rattle.abc_fields.specs.declared.carry_rules.CarryRule.TheVariants.{Never, Always}
use Rattle.abc_fields.specs.Books.{book_runs}
use Rattle.abc_fields.specs.declared.book.TuneFault.{TuneFault}
use Rattle.chosen_books.proofs.AloneLaw.{alone_runs}
use Rattle.abc_fields.specs.declared.book.TuneFault.TheVariants.{NoKey, TooLong}
use Rattle.abc_fields.proofs.TuneLemmas.{key_before, before_length}
use Rattle.told_books.specs.Fates.{engraves}
use Rattle.told_books.specs.ToldTunes.{fault_of_tune}
use Rattle.told_books.proofs.FaultLemmas.{no_key}
use Rattle.abc_fields.specs.Lines.{has_no_ending}
use Rattle.chosen_books.specs.Inside.Fronts.{AllEngrave, AllPlain, IsCarriedLine, IsFront}
use Rattle.chosen_books.specs.declared.found_tunes.Front.{Front}

-- LINES THAT ENGRAVE
begun : (line front : List ℕ) → begins_with line front ≡ true → line ≡ front ++ drop (length front) line
begun line front is = (starts_is Decides-eqb line front (starts_with nat_eq line front) refl).0 is

pub record GoesIn (line : List ℕ) : Type 0 where
  pub rule : (above : CarryRule) → rule_of above line ≡ Always
  pub full : is_empty_line line ≡ false
  pub allowed : is_header_line line ≡ true

directive_in : (rest : List ℕ) → GoesIn (codes "%%" ++ rest)
directive_in rest = record { rule = λ above. refl; full = refl; allowed = refl }

symbol_in : (rest : List ℕ) → GoesIn (codes "U:" ++ rest)
symbol_in rest = record { rule = λ above. refl; full = refl; allowed = refl }

macro_in : (rest : List ℕ) → GoesIn (codes "m:" ++ rest)
macro_in rest = record { rule = λ above. refl; full = refl; allowed = refl }

pub goes_in : (line : List ℕ) → engraves line ≡ true → GoesIn line
goes_in line is = elim (cases_Bool (is_directive line)) [
  | inl holds ↦ subst GoesIn (sym (begun line (codes "%%") holds)) (directive_in (drop 2 line))
  | inr fails ↦ elim (cases_Bool (begins_with line (codes "U:"))) [
    | inl holds ↦ subst GoesIn (sym (begun line (codes "U:") holds)) (symbol_in (drop 2 line))
    | inr none ↦ let h : begins_with line (codes "m:") ≡ true = rw none at (rw fails at is) in
        subst GoesIn (sym (begun line (codes "m:") h)) (macro_in (drop 2 line))
  ]
]

-- WHAT IS CARRIED
carried_all : (owns : ℕ → Bool) (above : CarryRule) (lines : List (List ℕ)) → AllEngrave lines → carried owns above lines ≡ lines
carried_all owns above [] each = refl
carried_all owns above (line ∷ lines) each =
    rw ((goes_in line each.0).rule above) (ap (λ ls. line ∷ ls) (carried_all owns (rule_below above line) lines each.1))

keep_behind : (b : Bool) (line : List ℕ) (xs ys between : List (List ℕ)) → xs ≡ ys ++ between → cond b (line ∷ xs) xs ≡ cond b (line ∷ ys) ys ++ between
keep_behind true line xs ys between e = ap (λ ls. line ∷ ls) e
keep_behind false line xs ys between e = e

carried_behind : (owns : ℕ → Bool) (above : CarryRule) (header between : List (List ℕ)) → AllEngrave between
    → carried owns above (header ++ between) ≡ carried owns above header ++ between
carried_behind owns above [] between each = carried_all owns above between each
carried_behind owns above (line ∷ header) between each =
    keep_behind (carries owns (rule_of above line)) line (carried owns (rule_below above line) (header ++ between))
    (carried owns (rule_below above line) header) between (carried_behind owns (rule_below above line) header between each)

pub joined_append : (xs ys : List (List ℕ)) → joined (xs ++ ys) ≡ joined xs ++ joined ys
joined_append [] ys = refl
joined_append (x ∷ xs) ys =
    ap (λ bytes. (x ++ line_feed ∷ []) ++ bytes) (joined_append xs ys) ∙ sym (append_assoc (x ++ line_feed ∷ []) (joined xs) (joined ys))

-- FAULTS
pub record HasNone (longest : ℕ) (run : List (List ℕ)) : Type 0 where
  pub keyed : has_key run ≡ true
  pub fits : length (joined run) ≤ longest

pub has_none : (longest : ℕ) (run : List (List ℕ)) → fault_of_tune longest run ≡ None → HasNone longest run
has_none longest run none = by (has_key run) (ltb longest (length (joined run))) refl refl none
  where
    by : (keyed long : Bool) → has_key run ≡ keyed → ltb longest (length (joined run)) ≡ long
        → cond (not keyed) (Some NoKey) (cond long (Some TooLong) None) ≡ None → HasNone longest run
    by false long k l e = cc
    by true true k l e = cc
    by true false k l e = record { keyed = k; fits = ltb-false longest (length (joined run)) l }

-- a tune that is good with its file header has a key of its own
own_key : (longest : ℕ) (header run : List (List ℕ)) → fault_of_tune longest (with_header header run) ≡ None → has_key run ≡ true
own_key longest header run none = elim (cases_Bool (has_key run)) [
  | inl holds ↦ holds
  | inr fails ↦ absurd (let h : Some NoKey ≡ None = no_key longest header run fails ∙ none in cc)
]

whole_length : (header run : List (List ℕ)) → has_key run ≡ true
    → length (joined (with_header header run)) ≡ length (joined run) + length (joined (carried (has_letter (header_of run)) Never header))
whole_length header run keyed = before_length (carried (has_letter (header_of run)) Never header) run keyed

-- its own lines fit
pub own_fits : (longest : ℕ) (header run : List (List ℕ)) → fault_of_tune longest (with_header header run) ≡ None → length (joined run) ≤ longest
own_fits longest header run none =
    omega (arith, (has_none longest (with_header header run) none).fits, whole_length header run (own_key longest header run none))

-- and with lines between tunes that are too long it is too long
pub between_long : (longest : ℕ) (header between run : List (List ℕ)) → AllEngrave between → fault_of_tune longest (with_header header run) ≡ None
    → longest < length (joined between) → fault_of_tune longest (with_header (header ++ between) run) ≡ Some TooLong
between_long longest header between run each none over =
    let keyed = own_key longest header run none in
    let owns = has_letter (header_of run) in
    let whole = with_header (header ++ between) run in
    let key : has_key whole ≡ true = key_before (carried owns Never (header ++ between)) run keyed in
    let long : longest < length (joined whole) =
    omega (
      arith,
      over,
      whole_length (header ++ between) run keyed,
      ap (λ ls. length (joined ls)) (carried_behind owns Never header between each),
      ap length (joined_append (carried owns Never header) between),
      length-append (joined (carried owns Never header)) (joined between),
    ) in
    rw (key, lt-ltb longest (length (joined whole)) long) refl

-- THE FRONT
all_more : (P : List ℕ → Type 0) (xs : List (List ℕ)) (x : List ℕ) → AllByRecursion P xs → P x → AllByRecursion P (xs ++ x ∷ [])
all_more P [] x each one = (one, tt)
all_more P (y ∷ xs) x each one = (each.0, all_more P xs x each.1 one)

-- with one more line between tunes
pub front_more : (header between : List (List ℕ)) (line : List ℕ) (old new : Front) → IsFront header between old → engraves line ≡ true
    → has_no_ending line ≡ true → new.bytes.items ≡ old.bytes.items ++ (line ++ line_feed ∷ []) → new.begin ≡ old.begin
    → IsFront header (between ++ line ∷ []) new
front_more header between line old new is engrave plain bytes begin =
    let more : header ++ (between ++ line ∷ []) ≡ (header ++ between) ++ line ∷ [] = sym (append_assoc header between (line ∷ [])) in
    let goes = goes_in line engrave in
    record {
      bytes = bytes ∙ ap (λ bs. bs ++ (line ++ line_feed ∷ [])) is.bytes ∙ append_assoc (codes "\n") (joined (header ++ between)) (line ++ line_feed ∷ [])
          ∙ ap (λ bs. codes "\n" ++ (joined (header ++ between) ++ bs)) (sym (append-nil (line ++ line_feed ∷ [])))
          ∙ ap (λ bs. codes "\n" ++ bs) (sym (joined_append (header ++ between) (line ∷ [])))
          ∙ ap (λ ls. codes "\n" ++ joined ls) (sym more);
      begin = begin ∙ is.begin;
      lines = rw more (all_more IsCarriedLine (header ++ between) line is.lines record { plain = plain; full = goes.full; allowed = goes.allowed });
      engrave = all_more (λ l. engraves l ≡ true) between line is.engrave engrave;
      short = is.short;
    }

-- the bytes of the lines between tunes
pub front_length : (header between : List (List ℕ)) (front : Front) → IsFront header between front
    → length front.bytes.items ≡ front.begin + length (joined between)
front_length header between front is =
    omega (arith, ap length is.bytes, is.begin, ap length (joined_append header between), length-append (joined header) (joined between))

-- the same front
pub front_same : (header between : List (List ℕ)) (old new : Front) → IsFront header between old → new.bytes.items ≡ old.bytes.items → new.begin ≡ old.begin
    → IsFront header between new
front_same header between old new is bytes begin =
    record { bytes = bytes ∙ is.bytes; begin = begin ∙ is.begin; lines = is.lines; engrave = is.engrave; short = is.short }

-- A TUNE THAT IS REFUSED
longer_too : (longest : ℕ) (a b : List (List ℕ)) (fault : TuneFault) → has_key a ≡ true → has_key b ≡ true → length (joined a) ≤ length (joined b)
    → fault_of_tune longest a ≡ Some fault → fault_of_tune longest b ≡ Some fault
longer_too longest a b fault first second longer is = elim (cases_Bool (ltb longest (length (joined a)))) [
  | inl over ↦ let e : Some TooLong ≡ Some fault = rw (first, over) at is in
      rw (second, lt-ltb longest (length (joined b)) (omega (arith, longer, ltb-true longest (length (joined a)) over))) e
  | inr fits ↦ absurd (let h : None ≡ Some fault = rw (first, fits) at is in cc)
]

-- it is refused with the lines between tunes too, by the same fault
pub refused_too : (longest : ℕ) (header between run : List (List ℕ)) (fault : TuneFault) → AllEngrave between
    → fault_of_tune longest (with_header header run) ≡ Some fault → fault_of_tune longest (with_header (header ++ between) run) ≡ Some fault
refused_too longest header between run fault each is = elim (cases_Bool (has_key run)) [
  | inl keyed ↦ let owns = has_letter (header_of run) in
      longer_too longest (with_header header run) (with_header (header ++ between) run) fault (key_before (carried owns Never header) run keyed)
      (key_before (carried owns Never (header ++ between)) run keyed) (omega (
        arith,
        whole_length header run keyed,
        whole_length (header ++ between) run keyed,
        ap (λ ls. length (joined ls)) (carried_behind owns Never header between each),
        ap length (joined_append (carried owns Never header) between),
        length-append (joined (carried owns Never header)) (joined between),
      )) is
  | inr none ↦ sym (no_key longest (header ++ between) run none) ∙ (no_key longest header run none ∙ is)
]

-- A BOOK WITH ONE TUNE
run_step : (line : List ℕ) (lines : List (List ℕ)) (ends : Bool) → ends_tune line ≡ ends → has_no_ending line ≡ true
    → AllByRecursion IsTuneLine (tune_run lines) → AllByRecursion IsTuneLine (cond ends [] (line ∷ tune_run lines))
run_step line lines true e plain later = tt
run_step line lines false e plain later = (record { plain = plain; inside = e }, later)

pub run_lines : (lines : List (List ℕ)) → AllPlain lines → AllByRecursion IsTuneLine (tune_run lines)
run_lines [] plain = tt
run_lines (line ∷ lines) plain = run_step line lines (ends_tune line) refl plain.0 (run_lines lines plain.1)

pub front_runs : (header between run : List (List ℕ)) (front : Front) (book : List ℕ) → IsFront header between front → AllByRecursion IsTuneLine run
    → book ≡ front.bytes.items ++ (codes "\nX:\n" ++ joined run) → book_runs book ≡ with_header (header ++ between) run ∷ []
front_runs header between run front book is tunes put =
    ap book_runs (put ∙ ap (λ bs. bs ++ (codes "\nX:\n" ++ joined run)) is.bytes) ∙ alone_runs (header ++ between) run is.lines tunes

pub front_short : (longest : ℕ) (header between run : List (List ℕ)) (front : Front) (book : List ℕ) → IsFront header between front
    → book ≡ front.bytes.items ++ (codes "\nX:\n" ++ joined run) → longest ≤ longest_tune → length front.bytes.items ≤ front.begin + longest
    → fault_of_tune longest (with_header header run) ≡ None → length book ≤ longest_book
front_short longest header between run front book is put few fits none =
    omega (
      arith,
      ap length put,
      length-append front.bytes.items (codes "\nX:\n" ++ joined run),
      few,
      fits,
      is.begin,
      is.short,
      own_fits longest header run none,
    )
