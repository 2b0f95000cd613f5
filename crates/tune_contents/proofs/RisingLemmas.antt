-- Rows by rising number, which stay so through a change.
use Rattle.std.proofs.Common.{◌≡◌, ℕ, zero, suc, ◌+◌, ◌<◌, ◌≤◌, List, [], ◌∷◌, ◌++◌, length, get_or, slice_set, refl, ap, sym, ◌∙◌, subst, arith}
use Rattle.std.proofs.Common.{append_assoc, length-append}
use Rattle.std.specs.List.{AllByRecursion, AllWithin, Contains, insert, remove, range_with_len}
use Rattle.std.proofs.Math.ListN.{get_or-map}
use Rattle.std.proofs.lemmas.List.{length-map, map-append, map-set, set-get_or}
use Rattle.std.proofs.lemmas.List.Edits.{length-insert, length-remove}
use Rattle.std.proofs.lemmas.List.FromFn.{length-range_with_len}
use Rattle.tune_store.specs.declared.layout.Layout.{Layout}
use Rattle.tune_store.specs.Labels.{numbers_of}
use Rattle.tune_store.specs.Limits.{most_tunes, greatest_number}
use Rattle.tune_store.specs.declared.catalog.Label.{Label}
use Rattle.tune_format.specs.declared.rows.Row.{Row}
use Rattle.tune_contents.specs.Claimed.{AreRows, RowsRise}
use Rattle.tune_contents.specs.Holds.{label_in, labels_in}
use Rattle.tune_contents.specs.Inside.ChangedRows.{AddsRow, AddsRows, PutsRow}
use Rattle.tune_contents.specs.Inside.TuneRows.{IsRowAfter, numbers_of_rows}

-- NUMBERS
-- numbers rise strictly, and are above this one
abbrev Rises : ℕ → List ℕ → Type 0
Rises low [] = Unit {0}
Rises low (number ∷ numbers) = (low < number) × Rises number numbers

-- the numbers of rows by rising number, within the limits
record AreNumbers (layout : Layout) (numbers : List ℕ) : Type 0 where
  rise : Rises 0 numbers
  within : AllByRecursion (λ number. number ≤ greatest_number) numbers
  few : length numbers ≤ most_tunes layout

numbers_rise : (low : ℕ) (rows : List Row) → RowsRise low rows → Rises low (numbers_of_rows rows)
numbers_rise low [] rise = tt
numbers_rise low (row ∷ rows) rise = (rise.0, numbers_rise row.number rows rise.1)

rows_rise : (low : ℕ) (rows : List Row) → Rises low (numbers_of_rows rows) → RowsRise low rows
rows_rise low [] rise = tt
rows_rise low (row ∷ rows) rise = (rise.0, rows_rise row.number rows rise.1)

numbers_within : (rows : List Row) → AllByRecursion (λ row. row.number ≤ greatest_number) rows
    → AllByRecursion (λ number. number ≤ greatest_number) (numbers_of_rows rows)
numbers_within [] within = tt
numbers_within (row ∷ rows) within = (within.0, numbers_within rows within.1)

rows_within : (rows : List Row) → AllByRecursion (λ number. number ≤ greatest_number) (numbers_of_rows rows)
    → AllByRecursion (λ row. row.number ≤ greatest_number) rows
rows_within [] within = tt
rows_within (row ∷ rows) within = (within.0, rows_within rows within.1)

are_numbers : {layout : Layout} → (rows : List Row) → AreRows layout rows → AreNumbers layout (numbers_of_rows rows)
are_numbers rows are = record {
  rise = numbers_rise 0 rows are.rise;
  within = numbers_within rows are.numbers;
  few = omega (arith, are.few, length-map rows (λ (row : Row). row.number));
}

are_rows : {layout : Layout} → (rows : List Row) → AreNumbers layout (numbers_of_rows rows) → AreRows layout rows
are_rows rows are = record {
  rise = rows_rise 0 rows are.rise;
  numbers = rows_within rows are.within;
  few = omega (arith, are.few, length-map rows (λ (row : Row). row.number));
}

-- A TUNE IN THE PLACE OF ANOTHER
abbrev some_row : Row
some_row = record { number = 0; revision = 0; first = 0; length = 0 }

-- the number at a place is that of the label there
number_there : (rows : List Row) (place number : ℕ) → ((d : Label) → (get_or (labels_in rows) place d).number ≡ number)
    → get_or (numbers_of_rows rows) place 0 ≡ number
number_there rows place number named =
    get_or-map (λ (row : Row). row.number) rows place some_row
    ∙ ap (λ (label : Label). label.number) (sym (get_or-map label_in rows place some_row)) ∙ named (label_in some_row)

-- its number is that of the row there
pub rows_put : {layout : Layout} → (rows left : List Row) (place number : ℕ) → ((d : Label) → (get_or (labels_in rows) place d).number ≡ number)
    → numbers_of_rows left ≡ slice_set (numbers_of_rows rows) place number → AreRows layout rows → AreRows layout left
rows_put {layout} rows left place number named put are =
    let same : numbers_of_rows left ≡ numbers_of_rows rows =
    put ∙ ap (slice_set (numbers_of_rows rows) place) (sym (number_there rows place number named)) ∙ set-get_or (numbers_of_rows rows) place 0 in
    are_rows left (subst (AreNumbers layout) (sym same) (are_numbers rows are))

-- TUNES BEHIND THE OTHERS
rises_from : (low first count : ℕ) → low < first → Rises low (range_with_len first count)
rises_from low first zero above = tt
rises_from low first (suc count) above = (above, rises_from first (first + 1) count (omega arith))

rises_on : (low first count : ℕ) (numbers : List ℕ) → low < first → AllByRecursion (λ number. number < first) numbers → Rises low numbers
    → Rises low (numbers ++ range_with_len first count)
rises_on low first count [] above below rise = rises_from low first count above
rises_on low first count (number ∷ numbers) above below rise = (rise.0, rises_on number first count numbers below.0 below.1 rise.1)

within_from : (first count : ℕ) → first + count ≤ greatest_number + 1 → AllByRecursion (λ number. number ≤ greatest_number) (range_with_len first count)
within_from first zero most = tt
within_from first (suc count) most = (omega arith, within_from (first + 1) count (omega arith))

within_on : (first count : ℕ) (numbers : List ℕ) → first + count ≤ greatest_number + 1 → AllByRecursion (λ number. number ≤ greatest_number) numbers
    → AllByRecursion (λ number. number ≤ greatest_number) (numbers ++ range_with_len first count)
within_on first count [] most within = within_from first count most
within_on first count (number ∷ numbers) most within = (within.0, within_on first count numbers most within.1)

numbers_below : (first : ℕ) (rows : List Row) → AllByRecursion (λ label. label.number < first) (labels_in rows)
    → AllByRecursion (λ number. number < first) (numbers_of_rows rows)
numbers_below first [] below = tt
numbers_below first (row ∷ rows) below = (below.0, numbers_below first rows below.1)

-- one more number
range_next : (first count : ℕ) → range_with_len first (suc count) ≡ range_with_len first count ++ (first + count) ∷ []
range_next first zero = let e : first ≡ first + 0 = omega arith in ap (λ n. n ∷ []) e
range_next first (suc count) =
    let e : first + 1 + count ≡ first + suc count = omega arith in
    ap (λ numbers. first ∷ numbers) (range_next (first + 1) count ∙ ap (λ n. range_with_len (first + 1) count ++ n ∷ []) e)

numbers_next : (numbers mid left : List ℕ) (first number count next : ℕ) → number ≡ first + count → next ≡ count + 1
    → mid ≡ numbers ++ range_with_len first count → left ≡ mid ++ number ∷ [] → left ≡ numbers ++ range_with_len first next
numbers_next numbers mid left first number count next is more so_far added =
    let e : next ≡ suc count = omega arith in
    added ∙ (λ i. so_far i ++ is i ∷ []) ∙ append_assoc numbers (range_with_len first count) ((first + count) ∷ [])
    ∙ ap (λ all. numbers ++ all) (sym (range_next first count)) ∙ ap (λ n. numbers ++ range_with_len first n) (sym e)

-- rows of numbers one after another, and one row more
pub adds_next : (mid left : List Row) (first number count next : ℕ) → number ≡ first + count → next ≡ count + 1
    → numbers_of_rows mid ≡ range_with_len first count → AddsRow number mid left → numbers_of_rows left ≡ range_with_len first next
adds_next mid left first number count next is more named (row, added, its) =
    numbers_next [] (numbers_of_rows mid) (numbers_of_rows left) first number count next is more named
    (ap numbers_of_rows added ∙ map-append (λ (r : Row). r.number) mid (row ∷ []) ∙ ap (λ n. numbers_of_rows mid ++ n ∷ []) its)

-- the numbers of rows with others behind them, and with one in the place of another
pub numbers_added : (rows left : List Row) (first count : ℕ) → AddsRows first count rows left → numbers_of_rows left ≡ numbers_of_rows rows
    ++ range_with_len first count
numbers_added rows left first count (more, added, named) =
    ap numbers_of_rows added ∙ map-append (λ (r : Row). r.number) rows more ∙ ap (λ l. numbers_of_rows rows ++ l) named

pub numbers_put : (rows left : List Row) (place number : ℕ) → PutsRow place number rows left → numbers_of_rows left
    ≡ slice_set (numbers_of_rows rows) place number
numbers_put rows left place number (row, l, put, its) =
    ap numbers_of_rows put ∙ map-set (λ (r : Row). r.number) rows place row ∙ ap (slice_set (numbers_of_rows rows) place) its

-- their numbers are above all others
pub rows_added : {layout : Layout} → (rows left : List Row) (first count : ℕ) → length (labels_in rows) + count ≤ most_tunes layout
    → first + count ≤ greatest_number + 1
    → AllByRecursion (λ label. label.number < first) (labels_in rows) → 0 < first
    → numbers_of_rows left ≡ numbers_of_rows rows ++ range_with_len first count → AreRows layout rows → AreRows layout left
rows_added {layout} rows left first count few most below some added are =
    let numbers = numbers_of_rows rows in
    let is = are_numbers rows are in
    let all : AreNumbers layout (numbers ++ range_with_len first count) = record {
      rise = rises_on 0 first count numbers some (numbers_below first rows below) is.rise;
      within = within_on first count numbers most is.within;
      few = omega (
        arith,
        few,
        length-append numbers (range_with_len first count),
        length-range_with_len first count,
        length-map rows (λ (row : Row). row.number),
        length-map rows label_in,
      );
    } in
    are_rows left (subst (AreNumbers layout) (sym added) all)

-- A TUNE TAKEN OUT
rise_low : (low high : ℕ) (rows : List Row) → low ≤ high → RowsRise high rows → RowsRise low rows
rise_low low high [] le rise = tt
rise_low low high (row ∷ rows) le rise = (let first = rise.0 in omega arith, rise.1)

rise_cut : (low : ℕ) (rows : List Row) (place : ℕ) → place < length rows → RowsRise low rows → RowsRise low (remove rows place)
rise_cut low [] place l rise = absurd (omega arith)
rise_cut low (row ∷ rows) zero l rise = let first = rise.0 in rise_low low row.number rows (omega arith) rise.1
rise_cut low (row ∷ rows) (suc place) l rise = (rise.0, rise_cut row.number rows place (omega arith) rise.1)

all_cut : (P : Row → Type 0) (rows : List Row) (place : ℕ) → place < length rows → AllByRecursion P rows → AllByRecursion P (remove rows place)
all_cut P [] place l all = absurd (omega arith)
all_cut P (row ∷ rows) zero l all = all.1
all_cut P (row ∷ rows) (suc place) l all = (all.0, all_cut P rows place (omega arith) all.1)

rows_cut : {layout : Layout} → (rows : List Row) (place : ℕ) → place < length rows → AreRows layout rows → AreRows layout (remove rows place)
rows_cut rows place l are = record {
  rise = rise_cut 0 rows place l are.rise;
  numbers = all_cut (λ row. row.number ≤ greatest_number) rows place l are.numbers;
  few = omega (arith, are.few, length-remove rows place l);
}

pub rows_taken : {layout : Layout} → (rows : List Row) (place : ℕ) → place < length (labels_in rows) → AreRows layout rows → AreRows layout (remove rows place)
rows_taken rows place l are = rows_cut rows place (omega (arith, l, length-map rows label_in)) are

-- A TUNE UNDER ANOTHER NUMBER
-- it is put in behind the lesser numbers, where no row has its own
rise_put : (low : ℕ) (rows : List Row) (at : ℕ) (new : Row) → at ≤ length rows → low < new.number
    → AllWithin (λ row. row.number ≤ new.number) rows 0 at → AllWithin (λ row. new.number < row.number) rows at (length rows)
    → AllByRecursion (λ row. row.number ≡ new.number → ⊥) rows → RowsRise low rows → RowsRise low (insert rows at new)
rise_put low [] zero new l above before behind none rise = (above, tt)
rise_put low [] (suc at) new l above before behind none rise = absurd (omega arith)
rise_put low (row ∷ rows) zero new l above before behind none rise = (above, (behind 0 row (omega arith) (omega arith), rise.1))
rise_put low (row ∷ rows) (suc at) new l above before behind none rise =
    let le : row.number ≤ new.number = before 0 row (omega arith) (omega arith) in
    let differs : row.number ≡ new.number → ⊥ = none.0 in (
      rise.0,
      rise_put row.number rows at new (omega arith) (omega arith) (λ k d from to. before (suc k) d (omega arith) (omega arith))
          (λ k d from to. behind (suc k) d (omega arith) (omega arith)) none.1 rise.1,
    )

all_put : (P : Row → Type 0) (rows : List Row) (at : ℕ) (new : Row) → at ≤ length rows → P new → AllByRecursion P rows → AllByRecursion P (insert rows at new)
all_put P [] zero new l its all = (its, tt)
all_put P [] (suc at) new l its all = absurd (omega arith)
all_put P (row ∷ rows) zero new l its all = (its, all)
all_put P (row ∷ rows) (suc at) new l its all = (all.0, all_put P rows at new (omega arith) its all.1)

numbers_labelled : (rows : List Row) → numbers_of (labels_in rows) ≡ numbers_of_rows rows
numbers_labelled [] = refl
numbers_labelled (row ∷ rows) = ap (λ numbers. row.number ∷ numbers) (numbers_labelled rows)

-- no row has a number that no label has
pub none_labelled : (rows : List Row) (to : ℕ) → (Contains (numbers_of (labels_in rows)) to → ⊥) → Contains (numbers_of_rows rows) to → ⊥
none_labelled rows to none = subst (λ numbers. Contains numbers to → ⊥) (numbers_labelled rows) none

none_has : (to : ℕ) (rows : List Row) → (Contains (numbers_of_rows rows) to → ⊥) → AllByRecursion (λ row. row.number ≡ to → ⊥) rows
none_has to [] none = tt
none_has to (row ∷ rows) none = (λ e. none (0, omega arith, e), none_has to rows (λ (place, l, e). none (suc place, omega arith, e)))

-- it goes where its new number belongs
pub rows_moved : {layout : Layout} → (rows : List Row) (to place at : ℕ) (new : Row) → place < length rows → at ≤ length (remove rows place)
    → (RowsRise 0 rows → IsRowAfter to (remove rows place) at) → new.number ≡ to → AreRows layout rows → (Contains (numbers_of_rows rows) to → ⊥)
    → 0 < to
    → to ≤ greatest_number → AreRows layout (insert (remove rows place) at new)
rows_moved rows to place at new l within after is are none some most =
    let left = remove rows place in
    let fewer = rows_cut rows place l are in
    let goes = after are.rise in
    let absent : AllByRecursion (λ row. row.number ≡ to → ⊥) left = all_cut (λ row. row.number ≡ to → ⊥) rows place l (none_has to rows none) in
    record {
      rise = rise_put 0 left at new within (omega arith) (subst (λ n. AllWithin (λ row. row.number ≤ n) left 0 at) (sym is) goes.before)
          (subst (λ n. AllWithin (λ row. n < row.number) left at (length left)) (sym is) goes.behind)
          (subst (λ n. AllByRecursion (λ row. row.number ≡ n → ⊥) left) (sym is) absent) fewer.rise;
      numbers = all_put (λ row. row.number ≤ greatest_number) left at new within (omega arith) fewer.numbers;
      few = omega (arith, are.few, length-insert left at new within, length-remove rows place l);
    }
