-- Rows by rising number.
use Rattle.std.proofs.Common.{◌≡◌, inl, inr, ℕ, zero, suc, ◌+◌, ◌<◌, ◌≤◌, List, [], ◌∷◌, ◌++◌, length, drop, get_or, All}
use Rattle.std.proofs.Common.{refl, sym, ◌∙◌, ap, subst, add-one, drop-cons, append_assoc, arith}
use Rattle.std.specs.List.{AllByRecursion, AllWithin}
use Rattle.std.specs.Cmp.{ranked}
use Rattle.std.specs.Ordering.{ordering_index, nat_cmp}
use Rattle.std.specs.declared.cmp.Ordering.TheVariants.{Less, Greater}
use Rattle.std.proofs.lemmas.Bool.{cases_lt}
use Rattle.std.proofs.lemmas.Bool.Decides.{nat_tests}
use Rattle.std.proofs.lemmas.List.Elements.{All-nil, All-cons}
use Rattle.std.proofs.lemmas.List.{append-nil, length-map, map-append}
use Rattle.index_keys.specs.Entries.{Entry}
use Rattle.tune_parts.proofs.Lists.{all_join, all_map}
use Rattle.tune_store.specs.Limits.{greatest_number, most_tunes}
use Rattle.tune_store.specs.declared.layout.Layout.{Layout}
use Rattle.tune_format.specs.Written.{number_entries, number_key, row_entry}
use Rattle.tune_format.specs.declared.rows.Row.{Row}
use Rattle.tune_contents.specs.Inside.ClaimedRows.{AreEntriesFrom, AreEntriesOfRows, HasNumber, RowsSoFar}
use Rattle.tune_contents.specs.Inside.TuneRows.{numbers_of_rows}
use Rattle.tune_contents.specs.Claimed.{AreRows, RowsRise}

-- each number is above what the rows rise from
above : (low : ℕ) (rows : List Row) (n : ℕ) (d : Row) → RowsRise low rows → n < length rows → low < (get_or rows n d).number
above low [] n d rises l = absurd (omega arith)
above low (row ∷ rows) zero d rises l = rises.0
above low (row ∷ rows) (suc n) d rises l = let later = above row.number rows n d rises.1 (omega arith) in let first = rises.0 in omega arith

-- numbers rise with the place
pub ordered : (low : ℕ) (rows : List Row) (i j : ℕ) (d : Row) → RowsRise low rows → i ≤ j → j < length rows
    → (get_or rows i d).number ≤ (get_or rows j d).number
ordered low [] i j d rises h l = absurd (omega arith)
ordered low (row ∷ rows) zero zero d rises h l = omega arith
ordered low (row ∷ rows) zero (suc j) d rises h l = let later = above row.number rows j d rises.1 (omega arith) in omega arith
ordered low (row ∷ rows) (suc i) zero d rises h l = absurd (omega arith)
ordered low (row ∷ rows) (suc i) (suc j) d rises h l = ordered row.number rows i j d rises.1 (omega arith) (omega arith)

-- the number at a place is that of a row
pub has_at : (number : ℕ) (rows : List Row) (n : ℕ) (d : Row) → n < length rows → (get_or rows n d).number ≡ number → HasNumber rows number
has_at number [] n d l e = absurd (omega arith)
has_at number (row ∷ rows) zero d l e = inl e
has_at number (row ∷ rows) (suc n) d l e = inr (has_at number rows n d (omega arith) e)

pub has_none : (number : ℕ) (rows : List Row) → ((n : ℕ) (d : Row) → n < length rows → (get_or rows n d).number ≡ number → ⊥) → HasNumber rows number → ⊥
has_none number [] none has = has
has_none number (row ∷ rows) none (inl same) = none 0 row (omega arith) same
has_none number (row ∷ rows) none (inr has) = has_none number rows (λ n d l. none (suc n) d (omega arith)) has

-- the answer of a comparison with one number rises with the other
pub cmp_rises : (x y number : ℕ) → x ≤ y → ordering_index (nat_cmp x number) ≤ ordering_index (nat_cmp y number)
cmp_rises x y number le = grind (arith, nat_tests)

-- where all numbers are less below a place, and greater from it on, none is equal
pub no_place : (number : ℕ) (rows : List Row) (place : ℕ) → AllWithin (λ row. nat_cmp row.number number ≡ Less) rows 0 place
    → AllWithin (λ row. nat_cmp row.number number ≡ Greater) rows place (length rows)
    → (n : ℕ) (d : Row) → n < length rows → (get_or rows n d).number ≡ number → ⊥
no_place number rows place less greater n d l e = elim (cases_lt n place) [
  | inl below ↦ let lower : (get_or rows n d).number < number = ranked _ _ _ (sym (less n d (omega arith) below)) in omega arith
  | inr from ↦ let higher : number < (get_or rows n d).number = ranked _ _ _ (sym (greater n d from l)) in omega arith
]

-- a list each element of which has a property
pub all_each : {X : Type 0} (P : X → Type 0) (xs : List X) → All P xs → AllByRecursion P xs
all_each P [] all = tt
all_each P (x ∷ xs) all = (all 0 x (omega arith), all_each P xs (λ n d l. all (suc n) d (omega arith)))

pub each_all : {X : Type 0} (P : X → Type 0) (xs : List X) → AllByRecursion P xs → All P xs
each_all P [] each = All-nil P
each_all P (x ∷ xs) each = All-cons P x xs each.0 (each_all P xs each.1)

-- ENTRIES OF ROWS
-- rows with the same entry have the same number and the same first page
pub key_once : (n m : ℕ) → number_key n ≡ number_key m → n ≡ m
key_once n m same = omega (arith, same)

pub entry_number : (row other : Row) → row_entry row ≡ row_entry other → row.number ≡ other.number
entry_number row other same = key_once row.number other.number (ap (λ (e : Entry). e.0) same)

pub entry_first : (row other : Row) → row_entry row ≡ row_entry other → row.first ≡ other.first
entry_first row other same = ap (λ (e : Entry). e.1) same

abbrev no_entry : Entry
no_entry = (0, 0)

-- the front of a list of entries, and what is behind
pub first_entry : (e f : Entry) (es fs : List Entry) → e ∷ es ≡ f ∷ fs → e ≡ f
first_entry e f es fs same = ap (λ (l : List Entry). get_or l 0 no_entry) same

pub later_entries : (e f : Entry) (es fs : List Entry) → e ∷ es ≡ f ∷ fs → es ≡ fs
later_entries e f es fs same = ap (λ (l : List Entry). drop 1 l) same

pub same_numbers : (rows others : List Row) → number_entries rows ≡ number_entries others → numbers_of_rows rows ≡ numbers_of_rows others
same_numbers [] [] same = refl
same_numbers [] (other ∷ others) same = absurd (let size = ap (λ (l : List Entry). length l) same in omega arith)
same_numbers (row ∷ rows) [] same = absurd (let size = ap (λ (l : List Entry). length l) same in omega arith)
same_numbers (row ∷ rows) (other ∷ others) same =
    let one = entry_number row other (first_entry (row_entry row) (row_entry other) (number_entries rows) (number_entries others) same) in
    let more = same_numbers rows others (later_entries (row_entry row) (row_entry other) (number_entries rows) (number_entries others) same) in
    (λ i. one i ∷ more i)

-- Rows are within the limits by their numbers alone.
rise_as : (low : ℕ) (rows others : List Row) → numbers_of_rows rows ≡ numbers_of_rows others → RowsRise low others → RowsRise low rows
rise_as low [] others same rise = tt
rise_as low (row ∷ rows) [] same rise = absurd (let size = ap (λ (l : List ℕ). length l) same in omega arith)
rise_as low (row ∷ rows) (other ∷ others) same rise =
    let one : row.number ≡ other.number = ap (λ (l : List ℕ). get_or l 0 0) same in
    let more = rise_as other.number rows others (ap (λ (l : List ℕ). drop 1 l) same) rise.1 in
    (subst (λ (n : ℕ). low < n) (sym one) rise.0, subst (λ (n : ℕ). RowsRise n rows) (sym one) more)

within_as : (rows others : List Row) → numbers_of_rows rows ≡ numbers_of_rows others → AllByRecursion (λ row. row.number ≤ greatest_number) others
    → AllByRecursion (λ row. row.number ≤ greatest_number) rows
within_as [] others same within = tt
within_as (row ∷ rows) [] same within = absurd (let size = ap (λ (l : List ℕ). length l) same in omega arith)
within_as (row ∷ rows) (other ∷ others) same within =
    let one : row.number ≡ other.number = ap (λ (l : List ℕ). get_or l 0 0) same in
    (subst (λ (n : ℕ). n ≤ greatest_number) (sym one) within.0, within_as rows others (ap (λ (l : List ℕ). drop 1 l) same) within.1)

pub rows_as : {layout : Layout} → (rows others : List Row) → number_entries rows ≡ number_entries others → AreRows layout others → AreRows layout rows
rows_as rows others same are =
    let numbers = same_numbers rows others same in
    let size = ap (λ (l : List ℕ). length l) numbers in
    record {
      rise = rise_as 0 rows others numbers are.rise;
      numbers = within_as rows others numbers are.numbers;
      few = omega (arith, are.few, size, length-map rows (λ (row : Row). row.number), length-map others (λ (row : Row). row.number));
    }

-- LISTED, ONE AFTER ANOTHER
-- where entries of rows go on with this one, its row is above what they rise from, and the others behind it
entries_of : (low : ℕ) (entry : Entry) (later : List Entry) (rows : List Row) → RowsRise low rows
    → AllByRecursion (λ row. row.number ≤ greatest_number) rows → number_entries rows ≡ entry ∷ later
    → (row : Row) × (row_entry row ≡ entry) × (low < row.number) × (row.number ≤ greatest_number) × AreEntriesFrom row.number later
entries_of low entry later [] rise within same = absurd (let size = ap (λ (l : List Entry). length l) same in omega arith)
entries_of low entry later (row ∷ rows) rise within same = (
  row,
  first_entry (row_entry row) entry (number_entries rows) later same,
  rise.0,
  within.0,
  record {
    rows = rows;
    rise = rise.1;
    numbers = within.1;
    same = later_entries (row_entry row) entry (number_entries rows) later same;
  },
)

next_row : (low : ℕ) (entry : Entry) (later : List Entry) → AreEntriesFrom low (entry ∷ later)
    → (row : Row) × (row_entry row ≡ entry) × (low < row.number) × (row.number ≤ greatest_number) × AreEntriesFrom row.number later
next_row low entry later are = entries_of low entry later are.rows are.rise are.numbers are.same

-- the list at a place
pub list_at : {X : Type 0} (list : List X) (i : ℕ) (d : X) → i < length list → drop i list ≡ get_or list i d ∷ drop (i + 1) list
list_at list i d lt = rw (add-one, drop-cons list i d lt)

pub rows_start : (list : List Entry) (rows : List Row) → rows ≡ [] → RowsSoFar list rows 0 list
rows_start list rows is = subst (λ r. RowsSoFar list r 0 list) (sym is)
    (record { rise = tt; numbers = tt; below = tt; listed = refl; goes_on = λ all. all })

rises_more : (low high : ℕ) (rows : List Row) (row : Row) → RowsRise low rows → AllByRecursion (λ r. r.number ≤ high) rows → low ≤ high → high < row.number
    → RowsRise low (rows ++ row ∷ [])
rises_more low high [] row rise below le lt = (omega (arith, le, lt), tt)
rises_more low high (r ∷ rows) row rise below le lt = (rise.0, rises_more r.number high rows row rise.1 below.1 below.0 lt)

rows_more : (list : List Entry) (rows : List Row) (low : ℕ) (entry : Entry) (later : List Entry) (row : Row) → RowsSoFar list rows low (entry ∷ later)
    → row_entry row ≡ entry → low < row.number → row.number ≤ greatest_number → RowsSoFar list (rows ++ row ∷ []) row.number later
rows_more list rows low entry later row so is lt le = record {
  rise = rises_more 0 low rows row so.rise so.below (omega arith) lt;
  numbers = all_join (λ r. r.number ≤ greatest_number) rows (row ∷ []) so.numbers (le, tt);
  below = all_join (λ r. r.number ≤ row.number) rows (row ∷ [])
      (all_map (λ r. r.number ≤ low) (λ r. r.number ≤ row.number) (λ r b. omega (arith, b, lt)) rows so.below) (omega arith, tt);
  listed = so.listed ∙ ap (λ (e : Entry). number_entries rows ++ e ∷ later) (sym is)
      ∙ sym (append_assoc (number_entries rows) (row_entry row ∷ []) later) ∙ ap (λ (l : List Entry). l ++ later) (sym (map-append row_entry rows (row ∷ [])));
  goes_on = λ all.
      let next = next_row low entry later (so.goes_on all) in
      subst (λ (n : ℕ). AreEntriesFrom n later) (entry_number next.0 row (next.1 ∙ sym is)) next.4;
}

-- a turn, as the code has it
pub rows_turn : (list : List Entry) (rows items : List Row) (low i : ℕ) (entry : Entry) (row : Row) → RowsSoFar list rows low (drop i list)
    → drop i list ≡ entry ∷ drop (i + 1) list → row_entry row ≡ entry → low < row.number → row.number ≤ greatest_number → items ≡ rows ++ row ∷ []
    → RowsSoFar list items row.number (drop (i + 1) list)
rows_turn list rows items low i entry row so at is lt le pushed =
    subst (λ r. RowsSoFar list r row.number (drop (i + 1) list)) (sym pushed)
    (rows_more list rows low entry (drop (i + 1) list) row (subst (RowsSoFar list rows low) at so) is lt le)

-- where the row of an entry is not above those before it, the entries are not those of rows
pub no_row : {layout : Layout} → (list : List Entry) (rows : List Row) (low i : ℕ) (entry : Entry) → RowsSoFar list rows low (drop i list)
    → drop i list ≡ entry ∷ drop (i + 1) list → ((row : Row) → row_entry row ≡ entry → low < row.number → greatest_number < row.number)
    → AreEntriesOfRows layout list → ⊥
no_row list rows low i entry so at none all =
    let next = next_row low entry (drop (i + 1) list) (subst (AreEntriesFrom low) at
    (so.goes_on (record { rows = all.0; rise = all.1.rise; numbers = all.1.numbers; same = all.2 }))) in
    let above = none next.0 next.1 next.2 in
    let le : next.0.number ≤ greatest_number = next.3 in
    omega (arith, above, le)

pub rows_long : {layout : Layout} → (list : List Entry) → most_tunes layout < length list → AreEntriesOfRows layout list → ⊥
rows_long list long all =
    let size = ap (λ (l : List Entry). length l) all.2 in
    let few = all.1.few in
    omega (arith, long, size, few, length-map all.0 row_entry)

pub none_behind : {X : Type 0} (list : List X) (i : ℕ) → length list ≤ i → drop i list ≡ []
none_behind [] zero le = refl
none_behind [] (suc i) le = refl
none_behind (x ∷ list) zero le = absurd (omega arith)
none_behind (x ∷ list) (suc i) le = none_behind list i (omega arith)

pub rows_all : (list : List Entry) (rows : List Row) (low i : ℕ) → length list ≤ i → RowsSoFar list rows low (drop i list) → number_entries rows ≡ list
rows_all list rows low i end so =
    sym (append-nil (number_entries rows)) ∙ ap (λ (l : List Entry). number_entries rows ++ l) (sym (none_behind list i end)) ∙ sym so.listed

pub rows_end : {layout : Layout} → (list : List Entry) (rows : List Row) (low i : ℕ) → length list ≤ i → RowsSoFar list rows low (drop i list)
    → length list ≤ most_tunes layout → AreRows layout rows
rows_end list rows low i end so few =
    let size = ap (λ (l : List Entry). length l) (rows_all list rows low i end so) in
    record {
      rise = so.rise;
      numbers = so.numbers;
      few = omega (arith, few, size, length-map rows row_entry);
    }

-- NUMBERS
-- they rise from place to place
increase : (low : ℕ) (rows : List Row) (k : ℕ) → RowsRise low rows → suc k < length (numbers_of_rows rows)
    → get_or (numbers_of_rows rows) k 0 < get_or (numbers_of_rows rows) (suc k) 0
increase low [] k rise l = absurd (omega arith)
increase low (row ∷ []) k rise l = absurd (omega arith)
increase low (row ∷ other ∷ rows) zero rise l = rise.1.0
increase low (row ∷ other ∷ rows) (suc k) rise l = increase row.number (other ∷ rows) k rise.1 (omega arith)

pub numbers_increase : (numbers : List ℕ) (rows : List Row) → numbers ≡ numbers_of_rows rows → RowsRise 0 rows → (k : ℕ) → k + 1 < length numbers
    → get_or numbers k 0 < get_or numbers (k + 1) 0
numbers_increase numbers rows same rise k l =
    let ns = numbers_of_rows rows in
    let size = ap (λ (m : List ℕ). length m) same in
    let up : get_or ns k 0 < get_or ns (k + 1) 0 = rw add-one (increase 0 rows k rise (omega (arith, l, size))) in
    subst (λ (m : List ℕ). get_or m k 0 < get_or m (k + 1) 0) (sym same) up

pub number_at_row : (rows : List Row) (i : ℕ) (d : Row) → d.number ≡ 0 → get_or (numbers_of_rows rows) i 0 ≡ (get_or rows i d).number
number_at_row [] i d none = sym none
number_at_row (row ∷ rows) zero d none = refl
number_at_row (row ∷ rows) (suc i) d none = number_at_row rows i d none
