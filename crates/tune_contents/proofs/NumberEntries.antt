-- The entries of rows in the index of numbers, as rows come, go and move.
use Rattle.std.proofs.Common.{◌≡◌, ℕ, zero, suc, ◌+◌, ◌-◌, ◌*◌, ◌^◌, ◌<◌, ◌≤◌, List, [], ◌∷◌, ◌++◌, length, get_or, set, take, drop}
use Rattle.std.proofs.Common.{inl, inr, refl, sym, ◌∙◌, ap, subst, arith, append-nil, append_assoc, length-append}
use Rattle.std.specs.List.{insert, remove, range_with_len}
use Rattle.std.proofs.Math.Nat.{mul-le-mul_right}
use Rattle.std.proofs.Math.Seq.{drop-append_seam, map-set_same, take-length}
use Rattle.std.proofs.lemmas.List.{map-append, map-set, take_more}
use Rattle.index_keys.specs.Entries.{AllFit, Entry, FitsLeaf, IsRising, EntriesRiseFrom, entry_inserted, inserted_all, rank, removed, removed_all}
use Rattle.index_keys.proofs.RisingEntries.{inserted_front, inserted_later, removed_later, removed_there, rises_at, rises_middle}
use Rattle.tune_format.specs.Written.{number_entries, number_key, row_entry}
use Rattle.tune_format.specs.declared.rows.Row.{Row}
use Rattle.tune_search.specs.Searches.{key_bytes}
use Rattle.tune_contents.specs.Claimed.{RowsRise}
use Rattle.tune_contents.specs.Inside.ChangedRows.{PutsRuns}
use Rattle.tune_contents.specs.Inside.TuneRows.{numbers_of_rows}

-- ENTRIES AT A PLACE
-- one that rises in front of others is put there
put_ahead : (low : ℕ) (e : Entry) (es : List Entry) → EntriesRiseFrom low (e ∷ es) → entry_inserted e es ≡ e ∷ es
put_ahead low e [] up = refl
put_ahead low e (x ∷ es) up = inserted_front e x es (let l = up.1.0 in omega arith)

rises_inserted : (low : ℕ) (es : List Entry) (at : ℕ) (e : Entry) → at ≤ length es → EntriesRiseFrom low (insert es at e) → low ≤ rank e
rises_inserted low [] zero e l up = up.0
rises_inserted low [] (suc at) e l up = absurd (omega arith)
rises_inserted low (x ∷ es) zero e l up = up.0
rises_inserted low (x ∷ es) (suc at) e l up = let more = rises_inserted (rank x + 1) es at e (omega arith) up.1 in let first = up.0 in omega arith

put_at : (low : ℕ) (es : List Entry) (at : ℕ) (e : Entry) → at ≤ length es → EntriesRiseFrom low (insert es at e) → entry_inserted e es ≡ insert es at e
put_at low [] zero e l up = refl
put_at low [] (suc at) e l up = absurd (omega arith)
put_at low (x ∷ es) zero e l up = put_ahead low e (x ∷ es) up
put_at low (x ∷ es) (suc at) e l up =
    let higher = rises_inserted (rank x + 1) es at e (omega arith) up.1 in
    inserted_later e x es (omega arith) ∙ ap (λ (l : List Entry). x ∷ l) (put_at (rank x + 1) es at e (omega arith) up.1)

taken_at : (low : ℕ) (es : List Entry) (at : ℕ) (d : Entry) → at < length es → EntriesRiseFrom low es → removed (get_or es at d) es ≡ remove es at
taken_at low [] at d l up = absurd (omega arith)
taken_at low (x ∷ es) zero d l up = removed_there x x es refl
taken_at low (x ∷ es) (suc at) d l up =
    let higher = rises_at (rank x + 1) es at d up.1 (omega arith) in
    removed_later (get_or es at d) x es (omega arith) ∙ ap (λ (l : List Entry). x ∷ l) (taken_at (rank x + 1) es at d (omega arith) up.1)

-- one in the place of another is put where that was
rises_set : (low : ℕ) (es : List Entry) (at : ℕ) (e : Entry) → at < length es → EntriesRiseFrom low (set es at e) → low ≤ rank e
rises_set low [] at e l up = absurd (omega arith)
rises_set low (x ∷ es) zero e l up = up.0
rises_set low (x ∷ es) (suc at) e l up = let more = rises_set (rank x + 1) es at e (omega arith) up.1 in let first = up.0 in omega arith

put_over : (low : ℕ) (es : List Entry) (at : ℕ) (e : Entry) → at < length es → EntriesRiseFrom low (set es at e) → entry_inserted e (remove es at) ≡ set es at e
put_over low [] at e l up = absurd (omega arith)
put_over low (x ∷ es) zero e l up = put_ahead low e es up
put_over low (x ∷ es) (suc at) e l up =
    let higher = rises_set (rank x + 1) es at e (omega arith) up.1 in
    inserted_later e x (remove es at) (omega arith) ∙ ap (λ (l : List Entry). x ∷ l) (put_over (rank x + 1) es at e (omega arith) up.1)

-- those that rise behind all others are put there
put_behind : (low : ℕ) (es : List Entry) (e : Entry) → EntriesRiseFrom low (es ++ e ∷ []) → entry_inserted e es ≡ es ++ e ∷ []
put_behind low [] e up = refl
put_behind low (x ∷ es) e up =
    let higher = rises_middle (rank x + 1) es e [] up.1 in
    inserted_later e x es (omega arith) ∙ ap (λ (l : List Entry). x ∷ l) (put_behind (rank x + 1) es e up.1)

front_rises : (low : ℕ) (es : List Entry) (e : Entry) (run : List Entry) → EntriesRiseFrom low (es ++ e ∷ run) → EntriesRiseFrom low (es ++ e ∷ [])
front_rises low [] e run up = (up.0, tt)
front_rises low (x ∷ es) e run up = (up.0, front_rises (rank x + 1) es e run up.1)

all_behind : (run es : List Entry) → IsRising (es ++ run) → inserted_all run es ≡ es ++ run
all_behind [] es up = sym (append-nil es)
all_behind (e ∷ run) es up =
    let regroup : (es ++ e ∷ []) ++ run ≡ es ++ e ∷ run = append_assoc es (e ∷ []) run in
    ap (inserted_all run) (put_behind 0 es e (front_rises 0 es e run up))
    ∙ all_behind run (es ++ e ∷ []) (subst IsRising (sym regroup) up) ∙ regroup

-- ENTRIES THAT FIT
fit_set : (es : List Entry) (at : ℕ) (e : Entry) → AllFit key_bytes es → FitsLeaf key_bytes e → AllFit key_bytes (set es at e)
fit_set [] at e fit own = tt
fit_set (x ∷ es) zero e fit own = (own, fit.1)
fit_set (x ∷ es) (suc at) e fit own = (fit.0, fit_set es at e fit.1 own)

fit_removed : (es : List Entry) (at : ℕ) → at < length es → AllFit key_bytes es → AllFit key_bytes (remove es at)
fit_removed [] at l fit = absurd (omega arith)
fit_removed (x ∷ es) zero l fit = fit.1
fit_removed (x ∷ es) (suc at) l fit = (fit.0, fit_removed es at (omega arith) fit.1)

fit_inserted : (es : List Entry) (at : ℕ) (e : Entry) → at ≤ length es → AllFit key_bytes es → FitsLeaf key_bytes e → AllFit key_bytes (insert es at e)
fit_inserted [] zero e l fit own = (own, tt)
fit_inserted [] (suc at) e l fit own = absurd (omega arith)
fit_inserted (x ∷ es) zero e l fit own = (own, fit)
fit_inserted (x ∷ es) (suc at) e l fit own = (fit.0, fit_inserted es at e (omega arith) fit.1 own)

fit_joined : (es more : List Entry) → AllFit key_bytes es → AllFit key_bytes more → AllFit key_bytes (es ++ more)
fit_joined [] more fit others = others
fit_joined (x ∷ es) more fit others = (fit.0, fit_joined es more fit.1 others)

-- ROWS THAT RISE
-- the rank at a greater number is higher, whatever the values
over : (n m k v w : ℕ) → 0 < k → n < m → v < 2 ^ 32 → n * k * 2 ^ 32 + v + 1 ≤ m * k * 2 ^ 32 + w
over n m k v w some less fit =
    let more : (n + 1) * k ≤ m * k = mul-le-mul_right k (omega arith) in
    spread (n * k) (m * k) v w (omega (arith, more)) fit
  where
    spread : (a b v w : ℕ) → a + 1 ≤ b → v < 2 ^ 32 → a * 2 ^ 32 + v + 1 ≤ b * 2 ^ 32 + w
    spread a b v w more fit = omega arith

rises_as : (low from : ℕ) (rows : List Row) → ((number value : ℕ) → low < number → from ≤ rank (number_key number, value)) → RowsRise low rows
    → AllFit key_bytes (number_entries rows) → EntriesRiseFrom from (number_entries rows)
rises_as low from [] above rise fit = tt
rises_as low from (row ∷ rows) above rise fit = (
  above row.number row.first rise.0,
  rises_as row.number (rank (row_entry row) + 1) rows (λ number value less. over row.number number (256 ^ 28) row.first value (omega arith) less fit.0.value)
      rise.1 fit.1,
)

pub entries_rise : (rows : List Row) → RowsRise 0 rows → AllFit key_bytes (number_entries rows) → IsRising (number_entries rows)
entries_rise rows rise fit = rises_as 0 0 rows (λ number value less. omega arith) rise fit

-- ENTRIES OF ROWS
length-entries : (rows : List Row) → length (number_entries rows) ≡ length rows
length-entries [] = refl
length-entries (row ∷ rows) = ap suc (length-entries rows)

entries_removed : (rows : List Row) (at : ℕ) → at < length rows → number_entries (remove rows at) ≡ remove (number_entries rows) at
entries_removed [] at l = absurd (omega arith)
entries_removed (row ∷ rows) zero l = refl
entries_removed (row ∷ rows) (suc at) l = ap (λ (es : List Entry). row_entry row ∷ es) (entries_removed rows at (omega arith))

entries_inserted : (rows : List Row) (at : ℕ) (new : Row) → at ≤ length rows
    → number_entries (insert rows at new) ≡ insert (number_entries rows) at (row_entry new)
entries_inserted [] zero new l = refl
entries_inserted [] (suc at) new l = absurd (omega arith)
entries_inserted (row ∷ rows) zero new l = refl
entries_inserted (row ∷ rows) (suc at) new l = ap (λ (es : List Entry). row_entry row ∷ es) (entries_inserted rows at new (omega arith))

entry_there : (rows : List Row) (at : ℕ) (d : Row) → at < length rows → get_or (number_entries rows) at (row_entry d) ≡ row_entry (get_or rows at d)
entry_there [] at d l = refl
entry_there (row ∷ rows) zero d l = refl
entry_there (row ∷ rows) (suc at) d l = entry_there rows at d (omega arith)

-- WHAT A CHANGE DOES
-- a row taken out
pub row_out : (rows : List Row) (at : ℕ) (row d : Row) → at < length rows → row ≡ get_or rows at d → RowsRise 0 rows → AllFit key_bytes (number_entries rows)
    → removed (row_entry row) (number_entries rows) ≡ number_entries (remove rows at)
row_out rows at row d l is rise fit =
    let es = number_entries rows in
    let there : row_entry row ≡ get_or es at (row_entry d) = ap row_entry is ∙ sym (entry_there rows at d l) in
    ap (λ (e : Entry). removed e es) there
    ∙ taken_at 0 es at (row_entry d) (omega (arith, l, length-entries rows)) (entries_rise rows rise fit) ∙ sym (entries_removed rows at l)

-- one put in
pub row_in : (rows : List Row) (at : ℕ) (new : Row) → at ≤ length rows → RowsRise 0 (insert rows at new) → AllFit key_bytes (number_entries rows)
    → FitsLeaf key_bytes (row_entry new) → entry_inserted (row_entry new) (number_entries rows) ≡ number_entries (insert rows at new)
row_in rows at new l rise fit own =
    let es = number_entries rows in
    let same = entries_inserted rows at new l in
    let within : at ≤ length es = omega (arith, l, length-entries rows) in
    let all : AllFit key_bytes (number_entries (insert rows at new)) = subst (AllFit key_bytes) (sym same)
    (fit_inserted es at (row_entry new) within fit own) in
    put_at 0 es at (row_entry new) within (subst IsRising same (entries_rise (insert rows at new) rise all)) ∙ sym same

-- rows put behind the others
pub rows_behind : (rows more : List Row) → RowsRise 0 (rows ++ more) → AllFit key_bytes (number_entries rows) → AllFit key_bytes (number_entries more)
    → inserted_all (number_entries more) (number_entries rows) ≡ number_entries (rows ++ more)
rows_behind rows more rise fit own =
    let es = number_entries rows in
    let same = map-append row_entry rows more in
    let all : AllFit key_bytes (number_entries (rows ++ more)) = subst (AllFit key_bytes) (sym same) (fit_joined es (number_entries more) fit own) in
    all_behind (number_entries more) es (subst IsRising same (entries_rise (rows ++ more) rise all)) ∙ sym same

-- one in the place of another
pub row_over : (rows : List Row) (at : ℕ) (row d new : Row) → at < length rows → row ≡ get_or rows at d → RowsRise 0 rows → RowsRise 0 (set rows at new)
    → AllFit key_bytes (number_entries rows) → FitsLeaf key_bytes (row_entry new)
    → entry_inserted (row_entry new) (removed (row_entry row) (number_entries rows)) ≡ number_entries (set rows at new)
row_over rows at row d new l is rise risen fit own =
    let es = number_entries rows in
    let same = map-set row_entry rows at new in
    let all : AllFit key_bytes (number_entries (set rows at new)) = subst (AllFit key_bytes) (sym same) (fit_set es at (row_entry new) fit own) in
    ap (entry_inserted (row_entry new)) (row_out rows at row d l is rise fit ∙ entries_removed rows at l)
    ∙ put_over 0 es at (row_entry new) (omega (arith, l, length-entries rows)) (subst IsRising same (entries_rise (set rows at new) risen all)) ∙ sym same

-- ENTRIES ONE AFTER ANOTHER
pub entries_next : (rows : List Row) (at : ℕ) (d : Row) (e : Entry) (run next : List Entry) → at < length rows → e ≡ row_entry (get_or rows at d)
    → run ≡ number_entries (take at rows) → next ≡ run ++ e ∷ [] → next ≡ number_entries (take (at + 1) rows)
entries_next rows at d e run next l is so_far pushed =
    let more : number_entries (take (at + 1) rows) ≡ number_entries (take at rows) ++ row_entry (get_or rows at d) ∷ []
    = ap number_entries (take_more rows at d l) ∙ map-append row_entry (take at rows) (get_or rows at d ∷ []) in
    pushed ∙ (λ i. so_far i ++ is i ∷ []) ∙ sym more

-- RUNS OF A CHANGE
-- rows of numbers one after another
ranged_rise : (first count from : ℕ) (rows : List Row) → ((value : ℕ) → from ≤ rank (number_key first, value)) → numbers_of_rows rows
    ≡ range_with_len first count
    → AllFit key_bytes (number_entries rows) → EntriesRiseFrom from (number_entries rows)
ranged_rise first count from [] above is fit = tt
ranged_rise first zero from (row ∷ rows) above is fit = cc
ranged_rise first (suc count) from (row ∷ rows) above is fit =
    let here : row.number ≡ first = cc in
    let later : numbers_of_rows rows ≡ range_with_len (first + 1) count = cc in (
      subst (λ (n : ℕ). from ≤ rank (number_key n, row.first)) (sym here) (above row.first),
      ranged_rise (first + 1) count (rank (row_entry row) + 1) rows
          (λ value. over row.number (first + 1) (256 ^ 28) row.first value (omega arith) (omega arith) fit.0.value) later fit.1,
    )

abbrev some_row : Row
some_row = record { number = 0; revision = 0; first = 0; length = 0 }

-- the entries of the rows behind others
pub come_behind : (was is more : List Row) (come : List Entry) → is ≡ was ++ more
    → come ≡ number_entries (take (length is - length was) (drop (length was) is)) → come ≡ number_entries more
come_behind was is more come joined comes =
    let count : length is - length was ≡ length more = omega (arith, ap length joined, length-append was more) in
    let behind : drop (length was) is ≡ more = ap (drop (length was)) joined ∙ drop-append_seam was more in
    comes ∙ (λ i. number_entries (take (count i) (behind i))) ∙ ap number_entries (take-length more)

module _ (was is more : List Row) (come : List Entry) (joined : is ≡ was ++ more) (come_more : come ≡ number_entries more)
    (own : AllFit key_bytes come) where
  fit_more : AllFit key_bytes (number_entries more)
  fit_more = subst (AllFit key_bytes) come_more own

  pub added_rise : (first count : ℕ) → numbers_of_rows more ≡ range_with_len first count → IsRising come
  added_rise first count numbers = subst IsRising (sym come_more) (ranged_rise first count 0 more (λ value. omega arith) numbers fit_more)

  pub added_entries : (gone : List Entry) → gone ≡ [] → RowsRise 0 is → AllFit key_bytes (number_entries was)
      → inserted_all come (removed_all gone (number_entries was)) ≡ number_entries is
  added_entries gone none rise fit =
      (λ i. inserted_all (come_more i) (removed_all (none i) (number_entries was)))
      ∙ rows_behind was more (subst (RowsRise 0) joined rise) fit fit_more ∙ ap number_entries (sym joined)

module _ (was is : List Row) (place : ℕ) (d : Row) (gone come : List Entry) (l : place < length was) (rise : RowsRise 0 was) (risen : RowsRise 0 is)
    (fit : AllFit key_bytes (number_entries was)) (own : AllFit key_bytes come) where
  pub put_entries : (row : Row) → is ≡ set was place row → PutsRuns (get_or was place d) row gone come
      → inserted_all come (removed_all gone (number_entries was)) ≡ number_entries is
  put_entries row put (inl (goes, comes)) =
      let own_new : AllFit key_bytes (row_entry row ∷ []) = subst (AllFit key_bytes) comes own in
      (λ i. inserted_all (comes i) (removed_all (goes i) (number_entries was)))
      ∙ row_over was place (get_or was place d) d row l refl rise (subst (RowsRise 0) put risen) fit own_new.0 ∙ ap number_entries (sym put)
  put_entries row put (inr (same, none, nothing)) =
      (λ i. inserted_all (nothing i) (removed_all (none i) (number_entries was))) ∙ sym (map-set_same row_entry was place row d same)
      ∙ ap number_entries (sym put)

  pub taken_entries : is ≡ remove was place → gone ≡ number_entries (get_or was place d ∷ []) → come ≡ []
      → inserted_all come (removed_all gone (number_entries was)) ≡ number_entries is
  taken_entries taken goes none =
      (λ i. inserted_all (none i) (removed_all (goes i) (number_entries was)))
      ∙ row_out was place (get_or was place d) d l refl rise fit ∙ ap number_entries (sym taken)

  pub moved_entries : (to : ℕ) (row : Row) → to ≤ length (remove was place) → is ≡ insert (remove was place) to row
      → gone ≡ number_entries (get_or was place d ∷ []) → come ≡ number_entries (row ∷ [])
      → inserted_all come (removed_all gone (number_entries was)) ≡ number_entries is
  moved_entries to row there moved goes comes =
      let own_new : AllFit key_bytes (row_entry row ∷ []) = subst (AllFit key_bytes) comes own in
      let left = remove was place in
      let es = number_entries was in
      let same = entries_removed was place l in
      let fewer : AllFit key_bytes (number_entries left) = subst (AllFit key_bytes) (sym same)
      (fit_removed es place (omega (arith, l, length-entries was)) fit) in
      (λ i. inserted_all (comes i) (removed_all (goes i) es)) ∙ ap (entry_inserted (row_entry row)) (row_out was place (get_or was place d) d l refl rise fit)
      ∙ row_in left to row there (subst (RowsRise 0) moved risen) fewer own_new.0 ∙ ap number_entries (sym moved)
