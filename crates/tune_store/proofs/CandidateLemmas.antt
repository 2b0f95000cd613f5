-- What is found at places among which is that of each tune that a query finds.
use Rattle.std.proofs.Common.{◌≡◌, ◌⊎◌, inl, inr, ℕ, zero, suc, ◌+◌, ◌-◌, ◌<◌, ◌≤◌, ◌++◌, Bool, true, false, List, [], ◌∷◌, length, get_or, drop, drop-cons}
use Rattle.std.proofs.Common.{refl, ap, sym, ◌∙◌, add-one, append_assoc, arith}
use Rattle.std.proofs.Math.ListN.{drop_of_length-le}
use Rattle.std.proofs.lemmas.Bool.{cases_Bool}
use Rattle.std.proofs.lemmas.List.FromFn.{length-range_with_len, get_or-range_with_len}
use Rattle.std.specs.List.{Contains, range_with_len}
use Rattle.tune_queries.specs.Queries.{matches, finds}
use Rattle.tune_queries.specs.declared.queries.Query.{Query}
use Rattle.tune_queries.specs.declared.sought.Sought.{Sought}
use Rattle.tune_store.specs.Candidates.{PlacesRise, HoldsFound}
use Rattle.tune_store.specs.Questions.{found}
use Rattle.tune_store.specs.declared.tune.Tune.{Tune}
use Rattle.tune_store.specs.declared.index_rows.IndexRow.{IndexRow}
use Rattle.tune_store.proofs.PlanLemmas.{no_tune}
use Rattle.tune_store.proofs.QuestionLemmas.{row_if, found_first}

-- ALL PLACES
-- one place more
pub range_next : (first count : ℕ) → range_with_len first (suc count) ≡ range_with_len first count ++ (first + count) ∷ []
range_next first zero = let e : first ≡ first + 0 = omega arith in ap (λ n. n ∷ []) e
range_next first (suc count) =
    let e : first + 1 + count ≡ first + suc count = omega arith in
    ap (λ numbers. first ∷ numbers) (range_next (first + 1) count ∙ ap (λ n. range_with_len (first + 1) count ++ n ∷ []) e)

-- they rise
pub range_rises : (low count many : ℕ) → low + count ≤ many → PlacesRise low many (range_with_len low count)
range_rises low zero many h = tt
range_rises low (suc count) many h = (omega arith, omega arith, range_rises (low + 1) count many (omega arith))

-- and each is among them
pub range_has : (count place : ℕ) → place < count → Contains (range_with_len 0 count) place
range_has count place h =
    let long = length-range_with_len 0 count in
    (place, omega (arith, long), get_or-range_with_len 0 count place place h ∙ omega arith)

-- RISING PLACES
first_or_later : (y : ℕ) (xs : List ℕ) (x : ℕ) → Contains (y ∷ xs) x → (y ≡ x) ⊎ Contains xs x
first_or_later y xs x (zero, l, e) = inl e
first_or_later y xs x (suc k, l, e) = inr (k, omega arith, e)

none_in_none : (x : ℕ) → Contains [] x → ⊥
none_in_none x (k, l, e) = omega arith

-- none of them is lower
not_below : (low count : ℕ) (places : List ℕ) (place : ℕ) → PlacesRise low count places → Contains places place → low ≤ place
not_below low count [] place rise has = absurd (none_in_none place has)
not_below low count (first ∷ places) place rise has = elim (first_or_later first places place has) [
  | inl here ↦ let le = rise.0 in omega arith
  | inr later ↦ let le = rise.0 in let more = not_below (first + 1) count places place rise.2 later in omega arith
]

-- FIND
-- the rows of those at these places
abbrev pub rows_at_places : ℕ → Query → List Tune → List ℕ → List IndexRow
rows_at_places notes query tunes [] = []
rows_at_places notes query tunes (place ∷ places) =
    row_if (matches notes query (get_or tunes place no_tune).text) (get_or tunes place no_tune).number (get_or tunes place no_tune).text
    ++ rows_at_places notes query tunes places

-- the found from a place on
found_from : (notes : ℕ) (query : Query) (tunes : List Tune) (place : ℕ) → place < length tunes
    → found notes query (drop place tunes)
    ≡ row_if (matches notes query (get_or tunes place no_tune).text) (get_or tunes place no_tune).number (get_or tunes place no_tune).text
    ++ found notes query (drop (place + 1) tunes)
found_from notes query tunes place l =
    let splits : drop place tunes ≡ get_or tunes place no_tune ∷ drop (place + 1) tunes = rw add-one (drop-cons tunes place no_tune l) in
    rw splits (found_first notes query (get_or tunes place no_tune) (drop (place + 1) tunes))

-- where none of some tunes is found, they do not matter
none_found : (notes : ℕ) (query : Query) (tunes : List Tune) (count low : ℕ) → low + count ≤ length tunes
    → ((place : ℕ) → low ≤ place → place < low + count → matches notes query (get_or tunes place no_tune).text ≡ false)
    → found notes query (drop low tunes) ≡ found notes query (drop (low + count) tunes)
none_found notes query tunes zero low l none = let e : low ≡ low + 0 = omega arith in ap (λ n. found notes query (drop n tunes)) e
none_found notes query tunes (suc count) low l none =
    let e : low + 1 + count ≡ low + suc count = omega arith in
    let first = none low (omega arith) (omega arith) in
    let here : found notes query (drop low tunes) ≡ found notes query (drop (low + 1) tunes) =
    found_from notes query tunes low (omega arith)
    ∙ ap (λ b. row_if b (get_or tunes low no_tune).number (get_or tunes low no_tune).text ++ found notes query (drop (low + 1) tunes)) first in
    here ∙ none_found notes query tunes count (low + 1) (omega arith) (λ place a b. none place (omega arith) (omega arith))
    ∙ ap (λ n. found notes query (drop n tunes)) e

-- what is found from a place on is found at places among which are those of all that match
found_at_places : (notes : ℕ) (query : Query) (tunes : List Tune) (low : ℕ) (places : List ℕ) → low ≤ length tunes → PlacesRise low (length tunes) places
    → ((place : ℕ) → low ≤ place → place < length tunes → matches notes query (get_or tunes place no_tune).text ≡ true → Contains places place)
    → found notes query (drop low tunes) ≡ rows_at_places notes query tunes places
found_at_places notes query tunes low [] l rise all =
    let rest = length tunes - low in
    let none : (place : ℕ) → low ≤ place → place < low + rest → matches notes query (get_or tunes place no_tune).text ≡ false =
    λ place a b. elim (cases_Bool (matches notes query (get_or tunes place no_tune).text)) [
      | inl found ↦ absurd (none_in_none place (all place a (omega arith) found))
      | inr other ↦ other
    ] in
    let ends : drop (low + rest) tunes ≡ [] = drop_of_length-le tunes (omega arith) in
    none_found notes query tunes rest low (omega arith) none ∙ ap (found notes query) ends
found_at_places notes query tunes low (place ∷ places) l rise all =
    let le = rise.0 in let within = rise.1 in
    let gap = place - low in
    let none : (other : ℕ) → low ≤ other → other < low + gap → matches notes query (get_or tunes other no_tune).text ≡ false =
    λ other a b. elim (cases_Bool (matches notes query (get_or tunes other no_tune).text)) [
      | inl found ↦ absurd (elim (first_or_later place places other (all other a (omega arith) found)) [
        | inl here ↦ omega arith
        | inr later ↦ let more = not_below (place + 1) (length tunes) places other rise.2 later in omega arith
      ])
      | inr none_here ↦ none_here
    ] in
    let e : low + gap ≡ place = omega arith in
    let later : (other : ℕ) → place + 1 ≤ other → other < length tunes → matches notes query (get_or tunes other no_tune).text ≡ true → Contains places other =
    λ other a b found. elim (first_or_later place places other (all other (omega arith) b found)) [
      | inl here ↦ absurd (omega arith)
      | inr c ↦ c
    ] in
    let one = row_if (matches notes query (get_or tunes place no_tune).text) (get_or tunes place no_tune).number (get_or tunes place no_tune).text in
    none_found notes query tunes gap low (omega arith) none ∙ ap (λ n. found notes query (drop n tunes)) e ∙ found_from notes query tunes place within
    ∙ ap (λ rows. one ++ rows) (found_at_places notes query tunes (place + 1) places (omega arith) rise.2 later)

-- so of all tunes
pub found_at : (notes : ℕ) (query : Query) (sought : Sought) (tunes : List Tune) (places : List ℕ) → PlacesRise 0 (length tunes) places
    → HoldsFound notes sought tunes places → ((text : List ℕ) → finds notes sought text ≡ matches notes query text)
    → found notes query tunes ≡ rows_at_places notes query tunes places
found_at notes query sought tunes places rise holds same =
    found_at_places notes query tunes 0 places (omega arith) rise (λ place a b found. holds place no_tune b (same (get_or tunes place no_tune).text ∙ found))

-- THE LOOP
-- the rows with that of the next place
pub found_next_place : (notes : ℕ) (query : Query) (finds : Bool) (tunes : List Tune) (places : List ℕ) (i : ℕ) (rows new all : List IndexRow)
    → i < length places → finds ≡ matches notes query (get_or tunes (get_or places i 0) no_tune).text
    → new ≡ rows ++ row_if finds (get_or tunes (get_or places i 0) no_tune).number (get_or tunes (get_or places i 0) no_tune).text
    → rows ++ rows_at_places notes query tunes (drop i places) ≡ all → new ++ rows_at_places notes query tunes (drop (i + 1) places) ≡ all
found_next_place notes query finds tunes places i rows new all l same added before =
    let splits : drop i places ≡ get_or places i 0 ∷ drop (i + 1) places = rw add-one (drop-cons places i 0 l) in
    let rest = rows_at_places notes query tunes (drop (i + 1) places) in
    let part = row_if finds (get_or tunes (get_or places i 0) no_tune).number (get_or tunes (get_or places i 0) no_tune).text in
    let e : rows_at_places notes query tunes (drop i places) ≡ part ++ rest = rw (splits, same) refl in
    ap (λ list. list ++ rest) added ∙ append_assoc rows part rest ∙ ap (λ list. rows ++ list) (sym e) ∙ before

-- each of rising places is below the count
pub within_count : (low count : ℕ) (places : List ℕ) (i : ℕ) → PlacesRise low count places → i < length places → get_or places i 0 < count
within_count low count [] i rise l = absurd (omega arith)
within_count low count (place ∷ places) zero rise l = rise.1
within_count low count (place ∷ places) (suc i) rise l = within_count (place + 1) count places i rise.2 (omega arith)
