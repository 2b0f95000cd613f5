-- The entries of texts, as they come, and in order.
use Rattle.std.proofs.Common.{◌≡◌, ℕ, suc, ◌+◌, ◌^◌, ◌<◌, ◌≤◌, Bool, false, List, [], ◌∷◌, ◌++◌, length, get_or, drop}
use Rattle.std.proofs.Common.{arith, inl, inr, refl, subst, sym, ap, ◌∙◌, append-nil, append_assoc, add-one, drop-cons}
use Rattle.std.specs.Option.{MatchOption, option_to_list}
use Rattle.std.specs.Prelude.{◌==◌, None, Option, Some}
use Rattle.std.specs.List.{AllByRecursion, Contains, IsDistinct}
use Rattle.std.specs.List.Sorted.{IsNonDecreasingBy, IsPermutation}
use Rattle.std.proofs.lemmas.Bool.Decides.{nat_tests}
use Rattle.std.proofs.lemmas.List.{drop_all}
use Rattle.std.proofs.lemmas.List.Sorted.{Contains-permutation, IsPermutation-sym}
use Rattle.std.proofs.lemmas.Map.Keys.{IsDistinct-cons, IsDistinct-head, IsDistinct-tail, IsDistinct-IsPermutation, IsDistinct-from_apart, apart_from_distinct}
use Rattle.index_keys.specs.Entries.{AllFit, Entry, FitsLeaf, IsRising, rank, EntriesRiseFrom}
use Rattle.index_keys.specs.Holdings.{AreSmall}
use Rattle.index_keys.specs.KeyLists.{KeysRise}
use Rattle.index_keys.proofs.Members.{contains_cases, contains_either, contains_first, contains_later, contains_left, contains_map, contains_none}
use Rattle.index_keys.proofs.Members.{contains_right, for_each}
use Rattle.tune_index.proofs.Codec.{AllFit-push}
use Rattle.tune_search.specs.IncipitRuns.{NumbersRise}
use Rattle.tune_search.specs.Inside.TextEntries.{entries_at_keys, entries_of_tunes}
use Rattle.tune_search.specs.Searches.{IsRunOf, texts_numbered}

-- AS THEY COME
-- one key more
pub key_more : (number i : ℕ) (keys : List ℕ) (key : ℕ) (entry : Entry) (run next all : List Entry) → i < length keys → key ≡ get_or keys i key
    → entry ≡ (key, number) → next ≡ run ++ entry ∷ []
    → run ++ entries_at_keys number (drop i keys) ≡ all
    → next ++ entries_at_keys number (drop (i + 1) keys) ≡ all
key_more number i keys key entry run next all l is made pushed e =
    let more : drop i keys ≡ key ∷ drop (suc i) keys = drop-cons keys i key l ∙ ap (λ (k : ℕ). k ∷ drop (suc i) keys) (sym is) in
    rw (pushed, made, append_assoc, add-one) (rw more at e)

-- one text more
pub text_more : (keys_of : List ℕ → List ℕ) (first i : ℕ) (texts : List (List ℕ)) (text : List ℕ) (run next all : List Entry)
    → i < length texts → text ≡ get_or texts i text → next ≡ run ++ entries_at_keys (first + i) (keys_of text)
    → run ++ entries_of_tunes keys_of (texts_numbered (first + i) (drop i texts)) ≡ all
    → next ++ entries_of_tunes keys_of (texts_numbered (first + (i + 1)) (drop (i + 1) texts)) ≡ all
text_more keys_of first i texts text run next all l is added e =
    let n : first + (i + 1) ≡ first + i + 1 = omega arith in
    let more : drop i texts ≡ text ∷ drop (suc i) texts = drop-cons texts i text l ∙ ap (λ (t : List ℕ). t ∷ drop (suc i) texts) (sym is) in
    rw (added, append_assoc, n, add-one i) (rw more at e)

-- the entries of the texts in front of a place came in, and all of them fit
pub record Gathered (width : ℕ) (keys_of : List ℕ → List ℕ) (first place : ℕ) (texts : List (List ℕ)) (run : List Entry) : Type 0 where
  pub added : run ++ entries_of_tunes keys_of (texts_numbered (first + place) (drop place texts)) ≡ entries_of_tunes keys_of (texts_numbered first texts)
  pub fit : AllFit width run

pub gathered_more : (width : ℕ) (keys_of : List ℕ → List ℕ) (first i : ℕ) (texts : List (List ℕ)) (text keys : List ℕ) (run next : List Entry)
    → i < length texts → text ≡ get_or texts i text → keys ≡ keys_of text → next ≡ run ++ entries_at_keys (first + i) keys
    → (AllFit width run → AllFit width next) → Gathered width keys_of first i texts run → Gathered width keys_of first (i + 1) texts next
gathered_more width keys_of first i texts text keys run next l is own more fit so_far = record {
  added = text_more keys_of first i texts text run next (entries_of_tunes keys_of (texts_numbered first texts)) l is
      (more ∙ ap (λ (ks : List ℕ). run ++ entries_at_keys (first + i) ks) own) so_far.added;
  fit = fit so_far.fit;
}

-- the entries of tunes and of one behind them
pub tune_more : (keys_of : List ℕ → List ℕ) (tunes : List (ℕ × List ℕ)) (number : ℕ) (text : List ℕ)
    → entries_of_tunes keys_of (tunes ++ (number, text) ∷ []) ≡ entries_of_tunes keys_of tunes ++ entries_at_keys number (keys_of text)
tune_more keys_of [] number text = append-nil (entries_at_keys number (keys_of text))
tune_more keys_of (tune ∷ tunes) number text = rw (tune_more keys_of tunes number text, append_assoc) refl

-- so the entries of one tune more lie behind those of the others
pub gathered_one : (keys_of : List ℕ → List ℕ) (tunes : List (ℕ × List ℕ)) (number : ℕ) (text keys : List ℕ) (run next : List Entry)
    → keys ≡ keys_of text → next ≡ run ++ entries_at_keys number keys → run ≡ entries_of_tunes keys_of tunes
    → next ≡ entries_of_tunes keys_of (tunes ++ (number, text) ∷ [])
gathered_one keys_of tunes number text keys run next own more so_far =
    more ∙ ap (λ (ks : List ℕ). run ++ entries_at_keys number ks) own ∙ ap (λ (es : List Entry). es ++ entries_at_keys number (keys_of text)) so_far
    ∙ sym (tune_more keys_of tunes number text)

-- what a slice of an option shows
pub shown_alone : (key : Option ℕ) (keys : List ℕ) → MatchOption key (keys ≡ []) (λ one. keys ≡ one ∷ []) → keys ≡ option_to_list key
shown_alone None keys is = is
shown_alone (Some one) keys is = is

-- no text more
text_none : (keys_of : List ℕ → List ℕ) (first i : ℕ) (texts : List (List ℕ)) (run all : List Entry) → length texts ≤ i
    → run ++ entries_of_tunes keys_of (texts_numbered (first + i) (drop i texts)) ≡ all → run ≡ all
text_none keys_of first i texts run all l e =
    let none : drop i texts ≡ [] = drop_all i texts l in
    let last : run ++ [] ≡ all = rw none at e in
    rw append-nil at last

-- all of them fit
pub fit_more : (width : ℕ) (entry : Entry) (run next : List Entry) → next ≡ run ++ entry ∷ [] → AllFit width run → FitsLeaf width entry
    → AllFit width next
fit_more width entry run next pushed all one = rw pushed (AllFit-push width run entry all one)

pub fits_at : (width : ℕ) (es : List Entry) (e : Entry) → AllFit width es → Contains es e → FitsLeaf width e
fits_at width [] e fit at = absurd (contains_none e at)
fits_at width (x ∷ xs) e fit at = elim (contains_cases x xs e at) [
  | inl here ↦ subst (λ (z : Entry). FitsLeaf width z) here fit.0
  | inr later ↦ fits_at width xs e fit.1 later
]

fit_each : (width : ℕ) (es : List Entry) → ((e : Entry) → Contains es e → FitsLeaf width e) → AllFit width es
fit_each width [] f = tt
fit_each width (x ∷ xs) f = (f x (contains_first x xs), fit_each width xs (λ e at. f e (contains_later x xs e at)))

-- WHOSE THEY ARE
at_each : (number : ℕ) (keys : List ℕ) (e : Entry) → Contains (entries_at_keys number keys) e → (number ≡ e.1) × Contains keys e.0
at_each number [] e at = absurd (contains_none e at)
at_each number (key ∷ keys) e at = elim (contains_cases (key, number) (entries_at_keys number keys) e at) [
  | inl here ↦ (ap (λ (z : Entry). z.1) here, subst (λ (z : Entry). Contains (key ∷ keys) z.0) here (contains_first key keys))
  | inr later ↦ let r = at_each number keys e later in (r.0, contains_later key keys e.0 r.1)
]

pub held_in : (keys_of : List ℕ → List ℕ) (tunes : List (ℕ × List ℕ)) (tune : ℕ × List ℕ) (key : ℕ) → Contains tunes tune
    → Contains (keys_of tune.1) key → Contains {X = Entry} (entries_of_tunes keys_of tunes) (key, tune.0)
held_in keys_of [] tune key at has = absurd (contains_none tune at)
held_in keys_of (one ∷ tunes) tune key at has =
    let own = entries_at_keys one.0 (keys_of one.1) in
    let rest = entries_of_tunes keys_of tunes in
    elim (contains_cases one tunes tune at) [
      | inl here ↦
          let k : Contains (keys_of one.1) key = subst (λ (t : ℕ × List ℕ). Contains (keys_of t.1) key) (sym here) has in
          let put : Contains {X = Entry} (own ++ rest) (key, one.0) =
          contains_left own rest (key, one.0) (contains_map (λ (n : ℕ). (n, one.0)) (keys_of one.1) key k) in
          subst (λ (t : ℕ × List ℕ). Contains {X = Entry} (own ++ rest) (key, t.0)) here put
      | inr later ↦ contains_right own rest (key, tune.0) (held_in keys_of tunes tune key later has)
    ]

whose : (keys_of : List ℕ → List ℕ) (tunes : List (ℕ × List ℕ)) (e : Entry) → Contains (entries_of_tunes keys_of tunes) e
    → (tune : ℕ × List ℕ) × Contains tunes tune × (tune.0 ≡ e.1) × Contains (keys_of tune.1) e.0
whose keys_of [] e at = absurd (contains_none e at)
whose keys_of (one ∷ tunes) e at =
    elim (contains_either (entries_at_keys one.0 (keys_of one.1)) (entries_of_tunes keys_of tunes) e at) [
      | inl own ↦ let r = at_each one.0 (keys_of one.1) e own in (one, contains_first one tunes, r.0, r.1)
      | inr rest ↦ let r = whose keys_of tunes e rest in (r.0, contains_later one tunes r.0 r.1, r.2, r.3)
    ]

-- EACH ONCE
abbrev Same : Entry → Entry → Bool
Same x y = rank x == rank y

same_flips : (x y : Entry) → Same x y ≡ Same y x
same_flips x y = grind (arith, nat_tests)

other_key : (key next number : ℕ) → key < next → Same (key, number) (next, number) ≡ false
other_key key next number l = grind (arith, nat_tests)

other_number : (x y : Entry) → x.1 < y.1 → y.1 < 2 ^ 32 → Same x y ≡ false
other_number x y l m = grind (arith, nat_tests)

keys_apart : (number key low : ℕ) (keys : List ℕ) → key < low → KeysRise low keys
    → AllByRecursion (λ e. Same (key, number) e ≡ false) (entries_at_keys number keys)
keys_apart number key low [] l rise = tt
keys_apart number key low (next ∷ keys) l rise =
    (other_key key next number (let b = rise.0 in omega arith), keys_apart number key (next + 1) keys (let b = rise.0 in omega arith) rise.1)

keys_once : (number low : ℕ) (keys : List ℕ) → KeysRise low keys → IsDistinct Same (entries_at_keys number keys)
keys_once number low [] rise = IsDistinct-from_apart Same [] (λ i j d l m. absurd (omega arith))
keys_once number low (key ∷ keys) rise =
    IsDistinct-cons Same (key, number) (entries_at_keys number keys) (keys_apart number key (key + 1) keys (omega arith) rise.1)
    (keys_once number (key + 1) keys rise.1)

all_end_to_end : (P : Entry → Type 0) (xs ys : List Entry) → AllByRecursion P xs → AllByRecursion P ys → AllByRecursion P (xs ++ ys)
all_end_to_end P [] ys a b = b
all_end_to_end P (x ∷ xs) ys a b = (a.0, all_end_to_end P xs ys a.1 b)

once_end_to_end : (xs ys : List Entry) → IsDistinct Same xs → IsDistinct Same ys
    → ((x y : Entry) → Contains xs x → Contains ys y → Same x y ≡ false) → IsDistinct Same (xs ++ ys)
once_end_to_end [] ys a b apart = b
once_end_to_end (x ∷ xs) ys a b apart =
    IsDistinct-cons Same x (xs ++ ys)
    (all_end_to_end (λ e. Same x e ≡ false) xs ys (IsDistinct-head Same x xs a)
    (for_each (λ e. Same x e ≡ false) ys (λ e at. apart x e (contains_first x xs) at)))
    (once_end_to_end xs ys (IsDistinct-tail Same x xs a) b (λ z y at there. apart z y (contains_later x xs z at) there))

-- the numbers of tunes
numbers_from : (low : ℕ) (tunes : List (ℕ × List ℕ)) (tune : ℕ × List ℕ) → NumbersRise low tunes → Contains tunes tune → low ≤ tune.0
numbers_from low [] tune rise at = absurd (contains_none tune at)
numbers_from low (one ∷ tunes) tune rise at = elim (contains_cases one tunes tune at) [
  | inl here ↦ let b : low ≤ one.0 = rise.0 in let n : one.0 ≡ tune.0 = ap (λ (t : ℕ × List ℕ). t.0) here in omega arith
  | inr later ↦ let b : low ≤ one.0 = rise.0 in let n : one.0 + 1 ≤ tune.0 = numbers_from (one.0 + 1) tunes tune rise.1 later in omega arith
]

-- no entry comes twice where the numbers of tunes rise, since the keys of each tune do
tunes_once : (keys_of : List ℕ → List ℕ) (low : ℕ) (tunes : List (ℕ × List ℕ)) → ((text : List ℕ) → KeysRise 0 (keys_of text))
    → NumbersRise low tunes → AreSmall tunes → IsDistinct Same (entries_of_tunes keys_of tunes)
tunes_once keys_of low [] rise numbers small = IsDistinct-from_apart Same [] (λ i j d l m. absurd (omega arith))
tunes_once keys_of low (one ∷ tunes) rise numbers small =
    let own = entries_at_keys one.0 (keys_of one.1) in
    let rest = entries_of_tunes keys_of tunes in
    let fewer : AreSmall tunes = λ tune at. small tune (contains_later one tunes tune at) in
    once_end_to_end own rest (keys_once one.0 0 (keys_of one.1) (rise one.1)) (tunes_once keys_of (one.0 + 1) tunes rise numbers.1 fewer)
    (λ x y at there.
    let here = at_each one.0 (keys_of one.1) x at in
    let tune = whose keys_of tunes y there in
    let same : tune.0.0 ≡ y.1 = tune.2 in
    let own : one.0 ≡ x.1 = here.0 in
    let above : one.0 + 1 ≤ tune.0.0 = numbers_from (one.0 + 1) tunes tune.0 numbers.1 tune.1 in
    let high : tune.0.0 < 2 ^ 32 = fewer tune.0 tune.1 in
    other_number x y (omega arith) (omega arith))

-- the numbers of texts rise, and are small where the last one is
texts_rise : (first : ℕ) (texts : List (List ℕ)) → NumbersRise first (texts_numbered first texts)
texts_rise first [] = tt
texts_rise first (text ∷ texts) = (omega arith, texts_rise (first + 1) texts)

texts_small : (first : ℕ) (texts : List (List ℕ)) → first + length texts ≤ 2 ^ 32 → AreSmall (texts_numbered first texts)
texts_small first [] l tune at = absurd (contains_none tune at)
texts_small first (text ∷ texts) l tune at = elim (contains_cases (first, text) (texts_numbered (first + 1) texts) tune at) [
  | inl here ↦ let n : first ≡ tune.0 = ap (λ (t : ℕ × List ℕ). t.0) here in omega arith
  | inr later ↦ texts_small (first + 1) texts (omega arith) tune later
]

-- IN ORDER
rises_by_places : (low : ℕ) (es : List Entry) → ((d : Entry) → 0 < length es → low ≤ rank (get_or es 0 d))
    → ((i j : ℕ) (d : Entry) → i < j → j < length es → rank (get_or es i d) < rank (get_or es j d)) → EntriesRiseFrom low es
rises_by_places low [] from up = tt
rises_by_places low (e ∷ es) from up = (
  from e (omega arith),
  rises_by_places (rank e + 1) es (λ d l. let n = up 0 1 d (omega arith) (omega arith) in omega arith)
      (λ i j d l m. up (suc i) (suc j) d (omega arith) (omega arith)),
)

less : (x y : Entry) → rank x ≤ rank y → Same x y ≡ false → rank x < rank y
less x y l apart = grind (arith, nat_tests)

sorted_rises : (es : List Entry) → IsNonDecreasingBy rank es → IsDistinct Same es → IsRising es
sorted_rises es sorted once =
    rises_by_places 0 es (λ d l. omega arith)
    (λ i j d l m. less (get_or es i d) (get_or es j d) (sorted i j d (omega arith) m) (apart_from_distinct Same es i j d once l m))

-- THE RUN
-- the entries of tunes by rising number, sorted
pub run_of_tunes : (width : ℕ) (keys_of : List ℕ → List ℕ) (low : ℕ) (tunes : List (ℕ × List ℕ)) (es run : List Entry)
    → ((text : List ℕ) → KeysRise 0 (keys_of text)) → NumbersRise low tunes → AreSmall tunes → es ≡ entries_of_tunes keys_of tunes
    → AllFit width es → IsPermutation es run → IsNonDecreasingBy rank run → IsRunOf width keys_of tunes run
run_of_tunes width keys_of low tunes es run rise numbers small is fit moved sorted =
    let once : IsDistinct Same es = rw is (tunes_once keys_of low tunes rise numbers small) in
    let back = IsPermutation-sym es run moved in
    record {
      rising = sorted_rises run sorted (IsDistinct-IsPermutation Same same_flips es run moved once);
      exact = record {
        held = λ tune key at has.
            let came : Contains {X = Entry} es (key, tune.0) = rw is (held_in keys_of tunes tune key at has) in
            Contains-permutation es run (key, tune.0) moved came;
        only = λ e at. whose keys_of tunes e (rw is at (Contains-permutation run es e back at));
      };
      fit = fit_each width run (λ e at. fits_at width es e fit (Contains-permutation run es e back at));
    }

-- the entries of texts, sorted
pub is_run_of : (width : ℕ) (keys_of : List ℕ → List ℕ) (first i : ℕ) (texts : List (List ℕ)) (es run : List Entry)
    → ((text : List ℕ) → KeysRise 0 (keys_of text)) → first + length texts ≤ 2 ^ 32 → length texts ≤ i → Gathered width keys_of first i texts es
    → IsPermutation es run → IsNonDecreasingBy rank run → IsRunOf width keys_of (texts_numbered first texts) run
is_run_of width keys_of first i texts es run rise l at_end gathered moved sorted =
    let tunes = texts_numbered first texts in
    run_of_tunes width keys_of first tunes es run rise (texts_rise first texts) (texts_small first texts l)
    (text_none keys_of first i texts es (entries_of_tunes keys_of tunes) at_end gathered.added) gathered.fit moved sorted
