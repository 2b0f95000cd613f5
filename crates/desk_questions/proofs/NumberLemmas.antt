-- The numbers of the tunes that pass a test.
use Rattle.std.proofs.Common.{◌≡◌, ℕ, ◌+◌, ◌<◌, ◌≤◌, Bool, true, false, cond, not, ◌&&◌, ◌||◌, eqb, ltb, List, [], ◌∷◌, ◌++◌, length, map}
use Rattle.std.proofs.Common.{Some, Result, Ok, Err, is_ok, get_or, refl, sym, ap, ◌∙◌, subst, inl, inr, arith}
use Rattle.std.specs.Prelude.{◌==◌, filter}
use Rattle.std.specs.List.{list_any, list_all, AllByRecursion}
use Rattle.std.specs.Option.{option_map_or}
use Rattle.std.proofs.lemmas.Bool.{cases_Bool, eq-eqb, ne_eqb, eqb-true, ltb-true, ltb-false}
use Rattle.std.proofs.lemmas.List.Folds.{list_any-append, list_any_at, list_any_none}
use Rattle.std.proofs.lemmas.List.Sorted.{searched}
use Rattle.std.proofs.lemmas.List.{get_or_default}
use Rattle.std.specs.List.Sorted.{IsBinarySearchResult, IsNonDecreasing}
use Rattle.abc_fields.specs.Fields.{titles_of}
use Rattle.tune_titles.specs.Order.{PlacedTitle, row_order, in_order, put_in}
use Rattle.tune_titles.specs.Titles.{index_title}
use Rattle.std.specs.declared.cmp.Ordering.{Ordering}
use Rattle.std.specs.Ordering.{is_lt, nat_cmp}
use Rattle.tune_store.specs.State.{State, NumbersRiseFrom}
use Rattle.tune_store.specs.Questions.{row_of, titles_from, all_titles, title_row, titled}
use Rattle.tune_store.specs.declared.tune.Tune.{Tune}
use Rattle.tune_store.specs.declared.index_rows.IndexRow.{IndexRow}
use Rattle.desk_questions.specs.Conditions.{gives, has_title}
use Rattle.desk_terms.specs.declared.condition.Condition.{Condition}
use Rattle.desk_questions.specs.Inside.QuestionCalls.{has_number, passes, has_some_title, has_row_title}

-- BOOLEANS
or_false : (b : Bool) → (b || false) ≡ b
or_false true = refl
or_false false = refl

and_false : (b : Bool) → (b && false) ≡ false
and_false true = refl
and_false false = refl

or_assoc : (a b c : Bool) → ((a || b) || c) ≡ (a || (b || c))
or_assoc true b c = refl
or_assoc false b c = refl

and_true_then : (a : Bool) {u v : Bool} → u ≡ v → (a || u) ≡ ((a && true) || v)
and_true_then true h = refl
and_true_then false h = h

or_swap : (a b c : Bool) {u : Bool} → u ≡ (b || c) → (a || u) ≡ (b || (a || c))
or_swap true true c h = refl
or_swap true false c h = refl
or_swap false b c h = h

-- TESTS OF LISTS
pub any_same : {X : Type 0} (p q : X → Bool) → ((x : X) → p x ≡ q x) → (xs : List X) → list_any p xs ≡ list_any q xs
any_same p q h [] = refl
any_same p q h (x ∷ xs) = let e = h x in let f = any_same p q h xs in cc

pub any_map : {X Y : Type 0} (p : Y → Bool) (f : X → Y) (xs : List X) → list_any p (map f xs) ≡ list_any (λ x. p (f x)) xs
any_map p f [] = refl
any_map p f (x ∷ xs) = ap (λ b. p (f x) || b) (any_map p f xs)

any_filter : {X : Type 0} (p q : X → Bool) (xs : List X) → list_any p (filter q xs) ≡ list_any (λ x. p x && q x) xs
any_filter p q [] = refl
any_filter p q (x ∷ xs) = by (any_filter p q xs) (q x) refl
  where
    by : list_any p (filter q xs) ≡ list_any (λ x. p x && q x) xs → (b : Bool) → q x ≡ b
        → list_any p (filter q (x ∷ xs)) ≡ list_any (λ x. p x && q x) (x ∷ xs)
    by rest true e = rw e (and_true_then (p x) rest)
    by rest false e = rw e (rw (and_false (p x)) rest)

any_or : {X : Type 0} (p q : X → Bool) (xs : List X) → list_any (λ x. p x || q x) xs ≡ (list_any p xs || list_any q xs)
any_or p q [] = refl
any_or p q (x ∷ xs) = swap (p x) (q x) (list_any p xs) (list_any q xs) (any_or p q xs)
  where
    swap : (a b c d : Bool) {u : Bool} → u ≡ (c || d) → ((a || b) || u) ≡ ((a || c) || (b || d))
    swap true b c d h = refl
    swap false true true d h = refl
    swap false true false d h = refl
    swap false false c d h = h

-- an element put in its place is one more
any_put : {X : Type 0} (cmp : X → X → Ordering) (p : X → Bool) (x : X) (xs : List X) → list_any p (put_in cmp x xs) ≡ (p x || list_any p xs)
any_put cmp p x [] = refl
any_put cmp p x (first ∷ xs) = by (any_put cmp p x xs) (is_lt (cmp first x)) refl
  where
    by : list_any p (put_in cmp x xs) ≡ (p x || list_any p xs) → (b : Bool) → is_lt (cmp first x) ≡ b
        → list_any p (put_in cmp x (first ∷ xs)) ≡ (p x || list_any p (first ∷ xs))
    by rest true e = rw e (or_swap (p first) (p x) (list_any p xs) rest)
    by rest false e = rw e refl

any_in_order : {X : Type 0} (cmp : X → X → Ordering) (p : X → Bool) (xs : List X) → list_any p (in_order cmp xs) ≡ list_any p xs
any_in_order cmp p [] = refl
any_in_order cmp p (x ∷ xs) = any_put cmp p x (in_order cmp xs) ∙ ap (λ b. p x || b) (any_in_order cmp p xs)

-- NUMBERS
pub among_more : (a b : List ℕ) (number : ℕ) → has_number (a ++ b) number ≡ (has_number a number || has_number b number)
among_more a b number = list_any-append _ a b

-- the numbers of the tunes that pass
pub among_passed : (test : List ℕ → Bool) (tunes : List Tune) (number : ℕ)
    → has_number (map (λ (row : IndexRow). row.number) (map row_of (filter (λ (tune : Tune). test tune.text) tunes))) number ≡ passes test tunes number
among_passed test tunes number =
    any_map (λ other. other == number) (λ (row : IndexRow). row.number) (map row_of (filter (λ (tune : Tune). test tune.text) tunes))
    ∙ any_map (λ (row : IndexRow). row.number == number) row_of (filter (λ (tune : Tune). test tune.text) tunes)
    ∙ any_filter (λ (tune : Tune). tune.number == number) (λ (tune : Tune). test tune.text) tunes

-- TITLES

-- the titles of one tune
hits_from : (condition : Condition) (number other place : ℕ) (titles : List (List ℕ))
    → list_any (λ row. (row.number == number) && has_row_title condition row) (map title_row (titles_from other place titles))
    ≡ ((other == number) && list_any (λ title. has_title condition (index_title title)) titles)
hits_from condition number other place [] = sym (and_false (other == number))
hits_from condition number other place (title ∷ titles) =
    spread (other == number) (has_title condition (index_title title)) (list_any (λ title. has_title condition (index_title title)) titles)
    (hits_from condition number other (place + 1) titles)
  where
    spread : (a b c : Bool) {u : Bool} → u ≡ (a && c) → ((a && b) || u) ≡ (a && (b || c))
    spread true b c h = ap (λ d. b || d) h
    spread false b c h = h

-- those of all tunes
hits_all : (condition : Condition) (number : ℕ) (tunes : List Tune)
    → list_any (λ row. (row.number == number) && has_row_title condition row) (map title_row (all_titles tunes)) ≡ passes
    (has_some_title condition) tunes number
hits_all condition number [] = refl
hits_all condition number (tune ∷ tunes) =
    any_map _ title_row (all_titles (tune ∷ tunes))
    ∙ list_any-append _ (titles_from tune.number 1 (titles_of tune.text)) (all_titles tunes)
    ∙ both (sym (any_map _ title_row (titles_from tune.number 1 (titles_of tune.text))) ∙ hits_from condition number tune.number 1 (titles_of tune.text))
    (sym (any_map _ title_row (all_titles tunes)) ∙ hits_all condition number tunes)
  where
    both : {a b c d : Bool} → a ≡ b → c ≡ d → (a || c) ≡ (b || d)
    both e f = cc

-- the numbers of the rows of the index that have such a title
pub among_titled : (condition : Condition) (tunes : List Tune) (number : ℕ)
    → has_number (map (λ (row : IndexRow). row.number) (filter (has_row_title condition) (titled tunes))) number
    ≡ passes (has_some_title condition) tunes number
among_titled condition tunes number =
    let hit : IndexRow → Bool = λ row. (row.number == number) && has_row_title condition row in
    any_map (λ other. other == number) (λ (row : IndexRow). row.number) (filter (has_row_title condition) (titled tunes))
    ∙ any_filter (λ (row : IndexRow). row.number == number) (has_row_title condition) (titled tunes)
    ∙ any_map hit title_row (in_order row_order (all_titles tunes))
    ∙ any_in_order row_order (λ title. hit (title_row title)) (all_titles tunes)
    ∙ sym (any_map hit title_row (all_titles tunes))
    ∙ hits_all condition number tunes

-- TWO TESTS
-- what passes one test or another
pub passes_or : (one other : List ℕ → Bool) (tunes : List Tune) (number : ℕ)
    → passes (λ text. one text || other text) tunes number ≡ (passes one tunes number || passes other tunes number)
passes_or one other [] number = refl
passes_or one other (tune ∷ tunes) number =
    spread (tune.number == number) (one tune.text) (other tune.text) (passes one tunes number) (passes other tunes number)
    (passes_or one other tunes number)
  where
    spread : (a b c d e : Bool) {u : Bool} → u ≡ (d || e) → ((a && (b || c)) || u) ≡ (((a && b) || d) || ((a && c) || e))
    spread true true c d e h = refl
    spread true false true true e h = refl
    spread true false true false e h = refl
    spread true false false d e h = h
    spread false b c d e h = h

-- what passes no test
pub passes_none : (tunes : List Tune) (number : ℕ) → passes (λ text. false) tunes number ≡ false
passes_none [] number = refl
passes_none (tune ∷ tunes) number = rw (and_false (tune.number == number)) (passes_none tunes number)

pub passes_same : (one other : List ℕ → Bool) (tunes : List Tune) (number : ℕ) → ((text : List ℕ) → one text ≡ other text)
    → passes one tunes number ≡ passes other tunes number
passes_same one other [] number h = refl
passes_same one other (tune ∷ tunes) number h =
    let e = h tune.text in let f = passes_same one other tunes number h in cc

-- EACH NUMBER STANDS ONCE
-- numbers below those of the tunes pass no test
none_below : (test : List ℕ → Bool) (low : ℕ) (tunes : List Tune) (number : ℕ) → NumbersRiseFrom low tunes → number ≤ low → passes test tunes number ≡ false
none_below test low [] number rises le = refl
none_below test low (tune ∷ tunes) number rises le =
    let apart : (tune.number == number) ≡ false = ne_eqb tune.number number (λ e. let l : low < tune.number = rises.0 in absurd (omega arith)) in
    let l : low < tune.number = rises.0 in
    rw apart (none_below test tune.number tunes number rises.1 (omega arith))

-- all are above the bound
all_above : (low : ℕ) (tunes : List Tune) → NumbersRiseFrom low tunes → AllByRecursion (λ (tune : Tune). low < tune.number) tunes
all_above low [] rises = tt
all_above low (tune ∷ tunes) rises = (rises.0, higher tune.number low rises.0 tunes (all_above tune.number tunes rises.1))
  where
    higher : (high low : ℕ) → low < high → (tunes : List Tune) → AllByRecursion (λ (tune : Tune). high < tune.number) tunes
        → AllByRecursion (λ (tune : Tune). low < tune.number) tunes
    higher high low l [] h = tt
    higher high low l (tune ∷ tunes) h = (let a = h.0 in omega arith, higher high low l tunes h.1)

own_later : (test : List ℕ → Bool) (first : Tune) (all tunes : List Tune) → AllByRecursion (λ (tune : Tune). first.number < tune.number) tunes
    → AllByRecursion (λ (tune : Tune). passes test all tune.number ≡ test tune.text) tunes
    → AllByRecursion (λ (tune : Tune). passes test (first ∷ all) tune.number ≡ test tune.text) tunes
own_later test first all [] above own = tt
own_later test first all (tune ∷ tunes) above own =
    let apart : (first.number == tune.number) ≡ false = ne_eqb first.number tune.number (λ e. let l = above.0 in absurd (omega arith)) in
    (rw apart own.0, own_later test first all tunes above.1 own.1)

pub all_own : (test : List ℕ → Bool) (low : ℕ) (tunes : List Tune) → NumbersRiseFrom low tunes
    → AllByRecursion (λ (tune : Tune). passes test tunes tune.number ≡ test tune.text) tunes
all_own test low [] rises = tt
all_own test low (tune ∷ tunes) rises =
    let none = none_below test tune.number tunes tune.number rises.1 (omega arith) in
    let own : (tune.number == tune.number) ≡ true = eq-eqb tune.number tune.number refl in
    (rw (own, none) (or_false (test tune.text)), own_later test tune tunes tunes (all_above tune.number tunes rises.1) (all_own test tune.number tunes rises.1))

-- the numbers that are given too are those of the tunes that pass both tests
filter_both : (given : List ℕ) (was : Tune → Bool) (test : List ℕ → Bool) (tunes : List Tune)
    → AllByRecursion (λ (tune : Tune). has_number given tune.number ≡ test tune.text) tunes
    → filter (has_number given) (map (λ (tune : Tune). tune.number) (filter was tunes))
    ≡ map (λ (tune : Tune). tune.number) (filter (λ tune. was tune && test tune.text) tunes)
filter_both given was test [] own = refl
filter_both given was test (tune ∷ tunes) own = by (filter_both given was test tunes own.1) (was tune) (test tune.text) refl refl
  where
    by : filter (has_number given) (map (λ (tune : Tune). tune.number) (filter was tunes))
        ≡ map (λ (tune : Tune). tune.number) (filter (λ tune. was tune && test tune.text) tunes)
        → (a b : Bool) → was tune ≡ a → test tune.text ≡ b
        → filter (has_number given) (map (λ (tune : Tune). tune.number) (filter was (tune ∷ tunes)))
        ≡ map (λ (tune : Tune). tune.number) (filter (λ tune. was tune && test tune.text) (tune ∷ tunes))
    by rest true true e f =
        let there = own.0 ∙ f in
        rw (e, f) (rw there (ap (λ numbers. tune.number ∷ numbers) rest))
    by rest true false e f =
        let there = own.0 ∙ f in
        rw (e, f) (rw there rest)
    by rest false b e f = rw e rest

all_mapped : {X : Type 0} (P Q : X → Type 0) → ((x : X) → P x → Q x) → (xs : List X) → AllByRecursion P xs → AllByRecursion Q xs
all_mapped P Q h [] all = tt
all_mapped P Q h (x ∷ xs) all = (h x all.0, all_mapped P Q h xs all.1)

-- the next condition
pub found_more : (given : List ℕ) (was : Tune → Bool) (test : List ℕ → Bool) (tunes : List Tune) → NumbersRiseFrom 0 tunes
    → ((number : ℕ) → has_number given number ≡ passes test tunes number)
    → filter (has_number given) (map (λ (tune : Tune). tune.number) (filter was tunes))
    ≡ map (λ (tune : Tune). tune.number) (filter (λ tune. was tune && test tune.text) tunes)
found_more given was test tunes rises are =
    filter_both given was test tunes
    (all_mapped _ _ (λ (tune : Tune) own. are tune.number ∙ own) tunes (all_own test 0 tunes rises))

pub filter_same : {X : Type 0} (p q : X → Bool) → ((x : X) → p x ≡ q x) → (xs : List X) → filter p xs ≡ filter q xs
filter_same p q h [] = refl
filter_same p q h (x ∷ xs) = by (filter_same p q h xs) (q x) refl
  where
    by : filter p xs ≡ filter q xs → (b : Bool) → q x ≡ b → filter p (x ∷ xs) ≡ filter q (x ∷ xs)
    by rest true g = let e = h x ∙ g in rw (e, g) (ap (λ ys. x ∷ ys) rest)
    by rest false g = let e = h x ∙ g in rw (e, g) rest

-- A SEARCH
-- in numbers that do not fall a search tells whether one is among them
pub search_tells : (numbers : List ℕ) (number : ℕ) (r : Result ℕ ℕ) → IsBinarySearchResult (λ other. nat_cmp other number) numbers r → IsNonDecreasing numbers
    → is_ok r ≡ has_number numbers number
search_tells numbers number (Ok i) h rise =
    let found = searched numbers number (Ok i) h (λ i j le l. rise i j 0 le l) in
    sym (list_any_at (λ other. other == number) numbers i 0 found.0 (eq-eqb (get_or numbers i 0) number found.1))
search_tells numbers number (Err i) h rise =
    let none = searched numbers number (Err i) h (λ i j le l. rise i j 0 le l) in
    sym (list_any_none (λ other. other == number) numbers
    (λ k d l. let below : k < i → get_or numbers k 0 < number = none.1 k in
    let above : i ≤ k → k < length numbers → number < get_or numbers k 0 = none.2 k in
    let same : get_or numbers k d ≡ get_or numbers k 0 = get_or_default numbers k d 0 l in
    ne_eqb (get_or numbers k d) number (λ e. absurd (elim (cases_Bool (ltb k i)) [
      | inl lower ↦ let b = below (ltb-true k i lower) in omega arith
      | inr other ↦ let a = above (ltb-false k i other) l in omega arith
    ]))))
