-- What each change of sets gives, and that it keeps the limits.
use Rattle.std.proofs.Common.{◌≡◌, ℕ, zero, suc, ◌+◌, ◌^◌, ◌<◌, ◌≤◌, true, List, [], ◌∷◌, ◌++◌, length, take, drop, get_or, slice_set, refl, ap, sym, ◌∙◌}
use Rattle.std.proofs.Common.{subst, arith, map, eqb, length-append}
use Rattle.std.specs.List.{AllByRecursion, AllWithin, remove}
use Rattle.std.proofs.lemmas.Bool.{cond_both}
use Rattle.std.proofs.lemmas.List.{length-map}
use Rattle.tune_sets.specs.Limits.{most_places, most_sets}
use Rattle.tune_sets.specs.Names.{is_good_name, is_before}
use Rattle.tune_sets.specs.Numbers.{renumbered, renumbered_all}
use Rattle.tune_sets.specs.Sets.{IsTuneSet, NamesRiseFrom, AreSetLists, empty_set, with_numbers, renumbered_set, renumbered_sets}
use Rattle.tune_sets.specs.Inside.Search.{NameFoundAt, NameMissingAt}
use Rattle.tune_sets.specs.declared.set_lists.TuneSet.{TuneSet}
use Rattle.tune_sets.proofs.NameOrder.{before_trans, good_after}
use Rattle.tune_sets.proofs.SearchLemmas.{with_numbers-index}

-- LISTS OF SETS
pub each-get : (sets : List TuneSet) (n : ℕ) (d : TuneSet) → AllByRecursion IsTuneSet sets → n < length sets → IsTuneSet (get_or sets n d)
each-get [] n d each l = absurd (omega arith)
each-get (set ∷ sets) zero d each l = each.0
each-get (set ∷ sets) (suc n) d each l = each-get sets n d each.1 (omega arith)

each-set : (sets : List TuneSet) (n : ℕ) (new : TuneSet) → AllByRecursion IsTuneSet sets → IsTuneSet new → AllByRecursion IsTuneSet (slice_set sets n new)
each-set [] n new each is = tt
each-set (set ∷ sets) zero new each is = (is, each.1)
each-set (set ∷ sets) (suc n) new each is = (each.0, each-set sets n new each.1 is)

each-insert : (sets : List TuneSet) (n : ℕ) (new : TuneSet) → AllByRecursion IsTuneSet sets → IsTuneSet new
    → AllByRecursion IsTuneSet (take n sets ++ new ∷ drop n sets)
each-insert sets zero new each is = (is, each)
each-insert [] (suc n) new each is = (is, tt)
each-insert (set ∷ sets) (suc n) new each is = (each.0, each-insert sets n new each.1 is)

each-remove : (sets : List TuneSet) (n : ℕ) → AllByRecursion IsTuneSet sets → AllByRecursion IsTuneSet (take n sets ++ drop (suc n) sets)
each-remove [] zero each = tt
each-remove [] (suc n) each = tt
each-remove (set ∷ sets) zero each = each.1
each-remove (set ∷ sets) (suc n) each = (each.0, each-remove sets n each.1)

length-set_sets : (sets : List TuneSet) (n : ℕ) (new : TuneSet) → length (slice_set sets n new) ≡ length sets
length-set_sets [] n new = refl
length-set_sets (set ∷ sets) zero new = refl
length-set_sets (set ∷ sets) (suc n) new = omega (arith, length-set_sets sets n new)

length-insert_set : (sets : List TuneSet) (n : ℕ) (new : TuneSet) → length (take n sets ++ new ∷ drop n sets) ≡ length sets + 1
length-insert_set sets zero new = omega arith
length-insert_set [] (suc n) new = omega arith
length-insert_set (set ∷ sets) (suc n) new = omega (arith, length-insert_set sets n new)

length-remove_set : (sets : List TuneSet) (n : ℕ) → length (take n sets ++ drop (suc n) sets) ≤ length sets
length-remove_set [] zero = omega arith
length-remove_set [] (suc n) = omega arith
length-remove_set (set ∷ sets) zero = omega arith
length-remove_set (set ∷ sets) (suc n) = omega (arith, length-remove_set sets n)

pub rises-below : (low mid : List ℕ) (sets : List TuneSet) → is_before low mid ≡ true → NamesRiseFrom mid sets → NamesRiseFrom low sets
rises-below low mid [] before rises = tt
rises-below low mid (set ∷ sets) before rises = (before_trans low mid set.name before rises.0, rises.1)

rises-remove : (low : List ℕ) (sets : List TuneSet) (n : ℕ) → NamesRiseFrom low sets → NamesRiseFrom low (take n sets ++ drop (suc n) sets)
rises-remove low [] zero rises = tt
rises-remove low [] (suc n) rises = tt
rises-remove low (set ∷ sets) zero rises = rises-below low set.name sets rises.0 rises.1
rises-remove low (set ∷ sets) (suc n) rises = (rises.0, rises-remove set.name sets n rises.1)

rises-set : (low : List ℕ) (sets : List TuneSet) (n : ℕ) (d new : TuneSet) → NamesRiseFrom low sets → n < length sets → new.name ≡ (get_or sets n d).name
    → NamesRiseFrom low (slice_set sets n new)
rises-set low [] n d new rises l e = absurd (omega arith)
rises-set low (set ∷ sets) zero d new rises l e =
    (ap (is_before low) e ∙ rises.0, subst (λ (name : List ℕ). NamesRiseFrom name sets) (sym e) rises.1)
rises-set low (set ∷ sets) (suc n) d new rises l e = (rises.0, rises-set set.name sets n d new rises.1 (omega arith) e)

rises-insert : (low : List ℕ) (sets : List TuneSet) (n : ℕ) (new : TuneSet) → NamesRiseFrom low sets → is_before low new.name ≡ true
    → n ≤ length sets → AllWithin (λ set. is_before set.name new.name ≡ true) sets 0 n
    → AllWithin (λ set. is_before new.name set.name ≡ true) sets n (length sets) → NamesRiseFrom low (take n sets ++ new ∷ drop n sets)
rises-insert low [] zero new rises before l lesser greater = (before, tt)
rises-insert low [] (suc n) new rises before l lesser greater = absurd (omega arith)
rises-insert low (set ∷ sets) zero new rises before l lesser greater = (before, (greater 0 set (omega arith) (omega arith), rises.1))
rises-insert low (set ∷ sets) (suc n) new rises before l lesser greater = (
  rises.0,
  rises-insert set.name sets n new rises.1 (lesser 0 set (omega arith) (omega arith)) (omega arith)
      (λ k d from to. lesser (suc k) d (omega arith) (omega arith)) (λ k d from to. greater (suc k) d (omega arith) (omega arith)),
)

-- NUMBERS
abbrev pub Narrow : List ℕ → Type 0
Narrow numbers = AllByRecursion (λ n. n < 2 ^ 32) numbers

pub narrow-push : (numbers : List ℕ) (n : ℕ) → Narrow numbers → n < 2 ^ 32 → Narrow (numbers ++ n ∷ [])
narrow-push [] n narrow small = (small, tt)
narrow-push (m ∷ numbers) n narrow small = (narrow.0, narrow-push numbers n narrow.1 small)

pub narrow-remove : (numbers : List ℕ) (i : ℕ) → Narrow numbers → Narrow (take i numbers ++ drop (suc i) numbers)
narrow-remove [] zero narrow = tt
narrow-remove [] (suc i) narrow = tt
narrow-remove (n ∷ numbers) zero narrow = narrow.1
narrow-remove (n ∷ numbers) (suc i) narrow = (narrow.0, narrow-remove numbers i narrow.1)

pub length-remove_number : (numbers : List ℕ) (i : ℕ) → length (take i numbers ++ drop (suc i) numbers) ≤ length numbers
length-remove_number [] zero = omega arith
length-remove_number [] (suc i) = omega arith
length-remove_number (n ∷ numbers) zero = omega arith
length-remove_number (n ∷ numbers) (suc i) = omega (arith, length-remove_number numbers i)

-- ONE SET CHANGED
-- a set at an index, as it stands there
pub there : (sets : List TuneSet) (index : ℕ) (set : TuneSet) → AreSetLists sets → index < length sets → set ≡ get_or sets index set → IsTuneSet set
there sets index set are within is = subst IsTuneSet (sym is) (each-get sets index set are.each within)

pub set_changed : (name numbers : List ℕ) (sets : List TuneSet) (index : ℕ) (set : TuneSet) → AreSetLists sets → NameFoundAt name index sets
    → set ≡ get_or sets index set → with_numbers name numbers sets ≡ slice_set sets index (record { name = set.name; numbers = numbers })
set_changed name numbers sets index set are found is =
    with_numbers-index [] name numbers sets index set are.rises found.within (found.named set)
    ∙ ap (λ (s : TuneSet). slice_set sets index (record { name = s.name; numbers = numbers })) (sym is)

pub changed_are : (numbers : List ℕ) (sets : List TuneSet) (index : ℕ) (set : TuneSet) → AreSetLists sets → index < length sets
    → set ≡ get_or sets index set → length numbers ≤ most_places → Narrow numbers
    → AreSetLists (slice_set sets index (record { name = set.name; numbers = numbers }))
changed_are numbers sets index set are within is few narrow =
    let new : TuneSet = record { name = set.name; numbers = numbers } in
    let old = there sets index set are within is in
    let is_new : IsTuneSet new = record { name = old.name; places = few; numbers = narrow } in
    record {
      rises = rises-set [] sets index set new are.rises within (ap (λ (s : TuneSet). s.name) is);
      each = each-set sets index new are.each is_new;
      count = omega (arith, length-set_sets sets index new, are.count);
    }

-- a number more
pub added_are : (number : ℕ) (sets : List TuneSet) (index : ℕ) (set : TuneSet) → AreSetLists sets → index < length sets → set ≡ get_or sets index set
    → length set.numbers < most_places → number < 2 ^ 32
    → AreSetLists (slice_set sets index (record { name = set.name; numbers = set.numbers ++ number ∷ [] }))
added_are number sets index set are within is room small =
    let old = there sets index set are within is in
    changed_are (set.numbers ++ number ∷ []) sets index set are within is (omega (arith, length-append set.numbers (number ∷ []), room))
    (narrow-push set.numbers number old.numbers small)

-- a place less
pub cut_are : (at : ℕ) (sets : List TuneSet) (index : ℕ) (set : TuneSet) → AreSetLists sets → index < length sets → set ≡ get_or sets index set
    → AreSetLists (slice_set sets index (record { name = set.name; numbers = remove set.numbers at }))
cut_are at sets index set are within is =
    let old = there sets index set are within is in
    changed_are (remove set.numbers at) sets index set are within is (omega (arith, length-remove_number set.numbers at, old.places))
    (narrow-remove set.numbers at old.numbers)

-- A SET MORE, A SET LESS
pub created_are : (name : List ℕ) (sets : List TuneSet) (index : ℕ) → AreSetLists sets → NameMissingAt name index sets → is_good_name name ≡ true
    → length sets < most_sets → AreSetLists (take index sets ++ empty_set name ∷ drop index sets)
created_are name sets index are missing good room =
    let is_new : IsTuneSet (empty_set name) = record { name = good; places = omega arith; numbers = tt } in
    record {
      rises = rises-insert [] sets index (empty_set name) are.rises (good_after name good) missing.within missing.lesser missing.greater;
      each = each-insert sets index (empty_set name) are.each is_new;
      count = omega (arith, length-insert_set sets index (empty_set name), room);
    }

pub dropped_are : (sets : List TuneSet) (index : ℕ) → AreSetLists sets → AreSetLists (take index sets ++ drop (suc index) sets)
dropped_are sets index are = record {
  rises = rises-remove [] sets index are.rises;
  each = each-remove sets index are.each;
  count = omega (arith, length-remove_set sets index, are.count);
}

-- SETS UNDER OTHER NUMBERS
small_renumbered : (from to n : ℕ) → to < 2 ^ 32 → n < 2 ^ 32 → renumbered from to n < 2 ^ 32
small_renumbered from to n a b = cond_both (eqb n from) to n (λ m. m < 2 ^ 32) (λ is. a) (λ no. b)

narrow_renumbered : (from to : ℕ) (numbers : List ℕ) → to < 2 ^ 32 → Narrow numbers → Narrow (renumbered_all from to numbers)
narrow_renumbered from to [] small narrow = tt
narrow_renumbered from to (n ∷ numbers) small narrow = (small_renumbered from to n small narrow.0, narrow_renumbered from to numbers small narrow.1)

rises_renumbered : (from to : ℕ) (low : List ℕ) (sets : List TuneSet) → NamesRiseFrom low sets → NamesRiseFrom low (renumbered_sets from to sets)
rises_renumbered from to low [] rises = tt
rises_renumbered from to low (set ∷ sets) rises = (rises.0, rises_renumbered from to set.name sets rises.1)

each_renumbered : (from to : ℕ) (sets : List TuneSet) → to < 2 ^ 32 → AllByRecursion IsTuneSet sets → AllByRecursion IsTuneSet (renumbered_sets from to sets)
each_renumbered from to [] small each = tt
each_renumbered from to (set ∷ sets) small each = (
  record {
    name = each.0.name;
    places = omega (arith, length-map set.numbers (renumbered from to), each.0.places);
    numbers = narrow_renumbered from to set.numbers small each.0.numbers;
  },
  each_renumbered from to sets small each.1,
)

pub are_renumbered : (from to : ℕ) (sets : List TuneSet) → to < 2 ^ 32 → AreSetLists sets → AreSetLists (renumbered_sets from to sets)
are_renumbered from to sets small are = record {
  rises = rises_renumbered from to [] sets are.rises;
  each = each_renumbered from to sets small are.each;
  count = omega (arith, length-map sets (renumbered_set from to), are.count);
}

-- ONE ELEMENT AFTER ANOTHER
-- the first i elements are mapped
abbrev pub mapped_to : {X : Type 0} → (X → X) → ℕ → List X → List X
mapped_to f i xs = map f (take i xs) ++ drop i xs

pub mapped_here : {X : Type 0} (f : X → X) (i : ℕ) (xs : List X) (d : X) → i < length xs → get_or (mapped_to f i xs) i d ≡ get_or xs i d
mapped_here f i [] d within = absurd (omega arith)
mapped_here f zero (x ∷ xs) d within = refl
mapped_here f (suc i) (x ∷ xs) d within = mapped_here f i xs d (omega arith)

pub mapped_more : {X : Type 0} (f : X → X) (i : ℕ) (xs : List X) (d : X) → i < length xs
    → slice_set (mapped_to f i xs) i (f (get_or xs i d)) ≡ mapped_to f (suc i) xs
mapped_more f i [] d within = absurd (omega arith)
mapped_more f zero (x ∷ xs) d within = refl
mapped_more f (suc i) (x ∷ xs) d within = ap (λ ys. f x ∷ ys) (mapped_more f i xs d (omega arith))

pub mapped_all : {X : Type 0} (f : X → X) (i : ℕ) (xs : List X) → length xs ≤ i → mapped_to f i xs ≡ map f xs
mapped_all f zero [] le = refl
mapped_all f (suc i) [] le = refl
mapped_all f zero (x ∷ xs) le = absurd (omega arith)
mapped_all f (suc i) (x ∷ xs) le = ap (λ ys. f x ∷ ys) (mapped_all f i xs (omega arith))
