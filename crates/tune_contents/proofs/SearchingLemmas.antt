-- The texts of tunes, as tunes go and come.
use Rattle.std.proofs.Common.{◌≡◌, ℕ, zero, suc, ◌+◌, ◌<◌, ◌≤◌, ◌^◌, ltb, List, [], ◌∷◌, ◌++◌, length, get_or, set, Option, Some, None}
use Rattle.std.proofs.Common.{refl, sym, ◌∙◌, ap, subst, arith, inl, inr, append-nil, length-append, length-set}
use Rattle.std.specs.List.{Contains, remove}
use Rattle.std.proofs.lemmas.Bool.{cases_Bool}
use Rattle.std.proofs.lemmas.List.{length-map, map-append}
use Rattle.std.proofs.lemmas.List.Edits.{length-remove}
use Rattle.index_keys.specs.Holdings.{AreSmall, IsWithout, SameMembers}
use Rattle.index_keys.proofs.Members.{contains_cases, contains_first, contains_later, contains_none}
use Rattle.tune_search.specs.Searches.{SearchRuns}
use Rattle.tune_search.specs.Searches as texts
use Rattle.tune_store.specs.Plans.{changed_tunes}
use Rattle.tune_store.specs.State.{NumbersRiseFrom, tune_at}
use Rattle.tune_store.specs.TuneSteps.{tune_inserted, moved, moved_if, numbered, without_tune}
use Rattle.tune_store.specs.declared.plans.Change.{Change}
use Rattle.tune_store.specs.declared.plans.Change.TheVariants.{Add, Put, Take, Move, NewSet, AddPlace, CutPlace, DropSet, Upgrade}
use Rattle.tune_store.specs.declared.tune.Tune.{Tune}
use Rattle.tune_store.proofs.PlaceLemmas.{above, tune_at-none, tune_at-place, without-place}
use Rattle.tune_format.specs.Filed.{numbered_texts}
use Rattle.tune_format.specs.declared.rows.Row.{Row}
use Rattle.tune_contents.specs.Inside.Changes.{RowsAccept}
use Rattle.tune_contents.specs.Inside.Searching.{AreRunsOut, ChangesTexts, HasSmallNumbers, IsOldTune, IsSomeRun, IsTuneAt, PutsIn, TakesOut, TakesSome}
use Rattle.tune_contents.specs.Inside.Searching.{coming}

-- a number and a text
abbrev pub Text : Type 0
Text = ℕ × List ℕ

abbrev pub text_of : Tune → Text
text_of tune = (tune.number, tune.text)

-- MEMBERS
same_refl : (xs : List Text) → SameMembers xs xs
same_refl xs = record { forth = λ x c. c; back = λ x c. c }

same_trans : (xs ys zs : List Text) → SameMembers xs ys → SameMembers ys zs → SameMembers xs zs
same_trans xs ys zs a b = record { forth = λ x c. b.forth x (a.forth x c); back = λ x c. a.back x (b.back x c) }

more_members : (z : Text) (xs ys : List Text) → ((x : Text) → Contains xs x → Contains ys x) → (x : Text) → Contains (z ∷ xs) x → Contains (z ∷ ys) x
more_members z xs ys to x c = elim (contains_cases z xs x c) [
  | inl is ↦ subst (λ (y : Text). Contains (z ∷ ys) y) is (contains_first z ys)
  | inr later ↦ contains_later z ys x (to x later)
]

same_cons : (z : Text) (xs ys : List Text) → SameMembers xs ys → SameMembers (z ∷ xs) (z ∷ ys)
same_cons z xs ys a = record { forth = more_members z xs ys a.forth; back = more_members z ys xs a.back }

swapped : (x y : Text) (zs : List Text) (one : Text) → Contains (x ∷ y ∷ zs) one → Contains (y ∷ x ∷ zs) one
swapped x y zs one c = elim (contains_cases x (y ∷ zs) one c) [
  | inl is ↦ contains_later y (x ∷ zs) one (subst (λ (z : Text). Contains (x ∷ zs) z) is (contains_first x zs))
  | inr later ↦ elim (contains_cases y zs one later) [
    | inl is ↦ subst (λ (z : Text). Contains (y ∷ x ∷ zs) z) is (contains_first y (x ∷ zs))
    | inr behind ↦ contains_later y (x ∷ zs) one (contains_later x zs one behind)
  ]
]

same_swap : (x y : Text) (zs : List Text) → SameMembers (x ∷ y ∷ zs) (y ∷ x ∷ zs)
same_swap x y zs = record { forth = swapped x y zs; back = swapped y x zs }

-- one at the end is one at the front
same_end : (xs : List Text) (x : Text) → SameMembers (xs ++ x ∷ []) (x ∷ xs)
same_end [] x = same_refl (x ∷ [])
same_end (y ∷ xs) x =
    same_trans (y ∷ (xs ++ x ∷ [])) (y ∷ x ∷ xs) (x ∷ y ∷ xs) (same_cons y (xs ++ x ∷ []) (x ∷ xs) (same_end xs x)) (same_swap y x xs)

-- ONE TUNE
-- the tunes are one of them and the others
at_place : (tunes : List Tune) (place : ℕ) (d : Tune) → place < length tunes
    → SameMembers (numbered_texts tunes) (text_of (get_or tunes place d) ∷ numbered_texts (remove tunes place))
at_place [] place d l = absurd (omega arith)
at_place (tune ∷ tunes) zero d l = same_refl _
at_place (tune ∷ tunes) (suc place) d l =
    let one = text_of (get_or tunes place d) in
    let rest = numbered_texts (remove tunes place) in
    same_trans (text_of tune ∷ numbered_texts tunes) (text_of tune ∷ one ∷ rest) (one ∷ text_of tune ∷ rest)
    (same_cons (text_of tune) (numbered_texts tunes) (one ∷ rest) (at_place tunes place d (omega arith))) (same_swap (text_of tune) one rest)

-- another one in its place
put_place : (tunes : List Tune) (place : ℕ) (new : Tune) → place < length tunes
    → SameMembers (text_of new ∷ numbered_texts (remove tunes place)) (numbered_texts (set tunes place new))
put_place [] place new l = absurd (omega arith)
put_place (tune ∷ tunes) zero new l = same_refl _
put_place (tune ∷ tunes) (suc place) new l =
    let rest = numbered_texts (remove tunes place) in
    same_trans (text_of new ∷ text_of tune ∷ rest) (text_of tune ∷ text_of new ∷ rest) (text_of tune ∷ numbered_texts (set tunes place new))
    (same_swap (text_of new) (text_of tune) rest)
    (same_cons (text_of tune) (text_of new ∷ rest) (numbered_texts (set tunes place new)) (put_place tunes place new (omega arith)))

-- one where its number belongs
put_number : (new : Tune) (tunes : List Tune) → SameMembers (text_of new ∷ numbered_texts tunes) (numbered_texts (tune_inserted new tunes))
put_number new [] = same_refl _
put_number new (tune ∷ tunes) = elim (cases_Bool (ltb new.number tune.number)) [
  | inl before ↦ rw before (same_refl (text_of new ∷ text_of tune ∷ numbered_texts tunes))
  | inr behind ↦ rw behind
      (same_trans (text_of new ∷ text_of tune ∷ numbered_texts tunes) (text_of tune ∷ text_of new ∷ numbered_texts tunes)
      (text_of tune ∷ numbered_texts (tune_inserted new tunes)) (same_swap (text_of new) (text_of tune) (numbered_texts tunes))
      (same_cons (text_of tune) (text_of new ∷ numbered_texts tunes) (numbered_texts (tune_inserted new tunes)) (put_number new tunes)))
]

count_number : (new : Tune) (tunes : List Tune) → length (tune_inserted new tunes) ≡ length tunes + 1
count_number new [] = refl
count_number new (tune ∷ tunes) = elim (cases_Bool (ltb new.number tune.number)) [
  | inl before ↦ rw before (omega arith)
  | inr behind ↦ let later = count_number new tunes in rw behind (omega arith)
]

-- its number is none of the others'
low_text : (low : ℕ) (tunes : List Tune) (x : Text) → NumbersRiseFrom low tunes → Contains (numbered_texts tunes) x → low < x.0
low_text low [] x rises c = absurd (contains_none x c)
low_text low (tune ∷ tunes) x rises c =
    let first = rises.0 in
    elim (contains_cases (text_of tune) (numbered_texts tunes) x c) [
      | inl is ↦ let n : tune.number ≡ x.0 = ap (λ (t : Text). t.0) is in omega arith
      | inr later ↦ let more = low_text tune.number tunes x rises.1 later in omega arith
    ]

others_apart : (low : ℕ) (tunes : List Tune) (place : ℕ) (d : Tune) (x : Text) → NumbersRiseFrom low tunes → place < length tunes
    → Contains (numbered_texts (remove tunes place)) x → x.0 ≡ (get_or tunes place d).number → ⊥
others_apart low [] place d x rises l c e = omega arith
others_apart low (tune ∷ tunes) zero d x rises l c e = let more = low_text tune.number tunes x rises.1 c in omega arith
others_apart low (tune ∷ tunes) (suc place) d x rises l c e =
    elim (contains_cases (text_of tune) (numbered_texts (remove tunes place)) x c) [
      | inl is ↦
          let n : tune.number ≡ x.0 = ap (λ (t : Text). t.0) is in
          let more = above tune.number tunes place d rises.1 (omega arith) in
          omega arith
      | inr later ↦ others_apart tune.number tunes place d x rises.1 (omega arith) later e
    ]

without_one : (gone : Text) (tunes others : List Text) → SameMembers tunes (gone ∷ others) → ((x : Text) → Contains others x → x.0 ≡ gone.0 → ⊥)
    → IsWithout gone tunes others
without_one gone tunes others same apart = record {
  among = λ x c. same.back x (contains_later gone others x c);
  apart = apart;
  one = λ x c e. elim (contains_cases gone others x (same.forth x c)) [ inl is ↦ sym is | inr later ↦ absurd (apart x later e) ];
  rest = λ x c ne.
      elim (contains_cases gone others x (same.forth x c)) [ inl is ↦ absurd (ne (ap (λ (t : Text). t.0) (sym is))) | inr later ↦ later ];
}

abbrev some_tune : Tune
some_tune = record { number = 0; revision = 0; text = [] }

is_text : (place : ℕ) (tunes : List Tune) (old : Text) (d : Tune) → IsTuneAt place tunes (Some old) → text_of (get_or tunes place d) ≡ old
is_text place tunes old d at = let e = at.1 d in cc

goes_out : (place : ℕ) (tunes : List Tune) (old : Text) (gone : Option SearchRuns) → NumbersRiseFrom 0 tunes → IsTuneAt place tunes (Some old)
    → AreRunsOut (Some old) gone → TakesOut gone (numbered_texts tunes) (numbered_texts (remove tunes place))
goes_out place tunes old None rises at out = absurd out
goes_out place tunes old (Some run) rises at out =
    let d = some_tune in
    let its = text_of (get_or tunes place d) in
    let others = numbered_texts (remove tunes place) in
    let without : IsWithout its (numbered_texts tunes) others =
    without_one its (numbered_texts tunes) others (at_place tunes place d at.0) (λ x c e. others_apart 0 tunes place d x rises at.0 c e) in
    (old, out.0 old (contains_first old []), subst (λ (t : Text). IsWithout t (numbered_texts tunes) others) (is_text place tunes old d at) without, out.1)

none_out : (tunes : List Text) (gone : Option SearchRuns) → AreRunsOut None gone → TakesOut gone tunes tunes
none_out tunes None out = refl
none_out tunes (Some run) out = absurd out

-- WHAT GOES
pub takes_some : (change : Change) (tunes : List Tune) (old : Option Text) (away : Option SearchRuns) → NumbersRiseFrom 0 tunes → IsOldTune change tunes old
    → AreRunsOut old away → TakesSome away (numbered_texts tunes)
takes_some change tunes None away rises is out = (numbered_texts tunes, none_out (numbered_texts tunes) away out)
takes_some (Put place tune) tunes (Some old) away rises is out = (numbered_texts (remove tunes place), goes_out place tunes old away rises is out)
takes_some (Take place) tunes (Some old) away rises is out = (numbered_texts (remove tunes place), goes_out place tunes old away rises is out)
takes_some (Move number to) tunes (Some old) away rises is out =
    (numbered_texts (remove tunes is.1.0), goes_out is.1.0 tunes old away rises is.1.1 out)
takes_some (Add first texts) tunes (Some old) away rises is out = (let no : ⊥ = cc in absurd no)
takes_some (NewSet name) tunes (Some old) away rises is out = (let no : ⊥ = cc in absurd no)
takes_some (AddPlace name number) tunes (Some old) away rises is out = (let no : ⊥ = cc in absurd no)
takes_some (CutPlace name place) tunes (Some old) away rises is out = (let no : ⊥ = cc in absurd no)
takes_some (DropSet name) tunes (Some old) away rises is out = (let no : ⊥ = cc in absurd no)
takes_some Upgrade tunes (Some old) away rises is out = (let no : ⊥ = cc in absurd no)

-- WHAT COMES
pub some_run : (come : Option SearchRuns) (more : List Text) → PutsIn come more → IsSomeRun come
some_run None more puts = tt
some_run (Some run) more puts = (more, puts.0, puts.1)

pub small_numbers : (change : Change) (rows : List Row) → RowsAccept change rows → HasSmallNumbers change
small_numbers (Add first new) rows accept = accept
small_numbers change rows accept = tt

-- their numbers are small
pub small_texts : (first : ℕ) (new : List (List ℕ)) → first + length new ≤ 2 ^ 32 → AreSmall (texts.texts_numbered first new)
small_texts first [] most = λ x c. absurd (contains_none x c)
small_texts first (text ∷ new) most = λ x c. elim (contains_cases (first, text) (texts.texts_numbered (first + 1) new) x c) [
  | inl is ↦ let n : first ≡ x.0 = ap (λ (t : Text). t.0) is in omega arith
  | inr later ↦ small_texts (first + 1) new (omega arith) x later
]

-- new texts have the numbers of new tunes
numbered_same : (first : ℕ) (new : List (List ℕ)) → texts.texts_numbered first new ≡ numbered_texts (numbered first new)
numbered_same first [] = refl
numbered_same first (text ∷ new) = ap (λ (l : List Text). (first, text) ∷ l) (numbered_same (first + 1) new)

count_texts : (tunes : List Tune) → length (numbered_texts tunes) ≡ length tunes
count_texts tunes = length-map tunes text_of

-- the tunes stay
no_change : (tunes : List Tune) (gone come : Option SearchRuns) → AreRunsOut None gone → PutsIn come [] → ChangesTexts gone come (numbered_texts tunes)
    (numbered_texts tunes)
no_change tunes gone come out puts = record {
  others = numbered_texts tunes;
  more = [];
  takes = none_out (numbered_texts tunes) gone out;
  puts = puts;
  same = subst (λ (l : List Text). SameMembers l (numbered_texts tunes)) (sym (append-nil (numbered_texts tunes))) (same_refl (numbered_texts tunes));
  count = ap length (append-nil (numbered_texts tunes));
}

-- tunes come behind the others
adds : (tunes : List Tune) (first : ℕ) (new : List (List ℕ)) (gone come : Option SearchRuns) → AreRunsOut None gone
    → PutsIn come (texts.texts_numbered first new) → ChangesTexts gone come (numbered_texts tunes) (numbered_texts (tunes ++ numbered first new))
adds tunes first new gone come out puts =
    let all : numbered_texts tunes ++ texts.texts_numbered first new ≡ numbered_texts (tunes ++ numbered first new) =
    ap (λ (l : List Text). numbered_texts tunes ++ l) (numbered_same first new) ∙ sym (map-append text_of tunes (numbered first new)) in
    record {
      others = numbered_texts tunes;
      more = texts.texts_numbered first new;
      takes = none_out (numbered_texts tunes) gone out;
      puts = puts;
      same = subst (λ (l : List Text). SameMembers (numbered_texts tunes ++ texts.texts_numbered first new) l) all (same_refl _);
      count = ap length all;
    }

-- one tune goes, and another one comes
module _ (place : ℕ) (tunes : List Tune) (old : Text) (gone come : Option SearchRuns) (rises : NumbersRiseFrom 0 tunes) (at : IsTuneAt place tunes (Some old))
    (out : AreRunsOut (Some old) gone) where
  abbrev others : List Text
  others = numbered_texts (remove tunes place)

  count_others : length others + 1 ≡ length tunes
  count_others =
      let n = count_texts (remove tunes place) in
      let less = length-remove tunes place at.0 in
      omega arith

  cuts : PutsIn come [] → ChangesTexts gone come (numbered_texts tunes) others
  cuts puts = record {
    others = others;
    more = [];
    takes = goes_out place tunes old gone rises at out;
    puts = puts;
    same = subst (λ (l : List Text). SameMembers l others) (sym (append-nil others)) (same_refl others);
    count = ap length (append-nil others);
  }

  swaps : (new : Text) (left : List Tune) → PutsIn come (new ∷ []) → SameMembers (new ∷ others) (numbered_texts left) → length left ≡ length tunes
      → ChangesTexts gone come (numbered_texts tunes) (numbered_texts left)
  swaps new left puts same many = record {
    others = others;
    more = new ∷ [];
    takes = goes_out place tunes old gone rises at out;
    puts = puts;
    same = same_trans (others ++ new ∷ []) (new ∷ others) (numbered_texts left) (same_end others new) same;
    count = (let n = count_texts left in let less = count_others in omega (arith, length-append others (new ∷ [])));
  }

  moves : (number to : ℕ) → old.0 ≡ number → PutsIn come ((to, old.1) ∷ [])
      → ChangesTexts gone come (numbered_texts tunes) (numbered_texts (moved number to tunes))
  moves number to is puts =
      let d = some_tune in
      let tune = get_or tunes place d in
      let e : text_of tune ≡ old = is_text place tunes old d at in
      let its : tune.number ≡ number = ap (λ (t : Text). t.0) e ∙ is in
      let has : tune_at number tunes ≡ Some tune = tune_at-place 0 number tunes place d rises at.0 its in
      let new : Tune = record { number = to; revision = tune.revision; text = tune.text } in
      let rest : without_tune tune.number tunes ≡ remove tunes place = without-place 0 tune.number tunes place d rises at.0 refl in
      let left = tune_inserted new (remove tunes place) in
      let same : moved number to tunes ≡ left = ap (moved_if to tunes) has ∙ ap (tune_inserted new) rest in
      let less = length-remove tunes place at.0 in
      let many : length left ≡ length tunes = count_number new (remove tunes place) ∙ less in
      let members : SameMembers ((to, old.1) ∷ others) (numbered_texts left) =
      subst (λ (t : Text). SameMembers ((to, t.1) ∷ others) (numbered_texts left)) e (put_number new (remove tunes place)) in
      subst (λ (ts : List Tune). ChangesTexts gone come (numbered_texts tunes) (numbered_texts ts)) (sym same)
      (swaps (to, old.1) left puts members many)

-- ALL CHANGES
pub changes_texts : (change : Change) (tunes : List Tune) (old : Option Text) (away come : Option SearchRuns) → NumbersRiseFrom 0 tunes
    → IsOldTune change tunes old → AreRunsOut old away → PutsIn come (coming change old)
    → ChangesTexts away come (numbered_texts tunes) (numbered_texts (changed_tunes change tunes))
changes_texts (Add first new) tunes None away come rises is out puts = adds tunes first new.items away come out puts
changes_texts (Add first new) tunes (Some old) away come rises is out puts = (let no : ⊥ = cc in absurd no)
changes_texts (Put place tune) tunes None away come rises is out puts = (let e = is.1 tune in let no : ⊥ = cc in absurd no)
changes_texts (Put place tune) tunes (Some old) away come rises is out puts =
    swaps place tunes old away come rises is out (text_of tune) (set tunes place tune) puts (put_place tunes place tune is.0) (length-set tunes place tune)
changes_texts (Take place) tunes None away come rises is out puts = (let e = is.1 some_tune in let no : ⊥ = cc in absurd no)
changes_texts (Take place) tunes (Some old) away come rises is out puts = cuts place tunes old away come rises is out puts
changes_texts (Move number to) tunes None away come rises is out puts =
    subst (λ (ts : List Tune). ChangesTexts away come (numbered_texts tunes) (numbered_texts ts))
    (sym (ap (moved_if to tunes) (tune_at-none number tunes is))) (no_change tunes away come out puts)
changes_texts (Move number to) tunes (Some old) away come rises is out puts = moves is.1.0 tunes old away come rises is.1.1 out number to is.0 puts
changes_texts change tunes None away come rises is out puts = no_change tunes away come out puts
changes_texts (NewSet name) tunes (Some old) away come rises is out puts = (let no : ⊥ = cc in absurd no)
changes_texts (AddPlace name number) tunes (Some old) away come rises is out puts = (let no : ⊥ = cc in absurd no)
changes_texts (CutPlace name place) tunes (Some old) away come rises is out puts = (let no : ⊥ = cc in absurd no)
changes_texts (DropSet name) tunes (Some old) away come rises is out puts = (let no : ⊥ = cc in absurd no)
changes_texts Upgrade tunes (Some old) away come rises is out puts = (let no : ⊥ = cc in absurd no)
