-- A change that can be made changes something.
use Rattle.std.proofs.Common.{◌≡◌, ℕ, ◌+◌, ◌-◌, ◌<◌, Bool, true, false, ltb, leb, List, [], ◌∷◌, ◌++◌, length, get_or, Option, Some, None, Result, Ok, Err}
use Rattle.std.proofs.Common.{refl, ap, sym, ◌∙◌, inl, inr, arith, length-append}
use Rattle.std.specs.Prelude.{IfOk, slice_set, IsOk}
use Rattle.std.specs.List.{Contains, remove}
use Rattle.std.specs.Str.{bytes_eq}
use Rattle.std.proofs.lemmas.Bool.{cases_Bool, ltb-true, leb-true}
use Rattle.std.proofs.lemmas.List.{get_or-map, length-map, get_or-set_same}
use Rattle.std.proofs.lemmas.List.Edits.{length-remove}
use Rattle.abc_fields.specs.Books.{Texts, before_texts, tune_answer, runs_answer, book_of_runs, book_runs, book_answer}
use Rattle.abc_fields.specs.Limits.{longest_book}
use Rattle.abc_fields.specs.Tunes.{has_key, joined}
use Rattle.tune_sets.specs.Numbers.{has_place}
use Rattle.tune_sets.specs.Names.{is_good_name, is_before}
use Rattle.tune_sets.specs.Limits.{most_places, most_sets}
use Rattle.tune_sets.specs.Sets.{set_at, set_inserted, empty_set, with_numbers, without_set}
use Rattle.tune_sets.specs.Calls.{SetsOutcome, create_set, create_unless, add_to, cut_from, drop_found}
use Rattle.tune_sets.specs.declared.set_lists.TuneSet.{TuneSet}
use Rattle.tune_store.specs.State.{State, NumbersRiseFrom, tune_at}
use Rattle.tune_store.specs.TuneSteps.{Outcome, numbered, moved}
use Rattle.tune_store.specs.Labels.{labels_of, numbers_of}
use Rattle.tune_store.specs.Plans.{PlansOutcome, CanChange, CanChangeTo, changed_layout, changed_tunes, changed_sets, after}
use Rattle.tune_store.specs.Inside.Plans.{AltersLabels}
use Rattle.tune_store.specs.declared.layout.Layout.{Layout}
use Rattle.tune_store.specs.declared.layout.Layout.TheVariants.{One, Two}
use Rattle.tune_store.specs.declared.tune.Tune.{Tune}
use Rattle.tune_store.specs.declared.catalog.Label.{Label}
use Rattle.tune_store.specs.declared.plans.Change.{Change}
use Rattle.tune_store.specs.declared.plans.Change.TheVariants.{Add, Put, Take, Move, NewSet, AddPlace, CutPlace, DropSet, Upgrade}
use Rattle.tune_store.specs.declared.plans.Plan.{Plan}
use Rattle.tune_store.specs.declared.command.Refusal.{Refusal}
use Rattle.tune_store.proofs.StateLemmas.{length-numbered}
use Rattle.tune_store.proofs.PlanLemmas.{no_tune, no_label, labels_long, label_at, place_none, place_found}
use Rattle.tune_store.proofs.MoveLemmas.{tune_at-moved_to}

-- BOOKS
-- a book that is not refused has a text at least
some_before : (text : List ℕ) (later : Texts) (texts : List (List ℕ)) → before_texts (text ∷ []) later ≡ Ok texts → 0 < length texts
some_before text (Ok more) texts e = let same : text ∷ more ≡ texts = cc in omega (arith, ap length same)
some_before text (Err fault) texts e = cc

some_answer : (longest place : ℕ) (keyed : Bool) (text : List ℕ) (later : Texts) (texts : List (List ℕ)) → tune_answer longest place keyed text later ≡ Ok texts
    → 0 < length texts
some_answer longest place false text later texts e = cc
some_answer longest place true text later texts e = elim (cases_Bool (ltb longest (length text))) [
  | inl long ↦ let refused = rw long at e in cc
  | inr short ↦ some_before text later texts (rw short at e)
]

some_of_runs : (longest : ℕ) (runs : List (List (List ℕ))) (texts : List (List ℕ)) → book_of_runs longest runs ≡ Ok texts → 0 < length texts
some_of_runs longest [] texts e = cc
some_of_runs longest (run ∷ runs) texts e = some_answer longest 1 (has_key run) (joined run) (runs_answer longest 2 runs) texts e

pub some_texts : (longest : ℕ) (book : List ℕ) (texts : List (List ℕ)) → book_answer longest book ≡ Ok texts → 0 < length texts
some_texts longest book texts e = elim (cases_Bool (ltb longest_book (length book))) [
  | inl long ↦ let refused = rw long at e in cc
  | inr short ↦ some_of_runs longest (book_runs book) texts (rw short at e)
]

-- SET LISTS
-- how many sets there are, and places in them
abbrev weight : List TuneSet → ℕ
weight [] = 0
weight (set ∷ sets) = 1 + length set.numbers + weight sets

weight-inserted : (new : TuneSet) (sets : List TuneSet) → weight (set_inserted new sets) ≡ 1 + length new.numbers + weight sets
weight-inserted new [] = refl
weight-inserted new (set ∷ sets) = elim (cases_Bool (is_before new.name set.name)) [
  | inl before ↦ rw before refl
  | inr behind ↦ let later = weight-inserted new sets in rw behind (omega arith)
]

weight-with_numbers : (name numbers : List ℕ) (sets : List TuneSet) (set : TuneSet) → set_at name sets ≡ Some set
    → weight (with_numbers name numbers sets) + length set.numbers ≡ weight sets + length numbers
weight-with_numbers name numbers [] set found = cc
weight-with_numbers name numbers (first ∷ sets) set found = elim (cases_Bool (bytes_eq first.name name)) [
  | inl same ↦
      let it = rw same at found in
      let e : first ≡ set = cc in
      let long = ap (λ (s : TuneSet). length s.numbers) e in
      rw same (omega arith)
  | inr other ↦ let later = rw other at found in let less = weight-with_numbers name numbers sets set later in rw other (omega arith)
]

weight-without : (name : List ℕ) (sets : List TuneSet) (set : TuneSet) → set_at name sets ≡ Some set → weight (without_set name sets) < weight sets
weight-without name [] set found = cc
weight-without name (first ∷ sets) set found = elim (cases_Bool (bytes_eq first.name name)) [
  | inl same ↦ rw same (omega arith)
  | inr other ↦ let later = rw other at found in let less = weight-without name sets set later in rw other (omega arith)
]

-- what set lists accept changes them
abbrev AltersSets : {Answer : Type 0} → List TuneSet → SetsOutcome Answer → Type 0
AltersSets sets outcome = IsOk outcome.1 → outcome.0 ≡ sets → ⊥

create_alters : (name : List ℕ) (sets : List TuneSet) (found : Option TuneSet) → AltersSets sets (create_unless name sets found)
create_alters name sets (Some set) ok same = cc
create_alters name sets None ok same = elim (cases_Bool (leb most_sets (length sets))) [
  | inl full ↦ let refused = rw full at ok in cc
  | inr room ↦ let e = rw room at same in absurd (omega (arith, ap weight e, weight-inserted (empty_set name) sets))
]

pub new_alters : (name : List ℕ) (sets : List TuneSet) → AltersSets sets (create_set name sets)
new_alters name sets ok same = elim (cases_Bool (is_good_name name)) [
  | inl good ↦ create_alters name sets (set_at name sets) (rw good at ok) (rw good at same)
  | inr bad ↦ let refused = rw bad at ok in cc
]

pub add_alters : (name : List ℕ) (number : ℕ) (sets : List TuneSet) (found : Option TuneSet) → set_at name sets ≡ found
    → AltersSets sets (add_to name number sets found)
add_alters name number sets None there ok same = cc
add_alters name number sets (Some set) there ok same = elim (cases_Bool (leb most_places (length set.numbers))) [
  | inl full ↦ let refused = rw full at ok in cc
  | inr room ↦
      let e = rw room at same in
      absurd (omega (arith, ap weight e, weight-with_numbers name (set.numbers ++ number ∷ []) sets set there, length-append set.numbers (number ∷ [])))
]

has_place_within : (place : ℕ) (numbers : List ℕ) → has_place place numbers ≡ true → place - 1 < length numbers
has_place_within place numbers has = elim (cases_Bool (ltb 0 place)) [
  | inl some ↦
      let few = rw some at has in
      let above = ltb-true 0 place some in
      let within = leb-true place (length numbers) few in
      omega arith
  | inr none ↦ let not_there = rw none at has in cc
]

pub cut_alters : (name : List ℕ) (place : ℕ) (sets : List TuneSet) (found : Option TuneSet) → set_at name sets ≡ found
    → AltersSets sets (cut_from name place sets found)
cut_alters name place sets None there ok same = cc
cut_alters name place sets (Some set) there ok same = elim (cases_Bool (has_place place set.numbers)) [
  | inl has ↦
      let e = rw has at same in
      let within = has_place_within place set.numbers has in
      let less = length-remove set.numbers (place - 1) within in
      absurd (omega (arith, ap weight e, weight-with_numbers name (remove set.numbers (place - 1)) sets set there))
  | inr none ↦ let refused = rw none at ok in cc
]

pub drop_alters : (name : List ℕ) (sets : List TuneSet) (found : Option TuneSet) → set_at name sets ≡ found → AltersSets sets (drop_found name sets found)
drop_alters name sets None there ok same = cc
drop_alters name sets (Some set) there ok same = absurd (omega (arith, ap weight same, weight-without name sets set there))

-- TUNES
-- a number that a label has is that of a tune, and one that none has of none
found_of_label : (number : ℕ) (tunes : List Tune) (labels : List Label) → NumbersRiseFrom 0 tunes → labels_of tunes ≡ labels
    → Contains (numbers_of labels) number
    → (tune : Tune) × (tune_at number tunes ≡ Some tune)
found_of_label number tunes labels rises same has =
    let many = length-map labels (λ (label : Label). label.number) in
    let l : has.0 < length labels = omega (arith, has.1) in (
      get_or tunes has.0 no_tune,
      place_found number tunes labels has.0 (record {
        rises = rises;
        same = same;
        within = l;
        found = λ e. sym (get_or-map (λ (label : Label). label.number) labels has.0 e number l) ∙ has.2;
      }),
    )

free_of_labels : (number : ℕ) (tunes : List Tune) (labels : List Label) → labels_of tunes ≡ labels → (Contains (numbers_of labels) number → ⊥)
    → tune_at number tunes ≡ None
free_of_labels number tunes labels same none =
    let many = length-map labels (λ (label : Label). label.number) in
    place_none number tunes labels same (λ place e l named.
    none (place, omega arith, get_or-map (λ (label : Label). label.number) labels place e number l ∙ named))

-- a tune of a later revision is another one
put_alters : (place : ℕ) (tune : Tune) (tunes : List Tune) (labels : List Label) → labels_of tunes ≡ labels → place < length labels
    → (get_or labels place no_label).revision < tune.revision → slice_set tunes place tune ≡ tunes → ⊥
put_alters place tune tunes labels same l less stays =
    let many = labels_long tunes labels same in
    let old = ap (λ (r : Label). r.revision) (label_at tunes labels place no_tune no_label same l) in
    let new = ap (λ (t : Tune). t.revision) (get_or-set_same tunes place tune no_tune (omega arith)) in
    let both = ap (λ (ts : List Tune). (get_or ts place no_tune).revision) stays in
    omega arith

move_alters : (number to : ℕ) (tunes : List Tune) (labels : List Label) → NumbersRiseFrom 0 tunes → labels_of tunes ≡ labels
    → Contains (numbers_of labels) number
    → (Contains (numbers_of labels) to → ⊥) → moved number to tunes ≡ tunes → ⊥
move_alters number to tunes labels rises same has none stays =
    let it = found_of_label number tunes labels rises same has in
    let free = free_of_labels to tunes labels same none in
    let new = tune_at-moved_to number to tunes it.0 it.1 free in
    let old = ap (tune_at to) stays in
    cc

-- CHANGES
-- the layout, the labels and the sets of a state
pub record AreOf (layout : Layout) (labels : List Label) (sets : List TuneSet) (state : State) : Type 0 where
  pub laid : layout ≡ state.layout
  pub rises : NumbersRiseFrom 0 state.tunes
  pub labelled : labels_of state.tunes ≡ labels
  pub listed : sets ≡ state.sets

two_is_not_one : Two ≡ One → ⊥
two_is_not_one same = cc

changes : (change : Change) (state : State) (layout : Layout) (labels : List Label) (sets : List TuneSet) → AreOf layout labels sets state
    → CanChange change layout labels sets → AltersLabels (Some change) labels → changed_tunes change state.tunes ≡ state.tunes
    → changed_sets change state.sets ≡ state.sets → changed_layout change state.layout ≡ state.layout → ⊥
changes (Add first texts) state layout labels sets are can alters tunes_stay sets_stay layout_stays =
    omega (arith, ap length tunes_stay, length-append state.tunes (numbered first texts.items), length-numbered first texts.items)
changes (Put place tune) state layout labels sets are can alters tunes_stay sets_stay layout_stays =
    put_alters place tune state.tunes labels are.labelled can.0 (alters no_label) tunes_stay
changes (Take place) state layout labels sets are can alters tunes_stay sets_stay layout_stays =
    let many = labels_long state.tunes labels are.labelled in
    omega (arith, ap length tunes_stay, length-remove state.tunes place (omega arith))
changes (Move number to) state layout labels sets are can alters tunes_stay sets_stay layout_stays =
    move_alters number to state.tunes labels are.rises are.labelled can.0 can.1 tunes_stay
changes (NewSet name) state layout labels sets are can alters tunes_stay sets_stay layout_stays =
    new_alters name state.sets (rw are.listed at can) sets_stay
changes (AddPlace name number) state layout labels sets are can alters tunes_stay sets_stay layout_stays =
    add_alters name number state.sets (set_at name state.sets) refl (rw are.listed at can) sets_stay
changes (CutPlace name place) state layout labels sets are can alters tunes_stay sets_stay layout_stays =
    cut_alters name place state.sets (set_at name state.sets) refl (rw are.listed at can) sets_stay
changes (DropSet name) state layout labels sets are can alters tunes_stay sets_stay layout_stays =
    drop_alters name state.sets (set_at name state.sets) refl (rw are.listed at can) sets_stay
changes Upgrade state layout labels sets are can alters tunes_stay sets_stay layout_stays = two_is_not_one (layout_stays ∙ sym are.laid ∙ can)

-- so a change that leaves the state as it is was none
none_or_changes : (change : Option Change) (state : State) (layout : Layout) (labels : List Label) (sets : List TuneSet) → AreOf layout labels sets state
    → CanChangeTo change layout labels sets → AltersLabels change labels → after change state ≡ state → change ≡ None
none_or_changes None state layout labels sets are can alters stays = refl
none_or_changes (Some change) state layout labels sets are can alters stays =
    absurd (changes change state layout labels sets are can alters (ap (λ (s : State). s.tunes) stays) (ap (λ (s : State). s.sets) stays)
    (ap (λ (s : State). s.layout) stays))

-- and so of a plan for an outcome
pub no_change : (result : Result Plan Refusal) (state : State) (outcome : Outcome) (layout : Layout) (labels : List Label) (sets : List TuneSet)
    → AreOf layout labels sets state → PlansOutcome state result outcome → IfOk result (λ plan. CanChangeTo plan.change layout labels sets)
    → IfOk result (λ plan. AltersLabels plan.change labels) → outcome.0 ≡ state → IfOk result (λ plan. plan.change ≡ None)
no_change (Err refusal) state outcome layout labels sets are decided can alters stays = tt
no_change (Ok plan) state outcome layout labels sets are decided can alters stays =
    none_or_changes plan.change state layout labels sets are can alters (sym (ap (λ (o : Outcome). o.0) decided) ∙ stays)
