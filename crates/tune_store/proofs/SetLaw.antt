-- The law of places.
use Rattle.std.proofs.Common.{◌≡◌, ℕ, true, false, cond, eqb, leb, List, [], ◌∷◌, ◌++◌, length, map, Option, Some, None, Result, Ok, Err, refl, ap, sym, ◌∙◌}
use Rattle.std.proofs.Common.{inl, inr, subst}
use Rattle.std.specs.Prelude.{◌≢◌, IsSome, IsTrue, IsFalse, IsOk, is_ok, is_some}
use Rattle.std.specs.List.{AllByRecursion}
use Rattle.std.specs.Option.{option_map}
use Rattle.std.specs.Str.{bytes_eq}
use Rattle.std.proofs.lemmas.Bool.{cases_Bool, eqb-true, eqb-false}
use Rattle.std.proofs.lemmas.Slice.Eq.{bytes_eq-Decides}
use Rattle.tune_books.specs.WrittenBooks.{written_set}
use Rattle.tune_sets.specs.Limits.{most_places, most_sets}
use Rattle.tune_sets.specs.Names.{is_good_name}
use Rattle.tune_sets.specs.Numbers.{has_place, renumbered, renumbered_all}
use Rattle.tune_sets.specs.Sets.{set_at, holder, empty_set, renumbered_set}
use Rattle.tune_sets.specs.Calls.{create_unless, create_set, add_to, cut_from, drop_found, places_found, places_of}
use Rattle.tune_sets.specs.Laws.{HoldsNumber, IsLeastHolder}
use Rattle.tune_sets.specs.declared.set_lists.TuneSet.{TuneSet}
use Rattle.tune_sets.specs.declared.faults.SetFault.{SetFault}
use Rattle.tune_sets.proofs.PlaceLemmas.{set_at-inserted_other, set_at-with_numbers_other, set_at-without_other, set_at-renumbered, least_holder, no_holder}
use Rattle.tune_store.specs.State.{State, IsState, AreHeld, NameTunes, tune_at}
use Rattle.tune_store.specs.TuneSteps.{Outcome, moved, is_number, renumber, renumber_found, renumber_unless, delete_tune}
use Rattle.tune_store.specs.SetSteps.{set_add_found}
use Rattle.tune_store.specs.Questions.{row_of, row_found, rows_at, with_text, texts_at, set_shown, set_exported}
use Rattle.tune_store.specs.Step.{step}
use Rattle.tune_store.specs.Revisions.{accepts, now_at}
use Rattle.tune_store.specs.Places.{AreTunesOf, carried_places, OthersKeepPlaces}
use Rattle.tune_store.specs.declared.tune.Tune.{Tune}
use Rattle.tune_store.specs.declared.command.Command.{Command}
use Rattle.tune_store.specs.declared.command.Command.TheVariants.{Delete, Renumber, SetNew, SetAdd, SetCut, SetDrop, ExportSet}
use Rattle.tune_store.specs.declared.command.Reply.TheVariants.{SetShown, SetExported}
use Rattle.tune_store.specs.declared.command.Refusal.TheVariants.{InSet}
use Rattle.tune_store.proofs.PlaceLemmas.{tune_at-number}
use Rattle.tune_store.proofs.MoveLemmas.{tune_at-moved_to, tune_at-moved_other}
use Rattle.tune_store.proofs.NamedLemmas.{held_at}

-- THE TUNES AT PLACES
-- these tunes are those of these numbers, one for each
record AreAt (tunes : List Tune) (numbers : List ℕ) (its : List Tune) : Type 0 where
  there : AllByRecursion (λ tune. tune_at tune.number tunes ≡ Some tune) its
  same : numbers ≡ map (λ tune. tune.number) its
  rows : rows_at tunes numbers ≡ map row_of its
  texts : texts_at tunes numbers ≡ map (λ tune. tune.text) its

some_tune : (found : Option Tune) → IsSome found → (tune : Tune) × (found ≡ Some tune)
some_tune None is_there = cc
some_tune (Some tune) is_there = (tune, refl)

-- where each number is that of a tune, there are such tunes
tunes_at : (tunes : List Tune) (numbers : List ℕ) → AreHeld tunes numbers → (its : List Tune) × AreAt tunes numbers its
tunes_at tunes [] held = ([], record { there = tt; same = refl; rows = refl; texts = refl })
tunes_at tunes (number ∷ numbers) held =
    let first = some_tune (tune_at number tunes) held.0 in
    let rest = tunes_at tunes numbers held.1 in
    let tune : Tune = first.0 in
    let found : tune_at number tunes ≡ Some tune = first.1 in
    let is : tune.number ≡ number = tune_at-number number tunes tune found in (
      tune ∷ rest.0,
      record {
        there = (ap (λ n. tune_at n tunes) is ∙ found, rest.1.there);
        same = ap (λ n. n ∷ numbers) (sym is) ∙ ap (λ ns. tune.number ∷ ns) rest.1.same;
        rows = ap (λ f. row_found number f ∷ rows_at tunes numbers) found ∙ ap (λ rows. row_of tune ∷ rows) rest.1.rows;
        texts = ap (λ f. with_text f (texts_at tunes numbers)) found ∙ ap (λ texts. tune.text ∷ texts) rest.1.texts;
      },
    )

-- the places of the set of a name name tunes
held_found : (tunes : List Tune) (name : List ℕ) (sets : List TuneSet) (numbers : List ℕ) (found : Option TuneSet) → NameTunes tunes sets
    → set_at name sets ≡ found → places_found found ≡ Ok numbers → AreHeld tunes numbers
held_found tunes name sets numbers None named e is = cc
held_found tunes name sets numbers (Some set) named e is =
    let same : set.numbers ≡ numbers = cc in
    subst (AreHeld tunes) same (held_at tunes name sets set named e)

-- so do those of each set, which is shown and exported by them
pub tunes_of : (state : State) (name : List ℕ) → IsState state → IsOk (places_of name state.sets) → (its : List Tune) × AreTunesOf name its state
tunes_of state name is ok = by_places (places_of name state.sets) refl ok
  where
    by_places : (found : Result (List ℕ) SetFault) → places_of name state.sets ≡ found → IsOk found → (its : List Tune) × AreTunesOf name its state
    by_places (Err why) e ok = cc
    by_places (Ok numbers) e ok =
        let at = tunes_at state.tunes numbers (held_found state.tunes name state.sets numbers (set_at name state.sets) is.named refl e) in (
          at.0,
          record {
            there = at.1.there;
            places = e ∙ ap (λ ns. Ok ns) at.1.same;
            shown = ap (set_shown name state.tunes) e ∙ ap (λ rows. Ok (SetShown name rows)) at.1.rows;
            exported = ap (set_exported name state.tunes) e ∙ ap (λ texts. Ok (SetExported name (written_set name texts))) at.1.texts;
          },
        )

-- OTHER COMMANDS
-- places whose numbers stay
map_stays : (now : ℕ → ℕ) → ((n : ℕ) → now n ≡ n) → (numbers : List ℕ) → map now numbers ≡ numbers
map_stays now stays [] = refl
map_stays now stays (n ∷ numbers) = ap (λ m. m ∷ map now numbers) (stays n) ∙ ap (λ ns. n ∷ ns) (map_stays now stays numbers)

carried_stays : (now : ℕ → ℕ) → ((n : ℕ) → now n ≡ n) → (found : Result (List ℕ) SetFault) → found ≡ carried_places now found
carried_stays now stays (Ok numbers) = ap (λ ns. Ok ns) (sym (map_stays now stays numbers))
carried_stays now stays (Err why) = refl

-- an outcome of a Renumber carries the places of the set of a name along
abbrev CarriesPlaces : ℕ → ℕ → List ℕ → State → Outcome → Type 0
CarriesPlaces number to name old outcome =
    places_of name outcome.0.sets ≡ carried_places (now_at (Renumber number to) (is_ok outcome.1)) (places_of name old.sets)

-- a tune's own number is no new one
own_number : (number to n : ℕ) → number ≡ to → cond (eqb n number) to n ≡ n
own_number number to n same = elim (cases_Bool (eqb n number)) [
  | inl its ↦ rw its (sym (eqb-true n number its ∙ same))
  | inr differs ↦ rw differs refl
]

renumbered_places : (number to : ℕ) (found : Option TuneSet)
    → places_found (option_map (renumbered_set number to) found) ≡ carried_places (now_at (Renumber number to) true) (places_found found)
renumbered_places number to None = refl
renumbered_places number to (Some set) = refl

unless_places : (state : State) (number to : ℕ) (name : List ℕ) (found : Option Tune)
    → CarriesPlaces number to name state (renumber_unless state number to found)
unless_places state number to name None =
    ap places_found (set_at-renumbered number to name state.sets) ∙ renumbered_places number to (set_at name state.sets)
unless_places state number to name (Some other) = elim (cases_Bool (eqb number to)) [
  | inl same ↦ rw same (carried_stays _ (λ n. own_number number to n (eqb-true number to same)) (places_of name state.sets))
  | inr differs ↦ rw differs (carried_stays _ (λ n. refl) (places_of name state.sets))
]

found_places : (state : State) (number to : ℕ) (name : List ℕ) (found : Option Tune)
    → CarriesPlaces number to name state (renumber_found state number to found)
found_places state number to name None = carried_stays _ (λ n. refl) (places_of name state.sets)
found_places state number to name (Some tune) = unless_places state number to name (tune_at to state.tunes)

renumber_places : (state : State) (number to : ℕ) (name : List ℕ) → CarriesPlaces number to name state (renumber state number to)
renumber_places state number to name = elim (cases_Bool (is_number to)) [
  | inl good ↦ rw good (found_places state number to name (tune_at number state.tunes))
  | inr bad ↦ rw bad (carried_stays _ (λ n. refl) (places_of name state.sets))
]

-- a set more, another one changed, or one less
create_others : (name other : List ℕ) (sets : List TuneSet) → other ≢ name → set_at other (create_set name sets).0 ≡ set_at other sets
create_others name other sets apart = elim (cases_Bool (is_good_name name)) [
  | inl good ↦ rw good (by_found (set_at name sets))
  | inr bad ↦ rw bad refl
]
  where
    by_found : (found : Option TuneSet) → set_at other (create_unless name sets found).0 ≡ set_at other sets
    by_found (Some set) = refl
    by_found None = elim (cases_Bool (leb most_sets (length sets))) [
      | inl full ↦ rw full refl
      | inr room ↦ rw room (set_at-inserted_other other (empty_set name) sets apart)
    ]

add_others : (name other : List ℕ) (number : ℕ) (sets : List TuneSet) (found : Option TuneSet) → other ≢ name
    → set_at other (add_to name number sets found).0 ≡ set_at other sets
add_others name other number sets None apart = refl
add_others name other number sets (Some set) apart = elim (cases_Bool (leb most_places (length set.numbers))) [
  | inl full ↦ rw full refl
  | inr room ↦ rw room (set_at-with_numbers_other name other (set.numbers ++ number ∷ []) sets apart)
]

cut_others : (name other : List ℕ) (place : ℕ) (sets : List TuneSet) (found : Option TuneSet) → other ≢ name
    → set_at other (cut_from name place sets found).0 ≡ set_at other sets
cut_others name other place sets None apart = refl
cut_others name other place sets (Some set) apart = elim (cases_Bool (has_place place set.numbers)) [
  | inl has ↦ rw has (set_at-with_numbers_other name other _ sets apart)
  | inr nay ↦ rw nay refl
]

drop_others : (name other : List ℕ) (sets : List TuneSet) (found : Option TuneSet) → other ≢ name
    → set_at other (drop_found name sets found).0 ≡ set_at other sets
drop_others name other sets None apart = refl
drop_others name other sets (Some set) apart = set_at-without_other name other sets apart

-- where there is the tune
add_found_others : (state : State) (name other : List ℕ) (number : ℕ) (found : Option Tune) → other ≢ name
    → set_at other (set_add_found state name number found).0.sets ≡ set_at other state.sets
add_found_others state name other number None apart = refl
add_found_others state name other number (Some tune) apart = add_others name other number state.sets (set_at name state.sets) apart

-- two names that the test tells apart
names_apart : (name other : List ℕ) → IsFalse (bytes_eq name other) → other ≢ name
names_apart name other differs same =
    let e : bytes_eq name other ≡ true = (bytes_eq-Decides name other).1 (sym same) in
    cc

-- what keeps a set keeps its places
set_stays : (now : ℕ → ℕ) → ((n : ℕ) → now n ≡ n) → (found old : Option TuneSet) → found ≡ old → places_found found ≡ carried_places now (places_found old)
set_stays now stays found old same = ap places_found same ∙ carried_stays now stays (places_found old)

-- any other command leaves the set of a name its places
pub others_keep_places : (state : State) (name : List ℕ) (command : Command) → OthersKeepPlaces state name command
others_keep_places state name (SetNew other) apart =
    set_stays _ (λ n. refl) _ _ (create_others other name state.sets (names_apart other name apart))
others_keep_places state name (SetAdd other number) apart =
    set_stays _ (λ n. refl) _ _ (add_found_others state other name number (tune_at number state.tunes) (names_apart other name apart))
others_keep_places state name (SetCut other place) apart =
    set_stays _ (λ n. refl) _ _ (cut_others other name place state.sets (set_at other state.sets) (names_apart other name apart))
others_keep_places state name (SetDrop other) apart =
    set_stays _ (λ n. refl) _ _ (drop_others other name state.sets (set_at other state.sets) (names_apart other name apart))
others_keep_places state name (Renumber number to) apart = renumber_places state number to name
others_keep_places state name command apart = carried_stays _ (λ n. refl) (places_of name state.sets)

-- EXPORTS
-- the text of the tune of a number is that of its new one
text_moved : (number to n : ℕ) (tunes : List Tune) (tune : Tune) (texts : List (List ℕ)) → tune_at number tunes ≡ Some tune → tune_at to tunes ≡ None
    → IsSome (tune_at n tunes)
    → with_text (tune_at (renumbered number to n) (moved number to tunes)) texts ≡ with_text (tune_at n tunes) texts
text_moved number to n tunes tune texts found free was = elim (cases_Bool (eqb n number)) [
  | inl same ↦
      let before : tune_at n tunes ≡ Some tune = ap (λ m. tune_at m tunes) (eqb-true n number same) ∙ found in
      let now = tune_at-moved_to number to tunes tune found free in
      rw same (ap (λ f. with_text f texts) now ∙ sym (ap (λ f. with_text f texts) before))
  | inr other ↦
      let apart : number ≢ n = λ e. eqb-false n number other (sym e) in
      let taken : to ≢ n = λ e. let none : false ≡ true = ap is_some (sym (ap (λ m. tune_at m tunes) (sym e) ∙ free)) ∙ was in cc in
      rw other (ap (λ f. with_text f texts) (tune_at-moved_other number to n tunes apart taken))
]

texts_moved : (number to : ℕ) (tunes : List Tune) (tune : Tune) (numbers : List ℕ) → tune_at number tunes ≡ Some tune → tune_at to tunes ≡ None
    → AreHeld tunes numbers → texts_at (moved number to tunes) (renumbered_all number to numbers) ≡ texts_at tunes numbers
texts_moved number to tunes tune [] found free held = refl
texts_moved number to tunes tune (n ∷ numbers) found free held =
    ap (with_text (tune_at (renumbered number to n) (moved number to tunes))) (texts_moved number to tunes tune numbers found free held.1)
    ∙ text_moved number to n tunes tune (texts_at tunes numbers) found free held.0

-- so a set is exported as before
export_moved : (number to : ℕ) (name : List ℕ) (state : State) (tune : Tune) (set : Option TuneSet) → IsState state
    → tune_at number state.tunes ≡ Some tune → tune_at to state.tunes ≡ None → set_at name state.sets ≡ set
    → set_exported name (moved number to state.tunes) (places_found (option_map (renumbered_set number to) set))
    ≡ set_exported name state.tunes (places_found set)
export_moved number to name state tune None is found free e = refl
export_moved number to name state tune (Some set) is found free e =
    ap (λ texts. Ok (SetExported name (written_set name texts)))
    (texts_moved number to state.tunes tune set.numbers found free (held_at state.tunes name state.sets set is.named e))

-- an outcome after which the set of a name is exported as before it
abbrev KeepsExport : List ℕ → State → Outcome → Type 0
KeepsExport name old outcome = (step outcome.0 (ExportSet name)).1 ≡ (step old (ExportSet name)).1

unless_export : (state : State) (number to : ℕ) (name : List ℕ) (tune : Tune) (found : Option Tune) → IsState state
    → tune_at number state.tunes ≡ Some tune → tune_at to state.tunes ≡ found → KeepsExport name state (renumber_unless state number to found)
unless_export state number to name tune None is its free =
    ap (λ set. set_exported name (moved number to state.tunes) (places_found set)) (set_at-renumbered number to name state.sets)
    ∙ export_moved number to name state tune (set_at name state.sets) is its free refl
unless_export state number to name tune (Some other) is its e = elim (cases_Bool (eqb number to)) [
  | inl same ↦ rw same refl
  | inr differs ↦ rw differs refl
]

found_export : (state : State) (number to : ℕ) (name : List ℕ) (found : Option Tune) → IsState state → tune_at number state.tunes ≡ found
    → KeepsExport name state (renumber_found state number to found)
found_export state number to name None is its = refl
found_export state number to name (Some tune) is its = unless_export state number to name tune (tune_at to state.tunes) is its refl

-- a Renumber changes no export of a set
pub renumber_exports : (state : State) (number to : ℕ) (name : List ℕ) → IsState state → KeepsExport name state (renumber state number to)
renumber_exports state number to name is = elim (cases_Bool (is_number to)) [
  | inl good ↦ rw good (found_export state number to name (tune_at number state.tunes) is refl)
  | inr bad ↦ rw bad refl
]

-- DELETE
-- a deletion that is refused by a name has it from the sets
refused_by : (tunes : List Tune) (number : ℕ) (name : List ℕ) (held : Option (List ℕ)) (found : Option Tune)
    → (delete_tune tunes number held found).1 ≡ Err (InSet name) → held ≡ Some name
refused_by tunes number name held None e = cc
refused_by tunes number name None (Some tune) e = cc
refused_by tunes number name (Some other) (Some tune) e = let same : other ≡ name = cc in ap (λ n. Some n) same

pub delete_held : (state : State) (number : ℕ) (name : List ℕ) → IsState state → (step state (Delete number)).1 ≡ Err (InSet name)
    → IsLeastHolder number name state.sets
delete_held state number name is e =
    least_holder number name state.sets is.sets (refused_by state.tunes number name (holder number state.sets) (tune_at number state.tunes) e)

-- one that is accepted has none
accepted_by : (tunes : List Tune) (number : ℕ) (held : Option (List ℕ)) (found : Option Tune) → IsTrue (is_ok (delete_tune tunes number held found).1)
    → held ≡ None
accepted_by tunes number held None ok = cc
accepted_by tunes number None (Some tune) ok = refl
accepted_by tunes number (Some name) (Some tune) ok = cc

pub delete_free : (state : State) (number : ℕ) (name : List ℕ) → IsTrue (accepts state (Delete number)) → HoldsNumber number name state.sets → ⊥
delete_free state number name ok =
    no_holder number name state.sets (accepted_by state.tunes number (holder number state.sets) (tune_at number state.tunes) ok)
