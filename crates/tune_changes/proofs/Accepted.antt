-- Where the commands for a subject are accepted, it can be brought there.
use Rattle.std.proofs.Common.{◌≡◌, ◌≢◌, ℕ, zero, suc, ◌+◌, ◌-◌, ◌^◌, ◌<◌, ◌≤◌, true, false, not, eqb, ltb, leb, List, [], ◌∷◌, ◌++◌, length, take, drop, map}
use Rattle.std.proofs.Common.{Option, Some, None, Result, Ok, Err, refl, sym, ap, ◌∙◌, subst, arith, inl, inr, is_some, is_ok, option_map, length-append}
use Rattle.std.proofs.Common.{length-drop, Bool}
use Rattle.std.specs.Str.{bytes_eq}
use Rattle.std.proofs.lemmas.Bool.{cases_Bool, eqb-true, lt-ltb, le-leb, ltb-true, ltb-false, leb-false}
use Rattle.std.proofs.lemmas.List.{take-append-drop, take_all, length-take-le}
use Rattle.std.proofs.lemmas.Slice.Eq.{bytes_eq-Decides}
use Rattle.abc_fields.specs.Books.{Texts, runs_answer, book_of_runs, book_answer, book_runs, tune_texts}
use Rattle.abc_fields.specs.Limits.{longest_book}
use Rattle.abc_fields.specs.Tunes.{IsTextWithin, IsTuneText, joined, has_key}
use Rattle.abc_fields.proofs.BookLemmas.{texts_within}
use Rattle.tune_books.proofs.ReadBack.{book_gives_back}
use Rattle.tune_sets.specs.Limits.{most_places, most_sets}
use Rattle.tune_sets.specs.Calls.{create_unless, create_set, add_to}
use Rattle.tune_sets.specs.Names.{is_good_name}
use Rattle.tune_sets.specs.Sets.{IsTuneSet, set_at, holder, set_inserted, without_set}
use Rattle.tune_sets.specs.declared.set_lists.TuneSet.{TuneSet}
use Rattle.tune_sets.specs.declared.faults.SetFault.{SetFault}
use Rattle.tune_store.specs.Limits.{longest_text, most_tunes, greatest_number, greatest_revision}
use Rattle.tune_store.specs.SetSteps.{sets_answer, set_add_found}
use Rattle.tune_store.specs.State.{State, greatest, tune_at, AreHeld, IsState}
use Rattle.tune_store.specs.Step.{step}
use Rattle.tune_store.specs.TuneSteps.{import_texts, import_book, delete_tune, replace_tune, replace_book, is_number, renumber, Outcome}
use Rattle.tune_store.specs.declared.tune.Tune.{Tune}
use Rattle.tune_store.specs.declared.command.Command.{Command}
use Rattle.tune_store.specs.declared.command.Command.TheVariants.{Renumber, SetNew, SetAdd}
use Rattle.tune_store.specs.declared.command.Reply.{Reply}
use Rattle.tune_store.specs.declared.command.Reply.TheVariants.{SetMade, SetAdded}
use Rattle.tune_store.proofs.NamedLemmas.{held_at}
use Rattle.tune_changes.specs.SubjectTurns.{Subject}
use Rattle.tune_changes.specs.SubjectTurns.Subject.{TuneOf, SetOf}
use Rattle.tune_changes.specs.Bringing.{book_with, renumber_commands, tune_commands, common_front, cut_behind, relaid, set_commands, brought}
use Rattle.tune_changes.specs.CommandRuns.{after_commands, AreAccepted}
use Rattle.tune_changes.specs.Undoing.{CanBeReplaced, CanBeText, CanBePlaces, CanBeMade, CanBeNumbers, CanBe, IsGiven}
use Rattle.tune_changes.proofs.SetListLemmas.{named, found_name, none_without, set_out_already, set_out_and_in, set_found_in, all_found_set}
use Rattle.tune_changes.proofs.SetBrought.{listed, holding, new_gives, add_gives, cut_behind_leads, front_same, front_within, front_within_new, held_drop}

-- THE BOOK OF ONE TUNE
-- where runs are answered by texts, these are theirs
answer_texts : (longest place : ℕ) (runs : List (List (List ℕ))) (texts : List (List ℕ)) → runs_answer longest place runs ≡ Ok texts → texts ≡ map joined runs
answer_texts longest place [] texts e = let same : [] ≡ texts = cc in sym same
answer_texts longest place (run ∷ runs) texts e =
    by (has_key run) (ltb longest (length (joined run))) refl refl (runs_answer longest (place + 1) runs) refl (answer_texts longest (place + 1) runs)
  where
    by : (keyed long : Bool) → has_key run ≡ keyed → ltb longest (length (joined run)) ≡ long → (later : Texts) → runs_answer longest (place + 1) runs ≡ later
        → ((rest : List (List ℕ)) → runs_answer longest (place + 1) runs ≡ Ok rest → rest ≡ map joined runs) → texts ≡ map joined (run ∷ runs)
    by false long k l later h again = let none = rw k at e in cc
    by true true k l later h again = let none = rw (k, l) at e in cc
    by true false k l (Err why) h again = let none = rw (k, l, h) at e in cc
    by true false k l (Ok rest) h again =
        let has = rw (k, l, h) at e in
        let same : joined run ∷ rest ≡ texts = cc in
        sym same ∙ ap (λ (more : List (List ℕ)). joined run ∷ more) (again rest h)

whole_texts : (longest : ℕ) (runs : List (List (List ℕ))) (texts : List (List ℕ)) → book_of_runs longest runs ≡ Ok texts → texts ≡ map joined runs
whole_texts longest [] texts e = cc
whole_texts longest (run ∷ runs) texts e = answer_texts longest 1 (run ∷ runs) texts e

read_texts : (longest : ℕ) (book : List ℕ) (texts : List (List ℕ)) → book_answer longest book ≡ Ok texts → texts ≡ tune_texts book
read_texts longest book texts e = elim (cases_Bool (ltb longest_book (length book))) [
  | inl long ↦ let none = rw long at e in cc
  | inr short ↦ let has = rw short at e in whole_texts longest (book_runs book) texts has
]

-- so what is read of the book of a tune is its text, within the length
one_read : (longest number : ℕ) (text : List ℕ) (texts : List (List ℕ)) → number < 2 ^ 32 → IsTuneText text
    → book_answer longest (book_with number text) ≡ Ok texts → (texts ≡ text ∷ []) × IsTextWithin longest text
one_read longest number text texts small good e =
    let same : texts ≡ text ∷ [] =
    read_texts longest (book_with number text) texts e ∙ (book_gives_back (number ∷ []) (text ∷ []) refl (omega arith, tt) (good, tt)).tunes in
    let each = texts_within longest (book_with number text) (text ∷ []) (e ∙ ap Ok same) in
    (same, each.0)

-- A TUNE GOES IN
record Imports (state : State) (text : List ℕ) : Type 0 where
  good : IsTextWithin (longest_text state.layout) text
  room : length state.tunes < most_tunes state.layout
  next : greatest state.tunes < greatest_number

texts_go_in : (state : State) (text : List ℕ) → IsTextWithin (longest_text state.layout) text
    → is_ok (import_texts state.layout state.tunes (text ∷ [])).1 ≡ true → Imports state text
texts_go_in state text good ok = elim (cases_Bool (ltb (most_tunes state.layout) (length state.tunes + 1))) [
  | inl full ↦ let none = rw full at ok in cc
  | inr room ↦ elim (cases_Bool (ltb greatest_number (greatest state.tunes + 1))) [
    | inl spent ↦ let none = rw (room, spent) at ok in cc
    | inr fits ↦
        let few = ltb-false (most_tunes state.layout) (length state.tunes + 1) room in
        let low = ltb-false greatest_number (greatest state.tunes + 1) fits in
        record { good = good; room = omega arith; next = omega arith }
  ]
]

book_goes_in : (state : State) (number : ℕ) (text : List ℕ) (answer : Texts) → number < 2 ^ 32 → IsTuneText text
    → book_answer (longest_text state.layout) (book_with number text) ≡ answer → is_ok (import_book state.layout state.tunes answer).1 ≡ true
    → Imports state text
book_goes_in state number text (Err why) small good e ok = cc
book_goes_in state number text (Ok texts) small good e ok =
    let one = one_read (longest_text state.layout) number text texts small good e in
    texts_go_in state text one.1
    (ap (λ (some : List (List ℕ)). is_ok (import_texts state.layout state.tunes some).1) (sym one.0) ∙ ok)

number_named : (state : State) (from number : ℕ) → is_ok (renumber state from number).1 ≡ true → is_number number ≡ true
number_named state from number ok = elim (cases_Bool (is_number number)) [
  | inl good ↦ good
  | inr bad ↦ let none = rw bad at ok in cc
]

named_after : (state mid : State) (number : ℕ) → greatest state.tunes < greatest_number → AreAccepted (renumber_commands (greatest state.tunes + 1) number) mid
    → is_number number ≡ true
named_after state mid number next accepted = elim (cases_Bool (eqb (greatest state.tunes + 1) number)) [
  | inl same ↦
      let e = eqb-true (greatest state.tunes + 1) number same in
      rw (lt-ltb 0 number (omega arith), le-leb number greatest_number (omega arith)) refl
  | inr other ↦
      let one : renumber_commands (greatest state.tunes + 1) number ≡ Renumber (greatest state.tunes + 1) number ∷ [] = rw other refl in
      let has : AreAccepted (Renumber (greatest state.tunes + 1) number ∷ []) mid = subst (λ (some : List Command). AreAccepted some mid) one accepted in
      number_named mid (greatest state.tunes + 1) number has.0
]

tune_only : (state : State) (number : ℕ) (found : Option Tune) (to : Option (List ℕ)) → tune_at number state.tunes ≡ found → IsGiven (TuneOf number) to
    → AreAccepted (tune_commands (greatest state.tunes) number found to) state → CanBeText number found to state
tune_only state number None None e given accepted = tt
tune_only state number None (Some text) e given accepted =
    let its = book_goes_in state number text _ given.0 given.1 refl accepted.0 in
    record { named = named_after state _ number its.next accepted.1; good = its.good; room = its.room; next = its.next }
tune_only state number (Some tune) None e given accepted =
    unheld (holder number state.sets) (tune_at number state.tunes) accepted.0
  where
    unheld : (held : Option (List ℕ)) (some : Option Tune) → is_ok (delete_tune state.tunes number held some).1 ≡ true → held ≡ None
    unheld held None ok = cc
    unheld None (Some one) ok = refl
    unheld (Some name) (Some one) ok = cc
tune_only state number (Some tune) (Some text) e given accepted = λ differs.
    text_only differs (bytes_eq tune.text text) refl accepted
  where
    young_of : is_ok (replace_tune state.tunes number tune.revision text (Some tune)).1 ≡ true → tune.revision < greatest_revision
    young_of ok = elim (cases_Bool (not (eqb tune.revision tune.revision))) [
      | inl stale ↦ let none = rw stale at ok in cc
      | inr current ↦ elim (cases_Bool (ltb tune.revision greatest_revision)) [
        | inl young ↦ ltb-true tune.revision greatest_revision young
        | inr worn ↦ let none = rw (current, worn) at ok in cc
      ]
    ]

    by_answer : (answer : Texts) → book_answer (longest_text state.layout) (book_with number text) ≡ answer
        → is_ok (replace_book state.tunes number tune.revision answer).1 ≡ true → CanBeReplaced tune text state
    by_answer (Err why) h ok = cc
    by_answer (Ok texts) h ok =
        let one = one_read (longest_text state.layout) number text texts given.0 given.1 h in
        record {
          good = one.1;
          young = young_of (ap (λ (some : Option Tune). is_ok (replace_tune state.tunes number tune.revision text some).1) (sym e)
              ∙ ap (λ (some : List (List ℕ)). is_ok (replace_book state.tunes number tune.revision (Ok some)).1) (sym one.0) ∙ ok);
        }

    text_only : tune.text ≢ text → (same : Bool) → bytes_eq tune.text text ≡ same
        → AreAccepted (tune_commands (greatest state.tunes) number (Some tune) (Some text)) state → CanBeReplaced tune text state
    text_only differs true h accepted = absurd (differs ((bytes_eq-Decides tune.text text).0 h))
    text_only differs false h accepted = let has = rw h at accepted in by_answer _ refl has.0

-- A SET LIST
held_join : (tunes : List Tune) (some more : List ℕ) → AreHeld tunes some → AreHeld tunes more → AreHeld tunes (some ++ more)
held_join tunes [] more held later = later
held_join tunes (number ∷ some) more held later = (held.0, held_join tunes some more held.1 later)

held_take : (tunes : List Tune) (n : ℕ) (numbers : List ℕ) → AreHeld tunes numbers → AreHeld tunes (take n numbers)
held_take tunes zero numbers held = tt
held_take tunes (suc n) [] held = tt
held_take tunes (suc n) (number ∷ numbers) held = (held.0, held_take tunes n numbers held.1)

-- an answer that is accepted was an acceptance
answer_ok : {Answer : Type 0} (reply : Answer → Reply) (result : Result Answer SetFault) → is_ok (sets_answer reply result) ≡ true → is_ok result ≡ true
answer_ok reply (Ok answer) ok = refl
answer_ok reply (Err why) ok = cc

new_only : (name : List ℕ) (state : State) → is_ok (create_set name state.sets).1 ≡ true → CanBeMade name state
new_only name state ok = elim (cases_Bool (is_good_name name)) [
  | inl good ↦ let made = rw good at ok in record { good = good; room = room_of (set_at name state.sets) made }
  | inr bad ↦ let none = rw bad at ok in cc
]
  where
    room_of : (found : Option TuneSet) → is_ok (create_unless name state.sets found).1 ≡ true → length state.sets < most_sets
    room_of (Some set) made = cc
    room_of None made = elim (cases_Bool (leb most_sets (length state.sets))) [
      | inl full ↦ let none = rw full at made in cc
      | inr room ↦ leb-false most_sets (length state.sets) room
    ]

add_room : (name : List ℕ) (number : ℕ) (sets : List TuneSet) (numbers : List ℕ) → is_ok (add_to name number sets (Some (named name numbers))).1 ≡ true
    → length numbers < most_places
add_room name number sets numbers ok = elim (cases_Bool (leb most_places (length numbers))) [
  | inl full ↦ let none = rw full at ok in cc
  | inr room ↦ leb-false most_places (length numbers) room
]

add_only : (state : State) (name : List ℕ) (base : List TuneSet) (numbers : List ℕ) (number : ℕ) (found : Option Tune) → set_at name base ≡ None
    → is_ok (set_add_found (holding state name base numbers) name number found).1 ≡ true → (is_some found ≡ true) × (length numbers < most_places)
add_only state name base numbers number None none ok = cc
add_only state name base numbers number (Some tune) none ok =
    let all = set_inserted (named name numbers) base in
    let there = set_found_in name numbers base none in
    let answer : Option TuneSet → Bool = λ found. is_ok (sets_answer (λ place. SetAdded name place) (add_to name number all found).1) in
    let at : answer (Some (named name numbers)) ≡ true = ap answer (sym there) ∙ ok in
    (refl, add_room name number all numbers (answer_ok (λ place. SetAdded name place) _ at))

adds_only : (state : State) (name : List ℕ) (base : List TuneSet) (numbers more : List ℕ) → set_at name base ≡ None → length numbers ≤ most_places
    → AreAccepted (map (SetAdd name) more) (holding state name base numbers) → (length numbers + length more ≤ most_places) × AreHeld state.tunes more
adds_only state name base numbers [] none few accepted = (omega arith, tt)
adds_only state name base numbers (number ∷ more) none few accepted =
    let first = add_only state name base numbers number (tune_at number state.tunes) none accepted.0 in
    let room = first.1 in
    let given = add_gives state name base numbers number none room first.0 in
    let count = length-append numbers (number ∷ []) in
    let later = adds_only state name base (numbers ++ number ∷ []) more none (omega arith)
    (subst (λ (s : State). AreAccepted (map (SetAdd name) more) s) (ap (λ (outcome : Outcome). outcome.0) given) accepted.1) in
    let all = later.0 in
    (omega arith, (first.0, later.1))

pub accepted_behind : (some more : List Command) (state : State) → AreAccepted (some ++ more) state → AreAccepted more (after_commands some state)
accepted_behind [] more state accepted = accepted
accepted_behind (command ∷ some) more state accepted = accepted_behind some more (step state command).0 accepted.1

-- where places are cut alone, what stays was there
shorter_only : (state : State) (old new : List ℕ) → CanBePlaces old state
    → drop (common_front old new + (length old - length new)) old ≡ drop (common_front old new) new → CanBePlaces new state
shorter_only state old new was follows =
    let kept = common_front old new in
    let whole : take (common_front old new) old ++ drop (common_front old new + (length old - length new)) old ≡ new =
    ap (λ (some : List ℕ). take (common_front old new) old ++ some) follows
    ∙ ap (λ (some : List ℕ). some ++ drop (common_front old new) new) (front_same old new) ∙ take-append-drop (common_front old new) new in
    let within = front_within old new in
    let within_new = front_within_new old new in
    let a = length-drop (common_front old new + (length old - length new)) old in
    let b = length-drop (common_front old new) new in
    let c = ap length follows in
    let few = was.few in
    record {
      few = omega arith;
      held = subst (λ (numbers : List ℕ). AreHeld state.tunes numbers) whole
          (held_join state.tunes (take kept old) (drop (kept + (length old - length new)) old) (held_take state.tunes kept old was.held)
          (held_drop state.tunes (kept + (length old - length new)) old was.held));
    }

-- where all behind the front is put anew, each was accepted
anew_only : (state : State) (name : List ℕ) (base : List TuneSet) (old new : List ℕ) → set_at name base ≡ None → CanBePlaces old state
    → AreAccepted (cut_behind name (common_front old new) (length old - common_front old new) ++ map (SetAdd name) (drop (common_front old new) new))
    (holding state name base old)
    → CanBePlaces new state
anew_only state name base old new none was accepted =
    let kept = common_front old new in
    let within = front_within old new in
    let within_new = front_within_new old new in
    let before : take (kept + (length old - kept)) old ≡ old = take_all (kept + (length old - kept)) old (omega arith) in
    let cut : after_commands (cut_behind name kept (length old - kept)) (holding state name base old) ≡ holding state name base (take kept old) =
    ap (λ (numbers : List ℕ). after_commands (cut_behind name kept (length old - kept)) (holding state name base numbers)) (sym before)
    ∙ (cut_behind_leads state name base old kept (length old - kept) none (omega arith)).1 in
    let few = was.few in
    let a = length-take-le (common_front old new) old within in
    let b = length-drop (common_front old new) new in
    let later = adds_only state name base (take (common_front old new) old) (drop (common_front old new) new) none (omega arith)
    (subst (λ (s : State). AreAccepted (map (SetAdd name) (drop kept new)) s) cut
    (accepted_behind (cut_behind name kept (length old - kept)) (map (SetAdd name) (drop kept new)) (holding state name base old) accepted)) in
    let all = later.0 in
    record {
      few = omega arith;
      held = subst (λ (numbers : List ℕ). AreHeld state.tunes numbers) (take-append-drop kept new)
          (held_join state.tunes (take kept new) (drop kept new)
          (subst (λ (numbers : List ℕ). AreHeld state.tunes numbers) (front_same old new) (held_take state.tunes kept old was.held)) later.1);
    }

relaid_only : (state : State) (name : List ℕ) (base : List TuneSet) (old new : List ℕ) → set_at name base ≡ None → CanBePlaces old state
    → AreAccepted (relaid name old new) (holding state name base old) → CanBePlaces new state
relaid_only state name base old new none was accepted =
    by (bytes_eq (drop (common_front old new + (length old - length new)) old) (drop (common_front old new) new)) refl accepted
  where
    by : (same : Bool) → bytes_eq (drop (common_front old new + (length old - length new)) old) (drop (common_front old new) new) ≡ same
        → AreAccepted (relaid name old new) (holding state name base old) → CanBePlaces new state
    by true h accepted = shorter_only state old new was ((bytes_eq-Decides _ _).0 h)
    by false h accepted =
        let two : relaid name old new ≡ cut_behind name (common_front old new) (length old - common_front old new)
        ++ map (SetAdd name) (drop (common_front old new) new) = rw h refl in
        anew_only state name base old new none was (subst (λ (some : List Command). AreAccepted some (holding state name base old)) two accepted)

places_were : (state : State) (name : List ℕ) (set : TuneSet) → IsState state → set_at name state.sets ≡ Some set → CanBePlaces set.numbers state
places_were state name set is found = record {
  few = (all_found_set IsTuneSet name state.sets set is.sets.each found).places;
  held = held_at state.tunes name state.sets set is.named found;
}

set_only : (state : State) (name : List ℕ) (found : Option TuneSet) (to : Option (List ℕ)) → IsState state → set_at name state.sets ≡ found
    → AreAccepted (set_commands name (option_map (λ (s : TuneSet). s.numbers) found) to) state
    → CanBeNumbers name (option_map (λ (s : TuneSet). s.numbers) found) to state
set_only state name None None is e accepted = tt
set_only state name (Some set) None is e accepted = tt
set_only state name None (Some new) is e accepted =
    let same : without_set name state.sets ≡ state.sets = set_out_already name state.sets e in
    let base = without_set name state.sets in
    let none = none_without [] name state.sets is.sets.rises in
    let made = new_only name state (answer_ok (λ done. SetMade name) _ accepted.0) in
    let room : length (without_set name state.sets) < most_sets = subst (λ (sets : List TuneSet). length sets < most_sets) (sym same) made.room in
    let begun : (step state (SetNew name)).0 ≡ holding state name base [] =
    ap (λ (sets : List TuneSet). (step (listed state sets) (SetNew name)).0) (sym same)
    ∙ ap (λ (outcome : Outcome). outcome.0) (new_gives state name base none made.good room) in
    let later = adds_only state name base [] new none (omega arith) (subst (λ (s : State). AreAccepted (map (SetAdd name) new) s) begun accepted.1) in
    let few = later.0 in
    (made, record { few = omega arith; held = later.1 })
set_only state name (Some set) (Some new) is e accepted =
    let its = found_name name state.sets set e in
    let base = without_set name state.sets in
    let none = none_without [] name state.sets is.sets.rises in
    let whole : state.sets ≡ set_inserted (named name set.numbers) base =
    sym (set_out_and_in [] name set state.sets is.sets.rises e) ∙ ap (λ (n : List ℕ). set_inserted (named n set.numbers) base) its in
    relaid_only state name base set.numbers new none (places_were state name set is e)
    (subst (λ (s : State). AreAccepted (relaid name set.numbers new) s) (ap (listed state) whole) accepted)

-- EACH
pub only : (state : State) (subject : Subject) (to : Option (List ℕ)) → IsState state → IsGiven subject to → AreAccepted (brought subject to state) state
    → CanBe subject to state
only state (TuneOf number) to is given accepted = tune_only state number (tune_at number state.tunes) to refl given accepted
only state (SetOf name) to is given accepted = set_only state name (set_at name state.sets) to is refl accepted
