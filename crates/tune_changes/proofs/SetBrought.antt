-- A set list is brought to numbers, or dropped.
use Rattle.std.proofs.Common.{◌≡◌, ℕ, zero, suc, ◌+◌, ◌-◌, ◌<◌, ◌≤◌, true, false, eqb, leb, List, [], ◌∷◌, ◌++◌, length, take, drop, map, replicate}
use Rattle.std.proofs.Common.{Option, Some, None, Ok, refl, sym, ap, ◌∙◌, subst, arith, inl, inr, is_some, option_map, append_assoc, append-nil, length-append}
use Rattle.std.proofs.Common.{add-zero, length-drop}
use Rattle.std.specs.List.{remove}
use Rattle.std.specs.Str.{bytes_eq}
use Rattle.std.proofs.lemmas.Bool.{cases_Bool, eqb-true, eq-eqb, lt-ltb, le-leb, lt-leb}
use Rattle.std.proofs.lemmas.List.{take-append-drop, take_all, drop_all, drop-drop, length-take-le}
use Rattle.std.proofs.lemmas.Slice.Eq.{bytes_eq-Decides}
use Rattle.tune_sets.specs.Calls.{create_set, add_to, cut_from, drop_found}
use Rattle.tune_sets.specs.Limits.{most_places, most_sets}
use Rattle.tune_sets.specs.Names.{is_good_name}
use Rattle.tune_sets.specs.Numbers.{has_place}
use Rattle.tune_sets.specs.Sets.{set_at, set_inserted, empty_set, with_numbers, without_set}
use Rattle.tune_sets.specs.declared.set_lists.TuneSet.{TuneSet}
use Rattle.tune_store.specs.SetSteps.{set_add_found, sets_step}
use Rattle.tune_store.specs.State.{State, tune_at, AreHeld, IsState}
use Rattle.tune_store.specs.Step.{step}
use Rattle.tune_store.specs.declared.tune.Tune.{Tune}
use Rattle.tune_store.specs.declared.command.Command.TheVariants.{SetNew, SetAdd, SetCut, SetDrop}
use Rattle.tune_store.specs.declared.command.Reply.TheVariants.{SetMade, SetAdded, SetCut as CutMade, SetDropped}
use Rattle.tune_changes.specs.SubjectTurns.Subject.{SetOf}
use Rattle.tune_changes.specs.Bringing.{common_front, cut_behind, relaid, set_commands, brought}
use Rattle.tune_changes.specs.CommandRuns.{LeadsAccepted}
use Rattle.tune_changes.specs.ChangedStates.{with_content}
use Rattle.tune_changes.specs.Undoing.{CanBePlaces, CanBeNumbers, CanBe}
use Rattle.tune_changes.proofs.Leading.{leads_on, leads_none, leads_by, leads_from, leads_to, leads_with}
use Rattle.tune_changes.proofs.SetListLemmas.{named, found_name, none_without, set_out_already, set_out_and_in, set_in_and_out, set_found_in, renumbered_in}

-- a state with other set lists
abbrev pub listed : State → List TuneSet → State
listed state sets = record state { sets = sets }

-- a state with these set lists, and one more
abbrev pub holding : State → List ℕ → List TuneSet → List ℕ → State
holding state name base numbers = listed state (set_inserted (named name numbers) base)

-- ONE COMMAND
pub new_gives : (state : State) (name : List ℕ) (base : List TuneSet) → set_at name base ≡ None → is_good_name name ≡ true → length base < most_sets
    → step (listed state base) (SetNew name) ≡ (holding state name base [], Ok (SetMade name))
new_gives state name base none good room =
    let few : leb most_sets (length base) ≡ false = lt-leb most_sets (length base) room in
    let made : create_set name base ≡ (set_inserted (empty_set name) base, Ok tt) = rw (good, none, few) refl in
    ap (sets_step (λ done. SetMade name) (listed state base)) made

pub add_gives : (state : State) (name : List ℕ) (base : List TuneSet) (numbers : List ℕ) (number : ℕ) → set_at name base ≡ None
    → length numbers < most_places → is_some (tune_at number state.tunes) ≡ true
    → step (holding state name base numbers) (SetAdd name number) ≡ (holding state name base (numbers ++ number ∷ []), Ok (SetAdded name (length numbers + 1)))
add_gives state name base numbers number none room held = by (tune_at number state.tunes) refl
  where
    all : List TuneSet
    all = set_inserted (named name numbers) base

    by : (found : Option Tune) → tune_at number state.tunes ≡ found
        → step (holding state name base numbers) (SetAdd name number)
        ≡ (holding state name base (numbers ++ number ∷ []), Ok (SetAdded name (length numbers + 1)))
    by None gone = absurd (let e = ap is_some gone in cc)
    by (Some tune) some =
        let few : leb most_places (length numbers) ≡ false = lt-leb most_places (length numbers) room in
        let added : add_to name number (set_inserted (named name numbers) base) (Some (named name numbers))
        ≡ (with_numbers name (numbers ++ number ∷ []) (set_inserted (named name numbers) base), Ok (length numbers + 1)) = rw few refl in
        ap (set_add_found (holding state name base numbers) name number) some
        ∙ ap (sets_step (λ place. SetAdded name place) (holding state name base numbers))
        (ap (add_to name number (set_inserted (named name numbers) base)) (set_found_in name numbers base none) ∙ added
        ∙ ap (λ (new : List TuneSet). (new, Ok (length numbers + 1))) (renumbered_in name numbers (numbers ++ number ∷ []) base none))

cut_gives : (state : State) (name : List ℕ) (base : List TuneSet) (numbers others : List ℕ) (place : ℕ) → set_at name base ≡ None
    → 0 < place → place ≤ length numbers → remove numbers (place - 1) ≡ others
    → step (holding state name base numbers) (SetCut name place) ≡ (holding state name base others, Ok (CutMade name place))
cut_gives state name base numbers others place none first within are =
    let has : has_place place numbers ≡ true = rw (lt-ltb 0 place first, le-leb place (length numbers) within) refl in
    let cut : cut_from name place (set_inserted (named name numbers) base) (Some (named name numbers))
    ≡ (with_numbers name (remove numbers (place - 1)) (set_inserted (named name numbers) base), Ok tt) = rw has refl in
    ap (sets_step (λ done. CutMade name place) (holding state name base numbers))
    (ap (cut_from name place (set_inserted (named name numbers) base)) (set_found_in name numbers base none) ∙ cut
    ∙ ap (λ (some : List ℕ). (with_numbers name some (set_inserted (named name numbers) base), Ok tt)) are
    ∙ ap (λ (new : List TuneSet). (new, Ok tt)) (renumbered_in name numbers others base none))

drop_gives : (state : State) (name : List ℕ) (base : List TuneSet) (numbers : List ℕ) → set_at name base ≡ None
    → step (holding state name base numbers) (SetDrop name) ≡ (listed state base, Ok (SetDropped name))
drop_gives state name base numbers none =
    ap (sets_step (λ done. SetDropped name) (holding state name base numbers))
    (ap (drop_found name (set_inserted (named name numbers) base)) (set_found_in name numbers base none)
    ∙ ap (λ (new : List TuneSet). (new, Ok tt)) (set_in_and_out name numbers base none))

-- NUMBERS MORE
adds_lead : (state : State) (name : List ℕ) (base : List TuneSet) (numbers more : List ℕ) → set_at name base ≡ None
    → length numbers + length more ≤ most_places → AreHeld state.tunes more
    → LeadsAccepted (holding state name base numbers) (map (SetAdd name) more) (holding state name base (numbers ++ more))
adds_lead state name base numbers [] none room held = leads_none _ _ (ap (holding state name base) (sym (append-nil numbers)))
adds_lead state name base numbers (number ∷ more) none room held =
    let count = length-append numbers (number ∷ []) in
    leads_by _ (holding state name base (numbers ++ number ∷ [])) _ (SetAdd name number) _ (map (SetAdd name) more)
    (add_gives state name base numbers number none (omega arith) held.0)
    (leads_to (holding state name base (numbers ++ number ∷ [])) _ _ (map (SetAdd name) more)
    (ap (holding state name base) (append_assoc numbers (number ∷ []) more))
    (adds_lead state name base (numbers ++ number ∷ []) more none (omega arith) held.1))

-- PLACES LESS
-- one place behind a front
remove_behind : (front rest : List ℕ) (number place : ℕ) → place ≡ length front → remove (front ++ number ∷ rest) place ≡ front ++ rest
remove_behind [] rest number place is = rw is refl
remove_behind (first ∷ front) rest number zero is = absurd (omega arith)
remove_behind (first ∷ front) rest number (suc place) is = ap (λ (some : List ℕ). first ∷ some) (remove_behind front rest number place (omega arith))

cuts_lead : (state : State) (name : List ℕ) (base : List TuneSet) (front rest : List ℕ) (place times : ℕ) → set_at name base ≡ None
    → place ≡ length front + 1 → times ≤ length rest
    → LeadsAccepted (holding state name base (front ++ rest)) (replicate times (SetCut name place)) (holding state name base (front ++ drop times rest))
cuts_lead state name base front rest place zero none is enough = leads_none _ _ refl
cuts_lead state name base front [] place (suc times) none is enough = absurd (omega arith)
cuts_lead state name base front (number ∷ rest) place (suc times) none is enough =
    let count = length-append front (number ∷ rest) in
    leads_by _ (holding state name base (front ++ rest)) _ (SetCut name place) _ (replicate times (SetCut name place))
    (cut_gives state name base (front ++ number ∷ rest) (front ++ rest) place none (omega arith) (omega arith)
    (remove_behind front rest number (place - 1) (omega arith)))
    (cuts_lead state name base front rest place times none is (omega arith))

-- the last place
remove_last : (numbers : List ℕ) (n : ℕ) → n < length numbers → remove (take (suc n) numbers) n ≡ take n numbers
remove_last [] n within = absurd (omega arith)
remove_last (number ∷ numbers) zero within = refl
remove_last (number ∷ numbers) (suc n) within = ap (λ (some : List ℕ). number ∷ some) (remove_last numbers n (omega arith))

pub cut_behind_leads : (state : State) (name : List ℕ) (base : List TuneSet) (numbers : List ℕ) (kept more : ℕ) → set_at name base ≡ None
    → kept + more ≤ length numbers
    → LeadsAccepted (holding state name base (take (kept + more) numbers)) (cut_behind name kept more) (holding state name base (take kept numbers))
cut_behind_leads state name base numbers kept zero none within =
    leads_none _ _ (ap (λ n. holding state name base (take n numbers)) (add-zero kept))
cut_behind_leads state name base numbers kept (suc more) none within =
    let next : kept + suc more ≡ suc (kept + more) = omega arith in
    let count : length (take (suc (kept + more)) numbers) ≡ suc (kept + more) = length-take-le (suc (kept + more)) numbers (omega arith) in
    let before : kept + more + 1 - 1 ≡ kept + more = omega arith in
    leads_from _ (holding state name base (take (suc (kept + more)) numbers)) _ (cut_behind name kept (suc more))
    (ap (λ n. holding state name base (take n numbers)) next)
    (leads_by _ (holding state name base (take (kept + more) numbers)) _ (SetCut name (kept + more + 1)) _ (cut_behind name kept more)
    (cut_gives state name base (take (suc (kept + more)) numbers) (take (kept + more) numbers) (kept + more + 1) none (omega arith) (omega arith)
    (ap (remove (take (suc (kept + more)) numbers)) before ∙ remove_last numbers (kept + more) (omega arith)))
    (cut_behind_leads state name base numbers kept more none (omega arith)))

-- THE COMMON FRONT
pub front_same : (old new : List ℕ) → take (common_front old new) old ≡ take (common_front old new) new
front_same [] new = refl
front_same (number ∷ old) [] = refl
front_same (number ∷ old) (other ∷ new) = elim (cases_Bool (eqb number other)) [
  | inl same ↦
      let e = eqb-true number other same in
      rw same (ap (λ n. n ∷ take (common_front old new) old) e ∙ ap (λ (some : List ℕ). other ∷ some) (front_same old new))
  | inr differ ↦ rw differ refl
]

pub front_within : (old new : List ℕ) → common_front old new ≤ length old
front_within [] new = omega arith
front_within (number ∷ old) [] = omega arith
front_within (number ∷ old) (other ∷ new) = elim (cases_Bool (eqb number other)) [
  | inl same ↦ let less = front_within old new in rw same (omega arith)
  | inr differ ↦ rw differ (omega arith)
]

pub front_within_new : (old new : List ℕ) → common_front old new ≤ length new
front_within_new [] new = omega arith
front_within_new (number ∷ old) [] = omega arith
front_within_new (number ∷ old) (other ∷ new) = elim (cases_Bool (eqb number other)) [
  | inl same ↦ let less = front_within_new old new in rw same (omega arith)
  | inr differ ↦ rw differ (omega arith)
]

front_whole : (numbers : List ℕ) → common_front numbers numbers ≡ length numbers
front_whole [] = refl
front_whole (number ∷ numbers) = rw (eq-eqb number number refl) (ap (λ n. suc n) (front_whole numbers))

-- NUMBERS TO OTHER ONES
pub held_drop : (tunes : List Tune) (n : ℕ) (numbers : List ℕ) → AreHeld tunes numbers → AreHeld tunes (drop n numbers)
held_drop tunes zero numbers held = held
held_drop tunes (suc n) [] held = tt
held_drop tunes (suc n) (number ∷ numbers) held = held_drop tunes n numbers held.1

-- what follows is the same, behind some places less
shorter_leads : (state : State) (name : List ℕ) (base : List TuneSet) (old new : List ℕ) → set_at name base ≡ None
    → drop (common_front old new + (length old - length new)) old ≡ drop (common_front old new) new
    → LeadsAccepted (holding state name base old) (replicate (length old - length new) (SetCut name (common_front old new + 1))) (holding state name base new)
shorter_leads state name base old new none follows =
    let kept = common_front old new in
    let fewer = length old - length new in
    let within = front_within old new in
    let within_new = front_within_new old new in
    let count : length (take (common_front old new) old) ≡ common_front old new = length-take-le (common_front old new) old within in
    let rest : length (drop (common_front old new) old) ≡ length old - common_front old new = length-drop (common_front old new) old in
    let before : old ≡ take kept old ++ drop kept old = sym (take-append-drop kept old) in
    let behind : take kept old ++ drop fewer (drop kept old) ≡ new =
    ap (λ (some : List ℕ). take kept old ++ some) (drop-drop fewer kept old ∙ follows)
    ∙ ap (λ (some : List ℕ). some ++ drop kept new) (front_same old new) ∙ take-append-drop kept new in
    leads_from _ (holding state name base (take kept old ++ drop kept old)) _ _ (ap (holding state name base) before)
    (leads_to _ (holding state name base (take kept old ++ drop fewer (drop kept old))) _ _ (ap (holding state name base) behind)
    (cuts_lead state name base (take kept old) (drop kept old) (kept + 1) fewer none (omega arith) (omega arith)))

-- all behind the front is put anew
anew_leads : (state : State) (name : List ℕ) (base : List TuneSet) (old new : List ℕ) → set_at name base ≡ None → CanBePlaces new state
    → LeadsAccepted (holding state name base old)
    (cut_behind name (common_front old new) (length old - common_front old new) ++ map (SetAdd name) (drop (common_front old new) new))
    (holding state name base new)
anew_leads state name base old new none can =
    let kept = common_front old new in
    let within = front_within old new in
    let within_new = front_within_new old new in
    let few = can.few in
    let count : length (take (common_front old new) old) ≡ common_front old new = length-take-le (common_front old new) old within in
    let rest : length (drop (common_front old new) new) ≡ length new - common_front old new = length-drop (common_front old new) new in
    let before : old ≡ take (kept + (length old - kept)) old = sym (take_all (kept + (length old - kept)) old (omega arith)) in
    let behind : take kept old ++ drop kept new ≡ new =
    ap (λ (some : List ℕ). some ++ drop kept new) (front_same old new) ∙ take-append-drop kept new in
    leads_on _ (holding state name base (take kept old)) _ (cut_behind name kept (length old - kept)) _
    (leads_from _ (holding state name base (take (kept + (length old - kept)) old)) _ _ (ap (holding state name base) before)
    (cut_behind_leads state name base old kept (length old - kept) none (omega arith)))
    (leads_to _ (holding state name base (take kept old ++ drop kept new)) _ _ (ap (holding state name base) behind)
    (adds_lead state name base (take kept old) (drop kept new) none (omega arith) (held_drop state.tunes kept new can.held)))

relaid_leads : (state : State) (name : List ℕ) (base : List TuneSet) (old new : List ℕ) → set_at name base ≡ None → CanBePlaces new state
    → LeadsAccepted (holding state name base old) (relaid name old new) (holding state name base new)
relaid_leads state name base old new none can =
    let kept = common_front old new in
    let fewer = length old - length new in
    elim (cases_Bool (bytes_eq (drop (kept + fewer) old) (drop kept new))) [
      | inl same ↦
          let one : relaid name old new ≡ replicate fewer (SetCut name (kept + 1)) = rw same refl in
          leads_with _ _ _ _ one (shorter_leads state name base old new none ((bytes_eq-Decides (drop (kept + fewer) old) (drop kept new)).0 same))
      | inr other ↦
          let two : relaid name old new ≡ cut_behind name kept (length old - kept) ++ map (SetAdd name) (drop kept new) = rw other refl in
          leads_with _ _ _ _ two (anew_leads state name base old new none can)
    ]

-- numbers that stay take no command
pub relaid_same : (name numbers : List ℕ) → relaid name numbers numbers ≡ []
relaid_same name numbers =
    let whole = front_whole numbers in
    let gone : drop (common_front numbers numbers + (length numbers - length numbers)) numbers ≡ [] =
    drop_all (common_front numbers numbers + (length numbers - length numbers)) numbers (omega arith) in
    let gone_too : drop (common_front numbers numbers) numbers ≡ [] = drop_all (common_front numbers numbers) numbers (omega arith) in
    let same = (bytes_eq-Decides _ _).1 (gone ∙ sym gone_too) in
    let none : length numbers - length numbers ≡ 0 = omega arith in
    let one : relaid name numbers numbers ≡ replicate (length numbers - length numbers) (SetCut name (common_front numbers numbers + 1)) = rw same refl in
    one ∙ ap (λ n. replicate n (SetCut name (common_front numbers numbers + 1))) none

-- EACH
numbers_of : Option TuneSet → Option (List ℕ)
numbers_of found = option_map (λ (set : TuneSet). set.numbers) found

out : (state : State) (name : List ℕ) (found : Option TuneSet) → IsState state → set_at name state.sets ≡ found
    → LeadsAccepted state (set_commands name (option_map (λ (set : TuneSet). set.numbers) found) None) (listed state (without_set name state.sets))
out state name None is e = leads_none _ _ (ap (listed state) (sym (set_out_already name state.sets e)))
out state name (Some set) is e =
    let its = found_name name state.sets set e in
    let base = without_set name state.sets in
    let none = none_without [] name state.sets is.sets.rises in
    let whole : state.sets ≡ set_inserted (named name set.numbers) base =
    sym (set_out_and_in [] name set state.sets is.sets.rises e) ∙ ap (λ (n : List ℕ). set_inserted (named n set.numbers) base) its in
    let to = listed state base in
    leads_from state (holding state name base set.numbers) to (SetDrop name ∷ []) (ap (listed state) whole)
    (leads_by (holding state name base set.numbers) to to (SetDrop name) (SetDropped name) [] (drop_gives state name base set.numbers none)
    (leads_none to to refl))

into : (state : State) (name new : List ℕ) (found : Option TuneSet) → IsState state → set_at name state.sets ≡ found
    → CanBeNumbers name (option_map (λ (set : TuneSet). set.numbers) found) (Some new) state
    → LeadsAccepted state (set_commands name (option_map (λ (set : TuneSet). set.numbers) found) (Some new))
    (listed state (set_inserted (named name new) (without_set name state.sets)))
into state name new None is e can =
    let same : state.sets ≡ without_set name state.sets = sym (set_out_already name state.sets e) in
    let base = without_set name state.sets in
    let none = none_without [] name state.sets is.sets.rises in
    let room : length (without_set name state.sets) < most_sets = subst (λ (sets : List TuneSet). length sets < most_sets) same can.0.room in
    let few = can.1.few in
    let to = holding state name base new in
    leads_from state (listed state base) to (SetNew name ∷ map (SetAdd name) new) (ap (listed state) same)
    (leads_by (listed state base) (holding state name base []) to (SetNew name) (SetMade name) (map (SetAdd name) new)
    (new_gives state name base none can.0.good room)
    (adds_lead state name base [] new none (omega arith) can.1.held))
into state name new (Some set) is e can =
    let its = found_name name state.sets set e in
    let base = without_set name state.sets in
    let none = none_without [] name state.sets is.sets.rises in
    let whole : state.sets ≡ set_inserted (named name set.numbers) base =
    sym (set_out_and_in [] name set state.sets is.sets.rises e) ∙ ap (λ (n : List ℕ). set_inserted (named n set.numbers) base) its in
    leads_from state (holding state name base set.numbers) _ _ (ap (listed state) whole) (relaid_leads state name base set.numbers new none can)

pub set_brings : (state : State) (name : List ℕ) (to : Option (List ℕ)) → IsState state → CanBe (SetOf name) to state
    → LeadsAccepted state (brought (SetOf name) to state) (with_content (SetOf name) to state)
set_brings state name None is can = out state name (set_at name state.sets) is refl
set_brings state name (Some new) is can = into state name new (set_at name state.sets) is refl can
