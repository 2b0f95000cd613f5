-- A turn on a set list that stopped within is taken back.
use Rattle.std.proofs.Common.{◌≡◌, ℕ, zero, suc, ◌+◌, ◌-◌, leb, List, [], ◌∷◌, ◌++◌, length, take, drop, map, replicate}
use Rattle.std.proofs.Common.{Option, Some, None, refl, sym, ap, ◌∙◌, subst, inl, inr, option_map, append_assoc, append-nil}
use Rattle.std.specs.List.{AllByRecursion, remove}
use Rattle.std.specs.Str.{bytes_eq}
use Rattle.std.proofs.lemmas.Bool.{cases_Bool}
use Rattle.tune_sets.specs.Calls.{create_unless, create_set, add_to, cut_from, drop_found}
use Rattle.tune_sets.specs.Limits.{most_places, most_sets}
use Rattle.tune_sets.specs.Names.{is_good_name}
use Rattle.tune_sets.specs.Numbers.{has_place}
use Rattle.tune_sets.specs.Sets.{AreSetLists, set_at, with_numbers, without_set}
use Rattle.tune_sets.specs.declared.set_lists.TuneSet.{TuneSet}
use Rattle.tune_store.specs.SetSteps.{set_add_found}
use Rattle.tune_store.specs.State.{State, tune_at, IsState}
use Rattle.tune_store.specs.Step.{step}
use Rattle.tune_store.specs.declared.tune.Tune.{Tune}
use Rattle.tune_store.specs.declared.command.Command.{Command}
use Rattle.tune_store.specs.declared.command.Command.TheVariants.{SetNew, SetAdd, SetCut, SetDrop}
use Rattle.tune_store.proofs.LimitLemmas.{step_keeps_limits}
use Rattle.tune_changes.specs.SubjectTurns.{Subject, Turn, content, numbers_at}
use Rattle.tune_changes.specs.SubjectTurns.Subject.{SetOf}
use Rattle.tune_changes.specs.Bringing.{common_front, cut_behind, relaid, set_commands, brought}
use Rattle.tune_changes.specs.CommandRuns.{after_commands, LeadsAccepted}
use Rattle.tune_changes.specs.ChangedStates.{put_numbers, all_anew, with_content, AreAlike, AreAlikeBut}
use Rattle.tune_changes.specs.Undoing.{CanBeNumbers, taken_back, TakesBack, CanGoBack, StandsAfter, StandsWithin}
use Rattle.tune_changes.proofs.Leading.{leads_on, leads_with, after_append, after_keeps}
use Rattle.tune_changes.proofs.SetListLemmas.{none_without, set_out_already, set_in_and_out}
use Rattle.tune_changes.proofs.SetBrought.{set_brings}
use Rattle.tune_changes.proofs.Faces.{numbers_over, numbers_own}
use Rattle.tune_changes.proofs.Undone.{places_again, made_again, about_keeps, takes_back, none_taken, back_more}

-- COMMANDS ON ONE SET LIST
abbrev OnSet : List ℕ → Command → Type 0
OnSet name (SetNew other) = other ≡ name
OnSet name (SetAdd other number) = other ≡ name
OnSet name (SetCut other place) = other ≡ name
OnSet name (SetDrop other) = other ≡ name
OnSet name command = ⊥

-- the same tunes, and the same set lists but for that of a name
record SameBut (name : List ℕ) (old new : State) : Type 0 where
  laid : new.layout ≡ old.layout
  tunes : new.tunes ≡ old.tunes
  others : without_set name new.sets ≡ without_set name old.sets

abbrev Keeps : List ℕ → List TuneSet → List TuneSet → Type 0
Keeps name old new = without_set name new ≡ without_set name old

numbers_keep : (name numbers : List ℕ) (sets : List TuneSet) → Keeps name sets (with_numbers name numbers sets)
numbers_keep name numbers [] = refl
numbers_keep name numbers (set ∷ sets) = elim (cases_Bool (bytes_eq set.name name)) [
  | inl same ↦ rw (same, same) refl
  | inr other ↦ rw (other, other) (ap (λ (rest : List TuneSet). set ∷ rest) (numbers_keep name numbers sets))
]

create_keeps : (name : List ℕ) (sets : List TuneSet) (found : Option TuneSet) → set_at name sets ≡ found → Keeps name sets (create_unless name sets found).0
create_keeps name sets (Some set) e = refl
create_keeps name sets None e = elim (cases_Bool (leb most_sets (length sets))) [
  | inl full ↦ rw full refl
  | inr room ↦ rw room (set_in_and_out name [] sets e ∙ sym (set_out_already name sets e))
]

new_keeps : (name : List ℕ) (sets : List TuneSet) → Keeps name sets (create_set name sets).0
new_keeps name sets = elim (cases_Bool (is_good_name name)) [
  | inl good ↦ rw good (create_keeps name sets (set_at name sets) refl)
  | inr bad ↦ rw bad refl
]

add_keeps : (name : List ℕ) (number : ℕ) (sets : List TuneSet) (found : Option TuneSet) → Keeps name sets (add_to name number sets found).0
add_keeps name number sets None = refl
add_keeps name number sets (Some set) = elim (cases_Bool (leb most_places (length set.numbers))) [
  | inl full ↦ rw full refl
  | inr room ↦ rw room (numbers_keep name (set.numbers ++ number ∷ []) sets)
]

cut_keeps : (name : List ℕ) (place : ℕ) (sets : List TuneSet) (found : Option TuneSet) → Keeps name sets (cut_from name place sets found).0
cut_keeps name place sets None = refl
cut_keeps name place sets (Some set) = elim (cases_Bool (has_place place set.numbers)) [
  | inl has ↦ rw has (numbers_keep name (remove set.numbers (place - 1)) sets)
  | inr nay ↦ rw nay refl
]

drop_keeps : (name : List ℕ) (sets : List TuneSet) (found : Option TuneSet) → AreSetLists sets → Keeps name sets (drop_found name sets found).0
drop_keeps name sets None are = refl
drop_keeps name sets (Some set) are = set_out_already name (without_set name sets) (none_without [] name sets are.rises)

add_same : (name : List ℕ) (number : ℕ) (state : State) (found : Option Tune) → SameBut name state (set_add_found state name number found).0
add_same name number state None = record { laid = refl; tunes = refl; others = refl }
add_same name number state (Some tune) = record { laid = refl; tunes = refl; others = add_keeps name number state.sets (set_at name state.sets) }

-- a command on a set list leaves all else
step_same : (name : List ℕ) (state : State) (command : Command) → IsState state → OnSet name command → SameBut name state (step state command).0
step_same name state (SetNew other) is on =
    subst (λ (n : List ℕ). SameBut n state (step state (SetNew other)).0) on record {
      laid = refl;
      tunes = refl;
      others = new_keeps other state.sets;
    }
step_same name state (SetAdd other number) is on =
    subst (λ (n : List ℕ). SameBut n state (step state (SetAdd other number)).0) on (add_same other number state (tune_at number state.tunes))
step_same name state (SetCut other place) is on =
    subst (λ (n : List ℕ). SameBut n state (step state (SetCut other place)).0) on record {
      laid = refl;
      tunes = refl;
      others = cut_keeps other place state.sets (set_at other state.sets);
    }
step_same name state (SetDrop other) is on =
    subst (λ (n : List ℕ). SameBut n state (step state (SetDrop other)).0) on record {
      laid = refl;
      tunes = refl;
      others = drop_keeps other state.sets (set_at other state.sets) is.sets;
    }
step_same name state command is on = absurd on

after_same : (name : List ℕ) (commands : List Command) (state : State) → IsState state → AllByRecursion (OnSet name) commands
    → SameBut name state (after_commands commands state)
after_same name [] state is each = record { laid = refl; tunes = refl; others = refl }
after_same name (command ∷ commands) state is each =
    let first = step_same name state command is each.0 in
    let later = after_same name commands (step state command).0 (step_keeps_limits state command is) each.1 in
    record { laid = later.laid ∙ first.laid; tunes = later.tunes ∙ first.tunes; others = later.others ∙ first.others }

-- THE COMMANDS FOR A SET LIST ARE ON IT
all_join : (P : Command → Type 0) (some more : List Command) → AllByRecursion P some → AllByRecursion P more → AllByRecursion P (some ++ more)
all_join P [] more each later = later
all_join P (command ∷ some) more each later = (each.0, all_join P some more each.1 later)

all_taken : (P : Command → Type 0) (count : ℕ) (some : List Command) → AllByRecursion P some → AllByRecursion P (take count some)
all_taken P zero some each = tt
all_taken P (suc count) [] each = tt
all_taken P (suc count) (command ∷ some) each = (each.0, all_taken P count some each.1)

adds_on : (name numbers : List ℕ) → AllByRecursion (OnSet name) (map (SetAdd name) numbers)
adds_on name [] = tt
adds_on name (number ∷ numbers) = (refl, adds_on name numbers)

cuts_on : (name : List ℕ) (times place : ℕ) → AllByRecursion (OnSet name) (replicate times (SetCut name place))
cuts_on name zero place = tt
cuts_on name (suc times) place = (refl, cuts_on name times place)

behind_on : (name : List ℕ) (kept more : ℕ) → AllByRecursion (OnSet name) (cut_behind name kept more)
behind_on name kept zero = tt
behind_on name kept (suc more) = (refl, behind_on name kept more)

relaid_on : (name old new : List ℕ) → AllByRecursion (OnSet name) (relaid name old new)
relaid_on name old new = elim (cases_Bool (bytes_eq (drop (common_front old new + (length old - length new)) old) (drop (common_front old new) new))) [
  | inl same ↦ rw same (cuts_on name (length old - length new) (common_front old new + 1))
  | inr other ↦
      rw other
      (all_join (OnSet name) (cut_behind name (common_front old new) (length old - common_front old new)) _
      (behind_on name (common_front old new) (length old - common_front old new)) (adds_on name (drop (common_front old new) new)))
]

set_on : (name : List ℕ) (old new : Option (List ℕ)) → AllByRecursion (OnSet name) (set_commands name old new)
set_on name None None = tt
set_on name None (Some new) = (refl, adds_on name new)
set_on name (Some old) None = (refl, tt)
set_on name (Some old) (Some new) = relaid_on name old new

-- A STOP WITHIN THEM
pub set_stopped : (state : State) (name : List ℕ) (to : Option (List ℕ)) (count : ℕ) → IsState state
    → AreAlikeBut (SetOf name) (after_commands (take count (brought (SetOf name) to state)) state) state
set_stopped state name to count is =
    let commands = take count (brought (SetOf name) to state) in
    let now = after_commands commands state in
    let same = after_same name commands state is (all_taken (OnSet name) count _ (set_on name (numbers_at name state) to)) in
    ap (λ layout. record { layout = layout; tunes = all_anew now.tunes; sets = without_set name now.sets }) same.laid
    ∙ ap (λ (ts : List Tune). record { layout = state.layout; tunes = all_anew ts; sets = without_set name now.sets }) same.tunes
    ∙ ap (λ (ss : List TuneSet). record { layout = state.layout; tunes = all_anew state.tunes; sets = ss }) same.others

-- A SET LIST RETURNS
-- what is the same of two states but for a set list
others_of : (name : List ℕ) (x y : State) → AreAlikeBut (SetOf name) x y → without_set name x.sets ≡ without_set name y.sets
others_of name x y same = ap (λ (s : State). s.sets) same

faces_of : (name : List ℕ) (x y : State) → AreAlikeBut (SetOf name) x y → all_anew x.tunes ≡ all_anew y.tunes
faces_of name x y same = ap (λ (s : State). s.tunes) same

laid_of : (name : List ℕ) (x y : State) → AreAlikeBut (SetOf name) x y → x.layout ≡ y.layout
laid_of name x y same = ap (λ (s : State). s.layout) same

can_return : (name : List ℕ) (new now : State) (was has : Option TuneSet) → IsState new → AreAlikeBut (SetOf name) now new → set_at name new.sets ≡ was
    → set_at name now.sets ≡ has
    → CanBeNumbers name (option_map (λ (s : TuneSet). s.numbers) has) (option_map (λ (s : TuneSet). s.numbers) was) now
can_return name new now None None is same e h = tt
can_return name new now None (Some other) is same e h = tt
can_return name new now (Some set) (Some other) is same e h = places_again now new name set is e (faces_of name now new same)
can_return name new now (Some set) None is same e h = (
  made_again now new name set is e (sym (set_out_already name now.sets h) ∙ others_of name now new same),
  places_again now new name set is e (faces_of name now new same),
)

set_returns : (name : List ℕ) (new now : State) → IsState new → IsState now → AreAlikeBut (SetOf name) now new
    → LeadsAccepted now (brought (SetOf name) (numbers_at name new) now) (with_content (SetOf name) (numbers_at name new) now)
set_returns name new now is within same =
    set_brings now name (numbers_at name new) within (can_return name new now (set_at name new.sets) (set_at name now.sets) is same refl refl)

set_returned : (name : List ℕ) (new now : State) → IsState new → AreAlikeBut (SetOf name) now new
    → AreAlike (with_content (SetOf name) (numbers_at name new) now) new
set_returned name new now is same =
    let sets : put_numbers name (numbers_at name new) now.sets ≡ new.sets =
    numbers_over name (numbers_at name new) now.sets new.sets (others_of name now new same) ∙ numbers_own name (set_at name new.sets) new is refl in
    ap (λ (ss : List TuneSet). record { layout = now.layout; tunes = all_anew now.tunes; sets = ss }) sets
    ∙ ap (λ (ts : List Tune). record { layout = now.layout; tunes = ts; sets = new.sets }) (faces_of name now new same)
    ∙ ap (λ layout. record { layout = layout; tunes = all_anew new.tunes; sets = new.sets }) (laid_of name now new same)

-- ONE AFTER ANOTHER
taken_append : (state : State) (turns more : List Turn)
    → taken_back (turns ++ more) state ≡ taken_back more state ++ taken_back turns (after_commands (taken_back more state) state)
taken_append state [] more = sym (append-nil (taken_back more state))
taken_append state (turn ∷ turns) more =
    let first = taken_back more state in
    let rest = taken_back turns (after_commands first state) in
    back_more turn (turns ++ more) state
    ∙ ap (λ (later : List Command). later ++ brought turn.subject turn.was (after_commands later state)) (taken_append state turns more)
    ∙ ap (λ (s : State). (first ++ rest) ++ brought turn.subject turn.was s) (after_append first rest state)
    ∙ append_assoc first rest (brought turn.subject turn.was (after_commands rest (after_commands first state)))
    ∙ ap (λ (some : List Command). first ++ some) (sym (back_more turn turns (after_commands first state)))

pub takes_within : (old now : State) (turns others : List Turn) (turn : Turn) → IsState old → CanGoBack turns now
    → StandsWithin turns turn others old now → TakesBack (turns ++ turn ∷ others) now old
takes_within old now turns others turn is can stands =
    let name = stands.name in
    let new = stands.new in
    let is_new = about_keeps turns old new is stands.about in
    let same : AreAlikeBut (SetOf name) now new = subst (λ (s : Subject). AreAlikeBut s now new) stands.on stands.alike in
    let was : numbers_at name new ≡ turn.was = ap (λ (s : Subject). content s new) (sym stands.on) ∙ stands.was in
    let mid = with_content (SetOf name) (numbers_at name new) now in
    let one : taken_back (turn ∷ others) now ≡ brought (SetOf name) (numbers_at name new) now =
    back_more turn others now
    ∙ ap (λ (later : List Command). later ++ brought turn.subject turn.was (after_commands later now)) (none_taken now others stands.rest)
    ∙ ap (λ (s : Subject). brought s turn.was now) stands.on ∙ ap (λ (some : Option (List ℕ)). brought (SetOf name) some now) (sym was) in
    let first : LeadsAccepted now (taken_back (turn ∷ others) now) mid = leads_with now mid _ _ one (set_returns name new now is_new can.within same) in
    let is_mid : IsState mid = subst IsState first.1 (after_keeps (taken_back (turn ∷ others) now) now can.within) in
    let can_mid : CanGoBack turns mid = record { within = is_mid; leaves = record { new = can.leaves.new; each = can.leaves.each } } in
    let after_mid : StandsAfter turns old mid = record { new = new; about = stands.about; alike = set_returned name new now is_new same } in
    let back = takes_back old mid turns is can_mid after_mid in
    let whole : taken_back (turns ++ turn ∷ others) now ≡ taken_back (turn ∷ others) now ++ taken_back turns mid =
    taken_append now turns (turn ∷ others) ∙ ap (λ (s : State). taken_back (turn ∷ others) now ++ taken_back turns s) first.1 in
    (back.0, leads_with now back.0 _ _ whole (leads_on now mid back.0 (taken_back (turn ∷ others) now) (taken_back turns mid) first back.1), back.2)
