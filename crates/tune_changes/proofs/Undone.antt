-- Turns that were brought about are taken back.
use Rattle.std.proofs.Common.{◌≡◌, ℕ, ◌+◌, ◌<◌, ◌≤◌, true, List, [], ◌∷◌, ◌++◌, length, Option, Some, None, refl, sym, ap, ◌∙◌, subst}
use Rattle.std.proofs.Common.{append_assoc, append-nil, map, reverse}
use Rattle.std.proofs.Common.{arith, inl, inr, is_some, option_map}
use Rattle.std.specs.List.{AllByRecursion}
use Rattle.std.specs.Str.{bytes_eq}
use Rattle.std.proofs.lemmas.Bool.{cases_Bool, lt-ltb, le-leb}
use Rattle.std.proofs.lemmas.List.{length-map, map-append, reverse-append}
use Rattle.std.proofs.lemmas.Slice.Eq.{bytes_eq-Decides}
use Rattle.tune_sets.specs.Names.{is_good_name}
use Rattle.tune_sets.specs.Sets.{set_at, holder, IsTuneSet, without_set as without_set}
use Rattle.tune_sets.specs.declared.set_lists.TuneSet.{TuneSet}
use Rattle.tune_store.specs.Limits.{longest_text, most_tunes, greatest_number, greatest_revision}
use Rattle.tune_store.specs.State.{State, tune_at, greatest, AreHeld, IsTune, IsState}
use Rattle.tune_store.specs.TuneSteps.{tune_inserted, without_tune, is_number}
use Rattle.tune_store.specs.declared.tune.Tune.{Tune}
use Rattle.tune_store.specs.Step.{step}
use Rattle.tune_store.specs.declared.command.Command.{Command}
use Rattle.tune_store.proofs.MoveLemmas.{length-without_one, number_within}
use Rattle.tune_store.proofs.NamedLemmas.{held_at}
use Rattle.tune_store.proofs.PlaceLemmas.{tune_at-number}
use Rattle.tune_store.proofs.StateLemmas.{greatest-without}
use Rattle.tune_changes.specs.SubjectTurns.{Subject, Turn, Aim, aim_back, content, numbers_at}
use Rattle.tune_changes.specs.SubjectTurns.Subject.{TuneOf, SetOf}
use Rattle.tune_changes.specs.Bringing.{tune_commands, set_commands, brought, brought_each}
use Rattle.tune_changes.specs.CommandRuns.{after_commands, AreAccepted, LeadsAccepted}
use Rattle.tune_changes.specs.ChangedStates.{anew, all_anew, face, tune_with, put_numbers, with_content, with_each}
use Rattle.tune_changes.specs.Undoing.{CanGoIn, CanBeReplaced, CanBeText, CanBePlaces, CanBeMade, CanBeNumbers, CanBe}
use Rattle.tune_changes.specs.Undoing.{IsGiven, CanComeBack, IsBroughtAbout, BringsAbout}
use Rattle.tune_changes.specs.Undoing.{brought_about, taken_back, replacements_in, replacements, LeavesRevisions, TakesBack, NotBegun, CanGoBack, StandsAfter}
use Rattle.tune_changes.proofs.Leading.{leads_on, leads_none, leads_with, leads_after, after_keeps, after_append}
use Rattle.tune_changes.proofs.TuneLists.{found_above, all_without, all_inserted, all_found, found_anew, greatest_anew}
use Rattle.tune_changes.proofs.SetListLemmas.{found_name, all_found_set, length_without_set}
use Rattle.tune_changes.proofs.TuneBrought.{unnamed, tune_brings}
use Rattle.tune_changes.proofs.SetBrought.{relaid_same, set_brings}
use Rattle.tune_changes.proofs.Accepted.{only, accepted_behind}
use Rattle.tune_changes.proofs.Faces.{plain, plain_text, content_face, face_with, content_plain, plain_back}

-- A SUBJECT IS BROUGHT
pub brings : (state : State) (subject : Subject) (to : Option (List ℕ)) → IsState state → CanBe subject to state
    → LeadsAccepted state (brought subject to state) (with_content subject to state)
brings state (TuneOf number) to is can = tune_brings state number to is can
brings state (SetOf name) to is can = set_brings state name to is can

-- what it is already takes no command
text_same : (state : State) (number : ℕ) (found : Option Tune)
    → tune_commands (greatest state.tunes) number found (option_map (λ (t : Tune). t.text) found) ≡ []
text_same state number None = refl
text_same state number (Some tune) = rw ((bytes_eq-Decides tune.text tune.text).1 refl) refl

numbers_same : (name : List ℕ) (found : Option (List ℕ)) → set_commands name found found ≡ []
numbers_same name None = refl
numbers_same name (Some numbers) = relaid_same name numbers

brought_same : (state : State) (subject : Subject) → brought subject (content subject state) state ≡ []
brought_same state (TuneOf number) = text_same state number (tune_at number state.tunes)
brought_same state (SetOf name) = numbers_same name (numbers_at name state)

-- TWO STATES OF ONE FACE
layout_of : (x y : State) → face x ≡ y → x.layout ≡ y.layout
layout_of x y same = ap (λ (s : State). s.layout) same

tunes_of : (x y : State) → face x ≡ y → all_anew x.tunes ≡ y.tunes
tunes_of x y same = ap (λ (s : State). s.tunes) same

sets_of : (x y : State) → face x ≡ y → x.sets ≡ y.sets
sets_of x y same = ap (λ (s : State). s.sets) same

some_anew : (found : Option Tune) → is_some (option_map anew found) ≡ is_some found
some_anew None = refl
some_anew (Some tune) = refl

held_like : (some more : List Tune) (numbers : List ℕ) → all_anew some ≡ all_anew more → AreHeld some numbers → AreHeld more numbers
held_like some more [] same held = tt
held_like some more (number ∷ numbers) same held =
    let here : is_some (tune_at number some) ≡ true = held.0 in (
      sym (some_anew (tune_at number more)) ∙ ap is_some (sym (found_anew number more))
          ∙ ap (λ (ts : List Tune). is_some (tune_at number ts)) (sym same) ∙ ap is_some (found_anew number some) ∙ some_anew (tune_at number some) ∙ here,
      held_like some more numbers same held.1,
    )

-- WHAT WAS CAN BE AGAIN
-- how many tunes are there, and the greatest number, where a tune was taken out
out_count : (x old : State) (number : ℕ) (tune : Tune) → all_anew x.tunes ≡ without_tune number (all_anew old.tunes) → tune_at number old.tunes ≡ Some tune
    → length x.tunes + 1 ≡ length old.tunes
out_count x old number tune same found =
    let fewer = length-without_one number (all_anew old.tunes) (anew tune) (found_anew number old.tunes ∙ ap (option_map anew) found) in
    let a = length-map x.tunes anew in
    let b = length-map old.tunes anew in
    let c = ap length same in
    omega arith

out_greatest : (x old : State) (number : ℕ) → all_anew x.tunes ≡ without_tune number (all_anew old.tunes) → greatest x.tunes ≤ greatest old.tunes
out_greatest x old number same =
    let less = greatest-without number (all_anew old.tunes) in
    let a = greatest_anew x.tunes in
    let b = greatest_anew old.tunes in
    let c = ap greatest same in
    omega arith

number_good : (state : State) (number : ℕ) (tune : Tune) → IsState state → tune_at number state.tunes ≡ Some tune → is_number number ≡ true
number_good state number tune is found =
    let its = tune_at-number number state.tunes tune found in
    let above = found_above 0 number state.tunes tune is.tunes.rises found in
    let within = number_within number state.tunes tune found in
    let top = is.tunes.numbers in
    rw (lt-ltb 0 number (omega arith), le-leb number greatest_number (omega arith)) refl

-- a tune can be taken out that was not there
tune_out : (x old : State) (number : ℕ) (found : Option Tune) → IsState old → x.sets ≡ old.sets → tune_at number old.tunes ≡ None
    → CanBeText number found None x
tune_out x old number None is same none = tt
tune_out x old number (Some tune) is same none =
    ap (holder number) same ∙ unnamed number old.tunes old.sets is.named none

-- a tune that was there can go in
tune_in : (x old : State) (number : ℕ) (tune : Tune) → IsState old → tune_at number old.tunes ≡ Some tune → x.layout ≡ old.layout
    → all_anew x.tunes ≡ without_tune number (all_anew old.tunes) → greatest old.tunes < greatest_number → CanGoIn number tune.text x
tune_in x old number tune is found laid same back =
    let its = all_found (IsTune old.layout) number old.tunes tune is.tunes.each found in
    let count = out_count x old number tune same found in
    let most = is.tunes.count in
    let top = out_greatest x old number same in
    let lay : longest_text old.layout ≡ longest_text x.layout = ap longest_text (sym laid) in
    let many : most_tunes old.layout ≡ most_tunes x.layout = ap most_tunes (sym laid) in
    let fits = its.fits in
    record {
      named = number_good old number tune is found;
      good = record { tune_text = its.text; fits = omega arith };
      room = omega arith;
      next = omega arith;
    }

-- a tune can get the text again that it had
tune_again : (x old : State) (number : ℕ) (tune now : Tune) → IsState old → tune_at number old.tunes ≡ Some tune → x.layout ≡ old.layout
    → now.revision < greatest_revision → CanBeReplaced now tune.text x
tune_again x old number tune now is found laid young =
    let its = all_found (IsTune old.layout) number old.tunes tune is.tunes.each found in
    let lay : longest_text old.layout ≡ longest_text x.layout = ap longest_text (sym laid) in
    let fits = its.fits in
    record { good = record { tune_text = its.text; fits = omega arith }; young = young }

tune_back : (x old : State) (number times : ℕ) (to : Option (List ℕ)) (was now : Option Tune) → IsState old → x.layout ≡ old.layout → x.sets ≡ old.sets
    → all_anew x.tunes ≡ plain_text number to (all_anew old.tunes) → tune_at number old.tunes ≡ was → tune_at number x.tunes ≡ now
    → option_map (λ (t : Tune). t.text) now ≡ to → CanComeBack (TuneOf number) to old
    → LeavesRevisions (times + replacements_in (TuneOf number) (option_map (λ (t : Tune). t.text) was) to) x
    → CanBeText number now (option_map (λ (t : Tune). t.text) was) x
tune_back x old number times to None now is laid sets tunes had has are back leaves = tune_out x old number now is sets had
tune_back x old number times None (Some tune) None is laid sets tunes had has are back leaves = tune_in x old number tune is had laid tunes back
tune_back x old number times (Some text) (Some tune) None is laid sets tunes had has are back leaves = cc
tune_back x old number times None (Some tune) (Some now) is laid sets tunes had has are back leaves = cc
tune_back x old number times (Some text) (Some tune) (Some now) is laid sets tunes had has are back leaves =
    let more = all_found (λ (t : Tune). t.revision + (times + 1) ≤ greatest_revision) number x.tunes now leaves.each has in
    λ differs. tune_again x old number tune now is had laid (omega arith)

-- a set list can have its numbers again
pub places_again : (x old : State) (name : List ℕ) (set : TuneSet) → IsState old → set_at name old.sets ≡ Some set → all_anew x.tunes ≡ all_anew old.tunes
    → CanBePlaces set.numbers x
places_again x old name set is found same =
    let its = all_found_set IsTuneSet name old.sets set is.sets.each found in
    record {
      few = its.places;
      held = held_like old.tunes x.tunes set.numbers (sym same) (held_at old.tunes name old.sets set is.named found);
    }

pub made_again : (x old : State) (name : List ℕ) (set : TuneSet) → IsState old → set_at name old.sets ≡ Some set → x.sets ≡ without_set name old.sets
    → CanBeMade name x
made_again x old name set is found same =
    let its = all_found_set IsTuneSet name old.sets set is.sets.each found in
    let count = length_without_set name old.sets set found in
    let most = is.sets.count in
    let c = ap length same in
    record { good = ap is_good_name (sym (found_name name old.sets set found)) ∙ its.name; room = omega arith }

set_back : (x old : State) (name : List ℕ) (to : Option (List ℕ)) (was : Option TuneSet) (now : Option (List ℕ)) → IsState old
    → all_anew x.tunes ≡ all_anew old.tunes → x.sets ≡ put_numbers name to old.sets → set_at name old.sets ≡ was → now ≡ to
    → CanBeNumbers name now (option_map (λ (s : TuneSet). s.numbers) was) x
set_back x old name to None None is tunes sets had are = tt
set_back x old name to None (Some now) is tunes sets had are = tt
set_back x old name None (Some set) None is tunes sets had are = (made_again x old name set is had sets, places_again x old name set is had tunes)
set_back x old name (Some numbers) (Some set) None is tunes sets had are = cc
set_back x old name to (Some set) (Some now) is tunes sets had are = places_again x old name set is had tunes

-- what a subject was it can be again, where all else is as it was
can_back : (x old : State) (subject : Subject) (times : ℕ) (to : Option (List ℕ)) → IsState old → face x ≡ plain subject to (face old)
    → content subject x ≡ to → CanComeBack subject to old → LeavesRevisions (times + replacements_in subject (content subject old) to) x
    → CanBe subject (content subject old) x
can_back x old (TuneOf number) times to is same are back leaves =
    tune_back x old number times to (tune_at number old.tunes) (tune_at number x.tunes) is (layout_of x (plain (TuneOf number) to (face old)) same)
    (sets_of x (plain (TuneOf number) to (face old)) same) (tunes_of x (plain (TuneOf number) to (face old)) same) refl refl are back leaves
can_back x old (SetOf name) times to is same are back leaves =
    set_back x old name to (set_at name old.sets) (numbers_at name x) is (tunes_of x (plain (SetOf name) to (face old)) same)
    (sets_of x (plain (SetOf name) to (face old)) same) refl are

-- REVISIONS
each_less : (times more : ℕ) (tunes : List Tune) → times ≤ more → AllByRecursion (λ (t : Tune). t.revision + more ≤ greatest_revision) tunes
    → AllByRecursion (λ (t : Tune). t.revision + times ≤ greatest_revision) tunes
each_less times more [] less each = tt
each_less times more (tune ∷ tunes) less each = let here = each.0 in (omega arith, each_less times more tunes less each.1)

leaves_less : (times more : ℕ) (state : State) → times ≤ more → LeavesRevisions more state → LeavesRevisions times state
leaves_less times more state less leaves =
    let new = leaves.new in
    record { new = omega arith; each = each_less times more state.tunes less leaves.each }

with_revision : (times number : ℕ) (tune : Tune) (text : List ℕ) → tune.revision + (times + 1) ≤ greatest_revision
    → (tune_with number (Some tune) text).revision + times ≤ greatest_revision
with_revision times number tune text few = elim (cases_Bool (bytes_eq tune.text text)) [
  | inl same ↦ rw same (omega arith)
  | inr other ↦ rw other (omega arith)
]

put_leaves : (x : State) (number times : ℕ) (was to : Option (List ℕ)) (now : Option Tune) → tune_at number x.tunes ≡ now
    → option_map (λ (t : Tune). t.text) now ≡ to → LeavesRevisions (times + replacements_in (TuneOf number) was to) x
    → LeavesRevisions times (with_content (TuneOf number) was x)
put_leaves x number times None to now has are leaves =
    let less = leaves_less times (times + replacements_in (TuneOf number) None to) x (omega arith) leaves in
    record { new = less.new; each = all_without (λ (t : Tune). t.revision + times ≤ greatest_revision) number x.tunes less.each }
put_leaves x number times (Some text) None (Some now) has are leaves = cc
put_leaves x number times (Some text) (Some other) None has are leaves = cc
put_leaves x number times (Some text) None None has are leaves =
    let less = leaves_less times (times + 0) x (omega arith) leaves in
    let new = less.new in
    record {
      new = less.new;
      each = subst
          (λ (found : Option Tune). AllByRecursion (λ (t : Tune). t.revision + times ≤ greatest_revision)
          (tune_inserted (tune_with number found text) (without_tune number x.tunes))) (sym has)
          (all_inserted (λ (t : Tune). t.revision + times ≤ greatest_revision) (tune_with number None text) (without_tune number x.tunes) (omega arith)
          (all_without (λ (t : Tune). t.revision + times ≤ greatest_revision) number x.tunes less.each));
    }
put_leaves x number times (Some text) (Some other) (Some now) has are leaves =
    let less = leaves_less times (times + 1) x (omega arith) leaves in
    let more = all_found (λ (t : Tune). t.revision + (times + 1) ≤ greatest_revision) number x.tunes now leaves.each has in
    record {
      new = less.new;
      each = subst
          (λ (found : Option Tune). AllByRecursion (λ (t : Tune). t.revision + times ≤ greatest_revision)
          (tune_inserted (tune_with number found text) (without_tune number x.tunes))) (sym has)
          (all_inserted (λ (t : Tune). t.revision + times ≤ greatest_revision) (tune_with number (Some now) text) (without_tune number x.tunes)
          (with_revision times number now text more)
          (all_without (λ (t : Tune). t.revision + times ≤ greatest_revision) number x.tunes less.each));
    }

leaves_back : (x : State) (subject : Subject) (times : ℕ) (was to : Option (List ℕ)) → content subject x ≡ to
    → LeavesRevisions (times + replacements_in subject was to) x → LeavesRevisions times (with_content subject was x)
leaves_back x (TuneOf number) times was to are leaves = put_leaves x number times was to (tune_at number x.tunes) refl are leaves
leaves_back x (SetOf name) times was to are leaves =
    let less = leaves_less times (times + replacements_in (SetOf name) was to) x (omega arith) leaves in record { new = less.new; each = less.each }

-- AIMS
accepted_front : (some more : List Command) (state : State) → AreAccepted (some ++ more) state → AreAccepted some state
accepted_front [] more state accepted = tt
accepted_front (command ∷ some) more state accepted = (accepted.0, accepted_front some more (step state command).0 accepted.1)

pub each_made : (aims : List Aim) (state : State) → IsState state → AllByRecursion (λ (aim : Aim). IsGiven aim.subject aim.to) aims
    → AreAccepted (brought_each aims state) state → after_commands (brought_each aims state) state ≡ with_each aims state
each_made [] state is given accepted = refl
each_made (aim ∷ aims) state is given accepted =
    let commands = brought aim.subject aim.to state in
    let next = after_commands commands state in
    let rest = brought_each aims next in
    let can = only state aim.subject aim.to is given.0 (accepted_front commands rest state accepted) in
    let first : next ≡ with_content aim.subject aim.to state = (brings state aim.subject aim.to is can).1 in
    after_append commands rest state
    ∙ each_made aims next (after_keeps commands state is) given.1 (accepted_behind commands rest state accepted) ∙ ap (with_each aims) first

-- TURNS
can_turn : (turn : Turn) (state : State) → IsState state → IsBroughtAbout turn state → CanBe turn.subject turn.is state
can_turn turn state is about = only state turn.subject turn.is is about.given about.accepted

pub about_keeps : (turns : List Turn) (old new : State) → IsState old → BringsAbout turns old new → IsState new
about_keeps [] old new is same = subst IsState same is
about_keeps (turn ∷ turns) old new is about =
    let commands = brought turn.subject turn.is old in
    about_keeps turns (after_commands commands old) new (after_keeps commands old is) about.1

pub about_leads : (turns : List Turn) (old new : State) → IsState old → BringsAbout turns old new → LeadsAccepted old (brought_about turns old) new
about_leads [] old new is same = leads_none old new same
about_leads (turn ∷ turns) old new is about =
    let commands = brought turn.subject turn.is old in
    let first = brings old turn.subject turn.is is (can_turn turn old is about.0) in
    leads_on old (after_commands commands old) new commands (brought_about turns (after_commands commands old)) (leads_after old _ commands first)
    (about_leads turns (after_commands commands old) new (after_keeps commands old is) about.1)

-- the last turn first
each_more : (aims : List Aim) (last : Aim) (state : State)
    → brought_each (aims ++ last ∷ []) state ≡ brought_each aims state ++ brought last.subject last.to (after_commands (brought_each aims state) state)
each_more [] last state = append-nil (brought last.subject last.to state)
each_more (aim ∷ aims) last state =
    let first = brought aim.subject aim.to state in
    let next = after_commands first state in
    let rest = brought_each aims next in
    ap (λ (more : List Command). first ++ more) (each_more aims last next)
    ∙ ap (λ (s : State). first ++ (rest ++ brought last.subject last.to s)) (sym (after_append first rest state))
    ∙ sym (append_assoc first rest (brought last.subject last.to (after_commands (first ++ rest) state)))

pub back_more : (turn : Turn) (turns : List Turn) (state : State)
    → taken_back (turn ∷ turns) state ≡ taken_back turns state ++ brought turn.subject turn.was (after_commands (taken_back turns state) state)
back_more turn turns state =
    let turned : reverse (turn ∷ turns) ≡ reverse turns ++ turn ∷ [] = reverse-append (turn ∷ []) turns in
    ap (λ (ts : List Turn). brought_each (map aim_back ts) state) turned
    ∙ ap (λ (aims : List Aim). brought_each aims state) (map-append aim_back (reverse turns) (turn ∷ []))
    ∙ each_more (map aim_back (reverse turns)) (aim_back turn) state

-- where the turns taken back lead, and what is left of revisions there
record Undone (times : ℕ) (turns : List Turn) (now old : State) : Type 0 where
  back : State
  leads : LeadsAccepted now (taken_back turns now) back
  alike : face back ≡ face old
  leaves : LeavesRevisions times back

undone : (times : ℕ) (turns : List Turn) (old new now : State) → IsState old → BringsAbout turns old new → IsState now → face now ≡ face new
    → LeavesRevisions (times + replacements turns) now → Undone times turns now old
undone times [] old new now is same within alike leaves = record {
  back = now;
  leads = leads_none now now refl;
  alike = alike ∙ ap face (sym same);
  leaves = leaves_less times (times + 0) now (omega arith) leaves;
}
undone times (turn ∷ turns) old new now is about within alike leaves =
    let commands = brought turn.subject turn.is old in
    let mid = after_commands commands old in
    let here = replacements_in turn.subject turn.was turn.is in
    let is_mid = after_keeps commands old is in
    let later = undone (times + here) turns mid new now is_mid about.1 within alike
    (leaves_less (times + here + replacements turns) (times + (here + replacements turns)) now (omega arith) leaves) in
    let x = later.back in
    let reached : after_commands (taken_back turns now) now ≡ x = later.leads.1 in
    let is_x : IsState x = subst IsState reached (after_keeps (taken_back turns now) now within) in
    let was : content turn.subject old ≡ turn.was = about.0.was in
    let faced : face x ≡ plain turn.subject turn.is (face old) =
    later.alike ∙ ap face (brings old turn.subject turn.is is (can_turn turn old is about.0)).1 ∙ face_with turn.subject turn.is old in
    let are : content turn.subject x ≡ turn.is =
    sym (content_face turn.subject x) ∙ ap (content turn.subject) faced ∙ content_plain turn.subject turn.is old is in
    let leaves_then : LeavesRevisions (times + replacements_in turn.subject (content turn.subject old) turn.is) x =
    subst (λ (some : Option (List ℕ)). LeavesRevisions (times + replacements_in turn.subject some turn.is) x) (sym was) later.leaves in
    let can : CanBe turn.subject turn.was x =
    subst (λ (some : Option (List ℕ)). CanBe turn.subject some x) was
    (can_back x old turn.subject times turn.is is faced are about.0.back leaves_then) in
    let y = with_content turn.subject turn.was x in
    let last : LeadsAccepted x (brought turn.subject turn.was x) y = brings x turn.subject turn.was is_x can in
    record {
      back = y;
      leads = leads_with now y _ _ (back_more turn turns now)
          (leads_on now x y (taken_back turns now) (brought turn.subject turn.was (after_commands (taken_back turns now) now)) later.leads
          (subst (λ (s : State). LeadsAccepted x (brought turn.subject turn.was s) y) (sym reached) last));
      alike = face_with turn.subject turn.was x ∙ ap (plain turn.subject turn.was) faced
          ∙ ap (λ (some : Option (List ℕ)). plain turn.subject some (plain turn.subject turn.is (face old))) (sym was)
          ∙ plain_back turn.subject turn.is old is;
      leaves = leaves_back x turn.subject times turn.was turn.is are later.leaves;
    }

pub takes_back : (old now : State) (turns : List Turn) → IsState old → CanGoBack turns now → StandsAfter turns old now → TakesBack turns now old
takes_back old now turns is can stands =
    let leaves = leaves_less (0 + replacements turns) (replacements turns) now (omega arith) can.leaves in
    let it = undone 0 turns old stands.new now is stands.about can.within stands.alike leaves in
    (it.back, it.leads, it.alike)

-- TURNS THAT WERE NOT BEGUN
pub none_taken : (state : State) (turns : List Turn) → AllByRecursion (NotBegun state) turns → taken_back turns state ≡ []
none_taken state [] each = refl
none_taken state (turn ∷ turns) each =
    back_more turn turns state
    ∙ ap (λ (later : List Command). later ++ brought turn.subject turn.was (after_commands later state)) (none_taken state turns each.1)
    ∙ ap (λ (some : Option (List ℕ)). brought turn.subject some state) (sym each.0) ∙ brought_same state turn.subject

taken_front : (state : State) (turns others : List Turn) → AllByRecursion (NotBegun state) others → taken_back (turns ++ others) state ≡ taken_back turns state
taken_front state [] others each = none_taken state others each
taken_front state (turn ∷ turns) others each =
    back_more turn (turns ++ others) state
    ∙ ap (λ (later : List Command). later ++ brought turn.subject turn.was (after_commands later state)) (taken_front state turns others each)
    ∙ sym (back_more turn turns state)

pub takes_stopped : (old now : State) (turns others : List Turn) → IsState old → CanGoBack turns now → StandsAfter turns old now
    → AllByRecursion (NotBegun now) others → TakesBack (turns ++ others) now old
takes_stopped old now turns others is can stands each =
    let back = takes_back old now turns is can stands in
    (back.0, leads_with now back.0 (taken_back (turns ++ others) now) (taken_back turns now) (taken_front now turns others each) back.1, back.2)
