-- Turns brought about, one after another, and taken back.
use Rattle.std.specs.Prelude.{◌≡◌, ◌≢◌, ℕ, ◌+◌, ◌^◌, ◌<◌, ◌≤◌, List, [], ◌∷◌, length, map, reverse}
use Rattle.std.specs.Prelude.{Option, None, Some, IsTrue, ⊤}
use Rattle.std.specs.List.{AllByRecursion}
use Rattle.abc_fields.specs.Tunes.{IsTuneText, IsTextWithin}
use Rattle.tune_sets.specs.Limits.{most_places, most_sets}
use Rattle.tune_sets.specs.Names.{is_good_name}
use Rattle.tune_sets.specs.Sets.{holder}
use Rattle.tune_store.specs.Limits.{longest_text, most_tunes, greatest_number}
use Rattle.tune_store.specs.Limits.{greatest_revision}
use Rattle.tune_store.specs.State.{State, tune_at, greatest, AreHeld, IsState}
use Rattle.tune_store.specs.TuneSteps.{is_number}
use Rattle.tune_store.specs.declared.tune.Tune.{Tune}
use Rattle.tune_store.specs.declared.command.Command.{Command}
use Rattle.tune_changes.specs.SubjectTurns.{Subject, Turn, content, numbers_at, aim_of, aim_back}
use Rattle.tune_changes.specs.SubjectTurns.Subject.{TuneOf, SetOf}
use Rattle.tune_changes.specs.CommandRuns.{after_commands, AreAccepted, LeadsAccepted}
use Rattle.tune_changes.specs.Bringing.{brought, brought_each}
use Rattle.tune_changes.specs.ChangedStates.{AreAlike, AreAlikeBut}

-- WHAT A SUBJECT CAN BE
-- a tune has a number of 32 bits, and the text of a tune
abbrev pub IsGiven : Subject → Option (List ℕ) → Type 0
IsGiven (TuneOf number) (Some text) = (number < 2 ^ 32) × IsTuneText text
IsGiven subject to = ⊤

-- a new tune of this number and text can go into a state
pub record CanGoIn (number : ℕ) (text : List ℕ) (state : State) : Type 0 where
  pub named : IsTrue (is_number number)
  pub good : IsTextWithin (longest_text state.layout) text
  pub room : length state.tunes < most_tunes state.layout
  pub next : greatest state.tunes < greatest_number

-- a tune of a state can get another text
pub record CanBeReplaced (tune : Tune) (text : List ℕ) (state : State) : Type 0 where
  pub good : IsTextWithin (longest_text state.layout) text
  pub young : tune.revision < greatest_revision

-- the tune of a number, or none, can be brought to a text, or taken out
abbrev pub CanBeText : ℕ → Option Tune → Option (List ℕ) → State → Type 0
CanBeText number None None state = ⊤
CanBeText number None (Some text) state = CanGoIn number text state
CanBeText number (Some tune) None state = holder number state.sets ≡ None
CanBeText number (Some tune) (Some text) state =
    tune.text ≢ text → CanBeReplaced tune text state

-- a set list of a state can have these numbers
pub record CanBePlaces (numbers : List ℕ) (state : State) : Type 0 where
  pub few : length numbers ≤ most_places
  pub held : AreHeld state.tunes numbers

-- a state can get a set list more, of this name
pub record CanBeMade (name : List ℕ) (state : State) : Type 0 where
  pub good : IsTrue (is_good_name name)
  pub room : length state.sets < most_sets

-- the numbers of a set list, or none, can be brought to other ones, or the list be dropped
abbrev pub CanBeNumbers : List ℕ → Option (List ℕ) → Option (List ℕ) → State → Type 0
CanBeNumbers name old None state = ⊤
CanBeNumbers name None (Some new) state = CanBeMade name state × CanBePlaces new state
CanBeNumbers name (Some old) (Some new) state = CanBePlaces new state

-- a subject of a state can be brought to this
abbrev pub CanBe : Subject → Option (List ℕ) → State → Type 0
CanBe (TuneOf number) to state = CanBeText number (tune_at number state.tunes) to state
CanBe (SetOf name) to state = CanBeNumbers name (numbers_at name state) to state

-- TURNS BROUGHT ABOUT
-- a tune that is taken out can come back: there is a number above all others
abbrev pub CanComeBack : Subject → Option (List ℕ) → State → Type 0
CanComeBack (TuneOf number) None state = greatest state.tunes < greatest_number
CanComeBack subject to state = ⊤

-- a turn was recorded from a state, and its commands are accepted there
pub record IsBroughtAbout (turn : Turn) (state : State) : Type 0 where
  pub given : IsGiven turn.subject turn.is
  pub was : content turn.subject state ≡ turn.was
  pub accepted : AreAccepted (brought turn.subject turn.is state) state
  pub back : CanComeBack turn.subject turn.is state

-- turns are brought about, the first one first, and lead from one state to another
abbrev pub BringsAbout : List Turn → State → State → Type 0
BringsAbout [] old new = old ≡ new
BringsAbout (turn ∷ turns) old new = IsBroughtAbout turn old
    × BringsAbout turns (after_commands (brought turn.subject turn.is old) old) new

-- the commands by which they are
abbrev pub brought_about : List Turn → State → List Command
brought_about turns state = brought_each (map aim_of turns) state

-- TURNS TAKEN BACK
-- the commands that bring the subjects of turns to what they were, the last turn first, each from
-- how its subject stands then
abbrev pub taken_back : List Turn → State → List Command
taken_back turns state = brought_each (map aim_back (reverse turns)) state

-- how many turns give a tune another text
abbrev pub replacements_in : Subject → Option (List ℕ) → Option (List ℕ) → ℕ
replacements_in (TuneOf number) (Some was) (Some is) = 1
replacements_in subject was is = 0

abbrev pub replacements : List Turn → ℕ
replacements [] = 0
replacements (turn ∷ turns) =
    replacements_in turn.subject turn.was turn.is + replacements turns

-- each tune, and a new one too, can be replaced this many times
pub record LeavesRevisions (times : ℕ) (state : State) : Type 0 where
  pub new : 1 + times ≤ greatest_revision
  pub each : AllByRecursion (λ tune. tune.revision + times ≤ greatest_revision) state.tunes

-- the turns taken back from a state lead to one that is alike another, and no command is refused
abbrev pub TakesBack : List Turn → State → State → Type 0
TakesBack turns now old =
    (back : State) × LeadsAccepted now (taken_back turns now) back × AreAlike back old

-- WHERE TURNS CAN BE TAKEN BACK
-- turns can be taken back from the state of now: it is within the limits, and revisions are left
-- for
-- the texts that are put back
pub record CanGoBack (turns : List Turn) (now : State) : Type 0 where
  pub within : IsState now
  pub leaves : LeavesRevisions (replacements turns) now

-- turns were brought about, and the state of now is the one that they led to, but for revisions
pub record StandsAfter (turns : List Turn) (old now : State) : Type 0 where
  pub new : State
  pub about : BringsAbout turns old new
  pub alike : AreAlike now new

-- a turn was not begun, or was taken back: its subject is what it was
abbrev pub NotBegun : State → Turn → Type 0
NotBegun now turn = content turn.subject now ≡ turn.was

-- Turns were brought about, and the next one is on a set list, which may be anything now, as where
-- a stop came within its commands; all else is as it was before it. The others were not begun.
pub record StandsWithin (turns : List Turn) (turn : Turn) (others : List Turn) (old now : State)
    : Type 0 where
  pub new : State
  pub about : BringsAbout turns old new
  pub name : List ℕ
  pub on : turn.subject ≡ SetOf name
  pub was : content turn.subject new ≡ turn.was
  pub alike : AreAlikeBut turn.subject now new
  pub rest : AllByRecursion (NotBegun now) others
