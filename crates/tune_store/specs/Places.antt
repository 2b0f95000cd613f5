-- The law of places: which tunes the set lists of an archive name, and what changes them.
use Rattle.std.specs.Prelude.{◌≡◌, ℕ, List, Bool, false, IsFalse, Some, Result, Ok, Err, map}
use Rattle.std.specs.List.{AllByRecursion}
use Rattle.std.specs.Str.{bytes_eq}
use Rattle.tune_books.specs.WrittenBooks.{written_set}
use Rattle.tune_sets.specs.Calls.{places_of}
use Rattle.tune_sets.specs.declared.faults.SetFault.{SetFault}
use Rattle.tune_store.specs.State.{State, tune_at}
use Rattle.tune_store.specs.Step.{step}
use Rattle.tune_store.specs.Questions.{row_of}
use Rattle.tune_store.specs.Revisions.{accepts, now_at}
use Rattle.tune_store.specs.declared.tune.Tune.{Tune}
use Rattle.tune_store.specs.declared.command.Command.{Command}
use Rattle.tune_store.specs.declared.command.Command.TheVariants.{SetNew, SetAdd, SetCut, SetDrop}
use Rattle.tune_store.specs.declared.command.Command.TheVariants.{SetShow, ExportSet}
use Rattle.tune_store.specs.declared.command.Reply.TheVariants.{SetShown, SetExported}

-- These are the tunes at the places of the set of a name, from the first place on, one at each;
-- what is shown and what is exported of the set is theirs.
pub record AreTunesOf (name : List ℕ) (its : List Tune) (state : State) : Type 0 where
  pub there : AllByRecursion (λ tune. tune_at tune.number state.tunes ≡ Some tune) its
  pub places : places_of name state.sets ≡ Ok (map (λ tune. tune.number) its)
  pub shown : (step state (SetShow name)).1 ≡ Ok (SetShown name (map row_of its))
  pub exported : (step state (ExportSet name)).1
      ≡ Ok (SetExported name (written_set name (map (λ tune. tune.text) its)))

-- whether a command makes or changes the set of a name, or takes it out
abbrev pub is_change_of_set : List ℕ → Command → Bool
is_change_of_set name (SetNew other) = bytes_eq other name
is_change_of_set name (SetAdd other number) = bytes_eq other name
is_change_of_set name (SetCut other place) = bytes_eq other name
is_change_of_set name (SetDrop other) = bytes_eq other name
is_change_of_set name command = false

-- the places of a set, where there is the set, each with the number that its tune has now
abbrev pub carried_places : (ℕ → ℕ) → Result (List ℕ) SetFault → Result (List ℕ) SetFault
carried_places now (Ok numbers) = Ok (map now numbers)
carried_places now (Err why) = Err why

-- any other command leaves the set of a name the places that it had, or leaves it missing
abbrev pub OthersKeepPlaces : State → List ℕ → Command → Type 0
OthersKeepPlaces state name command =
    let new = (step state command).0 in
    let now = now_at command (accepts state command) in
    IsFalse (is_change_of_set name command)
    → places_of name new.sets ≡ carried_places now (places_of name state.sets)
