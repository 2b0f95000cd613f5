-- What an entry of turns is taken back by.
use Rattle.std.specs.Prelude.{List}
use Rattle.tune_store.specs.State.{State}
use Rattle.tune_store.specs.declared.command.Command.{Command}
use Rattle.tune_changes.specs.ChangedStates.{AreAlike}
use Rattle.tune_changes.specs.CommandRuns.{LeadsAccepted}
use Rattle.tune_changes.specs.Aims.{aimed_back}
use Rattle.tune_changes.specs.BroughtParts.{loaded_parts}
use Rattle.tune_changes.specs.declared.turns.Turn.{Turn}
use Rattle.tune_undo.specs.declared.old_entries.EntryKind.{EntryKind}
use Rattle.desk_changes.specs.EntriesOfTurns.{entry_of}
use Rattle.desk_changes.specs.TakenBack.{aims_by}

-- the commands that bring the parts of the entry of these turns to what they were
abbrev pub entry_back : EntryKind → List Turn → State → List Command
entry_back kind turns state = aimed_back (aims_by (entry_of kind turns).parts) state

-- the commands that bring all that a load brought, which made this state, to what it was: not there
abbrev pub loaded_back : State → State → List Command
loaded_back state now = aimed_back (aims_by (loaded_parts state)) now

-- these commands lead from a state to one that is alike another, and none of them is refused
abbrev pub LeadsBack : List Command → State → State → Type 0
LeadsBack commands now old = (back : State) × LeadsAccepted now commands back × AreAlike back old
