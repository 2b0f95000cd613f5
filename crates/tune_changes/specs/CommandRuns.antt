-- Where commands lead, one after another.
use Rattle.std.specs.Prelude.{◌≡◌, List, [], ◌∷◌, IsTrue, ⊤}
use Rattle.tune_store.specs.State.{State}
use Rattle.tune_store.specs.Step.{step}
use Rattle.tune_store.specs.Revisions.{accepts}
use Rattle.tune_store.specs.declared.command.Command.{Command}

-- the state after commands
abbrev pub after_commands : List Command → State → State
after_commands [] state = state
after_commands (command ∷ commands) state = after_commands commands (step state command).0

-- none of the commands is refused
abbrev pub AreAccepted : List Command → State → Type 0
AreAccepted [] state = ⊤
AreAccepted (command ∷ commands) state =
    IsTrue (accepts state command) × AreAccepted commands (step state command).0

-- the commands lead from one state to another, and none of them is refused
abbrev pub LeadsAccepted : State → List Command → State → Type 0
LeadsAccepted old commands new = AreAccepted commands old × (after_commands commands old ≡ new)
