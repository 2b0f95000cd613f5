-- Runs of commands over a store.
use Rattle.std.specs.Prelude.{◌≡◌, List, [], ◌∷◌, Result}
use Rattle.tune_store.specs.State.{Standing}
use Rattle.tune_store.specs.Answers.{Answers}
use Rattle.tune_store.specs.declared.command.Command.{Command}
use Rattle.tune_store.specs.declared.command.Reply.{Reply}
use Rattle.tune_store.specs.declared.command.Refusal.{Refusal}

-- a command, and its answer
pub record Answered : Type 0 where
  pub command : Command
  pub answer : Result Reply Refusal

-- what a store stood for, commands with their answers, one after another, and what the store stands
-- for then
abbrev pub Runs : Standing → List Answered → Standing → Type 0
Runs old [] new = new ≡ old
Runs old (next ∷ run) new =
    (mid : Standing) × Answers old next.command next.answer mid × Runs mid run new
