-- What is written for is a change.
use Rattle.std.proofs.Common.{◌≡◌, false, Result, Ok, refl, ap, ◌∙◌, is_ok, IsTrue}
use Rattle.tune_store.specs.State.{State, Standing}
use Rattle.tune_store.specs.Step.{step}
use Rattle.tune_store.specs.TuneSteps.{Outcome}
use Rattle.tune_store.specs.Answers.{Answers, open_at, changes_nothing, stepped, no_memory, failed_before, failed_after, is_closed}
use Rattle.tune_store.specs.Revisions.{accepts}
use Rattle.tune_store.specs.declared.command.Command.{Command}
use Rattle.tune_store.specs.declared.command.Reply.{Reply}
use Rattle.tune_store.specs.declared.command.Refusal.{Refusal}
use Rattle.tune_store.proofs.KeptLemmas.{only_kept}

-- what is answered a reply is accepted
accepted : (old new : Standing) (command : Command) (answer : Result Reply Refusal) → Answers old command answer new → (reply : Reply) → answer ≡ Ok reply
    → IsTrue (accepts old.state command)
accepted _ _ _ _ (stepped old new command answer e) reply is = ap (λ (o : Outcome). is_ok o.1) e ∙ ap (λ (a : Result Reply Refusal). is_ok a) is
accepted _ _ _ _ (no_memory old command) reply is = cc
accepted _ _ _ _ (failed_before old command) reply is = cc
accepted _ _ _ _ (failed_after old command) reply is = cc
accepted _ _ _ _ (is_closed old command) reply is = cc

-- so a command that may change something does
pub changes : (old new : State) (command : Command) (reply : Reply) → Answers (open_at old) command (Ok reply) (open_at new)
    → changes_nothing old.layout command ≡ false → (step old command).0 ≡ old → ⊥
changes old new command reply answers other same =
    let kept = only_kept old command (accepted _ _ command _ answers reply refl) same in
    cc
