-- Commands, one after another.
use Rattle.std.proofs.Common.{◌≡◌, List, [], ◌∷◌, ◌++◌, take, drop, ℕ, zero, suc, Ok, refl, sym, ap, ◌∙◌, subst, is_ok, true}
use Rattle.tune_store.specs.State.{State, IsState}
use Rattle.tune_store.specs.Step.{step}
use Rattle.tune_store.specs.TuneSteps.{Outcome}
use Rattle.tune_store.specs.declared.command.Command.{Command}
use Rattle.tune_store.specs.declared.command.Reply.{Reply}
use Rattle.tune_store.proofs.LimitLemmas.{step_keeps_limits}
use Rattle.tune_changes.specs.CommandRuns.{after_commands, AreAccepted, LeadsAccepted}

pub after_append : (some more : List Command) (state : State) → after_commands (some ++ more) state ≡ after_commands more (after_commands some state)
after_append [] more state = refl
after_append (command ∷ some) more state = after_append some more (step state command).0

accepted_on : (some more : List Command) (state : State) → AreAccepted some state → AreAccepted more (after_commands some state)
    → AreAccepted (some ++ more) state
accepted_on [] more state first later = later
accepted_on (command ∷ some) more state first later = (first.0, accepted_on some more (step state command).0 first.1 later)

pub leads_on : (old mid new : State) (some more : List Command) → LeadsAccepted old some mid → LeadsAccepted mid more new → LeadsAccepted old (some ++ more) new
leads_on old mid new some more first leads = (
  accepted_on some more old first.0 (subst (λ (state : State). AreAccepted more state) (sym first.1) leads.0),
  after_append some more old ∙ ap (after_commands more) first.1 ∙ leads.1,
)

-- no command
pub leads_none : (old new : State) → old ≡ new → LeadsAccepted old [] new
leads_none old new same = (tt, same)

-- a command that is accepted, and more
pub leads_by : (old mid new : State) (command : Command) (reply : Reply) (more : List Command) → step old command ≡ (mid, Ok reply) → LeadsAccepted mid more new
    → LeadsAccepted old (command ∷ more) new
leads_by old mid new command reply more e leads =
    let is : is_ok (step old command).1 ≡ true = ap (λ (outcome : Outcome). is_ok outcome.1) e in
    let to : (step old command).0 ≡ mid = ap (λ (outcome : Outcome). outcome.0) e in
    ((is, subst (λ (state : State). AreAccepted more state) (sym to) leads.0), ap (after_commands more) to ∙ leads.1)

-- the same from, to and by what is equal
pub leads_from : (old mid new : State) (commands : List Command) → old ≡ mid → LeadsAccepted mid commands new → LeadsAccepted old commands new
leads_from old mid new commands same leads = subst (λ (state : State). LeadsAccepted state commands new) (sym same) leads

pub leads_to : (old mid new : State) (commands : List Command) → mid ≡ new → LeadsAccepted old commands mid → LeadsAccepted old commands new
leads_to old mid new commands same leads = (leads.0, leads.1 ∙ same)

pub leads_with : (old new : State) (commands others : List Command) → commands ≡ others → LeadsAccepted old others new → LeadsAccepted old commands new
leads_with old new commands others same leads = subst (λ (some : List Command). LeadsAccepted old some new) (sym same) leads

-- what commands lead to is the state after them
pub leads_after : (old new : State) (commands : List Command) → LeadsAccepted old commands new → LeadsAccepted old commands (after_commands commands old)
leads_after old new commands leads = (leads.0, refl)

pub after_keeps : (commands : List Command) (state : State) → IsState state → IsState (after_commands commands state)
after_keeps [] state is = is
after_keeps (command ∷ commands) state is = after_keeps commands (step state command).0 (step_keeps_limits state command is)

-- what is left of commands leads on to the same
pub leads_left : (old new : State) (commands : List Command) (count : ℕ) → LeadsAccepted old commands new
    → LeadsAccepted (after_commands (take count commands) old) (drop count commands) new
leads_left old new commands zero leads = leads
leads_left old new [] (suc count) leads = leads
leads_left old new (command ∷ commands) (suc count) leads = leads_left (step old command).0 new commands count (leads.0.1, leads.1)
