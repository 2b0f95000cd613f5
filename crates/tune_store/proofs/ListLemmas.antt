-- An archive in memory: what it answers, by the plans that it carries out.
use Rattle.std.proofs.Common.{◌≡◌, ◌≢◌, Bool, true, false, not, Ok, Err, Result, OnOk, OnErr, refl, ap, subst, inl, inr}
use Rattle.std.specs.Prelude.{⊤}
use Rattle.tune_store.specs.State.{State, IsState, Standing}
use Rattle.tune_store.specs.TuneSteps.{Outcome}
use Rattle.tune_store.specs.Answers.{Answers, takes_memory, stays_open}
use Rattle.tune_store.specs.Answers.{open_at, stepped, no_memory, failed_before, failed_after, is_closed}
use Rattle.tune_store.specs.Plans.{Decides, EndsFetch, grows}
use Rattle.tune_store.specs.Revisions.{RaisesReplaced}
use Rattle.tune_store.specs.Inside.Lists.{CarriedOut}
use Rattle.tune_store.specs.declared.plans.Plan.{Plan}
use Rattle.tune_store.specs.declared.command.Command.{Command}
use Rattle.tune_store.specs.declared.command.Reply.{Reply}
use Rattle.tune_store.specs.declared.command.Refusal.{Refusal}
use Rattle.tune_store.specs.declared.command.Refusal.TheVariants.{OutOfMemory, Device}
use Rattle.tune_store.proofs.LimitLemmas.{step_keeps_limits}
use Rattle.tune_store.proofs.StepLemmas.{refused_stays, answers_close, never_fails}
use Rattle.tune_store.proofs.RevisionLemmas.{raised_where}

-- what is refused leaves a list that no device serves
pub list_refused : (old new : State) (command : Command) (refusal : Refusal) → Decides old command (Err refusal)
    → EndsFetch {S = State} (λ from to. to ≡ from) (λ _ _. ⊥) old refusal new → Answers (open_at old) command (Err refusal) (open_at new)
list_refused old new command refusal (inl (inl memory)) (inl ends) = rw (memory, ends.1) (no_memory old command)
list_refused old new command refusal (inl (inr device)) (inl ends) = absurd (ends.0 device)
list_refused old new command refusal (inr step) (inl ends) = rw ends.1 (stepped old old command (Err refusal) step)
list_refused old new command refusal decides (inr ends) = absurd ends.1

-- a plan that is carried out is the step
pub list_planned : (old new : State) (command : Command) (plan : Plan) (answer : Result Reply Refusal) → Decides old command (Ok plan)
    → CarriedOut old plan answer new → Answers (open_at old) command answer (open_at new)
list_planned old new command plan (Ok reply) decides carried = stepped old new command (Ok reply) (rw (carried.0, carried.1) decides)
list_planned old new command plan (Err refusal) decides carried = rw (carried.0, carried.1) (no_memory old command)

-- what is refused for memory was refused where its change asks for memory
pub asked_for_memory : (old new : State) (command : Command) (plan : Plan) (answer : Result Reply Refusal)
    → (grows plan.change ≡ true → takes_memory command ≡ true) → CarriedOut old plan answer new → answer ≡ Err OutOfMemory
    → takes_memory command ≡ true
asked_for_memory old new command plan (Ok reply) asks carried e = cc
asked_for_memory old new command plan (Err refusal) asks carried e = asks carried.2

-- a list is never closed, and a refusal of it changes nothing
still_open : (stays : Bool) → false ≡ not stays → stays ≡ true
still_open true e = refl
still_open false e = cc

pub list_open : (old new : State) (command : Command) (answer : Result Reply Refusal) → Answers (open_at old) command answer (open_at new)
    → stays_open answer ≡ true
list_open old new command answer answers = still_open (stays_open answer) (answers_close _ _ _ _ answers)

pub list_stays : (old new : State) (command : Command) (answer : Result Reply Refusal) → Answers (open_at old) command answer (open_at new)
    → OnErr answer (new ≡ old)
list_stays old new command (Ok reply) answers = tt
list_stays old new command (Err refusal) answers =
    let lasts : refusal ≢ Device = λ device. never_fails old new command (Err refusal) answers (ap (λ r. Err r) device) in
    ap (λ (s : Standing). s.state) (refused_stays _ _ _ _ answers lasts)

pub list_raised : (old new : State) (command : Command) (answer : Result Reply Refusal) → Answers (open_at old) command answer (open_at new)
    → OnOk answer (RaisesReplaced command old new)
list_raised old new command (Ok reply) answers = raised_where ⊤ _ _ command (Ok reply) answers tt
list_raised old new command (Err refusal) answers = tt

-- each answer keeps the limits
pub answers_within : (old new : Standing) (command : Command) (answer : Result Reply Refusal) → Answers old command answer new
    → IsState old.state → IsState new.state
answers_within _ _ _ _ (stepped old new command answer e) is = subst IsState (ap (λ (o : Outcome). o.0) e) (step_keeps_limits old command is)
answers_within _ _ _ _ (no_memory old command) is = is
answers_within _ _ _ _ (failed_before old command) is = is
answers_within _ _ _ _ (failed_after old command) is = step_keeps_limits old command is
answers_within _ _ _ _ (is_closed old command) is = is
