-- What a store's answer to a question tells.
use Rattle.std.proofs.Common.{◌≡◌, Bool, true, false, not, List, [], ◌∷◌, Result, Ok, Err, refl, sym, ap, ◌∙◌, inl, inr, ◌⊎◌}
use Rattle.std.specs.Prelude.{MatchResult, IsErrOf}
use Rattle.tune_store.specs.State.{State, Standing}
use Rattle.tune_store.specs.TuneSteps.{Outcome}
use Rattle.tune_store.specs.Step.{step}
use Rattle.tune_store.specs.Answers.{Answers, asks, may_write, stays_open, stepped, no_memory, failed_before, failed_after, is_closed}
use Rattle.tune_store.specs.declared.command.Command.{Command}
use Rattle.tune_store.specs.declared.command.Command.TheVariants.{Show, Find, Titles, Sets, SetShow, ExportAll, ExportSet}
use Rattle.tune_store.specs.declared.command.Reply.{Reply}
use Rattle.tune_store.specs.declared.command.Refusal.{Refusal}
use Rattle.tune_store.specs.declared.command.Refusal.TheVariants.{OutOfMemory, Device, Closed}
use Rattle.tune_asking.specs.Asking.{IsFault}

-- a question changes nothing
pub question_stays : (state : State) (command : Command) → asks command ≡ true → (step state command).0 ≡ state
question_stays state (Show number) is = refl
question_stays state (Find query) is = refl
question_stays state Titles is = refl
question_stays state Sets is = refl
question_stays state (SetShow name) is = refl
question_stays state ExportAll is = refl
question_stays state (ExportSet name) is = refl
question_stays state command is = absurd cc

-- whatever it is answered
pub asked_stays : (old new : Standing) (command : Command) (answer : Result Reply Refusal) → Answers old command answer new → asks command ≡ true
    → new.state ≡ old.state
asked_stays _ _ _ _ (stepped old new command answer e) is = sym (ap (λ (o : Outcome). o.0) e) ∙ question_stays old command is
asked_stays _ _ _ _ (no_memory old command) is = refl
asked_stays _ _ _ _ (failed_before old command) is = refl
asked_stays _ _ _ _ (failed_after old command) is = question_stays old command is
asked_stays _ _ _ _ (is_closed old command) is = refl

-- nothing is written for it
pub asked_quiet : (command : Command) (answer : Result Reply Refusal) → asks command ≡ true → may_write command answer ≡ false
asked_quiet command (Ok reply) is = ap not is
asked_quiet command (Err Device) is = ap not is
asked_quiet command (Err refusal) is = refl

-- an open store answers as the plain list does, or a fault
pub asked_answer : (old new : Standing) (command : Command) (answer : Result Reply Refusal) → Answers old command answer new → old.closed ≡ false
    → MatchResult answer (λ value. (step old.state command).1 ≡ Ok value)
    (λ refusal. ((step old.state command).1 ≡ Err refusal) ⊎ IsFault refusal)
asked_answer _ _ _ _ (stepped old new command (Ok reply) e) is_open = ap (λ (o : Outcome). o.1) e
asked_answer _ _ _ _ (stepped old new command (Err refusal) e) is_open = inl (ap (λ (o : Outcome). o.1) e)
asked_answer _ _ _ _ (no_memory old command) is_open = inr (inl refl)
asked_answer _ _ _ _ (failed_before old command) is_open = inr (inr refl)
asked_answer _ _ _ _ (failed_after old command) is_open = inr (inr refl)
asked_answer _ _ _ _ (is_closed old command) is_open = absurd cc

-- what shuts a store is that the device failed, in this call or before
pub shut_by : (refusal : Refusal) → stays_open (Err refusal) ≡ false → (refusal ≡ Device) ⊎ (refusal ≡ Closed)
shut_by Device shut = inl refl
shut_by Closed shut = inr refl
shut_by refusal shut = absurd cc

-- so an open store is shut only by a failure of its device
pub stays_by : (old new : Bool) (answer : Result Reply Refusal) → new ≡ not (stays_open answer) → (IsErrOf answer Closed → old ≡ true) → old ≡ false
    → MatchResult answer (λ _. new ≡ false) (λ refusal. new ≡ true → refusal ≡ Device)
stays_by old new (Ok reply) shuts was is_open = shuts
stays_by old new (Err refusal) shuts was is_open =
    λ shut. let s : stays_open (Err refusal) ≡ false = not_true (stays_open (Err refusal)) (sym shuts ∙ shut) in
    elim (shut_by refusal s) [ inl failed ↦ failed | inr closed ↦ absurd (let q : IsErrOf {T = Reply} (Err refusal) Closed = cc in let no = was q in cc) ]
  where
    not_true : (b : Bool) → not b ≡ true → b ≡ false
    not_true true e = sym e
    not_true false e = refl
