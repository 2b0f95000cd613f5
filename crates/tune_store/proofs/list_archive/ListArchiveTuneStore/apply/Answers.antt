use Rattle.std.proofs.Common.{◌≡◌, Err, rules, subst, ◌∙◌}
use Rattle.tune_store.specs.State.{State, IsState}
use Rattle.tune_store.specs.Answers.{Answers, open_at}
use Rattle.tune_store.specs.Inside.Lists.{state_with, CarriedOut}
use Rattle.tune_store.proofs.StepLemmas.{answers_name, passes_in_memory}
use Rattle.tune_store.proofs.ListLemmas.{list_refused, list_planned, list_open, list_stays, list_raised, answers_within}
use Rattle.tune_store.proofs.ListLemmas.{asked_for_memory}
use Rattle.tune_store.proofs.list_archive.ListArchiveTuneStore.apply.Goals as goal

-- WHERE THE COMMAND IS REFUSED
refused : (c : goal.After-from_residual) → Answers (open_at c.args.self.now) c.args.command.now c.from_residual.result (open_at c.decide.new.catalog)
refused c =
    let is : IsState c.args.self.now = subst IsState c.self.view_is c.self.invariant in
    let answer : c.from_residual.result ≡ Err c.in_err-plan.field-0.0 = search rules in
    let decided = c.in_err-plan.ensures.decided tt is in
    rw answer (list_refused c.args.self.now c.decide.new.catalog c.args.command.now _ decided c.in_err-plan.ensures.fetched)

pub returns-in_err-plan-clause-answer : goal.returns-in_err-plan-clause-answer
returns-in_err-plan-clause-answer c = refused c

-- WHERE IT IS CARRIED OUT
held : (c : goal.After-carry_out) → IsState c.args.self.now
held c = subst IsState c.self.view_is c.self.invariant

-- what it holds then
abbrev new_state : goal.After-carry_out → State
new_state c = state_with c.carry_out.new.layout c.carry_out.new.tunes.items c.carry_out.new.sets

-- a plan for the state that was there
carried : (c : goal.After-carry_out)
    → CarriedOut c.args.self.now c.in_ok-plan.plan c.carry_out.result (new_state c)
carried c =
    let old : State = state_with c.self-2.inside.layout c.self-2.inside.tunes.items c.self-2.inside.sets in
    let same : old ≡ c.args.self.now = c.self-2.view_is ∙ c.in_ok-plan.ensures.fetched in
    let P : State → Type 0 = λ state. CarriedOut state c.in_ok-plan.plan c.carry_out.result (new_state c) in
    subst P same c.carry_out.ensures

planned : (c : goal.After-carry_out)
    → Answers (open_at c.args.self.now) c.args.command.now c.carry_out.result (open_at (new_state c))
planned c =
    list_planned c.args.self.now (new_state c) c.args.command.now c.in_ok-plan.plan c.carry_out.result
    (c.in_ok-plan.ensures.decided tt (held c)) (carried c)

pub invariant_of-self : goal.invariant_of-self
invariant_of-self c = answers_within _ _ _ _ (planned c) (held c)

pub returns : goal.returns
returns c =
    let answers = planned c in
    record {
      answer = answers;
      memory = asked_for_memory _ _ c.args.command.now c.in_ok-plan.plan c.carry_out.result c.in_ok-plan.ensures.memory (carried c);
      refused = list_stays _ _ _ _ answers;
      names = answers_name _ _ _ _ answers;
      replaced = list_raised _ _ _ _ answers;
      stays = list_open _ _ _ _ answers;
      stops = passes_in_memory _ _ _ c.carry_out.result answers (answers_within _ _ _ _ answers (held c));
    }
