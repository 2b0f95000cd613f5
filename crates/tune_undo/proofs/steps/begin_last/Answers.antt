use Rattle.std.proofs.Common.{Some, refl, arith}
use Rattle.tune_undo.specs.declared.old_entries.Step.{Step}
use Rattle.tune_undo.proofs.StepLaws.{begun_none, begun_more}
use Rattle.tune_undo.proofs.steps.begin_last.Goals as goal

pub returns : goal.returns
returns c =
    let made : Step = record { entry = c.in-Some.step.entry; begun = Some c.args.greatest } in
    begun_more c.args.steps.now.items c.pop.new.self.items c.push.new.self.items c.in-Some.step made c.args.greatest c.in-Some.ensures.items
    c.in_ok-push.ensures.items refl

pub returns-in_default : goal.returns-in_default
returns-in_default c =
    begun_none c.args.steps.now.items c.pop.new.self.items c.args.greatest c.in_default.ensures.items
    (omega (arith, c.in_default.ensures.cases.0, c.args.steps.now.ok))
