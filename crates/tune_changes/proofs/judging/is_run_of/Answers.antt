use Rattle.std.proofs.Common.{sym, ◌∙◌, arith}
use Rattle.tune_changes.proofs.JudgingLemmas.{run_here, run_next}
use Rattle.tune_changes.proofs.judging.is_run_of.Goals as goal

pub loop-place-preserved : goal.loop-place-preserved
loop-place-preserved c =
    c.loop-place.invariant ∙ run_next c.args.run.now c.args.numbers.now c.loop-place.place (omega arith)
    (sym c.stands_at.ensures ∙ c.if-stands_at.false)

pub returns-then-stands_at : goal.returns-then-stands_at
returns-then-stands_at c =
    sym (c.loop-place.invariant ∙ run_here c.args.run.now c.args.numbers.now c.loop-place.place (omega arith)
    (sym c.stands_at.ensures ∙ c.if-stands_at.true))
