use Rattle.std.proofs.Common.{◌+◌, ◌∙◌, ap, sym, drop}
use Rattle.std.specs.Prelude.{nat_le}
use Rattle.abc_fields.specs.FileHeaders.{has_letter}
use Rattle.abc_fields.specs.declared.carry_rules.CarryRule.TheVariants.{Never}
use Rattle.told_books.specs.Inside.Sums.{sum_carried_by}
use Rattle.told_books.specs.declared.sums.RuleSum.{RuleSum}
use Rattle.told_books.proofs.SumLemmas.{fit_more, fit_other}
use Rattle.told_books.proofs.sums.fit.Goals as goal
use Rattle.told_books.proofs.sums.fit.Goals.{then-carry+else-sum-left, else-carry}

pub loop-sum-preserved : goal.loop-sum-preserved
loop-sum-preserved c = λ own is.
    let sums = c.args.sums.now in
    let i = c.loop-sum.sum-index in
    let none : RuleSum = record { rule = Never; length = 0 } in
    elim c.if-carry.branch [
      | then-carry+else-sum-left w ↦
          fit_more (has_letter own) sums i c.loop-sum.left c.if-carry.left none c.loop-sum-test.true (sym (c.carry.ensures own is) ∙ w.if-carry.true)
          w.if-sum-left.false w.left-is
          ∙ c.loop-sum.invariant own is
      | else-carry w ↦
          ap (nat_le (sum_carried_by (has_letter own) (drop (i + 1) sums))) w.left-is
          ∙ ap (λ n. nat_le n c.loop-sum.left) (fit_other (has_letter own) sums i none c.loop-sum-test.true (sym (c.carry.ensures own is) ∙ w.if-carry.false))
          ∙ c.loop-sum.invariant own is
    ]
