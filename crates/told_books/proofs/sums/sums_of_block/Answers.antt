use Rattle.std.proofs.Common.{◌≡◌, ◌+◌, ◌∷◌, ◌∙◌, ap, sym, arith, length}
use Rattle.abc_fields.specs.Tunes.{joined}
use Rattle.abc_fields.specs.FileHeaders.{carried, block_of}
use Rattle.abc_fields.specs.Inside.LinesLeft.{contents_of}
use Rattle.abc_fields.proofs.RuleSums.{joined-length}
use Rattle.told_books.specs.Inside.Sums.{sum_carried_by}
use Rattle.told_books.proofs.SumLemmas.{bytes_if, sum_step}
use Rattle.told_books.proofs.sums.sums_of_block.Goals as goal

pub loop-line-preserved : goal.loop-line-preserved
loop-line-preserved c =
    let line = c.in-Some.line.text.now in
    let rest = contents_of c.next.new.self in
    let step : contents_of c.loop-line.line-iterator ≡ line ∷ rest = ap contents_of c.in-Some.ensures.steps in
    record {
      each = λ owns.
          ap (λ below. sum_carried_by owns c.add_sum.new.sums.items + length (joined (carried owns below (block_of rest)))) c.rule_below-above.ensures
          ∙ sum_step owns c.loop-line.begun c.loop-line.above line (contents_of c.loop-line.line-iterator) rest _ _ _ step (sym c.if-is_all_blank.ensures)
          (c.loop-line.invariant.each owns)
          (c.in_ok-add_sum.ensures.each owns
          ∙ ap (λ rule. sum_carried_by owns c.loop-line.sums.items + bytes_if owns rule (length line + 1)) c.rule_of.ensures);
      room = omega (arith, c.loop-line.invariant.room, c.in_ok-add_sum.ensures.all, ap (λ ls. length (joined ls)) step, joined-length line rest);
    }
