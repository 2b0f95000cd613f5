use Rattle.std.proofs.Common.{◌≡◌, ◌<◌, ap, arith, length}
use Rattle.abc_fields.specs.Inside.HeaderRows.{in_table, sum_all}
use Rattle.abc_fields.specs.declared.carry_rules.CarryRule.TheVariants.{Never}
use Rattle.abc_fields.proofs.RuleSums.{carried_within, sum_within}
use Rattle.abc_fields.proofs.file_header.FileHeader.length_for.Goals as goal

pub overflow_add-length : goal.overflow_add-length
overflow_add-length c =
    let items = c.deref-sum-items.result.now in
    let same : sum_all items ≡ sum_all c.self.inside.sums.items = ap sum_all c.deref-sum-items.ensures.value in
    let within : c.loop-sum.sum-index < length items = omega arith in
    omega (
      arith,
      same,
      c.self.invariant.few,
      carried_within (in_table c.args.letters.now.table) items,
      sum_within items c.loop-sum.sum-index
          (record { rule = Never; length = 0 }) within,
    )

pub returns-clause-few : goal.returns-clause-few
returns-clause-few c =
    let items = c.deref-sum-items.result.now in
    let same : sum_all items ≡ sum_all c.self.inside.sums.items = ap sum_all c.deref-sum-items.ensures.value in
    omega (arith, same, c.self.invariant.few, carried_within (in_table c.args.letters.now.table) items)
