use Rattle.std.proofs.Common.{◌≡◌, arith, ap, sym, ◌∙◌}
use Rattle.std.proofs.lemmas.Bool.{true≢false}
use Rattle.abc_fields.specs.declared.carry_rules.CarryRule.TheVariants.{Never}
use Rattle.abc_fields.specs.Inside.HeaderRows.{row_list}
use Rattle.abc_fields.proofs.RuleSums.{sums_more, row_push}
use Rattle.abc_fields.proofs.file_header.add_line.Goals as goal

pub returns-clause-sums : goal.returns-clause-sums
returns-clause-sums c =
    let some : c.args.rule ≡ Never → ⊥ = λ never. let h = rw never at (sym c.eq.ensures ∙ c.if-eq.false) in absurd (true≢false h) in
    let rows = ap row_list c.in_ok-push.ensures.items ∙ row_push c.args.lines.now.items (record { rule = c.args.rule; text = c.args.text }) some in
    rw rows (sums_more (row_list c.args.lines.now.items) c.args.sums.now.items c.add_sum.new.sums.items c.args.rule c.args.text.now
    c.requires.sums c.requires.byte c.in_ok-add_sum.ensures.each (omega (arith, c.in_ok-add_sum.ensures.all)))
