use Rattle.std.proofs.Common.{◌+◌, ◌∷◌, drop, arith, ap, sym, ◌∙◌}
use Rattle.std.proofs.lemmas.List.{drop_more}
use Rattle.tune_contents.proofs.RowTests.{rise_turn}
use Rattle.tune_contents.proofs.tune_rows.are_rows.Goals as goal

pub loop-place-preserved : goal.loop-place-preserved
loop-place-preserved c =
    let rows = c.args.rows.now.items in
    let place = c.loop-place.place in
    let row = c.at-row.result in
    let rest = drop (place + 1) rows in
    let within = c.loop-place-test.true in
    let next = drop_more rows place row (omega (arith, within, c.len-place-end.ensures)) ∙ ap (λ r. r ∷ rest) (sym c.at-row.ensures) in
    rise_turn rows (drop place rows) c.loop-place.low row rest next c.if-row-low.false c.if-row-gt-GREATEST_NUMBER.false c.loop-place.invariant
