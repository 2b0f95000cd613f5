use Rattle.std.proofs.Common.{ℕ, ◌<◌, List, [], ◌∷◌, ◌++◌, length, refl, sym, ◌∙◌, arith}
use Rattle.std.proofs.lemmas.List.{length-map, take_more}
use Rattle.tune_format.specs.declared.rows.Row.{Row}
use Rattle.tune_contents.specs.Inside.TuneRows.{numbers_of_rows}
use Rattle.tune_contents.proofs.ClaimedRowLemmas.{number_at_row}
use Rattle.tune_contents.proofs.claiming.numbers_of.Goals as goal

pub loop-row-preserved : goal.loop-row-preserved
loop-row-preserved c =
    let rows : List Row = c.args.rows.now in
    let i : ℕ = c.loop-row.row-index in
    let d : Row = record { number = 0; revision = 0; first = 0; length = 0 } in
    let lt : i < length (numbers_of_rows rows) = omega (arith, c.loop-row-test.true, length-map rows (λ (row : Row). row.number)) in
    c.in_ok-push.ensures.items ∙ (λ j. c.loop-row.invariant j ++ sym (number_at_row rows i d refl) j ∷ []) ∙ sym (take_more (numbers_of_rows rows) i 0 lt)
