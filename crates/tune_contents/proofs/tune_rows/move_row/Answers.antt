use Rattle.std.proofs.Common.{refl}
use Rattle.tune_format.specs.declared.rows.Row.{Row}
use Rattle.tune_contents.proofs.RisingLemmas.{rows_moved}
use Rattle.tune_contents.proofs.RowLemmas.{moves_none, moves_row}
use Rattle.tune_contents.proofs.tune_rows.move_row.Goals as goal

pub returns-in_default-clause-moves : goal.returns-in_default-clause-moves
returns-in_default-clause-moves c = moves_none c.args.rows.now.items c.args.number c.args.to c.in_default.ensures.none

pub returns-clause-moves : goal.returns-clause-moves
returns-clause-moves c =
    moves_row c.args.rows.now.items c.args.number c.args.to c.in-Some.place c.place_among_others.result c.at-row.result c.in-Some.ensures.within
    c.in-Some.ensures.found c.at-row.ensures c.place_among_others.ensures.within c.place_among_others.ensures.after

pub returns-clause-rows : goal.returns-clause-rows
returns-clause-rows c = λ layout are none some most.
    (let row : Row = c.at-row.result in
    let new : Row = record { number = c.args.to; revision = row.revision; first = row.first; length = row.length } in
    rows_moved c.args.rows.now.items c.args.to c.in-Some.place c.place_among_others.result new c.in-Some.ensures.within c.place_among_others.ensures.within
    c.place_among_others.ensures.after refl are none some most)
