use Rattle.std.proofs.Common.{◌≡◌, ◌<◌, ◌-◌, [], List, length, take, drop, arith, sym, subst, rules}
use Rattle.std.proofs.lemmas.List.{length-take-le, take_all}
use Rattle.desk_lists.specs.declared.change_rows.ChangeRow.{ChangeRow}
use Rattle.desk_changes.specs.Inside.TriedUndoings.{steps_of}
use Rattle.desk_changes.proofs.BookLemmas.{RowsTo, ends_in, rows_next, rows_none}
use Rattle.desk_changes.proofs.change_subjects.change_rows.Goals as goal

pub loop-left-init : goal.loop-left-init
loop-left-init c =
    let entries = c.args.entries.now in
    let none : c.new-rows.result.items ≡ [] = search rules in
    record {
      within = omega arith;
      so = rows_none entries (length entries) _ (take_all (length entries) entries (omega arith)) none;
    }

pub loop-left-preserved : goal.loop-left-preserved
loop-left-preserved c =
    let entries = c.args.entries.now in
    let left = c.loop-left.left in
    let first = c.first_of-first.result in
    let long = length-take-le left entries c.loop-left.invariant.within in
    let some : 0 < length (take left entries) = omega (arith, long) in
    let less = c.first_of-first.ensures.before some in
    let change = steps_of (take (left - first) (drop first entries)) in
    record {
      within = omega (arith, less, long, c.loop-left.invariant.within);
      so = let ends = ends_in entries left first (omega (arith, less, long)) (c.first_of-first.ensures.ends some) in
          subst (λ (rows : List ChangeRow). RowsTo entries first rows) (sym c.in_ok-put_change.ensures)
          (rows_next entries left first change _ c.loop-left.invariant.so ends);
    }
