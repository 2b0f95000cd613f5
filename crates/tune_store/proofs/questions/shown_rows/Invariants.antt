use Rattle.std.proofs.Common.{◌≡◌, ◌++◌, map}
use Rattle.std.specs.Vec.Iter.{into_iter_items}
use Rattle.tune_store.specs.Inside.Questions.{shown_title}
use Rattle.tune_store.proofs.questions.shown_rows.Given as goal

abbrev pub invariant-loop-row : goal.invariant-loop-row
invariant-loop-row l = record {
  shown : l.shown.items ≡ map shown_title l.yielded;
  left : l.yielded ++ into_iter_items l.row-iterator ≡ l.fn.rows.items;
}
