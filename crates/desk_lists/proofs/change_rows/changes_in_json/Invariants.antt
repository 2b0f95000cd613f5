use Rattle.std.proofs.Common.{◌≡◌, ◌++◌, ◌∷◌, [], drop}
use Rattle.json.specs.Token.{begin_array}
use Rattle.desk_lists.specs.ChangeRows.{change_objects}
use Rattle.desk_lists.proofs.change_rows.changes_in_json.Given as goal

abbrev pub invariant-loop-row : goal.invariant-loop-row
invariant-loop-row l = record {
  tokens : l.out.tokens ++ change_objects (drop l.row-index l.rows) ≡ begin_array ∷ change_objects l.rows;
  before : l.out.before ≡ [];
}
