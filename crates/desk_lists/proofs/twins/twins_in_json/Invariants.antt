use Rattle.std.proofs.Common.{◌≡◌, ◌++◌, ◌∷◌, [], drop}
use Rattle.json.specs.Token.{begin_array}
use Rattle.desk_lists.specs.Twins.{twin_objects}
use Rattle.desk_lists.proofs.twins.twins_in_json.Given as goal

abbrev pub invariant-loop-row : goal.invariant-loop-row
invariant-loop-row l = record {
  tokens : l.out.tokens ++ twin_objects (drop l.row-index l.rows) ≡ begin_array ∷ twin_objects l.rows;
  before : l.out.before ≡ [];
}
