use Rattle.std.proofs.Common.{◌≡◌, ◌++◌, ◌∷◌, [], drop}
use Rattle.json.specs.Token.{begin_array}
use Rattle.desk_lists.specs.JsonLists.{set_objects}
use Rattle.desk_lists.proofs.json_lists.sets_in_json.Given as goal

abbrev pub invariant-loop-row : goal.invariant-loop-row
invariant-loop-row l = record {
  tokens : l.out.tokens ++ set_objects (drop l.row-index l.rows) ≡ begin_array ∷ set_objects l.rows;
  before : l.out.before ≡ [];
}
