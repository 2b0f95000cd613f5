use Rattle.std.proofs.Common.{◌≡◌, ◌+◌, ◌++◌, ◌∷◌, [], drop}
use Rattle.json.specs.Token.{begin_array}
use Rattle.desk_lists.specs.JsonLists.{place_objects}
use Rattle.desk_lists.proofs.json_lists.places_in_json.Given as goal

abbrev pub invariant-loop-i : goal.invariant-loop-i
invariant-loop-i l = record {
  tokens : l.out.tokens ++ place_objects (l.i + 1) (drop l.i l.rows) ≡ begin_array ∷ place_objects 1 l.rows;
  before : l.out.before ≡ [];
}
