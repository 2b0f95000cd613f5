use Rattle.std.proofs.Common.{length, take}
use Rattle.tune_store.specs.Candidates.{ArePlacesOf, PlacesRise}
use Rattle.tune_contents.specs.Holds.{labels_in}
use Rattle.tune_archive.proofs.places.places_of_rising.Given as goal

abbrev pub invariant-loop-number : goal.invariant-loop-number
invariant-loop-number l = record {
  rise : PlacesRise 0 (length (labels_in l.rows.items)) l.places.items;
  are : ArePlacesOf (take l.number-index l.numbers) (labels_in l.rows.items) l.places.items;
}
