-- Search indexes without an entry.
use Rattle.std.specs.Prelude.{ℕ, [], true}
use Rattle.tune_index.specs.Indexes.{Shape}
use Rattle.tune_search.specs.Searches.{SearchShape}

-- an index without a leaf, and without a chain that lists leaves
abbrev pub no_leaves : Shape
no_leaves = record { pages = []; heads = []; first = 0; listed = true }

-- four of them, of incipits by so many notes
abbrev pub no_indexes : ℕ → SearchShape
no_indexes notes = record {
  notes = notes;
  titles = no_leaves;
  rhythms = no_leaves;
  scales = no_leaves;
  incipits = no_leaves;
}
