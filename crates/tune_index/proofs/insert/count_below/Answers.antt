use Rattle.std.proofs.Common.{ℕ, ◌<◌, List, ◌∷◌, [], length, take, arith}
use Rattle.index_keys.specs.Entries.{Entry, rank}
use Rattle.tune_index.specs.Inside.EntryPlaces.{AllBelow}
use Rattle.tune_index.specs.Leaves.{slice_entry}
use Rattle.tune_index.proofs.Runs.{below_place}
use Rattle.tune_index.proofs.insert.count_below.Goals as goal

one_below : (r : ℕ) (es : List Entry) → 0 < length es → rank (slice_entry es 0) < r → AllBelow r (take 1 es)
one_below r [] l h = absurd (omega arith)
one_below r (e ∷ es) l h = (h, tt)

pub returns-then-count-eq0-clause-below : goal.returns-then-count-eq0-clause-below
returns-then-count-eq0-clause-below g c = λ up h. one_below (rank (c.args.key.now, c.args.value)) c.args.run.now c.requires h

pub returns-else-count-eq0-clause-below : goal.returns-else-count-eq0-clause-below
returns-else-count-eq0-clause-below g c =
    λ up h. below_place (rank (c.args.key.now, c.args.value)) c.args.run.now c.place_of-count.result (c.place_of-count.ensures.place up)
