-- The states for which a file stands.
use Rattle.std.proofs.Common.{ℕ, List, inl, inr}
use Rattle.tune_store.specs.State.{State}
use Rattle.tune_format.specs.States.{Holds}
use Rattle.tune_archive.specs.Shelf.{StandsForOneOf}

-- one of two states that are one
pub one_of_same : (s : State) (file : List ℕ) → StandsForOneOf s s file → Holds file s
one_of_same s file (inl stands) = stands
one_of_same s file (inr stands) = stands
