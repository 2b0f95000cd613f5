-- Which pages of a file are in use, by the state that the file stands for.
use Rattle.std.specs.Prelude.{ℕ, ◌<◌, List, ◌++◌, length}
use Rattle.tune_parts.specs.Parts.{Part, trails, root_and_trails}
use Rattle.tune_store.specs.State.{State}
use Rattle.tune_format.specs.Filed.{archive_parts}
use Rattle.tune_format.specs.States.{Holds}

-- the chains and leaves of the state
abbrev pub parts_in : {file : List ℕ} {state : State} → Holds file state → List Part
parts_in stands = archive_parts stands.is.filed.numbers stands.is.filed.searches
    stands.is.filed.set_lists stands.is.filed.texts

-- the pages in use: the root, and those of the chains and leaves
abbrev pub pages_in_use : {file : List ℕ} {state : State} → Holds file state → List ℕ
pages_in_use stands = root_and_trails (parts_in stands)

-- those of two files, which have the root at the same page
abbrev pub pages_of_both : {one other : List ℕ} {old new : State} → Holds one old
    → Holds other new → List ℕ
pages_of_both before after = pages_in_use before ++ trails (parts_in after)

-- whatever states two files stand for, fewer pages than these are in use of both
abbrev pub UseFewer : ℕ → List ℕ → List ℕ → Type 0
UseFewer most one other = (old new : State) (before : Holds one old)
    (after : Holds other new) → length (pages_of_both before after) < most
