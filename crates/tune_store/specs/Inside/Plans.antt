-- What is said of plans inside of the crate.
use Rattle.std.specs.Prelude.{◌≡◌, ◌<◌, ◌⊎◌, List, Option, Some, slice_index_or, vec_len, ⊤}
use Rattle.tune_store.specs.Answers.{IsRefusalOfOwn}
use Rattle.tune_store.specs.declared.catalog.Label.{Label}
use Rattle.tune_store.specs.declared.command.Command.{Command}
use Rattle.tune_store.specs.declared.command.Refusal.{Refusal}
use Rattle.tune_store.specs.declared.command.Refusal.TheVariants.{OutOfMemory}
use Rattle.tune_store.specs.declared.plans.Change.{Change}
use Rattle.tune_store.specs.declared.plans.Change.TheVariants.{Add, Put}

-- REFUSALS
-- a command's own refusal, or that memory ran out
abbrev pub IsOwnOrMemory : Command → Refusal → Type 0
IsOwnOrMemory command refusal = IsRefusalOfOwn command refusal ⊎ (refusal ≡ OutOfMemory)

-- CHANGES
-- A change, if there is one, changes something on tunes of these labels: tunes that come are not
-- none, and a tune in the place of another has a later revision. Each other change that can be made
-- does by itself.
abbrev pub AltersLabels : Option Change → List Label → Type 0
AltersLabels (Some (Add first texts)) labels = 0 < vec_len texts
AltersLabels (Some (Put place tune)) labels =
    (d : Label) → (slice_index_or labels place d).revision < tune.revision
AltersLabels change labels = ⊤
