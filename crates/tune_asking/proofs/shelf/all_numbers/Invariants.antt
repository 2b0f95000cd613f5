use Rattle.std.proofs.Common.{◌≡◌, take}
use Rattle.tune_store.specs.Labels.{numbers_of}
use Rattle.tune_asking.proofs.shelf.all_numbers.Given as goal

abbrev pub invariant-loop-place : goal.invariant-loop-place
invariant-loop-place g l = l.numbers.items ≡ take l.place (numbers_of (g.C.Catalog.labels l.catalog))
