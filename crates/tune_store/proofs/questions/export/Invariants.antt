use Rattle.std.proofs.Common.{◌≡◌, ◌++◌}
use Rattle.tune_store.specs.Questions.{exported}
use Rattle.tune_store.proofs.PlanLemmas.{written_from}
use Rattle.tune_store.proofs.questions.export.Given as goal

abbrev pub invariant-loop-place : goal.invariant-loop-place
invariant-loop-place g l = record {
  fetched : g.C.Catalog.fetched l.fn.catalog l.catalog;
  book : g.C.Catalog.honest l.catalog → let tunes = (g.C.Catalog.state l.fn.catalog).tunes in l.book ++ written_from l.place tunes ≡ exported tunes;
}
