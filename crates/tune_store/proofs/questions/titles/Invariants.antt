use Rattle.std.proofs.Common.{◌≡◌, ◌++◌, drop, map}
use Rattle.tune_store.specs.Questions.{all_titles}
use Rattle.tune_titles.specs.ShownRows.{shown_row}
use Rattle.tune_store.proofs.questions.titles.Given as goal

abbrev pub invariant-loop-place : goal.invariant-loop-place
invariant-loop-place g l = record {
  fetched : g.C.Catalog.fetched l.fn.catalog l.catalog;
  rows : g.C.Catalog.honest l.catalog
      → let tunes = (g.C.Catalog.state l.fn.catalog).tunes in
      l.rows.items ++ map shown_row (all_titles (drop l.place tunes)) ≡ map shown_row (all_titles tunes);
}
