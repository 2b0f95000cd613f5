use Rattle.std.proofs.Common.{◌≡◌, ◌+◌, ◌++◌, drop, map}
use Rattle.abc_fields.specs.Fields.{titles_of}
use Rattle.tune_titles.specs.ShownRows.{shown_row}
use Rattle.tune_store.specs.Questions.{titles_from}
use Rattle.tune_store.proofs.questions.add_titles.Given as goal

abbrev pub invariant-loop-title : goal.invariant-loop-title
invariant-loop-title l = record {
  place : l.place ≡ l.title-index + 1;
  rows : l.rows.items ++ map shown_row (titles_from l.number l.place (map (λ title. title.now) (drop l.title-index l.title-items)))
      ≡ l.fn.rows.items ++ map shown_row (titles_from l.number 1 (titles_of l.text));
}
