use Rattle.std.proofs.Common.{◌≡◌, true, ◌≤◌, ◌+◌, ◌++◌, List, take}
use Rattle.std.specs.List.{range_with_len}
use Rattle.tune_pages.specs.Faults.{free_pages}
use Rattle.tune_store.specs.TuneSteps.{numbered}
use Rattle.tune_format.specs.declared.rows.Row.{Row}
use Rattle.tune_contents.specs.Inside.Takes.{text_pages}
use Rattle.tune_contents.specs.Inside.Laying.{LaysTunes}
use Rattle.tune_contents.specs.Inside.TuneRows.{numbers_of_rows}
use Rattle.tune_contents.proofs.laid_chains.add_tunes.Given as goal

abbrev pub invariant-loop-text : goal.invariant-loop-text
invariant-loop-text g l = record {
  base : l.edit.base ≡ l.fn.edit.base;
  live : (l.fn.edit.live ≡ true) × (l.edit.live ≡ true);
  number : l.number ≡ l.first + l.text-index;
  lays : (rows : List Row) → LaysTunes l.fn.edit.next l.edit.next rows (rows ++ l.more.items)
      (λ tunes. tunes ++ numbered l.first (take l.text-index l.texts));
  takes : free_pages l.fn.edit.next.used ≤ free_pages l.edit.next.used + text_pages (take l.text-index l.texts);
  rows : numbers_of_rows l.more.items ≡ range_with_len l.first l.text-index;
}
