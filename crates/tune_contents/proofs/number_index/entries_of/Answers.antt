use Rattle.tune_search.specs.Searches.{key_bytes}
use Rattle.tune_search.proofs.TextRuns.{fit_more}
use Rattle.tune_contents.proofs.NumberEntries.{entries_next}
use Rattle.tune_contents.proofs.number_index.entries_of.Goals as goal

pub loop-row-preserved : goal.loop-row-preserved
loop-row-preserved c = record {
  entries = entries_next c.args.rows.now c.loop-row.row-index _ c.number_entry.result c.loop-row.run.items c.push.new.self.items c.loop-row-test.true
      c.number_entry.ensures.entry c.loop-row.invariant.entries c.in_ok-push.ensures.items;
  fit = fit_more key_bytes c.number_entry.result c.loop-row.run.items c.push.new.self.items c.in_ok-push.ensures.items c.loop-row.invariant.fit
      c.number_entry.ensures.fits;
}
