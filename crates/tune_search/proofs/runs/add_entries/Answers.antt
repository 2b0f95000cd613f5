use Rattle.tune_search.proofs.TextRuns.{fit_more, key_more}
use Rattle.tune_search.proofs.runs.add_entries.Goals as goal

pub loop-key-preserved : goal.loop-key-preserved
loop-key-preserved g c = record {
  added = key_more c.args.number c.loop-key.key-index c.args.keys.now c.key-item.result c.entry_at.result
      c.loop-key.run.items c.push.new.self.items _ c.loop-key-test.true c.key-item.is c.entry_at.ensures.entry
      c.in_ok-push.ensures.items c.loop-key.invariant.added;
  fit = λ old. fit_more g.row.W c.entry_at.result c.loop-key.run.items c.push.new.self.items c.in_ok-push.ensures.items
      (c.loop-key.invariant.fit old) c.entry_at.ensures.fits;
}
