use Rattle.std.proofs.Common.{◌≡◌, length, ap, arith, rules}
use Rattle.tune_journal.proofs.Blanks.{blank_end}
use Rattle.tune_journal.proofs.KeptLists.{start_place_at}
use Rattle.tune_journal.proofs.changes.Changes.read_ahead.Goals as goal

pub copy_from-end-requires-clause-from : goal.copy_from-end-requires-clause-from
copy_from-end-requires-clause-from c =
    let starts = c.self.inside.starts.items in
    let there = start_place_at starts c.self.inside.whole.items c.self.inside.changed.items _ c.self.invariant c.args.place c.index.result.now c.index.ensures _
    c.self.view_is c.requires.place c.in-Start.from _ c.in-Start.is in
    let is : c.deref.result.now ≡ starts = search rules in
    omega (arith, there.0, ap length is)

pub returns-in-Start-clause-used : goal.returns-in-Start-clause-used
returns-in-Start-clause-used c = blank_end c.copy_from-end.new.image c.copy_from-end.ensures
