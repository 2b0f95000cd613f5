use Rattle.std.proofs.Common.{◌≡◌, length, arith, rules}
use Rattle.tune_journal.proofs.KeptLists.{place_at}
use Rattle.tune_journal.proofs.changes.Changes.whole_at.Goals as goal

pub index-requires-in-Whole : goal.index-requires-in-Whole
index-requires-in-Whole c =
    let whole = c.self.inside.whole.items in
    let size : c.self.inside.whole.len ≡ length whole = search rules in
    let there = place_at c.self.inside.starts.items whole c.self.inside.changed.items _ c.self.invariant c.args.place c.index.result.now c.index.ensures _
    c.self.view_is c.requires c.in-Whole.at c.in-Whole.is in
    omega (arith, size, there)
