use Rattle.std.proofs.Common.{◌≡◌, length, length-take, drop, ◌∙◌, ap, arith, rules}
use Rattle.tune_journal.proofs.Blanks.{blank_end}
use Rattle.tune_journal.proofs.KeptLists.{place_at, start_place_at}
use Rattle.tune_journal.proofs.changes.Changes.fill.Goals as goal

pub bytes_at-requires : goal.bytes_at-requires
bytes_at-requires c =
    let starts = c.self.inside.starts.items in
    let there = start_place_at starts c.self.inside.whole.items c.self.inside.changed.items _ c.self.invariant c.args.place c.index.result.now c.index.ensures _
    c.self.view_is c.requires.place c.in-Start.from c.in-Start.size c.in-Start.is in
    let is : c.deref.result.now ≡ starts = search rules in
    omega (arith, there.0, ap length is)

pub fill_front-requires-clause-start : goal.fill_front-requires-clause-start
fill_front-requires-clause-start c =
    let there = start_place_at c.self.inside.starts.items c.self.inside.whole.items c.self.inside.changed.items _ c.self.invariant c.args.place
    c.index.result.now c.index.ensures _ c.self.view_is c.requires.place c.in-Start.from c.in-Start.size c.in-Start.is in
    omega (arith, there.1, ap length c.bytes_at.ensures, length-take c.in-Start.size (drop c.in-Start.from c.deref.result.now))

pub returns-in-Whole-clause-used : goal.returns-in-Whole-clause-used
returns-in-Whole-clause-used c = blank_end c.copy_from_slice.new.self (c.copy_from_slice.ensures.len ∙ c.requires.size)

pub index-requires-in-Whole : goal.index-requires-in-Whole
index-requires-in-Whole c =
    let whole = c.self.inside.whole.items in
    let size : c.self.inside.whole.len ≡ length whole = search rules in
    let there = place_at c.self.inside.starts.items whole c.self.inside.changed.items _ c.self.invariant c.args.place c.index.result.now c.index.ensures _
    c.self.view_is c.requires.place c.in-Whole.at c.in-Whole.is in
    omega (arith, size, there)
