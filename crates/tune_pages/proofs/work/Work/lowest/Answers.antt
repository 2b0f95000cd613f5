use Rattle.std.proofs.Common.{arith}
use Rattle.tune_pages.proofs.Searching.{end_below}
use Rattle.tune_pages.proofs.work.Work.lowest.Goals as goal

pub returns-clause-freed : goal.returns-clause-freed
returns-clause-freed c = λ falls k d lt. (
    let a = end_below c.args.self.now.freed.items c.args.page c.end.result falls c.end.ensures k d lt in
    omega (arith, a, c.min.ensures))
