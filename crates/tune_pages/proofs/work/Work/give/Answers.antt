use Rattle.std.proofs.Common.{◌≤◌, length, refl, rules}
use Rattle.tune_pages.proofs.Giving.{put_in}
use Rattle.tune_pages.proofs.work.Work.give.Goals as goal

pub returns-clause-freed : goal.returns-clause-freed
returns-clause-freed c =
    let within : c.place_in-at.result ≤ length c.args.self.now.freed.items = search rules in
    let freed = c.args.self.now.freed.items in
    put_in freed freed _ c.place_in-at.result c.args.page refl c.in_ok-insert.ensures.items within c.place_in-at.ensures.above
    c.place_in-at.ensures.below
