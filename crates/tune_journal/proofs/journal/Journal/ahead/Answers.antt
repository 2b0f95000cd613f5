use Rattle.std.proofs.Common.{◌≡◌, ◌∙◌, ap, sym, length, arith}
use Rattle.std.proofs.lemmas.Option.{IfSome_then}
use Rattle.tune_journal.proofs.Agreeing.{length-pages_of}
use Rattle.tune_journal.proofs.AheadPages.{ahead_page, ahead_below}
use Rattle.tune_journal.proofs.journal.Journal.ahead.Goals as goal

pub returns-clause-page : goal.returns-clause-page
returns-clause-page g c = rw (← c.self.view_is) (IfSome_then c.page.result c.page.ensures (λ bytes holds h.
    ahead_page c.self.inside.count (g.D.Disk.state c.self.inside.disk).seen c.self.inside.ahead c.args.page bytes.now
    (ahead_below g.D.Disk.honest g.D.Disk.state c.self.inside.disk c.self.inside.count c.self.inside.ahead c.args.page bytes.now c.self.invariant.ahead holds)
    holds (c.self.invariant.ahead.shows h)))

pub returns-clause-within : goal.returns-clause-within
returns-clause-within g c =
    let size : length c.args.self.now.pages ≡ c.self.inside.count =
    ap (λ s. length s.pages) (sym c.self.view_is) ∙ length-pages_of c.self.inside.count (g.D.Disk.state c.self.inside.disk).seen in
    IfSome_then c.page.result c.page.ensures (λ bytes holds.
    (let below =
    ahead_below g.D.Disk.honest g.D.Disk.state c.self.inside.disk c.self.inside.count c.self.inside.ahead c.args.page bytes.now c.self.invariant.ahead holds in
    omega (arith, below, size)))
