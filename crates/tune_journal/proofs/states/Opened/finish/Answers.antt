use Rattle.std.proofs.Common.{◌∙◌}
use Rattle.tune_disk.proofs.Moments.{since_then, since_weaker}
use Rattle.tune_journal.specs.Image.{StandsFor}
use Rattle.tune_journal.proofs.Chain.{stands_as, ok_held}
use Rattle.tune_journal.proofs.states.Opened.finish.Goals as goal

pub returns-clause-moments : goal.returns-clause-moments
returns-clause-moments g c = λ h.
    (let pages = c.args.self.pages in
    let mid = c.close.ensures.calls.was_honest h in
    since_then (StandsFor pages) _ _ _ (c.in_ok-recover.ensures.moments mid)
    (since_weaker _ (StandsFor pages) (stands_as _ pages (c.in_ok-recover.ensures.pages mid)) _ _ (c.close.ensures.moments h)))

pub returns-clause-pages : goal.returns-clause-pages
returns-clause-pages g c =
    let honest = g.D.Disk.honest in
    ok_held c.close.result (λ d. honest d → honest c.in_ok-recover.field-0.disk) _ _ c.close.ensures.calls.was_honest c.close.ensures.pages
    (λ j back pages h. pages h ∙ c.in_ok-recover.ensures.pages (back h))
