use Rattle.std.proofs.Common.{List, Bool, subst}
use Rattle.tune_pages.specs.Stand.{IsUsed}
use Rattle.tune_pages.proofs.Taking.{stand_used}
use Rattle.tune_pages.proofs.Giving.{give_fits, give_stand}
use Rattle.tune_pages.proofs.pages.Pages.free.Goals as goal

pub returns-in-Ok-clause-fits : goal.returns-in-Ok-clause-fits
returns-in-Ok-clause-fits g c =
    let is = subst (λ (m : List Bool). IsUsed m c.args.page) (stand_used c.args.self.now.pages c.args.self.now.used c.args.work.now) c.requires.used in
    give_fits c.args.self.now.pages c.args.self.now.used c.args.work.now c.give.new.self c.args.page c.requires.fits is c.requires.root
    c.in-Ok.ensures.others.0 c.in-Ok.ensures.others.1 c.in-Ok.ensures.freed

pub returns-in-Ok-clause-stand : goal.returns-in-Ok-clause-stand
returns-in-Ok-clause-stand g c =
    let is = subst (λ (m : List Bool). IsUsed m c.args.page) (stand_used c.args.self.now.pages c.args.self.now.used c.args.work.now) c.requires.used in
    give_stand c.args.self.now.pages c.args.self.now.used c.args.work.now c.give.new.self c.args.page c.requires.fits is c.requires.root
    c.in-Ok.ensures.others.0 c.in-Ok.ensures.others.1 c.in-Ok.ensures.freed
