use Rattle.std.proofs.Common.{◌≡◌, length, rules}
use Rattle.tune_journal.proofs.Puts.{names_all}
use Rattle.tune_pages.proofs.Finishing.{nothing_after}
use Rattle.tune_pages.proofs.pages.Pages.write.Goals as goal

pub returns-then-is_empty-clause-pages : goal.returns-then-is_empty-clause-pages
returns-then-is_empty-clause-pages g c =
    let none : length c.args.work.now.changes ≡ 0 = search rules in
    λ h. nothing_after c.args.self.now.pages c.args.work.now.frontier c.args.work.now.changes none c.requires.fits.names

pub commit-requires-clause-names : goal.commit-requires-clause-names
commit-requires-clause-names g c = names_all _ _ c.args.work.now.changes c.requires.fits.names
