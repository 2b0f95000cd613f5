use Rattle.std.proofs.Common.{◌≡◌, None, ◌∙◌, rules}
use Rattle.tune_journal.specs.ChangeList.{image_of}
use Rattle.tune_pages.proofs.Looking.{stand_ok}
use Rattle.tune_pages.proofs.Lookups.{read_changed, read_old, read_kept, ok_as}
use Rattle.tune_pages.proofs.pages.Pages.read_image.Goals as goal

pub fetch-requires-clause-below : goal.fetch-requires-clause-below
fetch-requires-clause-below g c =
    read_old c.args.self.now.pages c.args.self.now.used c.args.work.now c.args.page c.requires.fits c.requires.used (c.read.ensures.missing (search rules))

pub returns-then-read-clause-image : goal.returns-then-read-clause-image
returns-then-read-clause-image g c =
    λ h. read_changed c.args.self.now.pages c.args.self.now.used c.args.work.now c.args.page c.requires.fits c.requires.used
    c.read.new.image.bytes (c.read.ensures.found (search rules))

pub returns-clause-image : goal.returns-clause-image
returns-clause-image g c =
    let none : image_of c.args.page c.args.work.now.changes ≡ None = c.read.ensures.missing (search rules) in
    ok_as c.fetch.result _ _ (λ is h. is h
    ∙ read_kept c.args.self.now.pages c.args.self.now.used c.args.work.now c.args.page c.requires.fits c.requires.used none) c.fetch.ensures.image

pub returns-clause-reads : goal.returns-clause-reads
returns-clause-reads g c = record {
  looks = search rules;
  answer = search rules;
  fits = search rules;
  stand = stand_ok g.D.Disk.honest c.fetch.result _ c.args.self.now c.fetch.new.self c.args.work.now c.fetch.ensures.looks.same;
}
