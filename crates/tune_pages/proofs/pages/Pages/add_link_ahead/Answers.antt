use Rattle.std.proofs.Common.{◌≡◌, List, ℕ, ◌++◌, length, Some, ◌∙◌, ap, sym, subst, rules}
use Rattle.std.proofs.lemmas.Option.{IfSome_then}
use Rattle.tune_journal.specs.Pages.{page_at}
use Rattle.tune_pages.specs.Chain.{next_page_of, piece_of, IsLink}
use Rattle.tune_pages.specs.Inside.HeldPages.{held_disk, held_pages}
use Rattle.tune_pages.specs.Kept.{Kept, HonestAt}
use Rattle.tune_pages.specs.Work.{stand}
use Rattle.tune_pages.specs.declared.pages.Held.TheVariants.{Open}
use Rattle.tune_pages.proofs.Lookups.{none_of, read_kept}
use Rattle.tune_pages.proofs.pages.Pages.add_link_ahead.Goals as goal

pub returns-in-Ok-clause-link : goal.returns-in-Ok-clause-link
returns-in-Ok-clause-link g c =
    let none : length c.args.work.now.changes ≡ 0 = search rules in
    let held : c.self.inside.held ≡ Open c.in-Open.journal = search rules in
    let disk : c.args.self.now.disk ≡ Some c.in-Open.journal.disk = sym (ap (λ (k : Kept _). k.disk) c.self.view_is) ∙ ap held_disk held in
    let pages : c.in-Open.journal.pages ≡ c.args.self.now.pages = sym (ap held_pages held) ∙ ap (λ (k : Kept _). k.pages) c.self.view_is in
    let there = read_kept c.args.self.now.pages c.args.self.now.used c.args.work.now c.args.page c.requires.fits c.requires.used
    (none_of c.args.work.now.changes c.args.page none) in
    IfSome_then c.in-Ok.found c.in-Ok.ensures.link (λ next is h.
    (let honest = subst (HonestAt g.D.Disk.honest) disk h in
    let same : c.in-Some.held.now ≡ page_at (stand c.args.self.now c.args.work.now).pages c.args.page =
    c.in-Some.ensures.page honest ∙ ap (λ (l : List (List ℕ)). page_at l c.args.page) pages ∙ there in
    subst (λ (i : List ℕ). IsLink i × (next ≡ next_page_of i) × (c.try_link.new.bytes.items ≡ c.args.bytes.now.items ++ piece_of i)) same is))
