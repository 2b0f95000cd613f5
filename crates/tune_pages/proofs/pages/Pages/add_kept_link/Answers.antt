use Rattle.std.proofs.Common.{◌≡◌, List, ℕ, length, false, ◌∙◌, ap, rules}
use Rattle.tune_journal.specs.Pages.{page_at}
use Rattle.tune_pages.specs.Inside.HeldPages.{held_pages}
use Rattle.tune_pages.specs.Kept.{Kept}
use Rattle.tune_pages.specs.Work.{stand}
use Rattle.tune_pages.proofs.CacheLemmas.{link_kept}
use Rattle.tune_pages.proofs.Lookups.{none_of, read_kept}
use Rattle.tune_pages.proofs.pages.Pages.add_kept_link.Goals as goal

pub invariant_of-self : goal.invariant_of-self
invariant_of-self g c = (
  c.self.invariant.0,
  c.self.invariant.1,
  c.self.invariant.2,
  λ shut honest entry has. c.self.invariant.3 shut honest entry (c.add_link.ensures.only entry has),
)

pub returns-clause-link : goal.returns-clause-link
returns-clause-link g c =
    let none : length c.args.work.now.changes ≡ 0 = search rules in
    let shut : c.self.inside.closed ≡ false = ap (λ (k : Kept _). k.closed) c.self.view_is ∙ c.requires.open in
    let pages : held_pages c.self.inside.held ≡ c.args.self.now.pages = ap (λ (k : Kept _). k.pages) c.self.view_is in
    let there = read_kept c.args.self.now.pages c.args.self.now.used c.args.work.now c.args.page c.requires.fits c.requires.used
    (none_of c.args.work.now.changes c.args.page none) in
    λ honest. link_kept (held_pages c.self.inside.held) c.self.inside.cached c.add_link.result c.args.page
    (page_at (stand c.args.self.now c.args.work.now).pages c.args.page) _ _ (c.self.invariant.3 shut honest)
    (ap (λ (l : List (List ℕ)). page_at l c.args.page) pages ∙ there) c.add_link.ensures.link
