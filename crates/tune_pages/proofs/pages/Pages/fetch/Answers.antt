use Rattle.std.proofs.Common.{◌≡◌, ◌<◌, ℕ, List, length, sym, ap, subst, rules}
use Rattle.tune_pages.specs.Inside.Cached.{AreKept}
use Rattle.tune_pages.specs.Inside.HeldPages.{held_pages}
use Rattle.tune_pages.specs.Kept.{Kept}
use Rattle.tune_pages.specs.declared.pages.Held.TheVariants.{Open}
use Rattle.tune_pages.proofs.CacheLemmas.{kept_more}
use Rattle.tune_pages.proofs.pages.Pages.fetch.Goals as goal

pub invariant_of-self : goal.invariant_of-self
invariant_of-self g c = (
  c.self.invariant.0,
  c.self.invariant.1,
  c.self.invariant.2,
  λ shut honest entry has. c.self.invariant.3 shut honest entry (c.read.ensures.only entry has),
)

pub invariant_of-self-in-Ok : goal.invariant_of-self-in-Ok
invariant_of-self-in-Ok g c =
    let held : c.self.inside.held ≡ Open c.in-Open.journal = search rules in
    let there : length c.args.self.now.pages ≡ length (held_pages c.self.inside.held) = ap (λ (k : Kept _). length k.pages) (sym c.self.view_is) in
    let below : c.args.page < length c.in-Open.journal.pages = subst (λ (n : ℕ). c.args.page < n) (rw held at there) c.requires.below in
    let pages = c.in-Open.journal.pages in (
      search rules,
      λ _. tt,
      c.self.invariant.2,
      λ shut honest.
          (let was = (rw held at c.self.invariant.3) shut (c.in-Ok.ensures.looks.calls.was_honest honest) in
          subst (λ (all : List (List ℕ)). AreKept all c.keep.new.self) (sym (c.in-Ok.ensures.pages honest))
          (kept_more pages c.read.new.self c.keep.new.self c.args.page c.read_in_runs.new.into.bytes (λ entry has. was entry (c.read.ensures.only entry has))
          c.keep.ensures below (c.in-Ok.ensures.page honest))),
    )
