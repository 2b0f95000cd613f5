use Rattle.std.proofs.Common.{◌≡◌, ◌<◌, ◌≤◌, ℕ, List, All, length, max, sym, ap, subst, rules, arith}
use Rattle.tune_journal.proofs.Puts.{below_more}
use Rattle.tune_pages.specs.Inside.Cached.{AreKept}
use Rattle.tune_pages.specs.Inside.HeldPages.{held_pages}
use Rattle.tune_pages.specs.Kept.{Kept}
use Rattle.tune_pages.specs.declared.pages.Held.TheVariants.{Open}
use Rattle.tune_pages.proofs.CacheLemmas.{kept_after}
use Rattle.tune_pages.proofs.pages.Pages.commit.Goals as goal

pub invariant_of-self : goal.invariant_of-self
invariant_of-self g c =
    let held : c.self.inside.held ≡ Open c.in-Open.journal = search rules in
    let old = c.in-Open.journal.pages in
    let changes = c.args.changes.now in
    let most = c.max-count.result in
    let there : length c.args.self.now.pages ≡ length (held_pages c.self.inside.held) = ap (λ (k : Kept _). length k.pages) (sym c.self.view_is) in
    let same : length c.args.self.now.pages ≡ length old = rw held at there in
    let more : max (length c.args.self.now.pages) c.args.frontier ≤ most = omega (arith, same, c.max-count.ensures, c.count.ensures.count) in
    let below : All (λ d. d.0 < most) changes = below_more (max (length c.args.self.now.pages) c.args.frontier) most changes more c.requires.below in (
      search rules,
      λ _. tt,
      c.self.invariant.2,
      λ shut honest.
          (let was = (rw held at c.self.invariant.3) shut (c.in-Ok.ensures.calls.was_honest honest) in
          subst (λ (all : List (List ℕ)). AreKept all c.replace_all.new.self) (sym (c.in-Ok.ensures.pages honest))
          (kept_after old most changes c.self.inside.cached c.replace_all.new.self was c.replace_all.ensures c.requires.rising below
          (omega (arith, c.max-count.ensures, c.count.ensures.count)))),
    )
