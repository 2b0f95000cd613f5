use Rattle.std.proofs.Common.{◌≡◌, false, refl, sym, ◌∙◌, ap, subst}
use Rattle.tune_pages.specs.Inside.HeldPages.{AllUsedBelow}
use Rattle.tune_pages.specs.Kept.{Kept}
use Rattle.tune_pages.proofs.Beginning.{begin_fits, begin_stand}
use Rattle.tune_pages.proofs.Searching.{Facts, kept_facts}
use Rattle.tune_pages.proofs.pages.Pages.begin.Goals as goal

pub returns-clause-fits : goal.returns-clause-fits
returns-clause-fits g c =
    let shut : c.args.self.now.closed ≡ false = sym (ap (λ (k : Kept _). k.closed) c.self.view_is) ∙ c.if-self.false in
    let P : Kept _ → Type 0 = λ k. k.closed ≡ false → Facts k.pages k.used in
    let facts = subst P c.self.view_is (kept_facts _ _ _ _ _ c.self.invariant.0) shut in
    let low = subst (λ (k : Kept _). AllUsedBelow c.self.inside.low k.used) c.self.view_is c.self.invariant.2 in
    begin_fits c.args.self.now.pages c.args.self.now.used c.self.inside.low _ low facts.below c.new.ensures refl c.new-2.ensures.items facts.root

pub returns-clause-stand : goal.returns-clause-stand
returns-clause-stand g c =
    let shut : c.args.self.now.closed ≡ false = sym (ap (λ (k : Kept _). k.closed) c.self.view_is) ∙ c.if-self.false in
    let P : Kept _ → Type 0 = λ k. k.closed ≡ false → Facts k.pages k.used in
    let facts = subst P c.self.view_is (kept_facts _ _ _ _ _ c.self.invariant.0) shut in
    let low = subst (λ (k : Kept _). AllUsedBelow c.self.inside.low k.used) c.self.view_is c.self.invariant.2 in
    begin_stand c.args.self.now.pages c.args.self.now.used c.self.inside.low _ low facts.below c.new.ensures refl c.new-2.ensures.items
