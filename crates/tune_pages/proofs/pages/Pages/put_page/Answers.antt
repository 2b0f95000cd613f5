use Rattle.std.proofs.Common.{◌≡◌, ◌<◌, ℕ, false, length, refl, sym, ◌∙◌, ap, subst}
use Rattle.tune_pages.specs.Kept.{Kept}
use Rattle.tune_pages.specs.Stand.{IsUsed}
use Rattle.tune_pages.proofs.Taking.{stand_used, in_count, put_fits, put_stand}
use Rattle.tune_pages.proofs.pages.Pages.put_page.Goals as goal

pub returns-in-Ok-clause-fits : goal.returns-in-Ok-clause-fits
returns-in-Ok-clause-fits g c =
    let P : Kept _ → Type 0 = λ k. k.closed ≡ false → (q : ℕ) → IsUsed k.used q → q < length k.pages in
    let shut : c.args.self.now.closed ≡ false = sym (ap (λ (k : Kept _). k.closed) c.self.view_is) ∙ c.if-self.false in
    let below = subst P c.self.view_is c.self.invariant.0.below shut in
    let lt = in_count _ _ c.args.work.now c.args.page below
    (subst (λ u. IsUsed u c.args.page) (stand_used c.args.self.now.pages c.args.self.now.used c.args.work.now) c.requires.used) in
    put_fits c.args.self.now.pages c.args.self.now.used c.args.work.now _ c.args.page c.args.image.now.bytes c.requires.fits lt c.in-Ok.ensures.ok refl refl

pub returns-in-Ok-clause-stand : goal.returns-in-Ok-clause-stand
returns-in-Ok-clause-stand g c =
    let P : Kept _ → Type 0 = λ k. k.closed ≡ false → (q : ℕ) → IsUsed k.used q → q < length k.pages in
    let shut : c.args.self.now.closed ≡ false = sym (ap (λ (k : Kept _). k.closed) c.self.view_is) ∙ c.if-self.false in
    let below = subst P c.self.view_is c.self.invariant.0.below shut in
    let lt = in_count _ _ c.args.work.now c.args.page below
    (subst (λ u. IsUsed u c.args.page) (stand_used c.args.self.now.pages c.args.self.now.used c.args.work.now) c.requires.used) in
    put_stand c.args.self.now.pages c.args.self.now.used c.args.work.now _ c.args.page c.args.image.now.bytes c.requires.fits lt c.in-Ok.ensures.ok refl refl
