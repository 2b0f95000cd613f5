use Rattle.std.proofs.Common.{◌≡◌, List, Bool, true, false, not, sym, ap, subst}
use Rattle.std.specs.List.{Contains}
use Rattle.std.proofs.lemmas.Bool.{lt-ltb}
use Rattle.tune_pages.specs.Kept.{Kept}
use Rattle.tune_pages.specs.Stand.{IsUsed}
use Rattle.tune_pages.proofs.Uses.{freed_unused, low_used, high_used, high_marked}
use Rattle.tune_pages.proofs.pages.Pages.in_use.Goals as goal

unfreed : (has : Type 0) (b : Bool) → b ≡ false → (has → b ≡ true) → has → ⊥
unfreed has b none some there = (let yes' = some there in absurd cc)

pub returns-then-page-work : goal.returns-then-page-work
returns-then-page-work g c =
    let kept = unfreed (Contains c.args.work.now.freed.items c.args.page) c.has_freed.result c.if-not-has_freed.true c.has_freed.ensures.1 in
    let lt = c.if-page-work.true in
    (λ t. low_used c.args.self.now.pages c.args.self.now.used c.args.work.now c.args.page kept lt, λ is. lt-ltb c.args.page c.args.work.now.frontier lt)

pub returns-else-page-work : goal.returns-else-page-work
returns-else-page-work g c =
    let kept = unfreed (Contains c.args.work.now.freed.items c.args.page) c.has_freed.result c.if-not-has_freed.true c.has_freed.ensures.1 in
    let ge = c.if-page-work.false in
    let table : c.self.inside.used ≡ c.args.self.now.used = ap (λ (k : Kept _). k.used) c.self.view_is in (
      λ t. high_used c.args.self.now.pages c.args.self.now.used c.args.work.now c.args.page kept ge (subst (λ (m : List Bool). IsUsed m c.args.page) table
          (c.is_used.ensures.0 t)),
      λ is. c.is_used.ensures.1 (subst (λ (m : List Bool). IsUsed m c.args.page) (sym table)
          (high_marked c.args.self.now.pages c.args.self.now.used c.args.work.now c.args.page ge is)),
    )

pub returns-else-not-has_freed : goal.returns-else-not-has_freed
returns-else-not-has_freed g c =
    let freed : c.has_freed.result ≡ true = c.if-not-has_freed.false in (
      λ t. (let no' : not c.has_freed.result ≡ true = t in let e : not c.has_freed.result ≡ false = ap not freed in absurd cc),
      λ is. absurd (freed_unused c.args.self.now.pages c.args.self.now.used c.args.work.now c.args.page (c.has_freed.ensures.0 freed) is),
    )
