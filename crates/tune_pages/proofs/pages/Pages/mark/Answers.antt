use Rattle.std.proofs.Common.{◌≡◌, ◌≤◌, ℕ, List, Bool, false, length, sym, ◌∙◌, ap, subst, arith}
use Rattle.tune_pages.specs.Kept.{Kept}
use Rattle.tune_pages.specs.Stand.{AllUsed, marked}
use Rattle.tune_pages.specs.Work.{front_in_use}
use Rattle.tune_pages.proofs.Beginning.{low_after}
use Rattle.tune_pages.proofs.Finishing.{kept_marks}
use Rattle.tune_pages.proofs.pages.Pages.mark.Goals as goal

pub take_front-requires-clause-range : goal.take_front-requires-clause-range
take_front-requires-clause-range g c =
    let here : c.args.self.now.used ≡ c.self.inside.used = sym (ap (λ (k : Kept _). k.used) c.self.view_is) in
    (omega (arith, c.min-low.ensures), subst (λ (u : List Bool). c.args.work.now.frontier ≤ length u) here c.requires.within)

pub take_front-requires-clause-low : goal.take_front-requires-clause-low
take_front-requires-clause-low g c = λ q lt. c.self.invariant.2 q (omega (arith, lt, c.min-low.ensures))

pub give_back-requires : goal.give_back-requires
give_back-requires g c =
    let here : c.self.inside.used ≡ c.args.self.now.used = ap (λ (k : Kept _). k.used) c.self.view_is in
    let table : c.take_front.new.self ≡ front_in_use c.args.work.now.frontier c.args.self.now.used = c.take_front.ensures
    ∙ ap (λ (u : List Bool). front_in_use c.args.work.now.frontier u) here in
    subst (λ (m : List Bool). AllUsed c.args.work.now.freed.items m) (sym table) c.requires.freed

pub invariant_of-self : goal.invariant_of-self
invariant_of-self g c =
    let here : c.args.self.now.used ≡ c.self.inside.used = sym (ap (λ (k : Kept _). k.used) c.self.view_is) in
    let there : length c.args.self.now.pages ≡ _ = ap (λ (k : Kept _). length k.pages) (sym c.self.view_is) in
    let marks : c.give_back.new.self ≡ marked false c.args.work.now.freed.items (front_in_use c.args.work.now.frontier c.self.inside.used) =
    c.give_back.ensures ∙ ap (λ (m : List Bool). marked false c.args.work.now.freed.items m) c.take_front.ensures in (
      kept_marks _ _ _ _ _ c.args.work.now.frontier c.args.work.now.freed.items c.give_back.new.self c.self.invariant.0
          (subst (λ (u : List Bool). c.args.work.now.frontier ≤ length u) here c.requires.within)
          (subst (λ (n : ℕ). c.args.work.now.frontier ≤ n) there c.requires.count)
          c.requires.root marks,
      c.self.invariant.1,
      low_after c.args.work.now.frontier c.self.inside.low c.lowest-self-inside.result c.self.inside.used c.args.work.now.freed.items
          c.give_back.new.self c.self.invariant.2
          (omega (arith, c.lowest-self-inside.ensures.page, c.max.ensures)) (c.lowest-self-inside.ensures.freed c.requires.falls) marks,
      c.self.invariant.3,
    )
