use Rattle.std.proofs.Common.{◌≡◌, ◌<◌, ◌≤◌, List, Bool, length, sym, ◌∙◌, ap, subst, arith}
use Rattle.tune_pages.specs.Kept.{Kept}
use Rattle.tune_pages.specs.Stand.{IsUsed, IsFree}
use Rattle.tune_pages.proofs.Searching.{end_within, next_is, none_is}
use Rattle.tune_pages.proofs.pages.Pages.least_free.Goals as goal

pub first_free-page-requires : goal.first_free-page-requires
first_free-page-requires g c =
    let size : length c.args.self.now.used ≡ c.self.inside.limit = ap (λ (k : Kept _). length k.used) (sym c.self.view_is) ∙ c.self.invariant.0.marks in
    let table : c.self.inside.used ≡ c.args.self.now.used = ap (λ (k : Kept _). k.used) c.self.view_is in
    let most = end_within c.args.self.now.pages c.args.self.now.used c.args.work.now c.self.inside.limit c.end-end.result c.requires size c.end-end.ensures in
    let same : length c.self.inside.used ≡ length c.args.self.now.used = ap (λ (l : List Bool). length l) table in
    (omega (arith, c.min.ensures), omega (arith, most, same, size))

pub returns-then-page-self-clause-some : goal.returns-then-page-self-clause-some
returns-then-page-self-clause-some g c =
    let size : length c.args.self.now.used ≡ c.self.inside.limit = ap (λ (k : Kept _). length k.used) (sym c.self.view_is) ∙ c.self.invariant.0.marks in
    let table : c.self.inside.used ≡ c.args.self.now.used = ap (λ (k : Kept _). k.used) c.self.view_is in
    let found = c.first_free-page.ensures in
    let lt : c.first_free-page.result < c.self.inside.limit = omega arith in
    next_is c.args.self.now.pages c.args.self.now.used c.args.work.now c.self.inside.limit c.end-end.result c.requires size c.end-end.ensures
    c.first_free-page.result
    (omega (arith, found.range.0, c.min.ensures)) found.range.1
    (λ q le before. subst (λ (l : List Bool). IsUsed l q) table (found.full q (omega (arith, le, c.min.ensures)) before))
    (λ before. subst (λ (l : List Bool). IsFree l c.first_free-page.result) table (found.free before))
    lt

pub returns-else-page-self-clause-none : goal.returns-else-page-self-clause-none
returns-else-page-self-clause-none g c =
    let size : length c.args.self.now.used ≡ c.self.inside.limit = ap (λ (k : Kept _). length k.used) (sym c.self.view_is) ∙ c.self.invariant.0.marks in
    let table : c.self.inside.used ≡ c.args.self.now.used = ap (λ (k : Kept _). k.used) c.self.view_is in
    let found = c.first_free-page.ensures in
    let ge : c.self.inside.limit ≤ c.first_free-page.result = omega arith in
    none_is c.args.self.now.pages c.args.self.now.used c.args.work.now c.self.inside.limit c.end-end.result c.requires size c.end-end.ensures
    c.first_free-page.result
    (omega (arith, found.range.0, c.min.ensures)) found.range.1
    (λ q le before. subst (λ (l : List Bool). IsUsed l q) table (found.full q (omega (arith, le, c.min.ensures)) before))
    (λ before. subst (λ (l : List Bool). IsFree l c.first_free-page.result) table (found.free before))
    ge
