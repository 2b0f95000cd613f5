use Rattle.std.proofs.Common.{◌≡◌, ◌<◌, ℕ, List, length, get_or, sym, ◌∙◌, arith, rules}
use Rattle.std.proofs.lemmas.Bool.{eqb-true, eq-eqb, ltb-true, lt-ltb}
use Rattle.tune_pages.proofs.FreedPages.{found_at, there_at, default_same}
use Rattle.tune_pages.proofs.work.Work.has_freed.Goals as goal

pub returns-then-at-len : goal.returns-then-at-len
returns-then-at-len c =
    let freed : List ℕ = c.args.self.now.freed.items in
    let found = found_at freed c.args.page c.place_in-at.result c.requires c.place_in-at.ensures.above c.place_in-at.ensures.below in
    let size : c.args.self.now.freed.len ≡ length freed = search rules in
    let lt : c.place_in-at.result < length freed = omega (arith, size, c.len.ensures) in
    let here : get_or freed c.place_in-at.result 0 ≡ c.index.result.now = default_same freed c.place_in-at.result 0 c.index.result.now lt
    ∙ sym c.index.ensures in
    (λ t. there_at freed c.args.page c.place_in-at.result lt (here ∙ eqb-true _ _ t), λ has. eq-eqb _ _ (sym here ∙ (found has).1))

pub returns-else-at-len : goal.returns-else-at-len
returns-else-at-len c =
    let freed : List ℕ = c.args.self.now.freed.items in
    let found = found_at freed c.args.page c.place_in-at.result c.requires c.place_in-at.ensures.above c.place_in-at.ensures.below in
    let size : c.args.self.now.freed.len ≡ length freed = search rules in (
      λ t. (let lt = ltb-true c.place_in-at.result c.len.result t in absurd (omega (arith, lt))),
      λ has. (let lt = (found has).0 in lt-ltb c.place_in-at.result c.len.result (omega (arith, size, lt, c.len.ensures))),
    )
