use Rattle.std.proofs.Common.{ℕ, List, length, drop, ap, arith, ◌∙◌}
use Rattle.std.specs.List.{between}
use Rattle.std.proofs.lemmas.Slice.{between_to_end}
use Rattle.tune_titles.specs.Order.{small_order}
use Rattle.tune_titles.proofs.FrontOrder.{behind_fronts}
use Rattle.tune_titles.proofs.fronts.order_behind_front.Goals as goal

pub returns : goal.returns
returns c =
    let a = c.args.one.now in
    let b = c.args.other.now in
    let k = c.min-alike.result in
    c.small_order.ensures
    ∙ ap (λ (x : List ℕ). small_order x (between k (length b) b)) (between_to_end a k (length a) (omega arith))
    ∙ ap (λ (x : List ℕ). small_order (drop k a) x) (between_to_end b k (length b) (omega arith))
    ∙ behind_fronts 16 k a b (λ i. omega (arith, c.type_inv.one i)) (λ i. omega (arith, c.type_inv.other i)) c.requires
    (omega arith) (omega arith) (omega arith)
