use Rattle.std.proofs.Common.{◌<◌, ◌^◌, refl, subst, rules, All}
use Rattle.std.specs.List.Sorted.{IsNonDecreasingBy}
use Rattle.tune_search.proofs.runs.in_order.Goals as goal

pub in_key_order-requires : goal.in_key_order-requires
in_key_order-requires g c = (
  search rules,
  (
    subst (IsNonDecreasingBy (λ e. e.1)) c.deref.ensures.value (c.if-is_by_number.ensures.by_number refl),
    subst (All (λ e. e.1 < 2 ^ 32)) c.deref.ensures.value (c.if-is_by_number.ensures.small refl),
  ),
)
