use Rattle.std.proofs.Common.{◌≤◌, length, sym, ap, ◌∙◌, arith}
use Rattle.std.proofs.lemmas.List.{get_or_past}
use Rattle.tune_search.specs.HeldShapes.{HeldShape, whole_key}
use Rattle.tune_search.specs.declared.held_keys.HeldKey.{HeldKey}
use Rattle.tune_search.proofs.HeldPuts.{none_is_zero}
use Rattle.tune_search.proofs.held_incipits.HeldIncipits.whole.Goals as goal

pub returns-in-None : goal.returns-in-None
returns-in-None g c =
    let others = c.args.self.now.others in
    let past : length others ≤ c.in-Other.place =
    omega (arith, c.in-None.ensures.lookup.3, ap length c.deref.ensures.value, ap (λ (s : HeldShape). length s.others) c.self.view_is) in
    c.cut.ensures ∙ none_is_zero g.row.W ∙ sym (get_or_past others c.in-Other.place 0 past)
    ∙ ap (λ (key : HeldKey). whole_key g.row.W others key) (sym c.in-Other.is)
