use Rattle.std.proofs.Common.{◌↔◌, ◌<◌, ◌++◌, [], ◌∷◌, length, IsTrue, rules, subst}
use Rattle.index_keys.specs.Entries.{IsRising}
use Rattle.tune_search.specs.HeldShapes.{HeldShape, held_entries}
use Rattle.tune_search.proofs.HeldPuts.{joins_last}
use Rattle.tune_search.proofs.held_incipits.HeldIncipits.follows.Goals as goal

pub returns-else-is_empty : goal.returns-else-is_empty
returns-else-is_empty g c =
    let inside = c.self.inside in
    let some : 0 < length inside.entries.items = search rules in
    subst (λ (s : HeldShape). IsRising (held_entries g.row.W s)
    → (IsTrue c.is_before.result ↔ IsRising (held_entries g.row.W s ++ (c.args.key.now, c.args.value) ∷ [])))
    c.self.view_is
    (λ up. let both = joins_last g.row.W inside.entries.items inside.others.items inside.last (c.args.key.now, c.args.value) c.self.invariant some up in
    (λ yes. both.0 (c.is_before.ensures.0 yes), λ rises. c.is_before.ensures.1 (both.1 rises)))
