use Rattle.std.proofs.Common.{◌≡◌, ◌++◌, [], ◌∷◌, List, rules, sym, ap, subst, ◌∙◌}
use Rattle.index_keys.specs.Entries.{Entry, IsRising}
use Rattle.tune_search.specs.HeldShapes.{HeldShape, held_entries}
use Rattle.tune_search.proofs.HeldPuts.{is_put}
use Rattle.tune_search.proofs.held_incipits.HeldIncipitsEntryList.put_behind.Goals as goal

pub invariant_of-self-2 : goal.invariant_of-self-2
invariant_of-self-2 g c =
    let inside = c.self.inside in
    let more = c.in_ok-held.ensures.more in
    let now : c.push.new.self.items ≡ inside.entries.items ++ (c.in_ok-held.held, c.args.value) ∷ [] = search rules in
    (is_put g.row.W inside.entries.items c.push.new.self.items inside.others.items more.0 c.hold.new.others.items inside.last c.in_ok-held.held c.args.key
    c.args.value c.self.invariant now more.1 more.2 c.in_ok-held.ensures.key c.in_ok-held.ensures.kept).held

pub returns-clause-yes : goal.returns-clause-yes
returns-clause-yes g c = λ _.
    let inside = c.self.inside in
    let more = c.in_ok-held.ensures.more in
    let now : c.push.new.self.items ≡ inside.entries.items ++ (c.in_ok-held.held, c.args.value) ∷ [] = search rules in
    let put = is_put g.row.W inside.entries.items c.push.new.self.items inside.others.items more.0 c.hold.new.others.items inside.last c.in_ok-held.held
    c.args.key c.args.value c.self.invariant now more.1 more.2 c.in_ok-held.ensures.key c.in_ok-held.ensures.kept in
    let was = ap (λ (s : HeldShape). held_entries g.row.W s ++ (c.args.key, c.args.value) ∷ []) c.self.view_is in
    let rises : IsRising (held_entries g.row.W c.args.self.now ++ (c.args.key, c.args.value) ∷ []) = search rules in
    let all = put.entries ∙ was in
    (all, subst (λ (es : List Entry). IsRising es) (sym all) rises)
