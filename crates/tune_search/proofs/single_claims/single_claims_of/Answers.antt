use Rattle.std.proofs.Common.{rules, ℕ, List, length, map, IsTrue, drop, ◌∙◌, subst}
use Rattle.std.proofs.lemmas.List.{take_at}
use Rattle.tune_search.specs.Inside.HeldKeys.{AreKeysHeld}
use Rattle.tune_search.specs.HeldShapes.{whole_entry, whole_key}
use Rattle.tune_search.specs.declared.held_keys.HeldKey.{HeldKey}
use Rattle.tune_search.proofs.single_claims.single_claims_of.Goals as goal

pub returns-clause-held : goal.returns-clause-held
returns-clause-held g c =
    let yes : IsTrue c.lay_out.result = search rules in
    let others = c.args.entries.others in
    let counts = take_at c.lay_out.new.counts (drop (length c.lay_out.new.counts) c.in_ok-counts.counts.items) c.in_ok-counts.counts.len
    (c.lay_out.auto.counts ∙ c.deref_mut.ensures.len) in
    let keys = take_at c.lay_out.new.keys (drop (length c.lay_out.new.keys) c.in_ok-keys.keys.items) c.in_ok-keys.keys.len
    (c.lay_out.auto.keys ∙ c.deref_mut-2.ensures.len) in
    let laid = subst (λ (es : List (HeldKey × ℕ)). AreKeysHeld c.args.numbers.now (map (whole_entry g.row.W others) es) c.lay_out.new.counts
    (map (whole_key g.row.W others) c.lay_out.new.keys))
    c.as_slice.ensures (c.lay_out.ensures.held g.row.W others yes) in
    rw (counts, keys) laid
