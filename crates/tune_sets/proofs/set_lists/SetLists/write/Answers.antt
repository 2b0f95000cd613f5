use Rattle.std.proofs.Common.{◌≡◌, refl, ◌∙◌}
use Rattle.tune_sets.specs.SetBytes.{written_sets}
use Rattle.tune_sets.proofs.ByteLemmas.{sets_same}
use Rattle.tune_sets.proofs.set_lists.SetLists.write.Goals as goal

pub returns-clause-only : goal.returns-clause-only
returns-clause-only c =
    let own = c.self.inside.sets.items in
    let bytes : c.from_vec.result ≡ written_sets own =
    c.from_vec.ensures ∙ c.in_ok-write_sets.ensures ∙ (rw (c.new-bytes.ensures.items, c.deref.ensures.value) refl) in
    λ sets are e. sets_same sets own are.each c.self.invariant.each (e ∙ bytes) ∙ c.self.view_is
