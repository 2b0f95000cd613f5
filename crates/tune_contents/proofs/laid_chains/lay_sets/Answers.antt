use Rattle.std.proofs.Common.{◌∙◌, subst, List, ℕ, IfOk}
use Rattle.tune_pages.specs.Kept.{HonestAt}
use Rattle.tune_contents.specs.Inside.Laying.{SwapsChain}
use Rattle.tune_contents.proofs.laid_chains.lay_sets.Goals as goal

pub returns-clause-swaps : goal.returns-clause-swaps
returns-clause-swaps g c =
    let old = c.args.edit.now.next in
    let new = c.swap_chain.new.edit.next in
    subst (λ (bytes : List ℕ). IfOk c.swap_chain.result (λ next. HonestAt g.D.Disk.honest c.swap_chain.new.edit.base.disk
    → SwapsChain old new c.args.sets_first next bytes)) (c.as_slice.ensures ∙ c.in-Ok.ensures.bytes) c.swap_chain.ensures.swaps
