use Rattle.std.proofs.Common.{List, ℕ, arith, subst}
use Rattle.tune_store.specs.declared.layout.Layout.{Layout}
use Rattle.tune_format.specs.Written.{IsRoot}
use Rattle.tune_format.specs.declared.root.Firsts.{Firsts}
use Rattle.tune_format.proofs.StateLemmas.{same_layout}
use Rattle.tune_contents.proofs.LayLemmas.{same_firsts}
use Rattle.tune_contents.proofs.laid_chains.has_root.Goals as goal

pub returns-clause-root : goal.returns-clause-root
returns-clause-root g c = λ has h.
    (let same = same_firsts c.in-Some.found c.args.firsts c.eq.result c.eq.ensures has in
    let its = same_layout c.in-Some.its c.args.layout (search arith) in
    subst (λ (image : List ℕ). IsRoot c.args.layout image c.args.firsts) (c.in_ok-root.ensures.image h)
    (subst (λ (layout : Layout). IsRoot layout c.in_ok-root.root.bytes c.args.firsts) its
    (subst (λ (firsts : Firsts). IsRoot c.in-Some.its c.in_ok-root.root.bytes firsts) same c.in-Some.ensures.some)))
