use Rattle.std.proofs.Common.{◌≡◌, ap, subst, ℕ, List}
use Rattle.tune_pages.specs.Edited.{Edited}
use Rattle.tune_pages.specs.Stand.{Stand, HasChain, without_pages}
use Rattle.tune_pages.specs.Work.{stand}
use Rattle.tune_pages.proofs.page_edits.Edit.free_chain.Goals as goal

pub returns-clause-next : goal.returns-clause-next
returns-clause-next g c = λ h.
    (let is : stand c.self.inside.pages c.self.inside.work ≡ c.args.self.now.next = ap (λ (e : Edited _). e.next) c.self.view_is in
    subst (λ (s : Stand). (trail all : List ℕ) → HasChain s c.args.first trail all
    → stand c.free_chain.new.self c.free_chain.new.work ≡ without_pages trail s) is (c.in_ok-free_chain.ensures.stand h))
