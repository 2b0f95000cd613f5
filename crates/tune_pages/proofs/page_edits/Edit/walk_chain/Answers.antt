use Rattle.std.proofs.Common.{◌≡◌, ap, subst, ℕ, List}
use Rattle.tune_pages.specs.Edited.{Edited}
use Rattle.tune_pages.specs.Stand.{Stand, HasChain}
use Rattle.tune_pages.specs.Work.{stand}
use Rattle.tune_pages.proofs.page_edits.Edit.walk_chain.Goals as goal

pub returns-clause-bytes : goal.returns-clause-bytes
returns-clause-bytes g c = λ h.
    (let is : stand c.self.inside.pages c.self.inside.work ≡ c.args.self.now.next = ap (λ (e : Edited _). e.next) c.self.view_is in
    subst (λ (s : Stand). (trail all : List ℕ) → HasChain s c.args.first trail all → c.in_ok-bytes.bytes.items ≡ all) is
    (c.in_ok-bytes.ensures.bytes h))
