use Rattle.tune_pages.proofs.pages.Pages.is_asked_again.Goals as goal

pub invariant_of-self : goal.invariant_of-self
invariant_of-self g c = rw c.is_asked_again.ensures c.self.invariant
