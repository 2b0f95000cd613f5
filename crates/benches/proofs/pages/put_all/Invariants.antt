use Rattle.tune_pages.specs.Work.{Fits}
use Rattle.benches.proofs.pages.put_all.Given as goal

abbrev pub invariant-loop : goal.invariant-loop
invariant-loop g l = Fits l.pages l.work
