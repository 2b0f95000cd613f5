use Rattle.tune_pages.specs.Work.{Fits}
use Rattle.test_format.proofs.archives.put_parts.Given as goal

abbrev pub invariant-loop-line : goal.invariant-loop-line
invariant-loop-line l = Fits l.pages l.work
