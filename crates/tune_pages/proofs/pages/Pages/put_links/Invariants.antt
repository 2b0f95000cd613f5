use Rattle.std.proofs.Common.{◌-◌, ◌<◌, length, take}
use Rattle.tune_pages.specs.Work.{stand_on, FitsOn}
use Rattle.tune_pages.proofs.Putting.{Laid}
use Rattle.tune_pages.proofs.pages.Pages.put_links.Given as goal

abbrev pub invariant-loop-at : goal.invariant-loop-at
invariant-loop-at g l = record {
  fits : FitsOn l.self.pages l.self.used l.work;
  some : l.at < length l.bytes;
  laid : Laid (stand_on l.self.pages l.self.used l.fn.work) (stand_on l.self.pages l.self.used l.work) l.first l.page (take l.at l.bytes);
}

abbrev pub decreases-loop-at : goal.decreases-loop-at
decreases-loop-at g l = length l.bytes - l.at
