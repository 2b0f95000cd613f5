use Rattle.std.proofs.Common.{Ok}
use Rattle.tune_pages.specs.Kept.{HonestAt}
use Rattle.tune_pages.specs.Editing.{Consults}
use Rattle.tune_contents.specs.Inside.Upgrading.{GathersTo}
use Rattle.tune_contents.proofs.upgrading.incipits_of.Given as goal

abbrev pub invariant-loop-place : goal.invariant-loop-place
invariant-loop-place g l = record {
  consults : Consults {T = Unit {0}} g.D.Disk (Ok tt) l.fn.edit l.edit;
  gathers : GathersTo (HonestAt g.D.Disk.honest l.edit.base.disk) l.layout l.fn.edit.next l.rows.items l.place l.run;
}
