use Rattle.tune_pages.specs.Kept.{HonestAt}
use Rattle.tune_contents.proofs.LayLemmas.{sets_laid}
use Rattle.tune_contents.proofs.laid_chains.lay_sets_where.Goals as goal

pub returns-then-changes-clause-lays : goal.returns-then-changes-clause-lays
returns-then-changes-clause-lays g c =
    sets_laid c.lay_sets.result (HonestAt g.D.Disk.honest c.lay_sets.new.edit.base.disk) c.args.edit.now.next
    c.lay_sets.new.edit.next c.args.sets_first c.args.changes c.args.sets.now c.lay_sets.ensures.swaps
