use Rattle.std.proofs.Common.{subst}
use Rattle.tune_store.specs.State.{IsState}
use Rattle.tune_store.proofs.PlanLemmas.{labels_rise}
use Rattle.tune_store.proofs.list_archive.ListArchiveCatalog.len.Goals as goal

pub returns-clause-rise : goal.returns-clause-rise
returns-clause-rise c =
    let held : IsState c.args.self.now = subst IsState c.self.view_is c.self.invariant in
    labels_rise 0 c.args.self.now.tunes held.tunes.rises
