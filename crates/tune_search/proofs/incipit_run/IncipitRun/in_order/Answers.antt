use Rattle.std.proofs.Common.{List, subst, sym}
use Rattle.index_keys.specs.Entries.{Entry}
use Rattle.tune_incipit.specs.Incipits.{incipit_of, tune_notes}
use Rattle.tune_incipit.proofs.KeyLaws.{incipit_rises}
use Rattle.tune_incipit.specs.ScaleAndIncipitKeys.{incipit_keys}
use Rattle.tune_search.specs.IncipitRuns.{GathersIncipits}
use Rattle.tune_search.specs.Searches.{incipit_bytes}
use Rattle.tune_search.proofs.TextRuns.{run_of_tunes}
use Rattle.tune_search.proofs.incipit_run.IncipitRun.in_order.Goals as goal

-- a text has one key at most, so each entry came once
pub returns : goal.returns
returns c = λ tunes numbers small came.
    let was : List Entry = c.self.inside.entries.items in
    let gathers : GathersIncipits tunes was = subst (λ (run : List Entry). GathersIncipits tunes run) (sym c.self.view_is) came in
    let sorted = c.in_order.ensures in
    run_of_tunes (incipit_bytes 12) (incipit_keys 12) 0 tunes was c.in_order.result.items
    (λ text. incipit_rises (incipit_bytes 12) (incipit_of 12 (tune_notes text))) numbers small gathers.added gathers.fit sorted.same sorted.sorted
