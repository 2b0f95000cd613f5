use Rattle.tune_scripts.proofs.TimelineLemmas.{left_by_run}
use Rattle.tune_scripts.proofs.laws.law_of_prefixes.Goals as goal

pub returns : goal.returns
returns g c = record {
  left = λ old carried new h fails honest sound is_open.
      left_by_run g.S.TuneStore g.met.S.TuneStore.settled g.met.S.TuneStore.since_at carried old new h fails honest
      (g.met.S.TuneStore.since_earlier new) sound is_open;
}
