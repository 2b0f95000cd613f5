use Rattle.tune_contents.specs.Inside.Searching.{coming}
use Rattle.tune_contents.proofs.SearchingLemmas.{changes_texts, small_numbers, some_run, takes_some}
use Rattle.tune_contents.proofs.searching.text_runs.Goals as goal

pub runs_in-requires : goal.runs_in-requires
runs_in-requires g c = small_numbers c.args.change.now c.args.rows.now.items c.requires.accept

pub returns-clause-gone : goal.returns-clause-gone
returns-clause-gone g c = λ h ahead tunes are holds.
    takes_some c.args.change.now tunes c.in-Ok.old c.in-Ok-runs_out.gone are.rises (c.in-Ok.ensures.tune h ahead tunes are holds) c.in-Ok-runs_out.ensures.runs

pub returns-clause-runs : goal.returns-clause-runs
returns-clause-runs g c = λ h ahead tunes sets are holds can.
    changes_texts c.args.change.now tunes c.in-Ok.old c.in-Ok-runs_out.gone c.in-Ok-runs_in.come are.rises (c.in-Ok.ensures.tune h ahead tunes are holds)
    c.in-Ok-runs_out.ensures.runs c.in-Ok-runs_in.ensures.runs

pub returns-clause-come : goal.returns-clause-come
returns-clause-come g c = some_run c.in-Ok-runs_in.come (coming c.args.change.now c.in-Ok.old) c.in-Ok-runs_in.ensures.runs
