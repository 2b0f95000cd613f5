use Rattle.std.proofs.Common.{map, rules, refl}
use Rattle.tune_store.specs.declared.command.Command.TheVariants.{SetAdd}
use Rattle.tune_changes.proofs.CarryLemmas.{partly_none, partly_on, carries_err, carries_last}
use Rattle.tune_changes.proofs.set_bringing.put_behind.Goals as goal

pub returns-in_err-cut_to : goal.returns-in_err-cut_to
returns-in_err-cut_to g c =
    carries_err g.S.TuneStore _ _ _ _ _ _ (map (SetAdd c.args.name.now) c.args.numbers.now) _ _ (partly_none g.S.TuneStore _ _ _ (λ is_open h. refl))
    c.in_err-cut_to.ensures (λ is_open h. refl) (search rules)

pub returns : goal.returns
returns g c =
    carries_last g.S.TuneStore _ _ _ _ _ _ _
    (partly_on g.S.TuneStore _ _ _ _ _ _ (map (SetAdd c.args.name.now) c.args.numbers.now) _ (partly_none g.S.TuneStore _ _ _ (λ is_open h. refl))
    c.in_ok-cut_to.ensures (λ is_open h same. refl))
    c.add_numbers.ensures (λ is_open h. refl)
