use Rattle.std.proofs.Common.{[], ◌∷◌, map, rules, refl, sym, ap, ◌∙◌}
use Rattle.tune_store.specs.declared.command.Command.TheVariants.{SetNew, SetAdd}
use Rattle.tune_changes.proofs.CarryLemmas.{partly_none, partly_on, carries_err, carries_last}
use Rattle.tune_changes.proofs.set_bringing.make_set.Goals as goal

pub returns-in_err-carry_out : goal.returns-in_err-carry_out
returns-in_err-carry_out g c =
    let more = map (SetAdd c.args.name.now) c.args.numbers.now in
    carries_err g.S.TuneStore _ _ _ _ _ _ more _ _ (partly_none g.S.TuneStore _ _ _ (λ is_open h. refl)) c.in_err-carry_out.ensures.carries
    (λ is_open h. ap (λ name. SetNew name ∷ more) (sym (c.in_ok-named.ensures ∙ c.as_slice.ensures.value))) (search rules)

pub returns : goal.returns
returns g c =
    let more = map (SetAdd c.args.name.now) c.args.numbers.now in
    carries_last g.S.TuneStore _ _ _ _ _ _ _
    (partly_on g.S.TuneStore _ _ _ _ _ _ more _ (partly_none g.S.TuneStore _ _ _ (λ is_open h. refl)) c.in_ok-carry_out.ensures.carries
    (λ is_open h same. ap (λ name. SetNew name ∷ more) (sym (c.in_ok-named.ensures ∙ c.as_slice.ensures.value))))
    c.add_numbers.ensures (λ is_open h. refl)
