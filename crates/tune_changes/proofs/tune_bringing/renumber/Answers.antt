use Rattle.std.proofs.Common.{[], ◌∷◌, refl}
use Rattle.tune_changes.proofs.CarryLemmas.{partly_none, partly_on, carries_done}
use Rattle.tune_changes.proofs.BringingLemmas.{renumbers_other}
use Rattle.tune_changes.proofs.tune_bringing.renumber.Goals as goal

pub returns : goal.returns
returns g c =
    let k = g.S.TuneStore in
    carries_done k _ _ _ [] _ _
    (partly_on k _ _ _ _ _ _ [] _ (partly_none k _ _ _ (λ is_open h. refl)) c.in_ok-carry_out.ensures.carries
    (λ is_open h same. renumbers_other c.args.number c.args.to c.if-number-to.false)) (λ is_open h. refl) refl
