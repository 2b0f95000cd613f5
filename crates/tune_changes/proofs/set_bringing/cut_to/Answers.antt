use Rattle.std.proofs.Common.{◌≡◌, ◌<◌, ◌≤◌, ◌+◌, ◌-◌, ◌++◌, [], ◌∷◌, Ok, Err, Some, None, map, take, drop, length, replicate, rules, refl, sym, ap}
use Rattle.std.proofs.Common.{◌∙◌, subst, arith, append-nil}
use Rattle.tune_changes.proofs.CarryLemmas.{partly_none, partly_on, carries_err, carries_done}
use Rattle.tune_changes.proofs.BringingLemmas.{cut_next}
use Rattle.tune_changes.specs.Bringing.{cut_behind}
use Rattle.tune_changes.proofs.set_bringing.cut_to.Goals as goal

pub loop-left-init : goal.loop-left-init
loop-left-init g c = record { within = omega arith; partly = partly_none g.S.TuneStore _ _ _ (λ is_open h. refl) }

pub loop-left-preserved : goal.loop-left-preserved
loop-left-preserved g c = record {
  within = omega arith;
  partly = partly_on g.S.TuneStore _ _ _ _ _ _ _ _ c.loop-left.invariant.partly c.in_ok-cut_place.ensures
      (λ is_open h same. cut_next c.args.name.now c.args.places.kept c.loop-left.left (omega arith));
}

pub returns-in_err-cut_place : goal.returns-in_err-cut_place
returns-in_err-cut_place g c =
    carries_err g.S.TuneStore _ _ _ _ _ _ _ _ _ c.loop-left.invariant.partly c.in_err-cut_place.ensures
    (λ is_open h. cut_next c.args.name.now c.args.places.kept c.loop-left.left (omega arith)) (search rules)

pub returns : goal.returns
returns g c =
    let none : c.loop-left.left ≡ 0 = omega arith in
    carries_done g.S.TuneStore _ _ _ _ _ _ c.loop-left.invariant.partly (λ is_open h. ap (cut_behind c.args.name.now c.args.places.kept) none) refl
