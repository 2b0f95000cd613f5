use Rattle.std.proofs.Common.{◌≡◌, ℕ, ◌+◌, ◌-◌, ◌++◌, [], length, take, refl, rules, arith, sym, ap, ◌∙◌}
use Rattle.std.proofs.lemmas.List.{take_all}
use Rattle.tune_store.specs.State.{State}
use Rattle.tune_store.specs.declared.tune_store.TuneStore.{Ghosts}
use Rattle.tune_changes.specs.Aims.{aim_for, aimed_back}
use Rattle.tune_changes.specs.Bringing.{brought}
use Rattle.tune_changes.proofs.CarryLemmas.{partly_none, partly_on, carries_err, carries_done}
use Rattle.tune_changes.proofs.BringingLemmas.{back_next}
use Rattle.tune_changes.proofs.bringing.take_back.Goals as goal

pub loop-left-init : goal.loop-left-init
loop-left-init g c =
    let aims = c.args.aims.now in
    let state = g.S.TuneStore.state c.args.store.now in
    record {
      within = omega arith;
      partly = partly_none g.S.TuneStore _ _ _
          (λ is_open h. ap (λ some. aimed_back some state) (sym (take_all (length aims) aims (omega arith))));
    }

pub loop-left-preserved : goal.loop-left-preserved
loop-left-preserved g c =
    let k = g.S.TuneStore in
    let aims = c.args.aims.now in
    let left = c.loop-left.left in
    let state = k.state c.loop-left.store in
    let aim = c.index-aims-left.result in
    let at : left - 1 + 1 ≡ left = omega arith in
    record {
      within = omega arith;
      partly = partly_on k _ _ _ _ _ _ (aimed_back (take (left - 1) aims) (k.state c.bring_aim.new.store)) _ c.loop-left.invariant.partly
          c.in_ok-bring_aim.ensures
          (λ is_open h same. ap (λ n. aimed_back (take n aims) state) (sym at)
          ∙ back_next aims (left - 1) aim state (omega arith) c.index-aims-left.is
          ∙ ap (λ (there : State). brought (aim_for aim).subject (aim_for aim).to state ++ aimed_back (take (left - 1) aims) there) (sym same));
    }

pub returns-in_err-bring_aim : goal.returns-in_err-bring_aim
returns-in_err-bring_aim g c =
    let k = g.S.TuneStore in
    let aims = c.args.aims.now in
    let left = c.loop-left.left in
    let state = k.state c.loop-left.store in
    let at : left - 1 + 1 ≡ left = omega arith in
    carries_err k _ _ _ _ _ _ _ _ _ c.loop-left.invariant.partly c.in_err-bring_aim.ensures
    (λ is_open h. ap (λ n. aimed_back (take n aims) state) (sym at)
    ∙ back_next aims (left - 1) c.index-aims-left.result state (omega arith) c.index-aims-left.is) (search rules)

pub returns : goal.returns
returns g c =
    let k = g.S.TuneStore in
    let none : c.loop-left.left ≡ 0 = omega arith in
    carries_done k _ _ _ _ _ _ c.loop-left.invariant.partly
    (λ is_open h. ap (λ n. aimed_back (take n c.args.aims.now) (k.state c.loop-left.store)) none) refl
