use Rattle.std.proofs.Common.{◌+◌, ◌++◌, drop, refl, rules, arith, sym, ap, ◌∙◌}
use Rattle.std.proofs.lemmas.List.{drop_all}
use Rattle.tune_store.specs.State.{State}
use Rattle.tune_changes.specs.Aims.{brought_about, turn_of}
use Rattle.tune_changes.specs.Bringing.{brought}
use Rattle.tune_changes.proofs.CarryLemmas.{partly_none, partly_on, carries_err, carries_done}
use Rattle.tune_changes.proofs.BringingLemmas.{about_next}
use Rattle.tune_changes.proofs.bringing.bring_about.Goals as goal

pub loop-turn-init : goal.loop-turn-init
loop-turn-init g c = partly_none g.S.TuneStore _ _ _ (λ is_open h. refl)

pub loop-turn-preserved : goal.loop-turn-preserved
loop-turn-preserved g c =
    let k = g.S.TuneStore in
    let turns = c.args.turns.now in
    let i = c.loop-turn.turn-index in
    let turn = turn_of c.turn-item.result in
    partly_on k _ _ _ _ _ _ (brought_about (drop (i + 1) turns) (k.state c.bring_turn.new.store)) _ c.loop-turn.invariant c.in_ok-bring_turn.ensures
    (λ is_open h same. about_next turns i c.turn-item.result (k.state c.loop-turn.store) (omega arith) c.turn-item.is
    ∙ ap (λ (state : State). brought turn.subject turn.is (k.state c.loop-turn.store) ++ brought_about (drop (i + 1) turns) state) (sym same))

pub returns-in_err-bring_turn : goal.returns-in_err-bring_turn
returns-in_err-bring_turn g c =
    let k = g.S.TuneStore in
    let turns = c.args.turns.now in
    let i = c.loop-turn.turn-index in
    carries_err k _ _ _ _ _ _ _ _ _ c.loop-turn.invariant c.in_err-bring_turn.ensures
    (λ is_open h. about_next turns i c.turn-item.result (k.state c.loop-turn.store) (omega arith) c.turn-item.is) (search rules)

pub returns : goal.returns
returns g c =
    let k = g.S.TuneStore in
    let turns = c.args.turns.now in
    let i = c.loop-turn.turn-index in
    carries_done k _ _ _ _ _ _ c.loop-turn.invariant
    (λ is_open h. ap (λ left. brought_about left (k.state c.loop-turn.store)) (drop_all i turns (omega arith))) refl
