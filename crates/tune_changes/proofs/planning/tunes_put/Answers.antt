use Rattle.std.proofs.Common.{◌≡◌, true, List, ℕ, Result, refl, sym, ap, ◌∙◌, subst, rules}
use Rattle.tune_sets.specs.Names.{is_good_name}
use Rattle.tune_sets.specs.declared.set_lists.TuneSet.{TuneSet}
use Rattle.tune_store.specs.declared.command.Refusal.{Refusal}
use Rattle.tune_asking.specs.Asking.{IsToldOrFault}
use Rattle.tune_asking.proofs.CallLemmas.{goes_none, goes_on, good_of}
use Rattle.tune_changes.specs.Inside.TurnPlans.{numbers_of_set}
use Rattle.tune_changes.specs.Planning.{numbers_put, tunes_put}
use Rattle.tune_changes.specs.declared.turns.Turn.{Turn}
use Rattle.tune_changes.proofs.PlanLemmas.{planned_then, put_known}
use Rattle.tune_changes.proofs.planning.tunes_put.Goals as goal

pub returns : goal.returns
returns g c =
    let k = g.S.TuneStore in
    let name = c.args.name.now in
    let numbers = c.args.numbers.now in
    let state = k.state c.args.store.now in
    let turn = c.numbers_put-turn.result in
    let start = goes_none k c.args.store.now in
    let good : is_good_name name ≡ true = search (rules, c.in-Some.ensures.good) in
    let put : List ℕ → List TuneSet → Result Turn Refusal = λ n sets. numbers_put n numbers sets (numbers_of_set n sets) in
    planned_then k _ _ _ _ _ (goes_on k _ _ _ _ _ start c.in_ok-look_for.ensures)
    (λ is_open h same.
    let known = good_of k _ _ _ _ _ start c.in_ok-look_for.ensures is_open h in
    let named = subst (λ n. IsToldOrFault (put n c.sets.result.now) turn) c.in-Some.ensures.value c.numbers_put-turn.ensures in
    let here = subst (λ (sets : List TuneSet). IsToldOrFault (put name sets) turn) (c.sets.ensures ∙ same) named in
    c.alone.ensures (tunes_put name numbers state)
    (subst (λ (told : Result Turn Refusal). IsToldOrFault told turn) (sym (put_known name numbers state good known)) here))
