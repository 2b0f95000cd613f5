use Rattle.std.proofs.Common.{◌≡◌, [], ◌∷◌, ◌++◌, None, rules, refl, ap, arith}
use Rattle.sha2.specs.Sha256.{sha256}
use Rattle.tune_undo.specs.declared.old_entries.After.TheVariants.{Text}
use Rattle.tune_undo.specs.declared.old_entries.Part.{Part}
use Rattle.tune_undo.specs.declared.old_entries.Part.TheVariants.{Tune}
use Rattle.tune_asking.proofs.CallLemmas.{goes_none, goes_on, good_of, call_ok, call_err, call_no_memory}
use Rattle.tune_changes.proofs.LoadLemmas.{comes_next, all_come}
use Rattle.tune_changes.proofs.brought_parts.put_tunes.Goals as goal

pub loop-number-init : goal.loop-number-init
loop-number-init g c = record { goes = goes_none g.S.TuneStore _; come = λ is_open honest. refl }

pub returns-in_err-tune : goal.returns-in_err-tune
returns-in_err-tune g c =
    call_err g.S.TuneStore _ _ _ _ _ _ _ c.loop-number.invariant.goes c.in_err-tune.ensures (λ is_open honest refused. tt) (search rules)

pub returns-in_err-push : goal.returns-in_err-push
returns-in_err-push g c =
    let k = g.S.TuneStore in call_no_memory k _ _ _ _ (goes_on k _ _ _ _ _ c.loop-number.invariant.goes c.in_ok-tune.ensures) (search rules)

pub loop-number-preserved : goal.loop-number-preserved
loop-number-preserved g c =
    let k = g.S.TuneStore in
    let was = c.loop-number.invariant in
    record {
      goes = goes_on k _ _ _ _ _ was.goes c.in_ok-tune.ensures;
      come = λ is_open honest. comes_next c.args.numbers.now c.loop-number.number-index _ _ _ _ _ _ _ _ (omega arith) refl c.bytes.ensures.value
          c.of.ensures c.in_ok-push.ensures.items
          (was.come is_open (c.in_ok-tune.ensures.asked.was_honest honest)) (good_of k _ _ _ _ _ was.goes c.in_ok-tune.ensures is_open honest);
    }

pub returns : goal.returns
returns g c =
    call_ok g.S.TuneStore _ _ _ _ c.loop-number.invariant.goes
    (λ is_open honest. all_come c.args.numbers.now c.loop-number.number-index _ _ _ (omega arith) (c.loop-number.invariant.come is_open honest))
