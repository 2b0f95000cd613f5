use Rattle.std.proofs.Common.{◌≡◌, [], rules, ◌∙◌, ap, subst}
use Rattle.tune_asking.proofs.CallLemmas.{goes_none, goes_on, good_of, call_ok, call_err, call_no_memory}
use Rattle.tune_changes.proofs.LoadLemmas.{parts_whole}
use Rattle.tune_changes.proofs.brought_parts.loaded_parts.Goals as goal

pub returns-in_err-numbers : goal.returns-in_err-numbers
returns-in_err-numbers g c = let k = g.S.TuneStore in call_no_memory k _ _ _ _ (goes_none k _) (search rules)

pub returns-in_err-sets : goal.returns-in_err-sets
returns-in_err-sets g c = let k = g.S.TuneStore in call_no_memory k _ _ _ _ (goes_none k _) (search rules)

pub returns-in_err-put_tunes : goal.returns-in_err-put_tunes
returns-in_err-put_tunes g c =
    let k = g.S.TuneStore in call_err k _ _ _ _ _ _ _ (goes_none k _) c.in_err-put_tunes.ensures (λ is_open honest refused. tt) (search rules)

pub returns-in_err-put_sets : goal.returns-in_err-put_sets
returns-in_err-put_sets g c =
    let k = g.S.TuneStore in
    call_no_memory k _ _ _ _ (goes_on k _ _ _ _ _ (goes_none k c.args.store.now) c.in_ok-put_tunes.ensures) (search rules)

pub returns : goal.returns
returns g c =
    let k = g.S.TuneStore in
    let start = goes_none k c.args.store.now in
    let none : c.new-parts.result.items ≡ [] = search rules in
    call_ok k _ _ _ _ (goes_on k _ _ _ _ _ start c.in_ok-put_tunes.ensures)
    (λ is_open honest labels sets. parts_whole _ (k.state c.args.store.now) _ _ _ _ _ c.all_numbers.ensures.rise labels none
    (c.as_slice.ensures.value ∙ c.in_ok-numbers.ensures.all)
    (good_of k _ _ _ _ _ start c.in_ok-put_tunes.ensures is_open honest)
    (c.as_slice-2.ensures.value ∙ c.in_ok-sets.ensures ∙ c.sets.ensures ∙ sets) c.in_ok-put_sets.ensures)
