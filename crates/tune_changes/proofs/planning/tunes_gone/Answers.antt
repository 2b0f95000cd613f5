use Rattle.std.proofs.Common.{◌≡◌, [], List, ℕ, Option, map, sym, ap, ◌∙◌}
use Rattle.tune_sets.specs.Sets.{holder}
use Rattle.tune_sets.specs.declared.set_lists.TuneSet.{TuneSet}
use Rattle.tune_asking.proofs.CallLemmas.{goes_none, call_same}
use Rattle.tune_changes.specs.Inside.TurnPlans.{all_gone}
use Rattle.tune_changes.specs.Planning.{tunes_gone}
use Rattle.tune_changes.proofs.PlanLemmas.{all_held}
use Rattle.tune_changes.proofs.planning.tunes_gone.Goals as goal

pub returns : goal.returns
returns g c =
    let k = g.S.TuneStore in
    let numbers = c.args.numbers.now in
    let state = k.state c.args.store.now in
    let held : List TuneSet → List (Option (List ℕ)) = λ sets. map (λ number. holder number sets) numbers in
    let by : g.S.Catalog.sets c.args.store.now ≡ state.sets → all_gone [] c.as_slice.result.now numbers state ≡ tunes_gone [] numbers state = λ same.
    ap (λ (names : List (Option (List ℕ))). all_gone [] names numbers state)
    (c.as_slice.ensures.value ∙ c.in_ok-held.ensures ∙ ap held (c.sets.ensures ∙ same)) ∙ all_held [] numbers state in
    call_same k _ _ _ _ _ _ (goes_none k _) c.all_gone.ensures
    (λ is_open h value told same. sym (by same) ∙ told) (λ is_open h refusal told same. sym (by same) ∙ told)
