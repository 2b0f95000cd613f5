use Rattle.std.proofs.Common.{◌≡◌, [], Ok, rules, sym, ap, ◌∙◌}
use Rattle.tune_asking.proofs.CallLemmas.{goes_none, goes_on, good_of, call_ok, call_err}
use Rattle.desk_questions.proofs.DumpLemmas.{never_missing, dumped_whole}
use Rattle.desk_questions.proofs.dumps.dump.Goals as goal

pub returns-in_err-dump_tunes : goal.returns-in_err-dump_tunes
returns-in_err-dump_tunes g c =
    let k = g.S.TuneStore in
    call_err k _ _ _ _ _ _ _ (goes_none k _) c.in_err-dump_tunes.ensures
    (λ is_open honest refused same. absurd (never_missing _ (k.state c.args.store.now) _ _ c.all_numbers.ensures.rise
    (c.as_slice.ensures.value ∙ c.in_ok-numbers.ensures.all) same refused)) (search rules)

pub returns-in_err-dump_sets : goal.returns-in_err-dump_sets
returns-in_err-dump_sets g c =
    let k = g.S.TuneStore in
    call_err k _ _ _ _ _ _ _ (goes_on k _ _ _ _ _ (goes_none k c.args.store.now) c.in_ok-dump_tunes.ensures) c.in_err-dump_sets.ensures
    (λ is_open honest refused same. absurd refused) (search rules)

pub returns : goal.returns
returns g c =
    let k = g.S.TuneStore in
    let start = goes_none k c.args.store.now in
    let goes = goes_on k _ _ _ _ _ start c.in_ok-dump_tunes.ensures in
    let none : c.new-script.result.items ≡ [] = search rules in
    call_ok k _ _ _ _ (goes_on k _ _ _ _ _ goes c.in_ok-dump_sets.ensures)
    (λ is_open honest same. ap Ok (dumped_whole _ (k.state c.args.store.now) _ _ _ _ c.all_numbers.ensures.rise
    (c.as_slice.ensures.value ∙ c.in_ok-numbers.ensures.all) same
    (good_of k _ _ _ _ _ start c.in_ok-dump_tunes.ensures is_open (c.in_ok-dump_sets.ensures.asked.was_honest honest)) none
    (good_of k _ _ _ _ _ goes c.in_ok-dump_sets.ensures is_open honest) ∙ sym c.from_vec.ensures))
