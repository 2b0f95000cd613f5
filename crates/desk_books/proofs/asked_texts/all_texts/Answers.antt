use Rattle.std.proofs.Common.{rules, ◌∙◌, [], ap, subst}
use Rattle.tune_store.specs.Labels.{numbers_of}
use Rattle.tune_asking.proofs.CallLemmas.{goes_none, goes_on, good_of, call_ok, call_err, call_no_memory}
use Rattle.desk_books.specs.KnownSums.{KnowsTextsAt}
use Rattle.desk_books.proofs.asked_texts.all_texts.Goals as goal

pub returns-in_err-numbers : goal.returns-in_err-numbers
returns-in_err-numbers g c = let k = g.S.TuneStore in call_no_memory k _ _ _ _ (goes_none k _) (search rules)

pub returns-in_err-put_texts : goal.returns-in_err-put_texts
returns-in_err-put_texts g c =
    let k = g.S.TuneStore in call_err k _ _ _ _ _ _ _ (goes_none k _) c.in_err-put_texts.ensures (λ is_open honest refused. tt) (search rules)

pub returns : goal.returns
returns g c =
    let k = g.S.TuneStore in
    let start = goes_none k c.args.store.now in
    call_ok k _ _ _ _ (goes_on k _ _ _ _ _ start c.in_ok-put_texts.ensures)
    (λ is_open honest same. let state = k.state c.args.store.now in
    let known = good_of k _ _ _ _ _ start c.in_ok-put_texts.ensures is_open honest in
    let empty = subst (λ sums. KnowsTextsAt c.as_slice.result.now sums state c.put_texts.new.known) c.new-known.ensures known in
    subst (λ numbers. KnowsTextsAt numbers [] state c.put_texts.new.known)
    (c.as_slice.ensures.value ∙ c.in_ok-numbers.ensures.all ∙ ap numbers_of same) empty)
