use Rattle.std.proofs.Common.{◌≡◌, ◌++◌, map, rules, refl, sym, ap, ◌∙◌}
use Rattle.tune_queries.specs.Queries.{matches}
use Rattle.tune_store.specs.Limits.{notes_of}
use Rattle.tune_store.specs.Questions.{found}
use Rattle.tune_store.specs.declared.index_rows.IndexRow.{IndexRow}
use Rattle.tune_asking.proofs.CallLemmas.{goes_none, goes_on, good_of, call_ok, call_err, call_no_memory}
use Rattle.desk_questions.proofs.ReplyLemmas.{found_ok, found_refused, same_rows}
use Rattle.desk_questions.proofs.FoundLemmas.{adds_found}
use Rattle.desk_questions.proofs.found_numbers.add_found.Goals as goal

pub ask-requires : goal.ask-requires
ask-requires g c = refl

pub returns-in_err-rows : goal.returns-in_err-rows
returns-in_err-rows g c =
    let k = g.S.TuneStore in
    call_err k _ _ _ _ _ _ _ (goes_none k _) c.in_err-rows.ensures
    (λ is_open honest refused. found_refused _ c.args.query _ _ refused) (search rules)

pub returns-in_err-add_numbers-in-Found : goal.returns-in_err-add_numbers-in-Found
returns-in_err-add_numbers-in-Found g c =
    let k = g.S.TuneStore in
    call_no_memory k _ _ _ _ (goes_on k _ _ _ _ _ (goes_none k c.args.store.now) c.in_ok-rows.ensures) (search rules)

pub returns-in-Found : goal.returns-in-Found
returns-in-Found g c =
    let k = g.S.TuneStore in
    let start = goes_none k c.args.store.now in
    call_ok k _ _ _ _ (goes_on k _ _ _ _ _ start c.in_ok-rows.ensures)
    (λ is_open honest.
    let state = k.state c.args.store.now in
    let h = found_ok (notes_of state.layout) c.args.query state.tunes _ (good_of k _ _ _ _ _ start c.in_ok-rows.ensures is_open honest) in
    let same : c.in-Found.rows ≡ found (notes_of state.layout) c.args.query state.tunes = same_rows _ _ (sym c.in-Found.is ∙ h.1) in (
      h.0,
      adds_found _ _ (matches (notes_of state.layout) c.args.query) state.tunes
          (c.in_ok-add_numbers-in-Found.ensures ∙ ap (λ rows. c.args.numbers.now.items ++ map (λ (row : IndexRow). row.number) rows)
          (c.as_slice.ensures ∙ same)),
    ))

pub returns : goal.returns
returns g c =
    let k = g.S.TuneStore in
    let start = goes_none k c.args.store.now in
    call_ok k _ _ _ _ (goes_on k _ _ _ _ _ start c.in_ok-rows.ensures)
    (λ is_open honest.
    let state = k.state c.args.store.now in
    let h = found_ok (notes_of state.layout) c.args.query state.tunes _ (good_of k _ _ _ _ _ start c.in_ok-rows.ensures is_open honest) in
    absurd (c.in_default.not-Found _ h.1))
