use Rattle.std.proofs.Common.{◌≡◌, ◌++◌, map, false, rules, refl, sym, ap, ◌∙◌}
use Rattle.std.specs.Prelude.{filter}
use Rattle.tune_store.specs.Questions.{titled}
use Rattle.tune_store.specs.declared.index_rows.IndexRow.{IndexRow}
use Rattle.desk_questions.specs.Inside.QuestionCalls.{has_row_title, has_some_title}
use Rattle.desk_questions.specs.Inside.SoughtWords.{looks_at_titles}
use Rattle.tune_asking.proofs.CallLemmas.{goes_none, goes_on, good_of, call_ok, call_err, call_no_memory}
use Rattle.desk_questions.proofs.ReplyLemmas.{titles_given, titled_ok, same_titles}
use Rattle.desk_questions.proofs.FoundLemmas.{adds_titled, adds_none, no_titles}
use Rattle.desk_questions.proofs.found_numbers.add_by_title.Goals as goal

pub returns-then-not-looks_at_titles : goal.returns-then-not-looks_at_titles
returns-then-not-looks_at_titles g c =
    let k = g.S.TuneStore in
    let condition = c.args.condition.now in
    let none : looks_at_titles condition ≡ false = search rules in
    call_ok k _ _ _ _ (goes_none k c.args.store.now)
    (λ is_open honest. adds_none c.args.numbers.now.items (has_some_title condition) (k.state c.args.store.now).tunes (no_titles condition none))

pub returns-in_err-words : goal.returns-in_err-words
returns-in_err-words g c = let k = g.S.TuneStore in call_no_memory k _ _ _ _ (goes_none k c.args.store.now) (search rules)

pub ask-requires : goal.ask-requires
ask-requires g c = refl

pub returns-in_err-rows : goal.returns-in_err-rows
returns-in_err-rows g c =
    let k = g.S.TuneStore in
    call_err k _ _ _ _ _ _ _ (goes_none k _) c.in_err-rows.ensures
    (λ is_open honest refused. titles_given (k.state c.args.store.now).tunes _ _ refl refused) (search rules)

pub add_titled-requires : goal.add_titled-requires
add_titled-requires g c = search rules

pub returns-in_err-add_titled-in-Titled : goal.returns-in_err-add_titled-in-Titled
returns-in_err-add_titled-in-Titled g c =
    let k = g.S.TuneStore in
    call_no_memory k _ _ _ _ (goes_on k _ _ _ _ _ (goes_none k c.args.store.now) c.in_ok-rows.ensures) (search rules)

pub returns-in-Titled : goal.returns-in-Titled
returns-in-Titled g c =
    let k = g.S.TuneStore in
    let start = goes_none k c.args.store.now in
    let condition = c.args.condition.now in
    call_ok k _ _ _ _ (goes_on k _ _ _ _ _ start c.in_ok-rows.ensures)
    (λ is_open honest.
    let tunes = (k.state c.args.store.now).tunes in
    let h = titled_ok tunes _ _ refl (good_of k _ _ _ _ _ start c.in_ok-rows.ensures is_open honest) in
    let same : c.in-Titled.rows ≡ titled tunes = same_titles _ _ (sym c.in-Titled.is ∙ h) in
    adds_titled condition _ _ tunes
    (c.in_ok-add_titled-in-Titled.ensures ∙ ap (λ rows. c.args.numbers.now.items ++ map (λ (row : IndexRow). row.number)
    (filter (has_row_title condition) rows))
    (c.as_slice.ensures ∙ same)))

pub returns : goal.returns
returns g c =
    let k = g.S.TuneStore in
    let start = goes_none k c.args.store.now in
    call_ok k _ _ _ _ (goes_on k _ _ _ _ _ start c.in_ok-rows.ensures)
    (λ is_open honest.
    let h = titled_ok (k.state c.args.store.now).tunes _ _ refl (good_of k _ _ _ _ _ start c.in_ok-rows.ensures is_open honest) in
    absurd (c.in_default.not-Titled _ h))
