use Rattle.std.proofs.Common.{◌≡◌, ◌<◌, List, [], ◌++◌, length, map, drop, Ok, sym, ap, ◌∙◌, arith, append-nil}
use Rattle.std.proofs.Math.ListN.{drop_of_length-le}
use Rattle.tune_titles.specs.Order.{in_order, row_order}
use Rattle.tune_titles.specs.ShownRows.{shown_row}
use Rattle.tune_store.specs.State.{State}
use Rattle.tune_store.specs.Labels.{labels_of}
use Rattle.tune_store.specs.Plans.{after}
use Rattle.tune_store.specs.Questions.{all_titles}
use Rattle.tune_store.specs.Inside.Questions.{shown_title}
use Rattle.tune_store.specs.declared.command.Reply.TheVariants.{Titled}
use Rattle.tune_store.specs.declared.tune.Tune.{Tune}
use Rattle.tune_store.proofs.PlanLemmas.{labels_long}
use Rattle.tune_store.proofs.QuestionLemmas.{is_next, titles_next, reply_rows}
use Rattle.tune_store.proofs.questions.titles.Goals as goal

pub loop-place-preserved : goal.loop-place-preserved
loop-place-preserved g c =
    let catalog = g.C.Catalog in
    let law = g.met.C.Catalog in
    let old = c.args.catalog.now in
    let mid = c.loop-place.catalog in
    let new = c.fetch.new.self in
    let tunes = (catalog.state old).tunes in
    let one = c.in_ok-fetch.ensures.0 in
    let all = law.more_fetched old mid new c.loop-place.invariant.fetched one in
    let labels = law.labels_stay old mid c.loop-place.invariant.fetched in
    let within : c.loop-place.place < length (catalog.labels mid) = omega (arith, c.loop-place-test.true, c.len-place-end.ensures.count, ap length labels) in
    record {
      fetched = all;
      rows = λ honest.
          let honest_mid = law.was_honest mid new one honest in
          let same : labels_of tunes ≡ catalog.labels mid = sym (labels ∙ law.labels_are old (law.was_honest old new all honest)) in
          let stays = ap (λ (s : State). s.tunes) (law.state_stays old new all honest) in
          let next =
          is_next tunes _ c.loop-place.place c.label-number.result c.text.result.now same within c.label-number.ensures
          (rw (← stays) (c.text.ensures honest)) in
          titles_next tunes c.loop-place.place c.label-number.result.number c.text.result.now c.loop-place.rows.items
          c.add_titles.new.rows.items _ next c.in_ok-add_titles.ensures (c.loop-place.invariant.rows honest_mid);
    }

pub returns-clause-planned : goal.returns-clause-planned
returns-clause-planned g c honest =
    let catalog = g.C.Catalog in
    let law = g.met.C.Catalog in
    let old = c.args.catalog.now in
    let tunes = (catalog.state old).tunes in
    let honest_old = law.was_honest old c.loop-place.catalog c.loop-place.invariant.fetched honest in
    let many = labels_long tunes (catalog.labels old) (sym (law.labels_are old honest_old)) in
    let none : drop c.loop-place.place tunes ≡ [] =
    drop_of_length-le tunes (omega (arith, c.loop-place-test.false, c.len-place-end.ensures.count, many)) in
    let all : c.loop-place.rows.items ≡ map shown_row (all_titles tunes) =
    sym (append-nil c.loop-place.rows.items) ∙ ap (λ (rest : List Tune). c.loop-place.rows.items ++ map shown_row (all_titles rest)) (sym none)
    ∙ c.loop-place.invariant.rows honest in
    let shown =
    c.in_ok-shown_rows.ensures ∙ ap (map shown_title) (c.in_ok-sort_shown.ensures.ok (all_titles tunes) all)
    ∙ reply_rows (in_order row_order (all_titles tunes)) in
    let change = sym c.answer.ensures.change in
    let titled = sym (c.answer.ensures.reply ∙ ap Titled shown) in
    (λ i. (after (change i) (catalog.state old), Ok (titled i)))
