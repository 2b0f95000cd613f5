use Rattle.std.proofs.Common.{◌≡◌, ◌<◌, ◌≤◌, Ok, length, get_or, refl, sym, ap, ◌∙◌, arith}
use Rattle.tune_books.specs.WrittenBooks.{written_set}
use Rattle.tune_sets.specs.Calls.{places_of}
use Rattle.tune_store.specs.State.{State}
use Rattle.tune_store.specs.Labels.{labels_of}
use Rattle.tune_store.specs.Questions.{texts_at}
use Rattle.tune_store.specs.declared.tune.Tune.{Tune}
use Rattle.tune_store.proofs.PlanLemmas.{IsPlaceOf, place_none}
use Rattle.tune_store.proofs.QuestionLemmas.{few_places, set_there, set_missing, set_written, set_answered}
use Rattle.tune_store.proofs.questions.export_set.Goals as goal
use Rattle.tune_store.proofs.questions.export_set.Goals.{in-Some+in_ok-fetch+in_ok-book-2, in_default}

pub overflow_add-place : goal.overflow_add-place
overflow_add-place g c =
    let few = few_places c.args.name.now c.sets-sets.result.now c.in_ok-places.field-0.now c.as_slice-limits.ensures.limits.each c.in_ok-places.ensures.ok in
    omega (arith, few, ap length c.in_ok-numbers.ensures.items, ap length c.deref-number-items.ensures.value)

pub loop-number-preserved : goal.loop-number-preserved
loop-number-preserved g c =
    let catalog = g.C.Catalog in
    let law = g.met.C.Catalog in
    let old = c.args.catalog.now in
    let mid = c.loop-number.catalog in
    let tunes = (catalog.state old).tunes in
    let numbers = c.deref-number-items.result.now in
    let i = c.loop-number.number-index in
    let before = c.loop-number.invariant.fetched in
    let labels = law.labels_stay old mid before in
    let whole = written_set c.args.name.now (texts_at tunes numbers) in
    let within : i < length numbers = omega arith in
    elim c.match-place_of.branch [
      | in-Some+in_ok-fetch+in_ok-book-2 w ↦
          let new = w.fetch.new.self in
          let one = w.in_ok-fetch.ensures.0 in
          let all = law.more_fetched old mid new before one in
          record {
            fetched = rw w.catalog-is all;
            place = omega arith;
            book = λ honest rises.
                let honest_new = rw w.catalog-is at honest in
                let honest_mid = law.was_honest mid new one honest_new in
                let same : labels_of tunes ≡ catalog.labels mid = sym (labels ∙ law.labels_are old (law.was_honest old mid before honest_mid)) in
                let stays = ap (λ (s : State). s.tunes) (law.state_stays old new all honest_new) in
                let at : IsPlaceOf (get_or numbers i 0) tunes (catalog.labels mid) w.in-Some.index =
                record { rises = rises; same = same; within = w.in-Some.ensures.within; found = w.in-Some.ensures.found } in
                let read : (d : Tune) → w.text.result.now ≡ (get_or tunes w.in-Some.index d).text = rw (← stays) (w.text.ensures honest_new) in
                rw (w.book-is, w.place-is)
                (set_there tunes (catalog.labels mid) numbers i c.loop-number.place (get_or numbers i 0) w.in-Some.index w.text.result.now c.loop-number.book
                w.in_ok-book-2.book whole within refl at read w.in_ok-book-2.ensures (c.loop-number.invariant.book honest_mid rises));
          }
      | in_default w ↦
          record {
            fetched = rw w.catalog-is before;
            place = omega arith;
            book = λ honest rises.
                let honest_mid = rw w.catalog-is at honest in
                let same : labels_of tunes ≡ catalog.labels mid = sym (labels ∙ law.labels_are old (law.was_honest old mid before honest_mid)) in
                let none = place_none (get_or numbers i 0) tunes (catalog.labels mid) same w.in_default.ensures.none in
                rw (w.book-is, w.place-is)
                (set_missing tunes numbers i c.loop-number.place (get_or numbers i 0) c.loop-number.book whole within refl none
                (c.loop-number.invariant.book honest_mid rises));
          }
    ]

pub returns-clause-planned : goal.returns-clause-planned
returns-clause-planned g c = λ honest rises.
    let law = g.met.C.Catalog in
    let old = c.args.catalog.now in
    let mid = c.loop-number.catalog in
    let state = g.C.Catalog.state old in
    let numbers = c.deref-number-items.result.now in
    let honest_old = law.was_honest old mid c.loop-number.invariant.fetched honest in
    let sets = c.sets-sets.ensures ∙ law.sets_are old honest_old in
    let held = c.deref-number-items.ensures.value ∙ c.in_ok-numbers.ensures.items in
    let places : places_of c.args.name.now state.sets ≡ Ok numbers = rw (← sets, held) c.in_ok-places.ensures.ok in
    let ended : length numbers ≤ c.loop-number.number-index = omega arith in
    let written = set_written state.tunes numbers c.loop-number.number-index c.loop-number.place c.loop-number.book
    (written_set c.args.name.now (texts_at state.tunes numbers)) ended
    (c.loop-number.invariant.book honest rises) in
    let answered = set_answered c.args.name.now c.in_ok-held.held state.tunes state.sets numbers c.loop-number.book places c.in_ok-held.ensures.ok.0 written in
    rw (c.answer.ensures.change, c.answer.ensures.reply, c.into_book-book.ensures, answered) refl
