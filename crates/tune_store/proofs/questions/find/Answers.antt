use Rattle.std.proofs.Common.{◌≡◌, inl, inr, Bool, cond, subst, false, [], length, refl, sym, ap, ◌∙◌, drop, arith, append-nil}
use Rattle.std.proofs.lemmas.Bool.{cases_Bool}
use Rattle.tune_queries.specs.Queries.{is_bad}
use Rattle.tune_store.specs.Questions.{found}
use Rattle.std.proofs.Math.ListN.{drop_of_length-le}
use Rattle.tune_store.specs.Limits.{notes_of}
use Rattle.tune_store.specs.State.{State}
use Rattle.tune_store.specs.Candidates.{PlacesRise, HoldsFound}
use Rattle.tune_store.specs.Labels.{labels_of}
use Rattle.tune_store.proofs.PlanLemmas.{labels_long, no_tune}
use Rattle.tune_store.proofs.CandidateLemmas.{found_at, found_next_place, within_count}
use Rattle.tune_store.proofs.questions.find.Goals as goal

pub try_at-requires-clause-place : goal.try_at-requires-clause-place
try_at-requires-clause-place g c =
    let law = g.met.C.Catalog in
    let old = c.args.catalog.now in
    let given = c.in_ok-places.ensures in
    let rise : PlacesRise 0 (length (g.C.Catalog.labels old)) c.deref-place-items.result.now = rw c.deref-place-items.ensures.value given.1 in
    let labels = law.labels_stay old c.loop-place.catalog c.loop-place.invariant.fetched in
    let within = within_count 0 _ c.deref-place-items.result.now c.loop-place.place-index rise (omega arith) in
    rw labels within

pub loop-place-preserved : goal.loop-place-preserved
loop-place-preserved g c =
    let catalog = g.C.Catalog in
    let law = g.met.C.Catalog in
    let old = c.args.catalog.now in
    let mid = c.loop-place.catalog in
    let new = c.try_at.new.catalog in
    let tunes = (catalog.state old).tunes in
    let places = c.deref-place-items.result.now in
    let i = c.loop-place.place-index in
    let one = c.in_ok-try_at.ensures.fetched in
    let all = law.more_fetched old mid new c.loop-place.invariant.fetched one in
    record {
      fetched = all;
      since = law.more_fetched _ mid new c.loop-place.invariant.since one;
      rows = λ honest.
          let honest_mid = law.was_honest mid new one honest in
          let stays = ap (λ (s : State). s.tunes) (law.state_stays old mid c.loop-place.invariant.fetched honest_mid) in
          let row = rw stays at (c.in_ok-try_at.ensures.row honest no_tune) in
          found_next_place c.notes-notes.result c.args.query.now _ tunes places i c.loop-place.rows.items _ _ (omega arith)
          (c.in_ok-sought.ensures.finds _) row (c.loop-place.invariant.rows honest_mid);
    }

pub returns-clause-planned : goal.returns-clause-planned
returns-clause-planned g c = λ honest.
    let catalog = g.C.Catalog in
    let law = g.met.C.Catalog in
    let old = c.args.catalog.now in
    let query = c.args.query.now in
    let mid = c.loop-place.catalog in
    let tunes = (catalog.state old).tunes in
    let places = c.deref-place-items.result.now in
    let given = c.in_ok-places.ensures in
    let same : labels_of tunes ≡ catalog.labels old = sym (law.labels_are old (law.was_honest old mid c.loop-place.invariant.fetched honest)) in
    let many = labels_long tunes (catalog.labels old) same in
    let rise : PlacesRise 0 (length tunes) places = rw (c.deref-place-items.ensures.value, many) given.1 in
    let notes : c.notes-notes.result ≡ notes_of (catalog.layout old) = c.notes-notes.ensures.notes ∙ ap notes_of c.layout.ensures in
    let own : c.notes-notes.result ≡ notes_of (catalog.state old).layout =
    notes ∙ ap notes_of (law.layout_is old (law.was_honest old mid c.loop-place.invariant.fetched honest)) in
    let holds : HoldsFound c.notes-notes.result c.in_ok-sought.sought tunes places =
    rw (notes, c.deref-place-items.ensures.value) (given.2 (law.was_honest c.candidates.new.self mid c.loop-place.invariant.since honest)) in
    let all = found_at c.notes-notes.result query c.in_ok-sought.sought tunes places rise holds c.in_ok-sought.ensures.finds in
    let none : drop c.loop-place.place-index places ≡ [] = drop_of_length-le places c.loop-place-test.false in
    let rows = rw none at (c.loop-place.invariant.rows honest) in
    let is : c.loop-place.rows.items ≡ found c.notes-notes.result query tunes = sym (append-nil c.loop-place.rows.items) ∙ rows ∙ sym all in
    let good : is_bad query ≡ false = elim (cases_Bool (is_bad query)) [
      | inl bad ↦ absurd (subst (λ (b : Bool). cond b ⊥ (Unit {0})) (c.in_ok-sought.ensures.bad.1 bad) tt)
      | inr other ↦ other
    ] in
    rw (c.answer.ensures.change, c.answer.ensures.reply, c.from_vec.ensures, is, ← own, good) refl
