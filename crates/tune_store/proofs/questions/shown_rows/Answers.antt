use Rattle.std.proofs.Common.{◌≡◌, [], ◌∷◌, ◌++◌, Some, ap, sym, ◌∙◌, append_assoc}
use Rattle.std.proofs.lemmas.List.{map-append}
use Rattle.std.specs.Vec.Iter.{into_iter_items}
use Rattle.tune_store.specs.declared.index_rows.IndexRow.{IndexRow}
use Rattle.tune_store.specs.Inside.Questions.{shown_title}
use Rattle.tune_store.proofs.questions.shown_rows.Goals as goal

pub loop-row-preserved : goal.loop-row-preserved
loop-row-preserved c =
    let kept = c.loop-row.invariant in
    let row = c.in-Some.row in
    let taken : into_iter_items c.loop-row.row-iterator ≡ row ∷ into_iter_items c.next.new.self = c.in-Some.ensures.steps.0 in
    let made : record { number = c.number.result; title = Some c.into_title.result } ≡ shown_title row =
    (λ i. record { number = c.number.ensures i; title = Some (c.into_title.ensures i) }) in
    record {
      shown = c.in_ok-push.ensures.items ∙ ap (λ (r : IndexRow). c.loop-row.shown.items ++ r ∷ []) made
          ∙ ap (λ rows. rows ++ shown_title row ∷ []) kept.shown ∙ sym (map-append shown_title c.loop-row.yielded (row ∷ []));
      left = append_assoc c.loop-row.yielded (row ∷ []) (into_iter_items c.next.new.self) ∙ ap (λ rest. c.loop-row.yielded ++ rest) (sym taken)
          ∙ kept.left;
    }
