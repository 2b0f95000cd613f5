use Rattle.std.proofs.Common.{length, ap, ◌∙◌, codes, arith}
use Rattle.std.proofs.lemmas.List.{length-map, length-take}
use Rattle.abc_fields.specs.Fields.{header_values}
use Rattle.tune_store.proofs.QuestionLemmas.{shown_next}
use Rattle.tune_store.proofs.questions.add_titles.Goals as goal

-- a tune has eight titles at most
pub overflow_add-place : goal.overflow_add-place
overflow_add-place c =
    let own = length-map c.as_slice-title-items.result.now (λ title. title.now) in
    let same = ap length (c.as_slice-title-items.ensures ∙ c.fields.ensures.titles) in
    let few = length-take 8 (header_values (codes "T:") c.args.text.now) in
    omega (arith, own, same, few, c.loop-title.invariant.place, c.loop-title-test.true)

pub loop-title-preserved : goal.loop-title-preserved
loop-title-preserved c = record {
  place = omega arith;
  rows = shown_next (λ title. title.now) c.args.number c.loop-title.place c.as_slice-title-items.result.now c.loop-title.title-index _ c.loop-title.rows.items _
      _ _ (omega arith) c.in_ok-new.ensures c.in_ok-push.ensures.items c.loop-title.invariant.rows;
}
