use Rattle.std.proofs.Common.{◌≡◌, ◌≤◌, ◌∙◌, length, ap, sym, arith}
use Rattle.std.proofs.lemmas.List.{length-map}
use Rattle.std.proofs.lemmas.Bool.{eqb-true}
use Rattle.abc_fields.specs.Limits.{most_titles}
use Rattle.abc_fields.proofs.FieldLemmas.{enough_titles, few_titles-empty}
use Rattle.abc_fields.proofs.header_fields.Titles.take_value.Goals as goal
use Rattle.abc_fields.proofs.header_fields.Titles.take_value.Goals.{else-not-is_full-via-then-not-is_full+else-not-is_empty}
use Rattle.abc_fields.proofs.header_fields.Titles.take_value.Goals.{else-not-is_full-via-else-not-is_full}

pub returns-else-not-is_full : goal.returns-else-not-is_full
returns-else-not-is_full c =
    let same : length c.args.self.now ≡ length c.self.inside.list.items =
    sym (ap length c.self.view_is) ∙ length-map c.self.inside.list.items (λ title. title.now) in
    let few : length c.args.self.now ≤ most_titles = omega (arith, same, c.is_full.ensures.fits) in
    elim c.else-not-is_full.branch [
      | else-not-is_full-via-then-not-is_full+else-not-is_empty w ↦
          few_titles-empty most_titles c.args.self.now c.args.value.now few
          (eqb-true (length c.args.value.now) 0 (sym w.is_empty.ensures ∙ w.if-not-is_empty.false))
      | else-not-is_full-via-else-not-is_full w ↦
          enough_titles most_titles c.args.self.now _
          (same ∙ eqb-true (length c.self.inside.list.items) most_titles (sym c.is_full.ensures.value ∙ w.if-not-is_full.false))
    ]
