use Rattle.std.proofs.Common.{List, ℕ, ap, sym, ◌∙◌}
use Rattle.index_keys.specs.Cuts.{cut_number}
use Rattle.tune_titles.specs.Articles.{small_letters, title_rest}
use Rattle.tune_titles.proofs.ShownLemmas.{rest_taken, rest_short}
use Rattle.tune_titles.proofs.shown_rows.ShownRow.new.Goals as goal

pub invariant_of-result : goal.invariant_of-result
invariant_of-result c =
    let title = c.args.title.now in
    let rest = c.rest_of-rest.result.now in
    let shown = c.in_ok-index_title.field-0 in
    let is = c.rest_of-rest.ensures ∙ ap title_rest c.trim_blanks.ensures.value in (
      rest_short title rest shown is c.in_ok-index_title.ensures,
      c.front_of.ensures ∙ ap (λ (x : List ℕ). cut_number 16 0 (small_letters x)) (sym (rest_taken title rest shown is c.in_ok-index_title.ensures)),
    )

pub returns : goal.returns
returns c =
    let title = c.args.title.now in
    let rest = c.rest_of-rest.result.now in
    let is = c.rest_of-rest.ensures ∙ ap title_rest c.trim_blanks.ensures.value in
    let sorted = ap small_letters (rest_taken title rest c.in_ok-index_title.field-0 is c.in_ok-index_title.ensures ∙ is) in
    (λ i. record { sorting = sorted i; title = c.in_ok-index_title.ensures i; number = c.args.number; place = c.args.place })
