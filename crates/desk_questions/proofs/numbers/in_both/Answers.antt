use Rattle.std.proofs.Common.{◌≡◌, ap, ◌∙◌}
use Rattle.std.specs.Prelude.{filter}
use Rattle.std.proofs.lemmas.List.Sorted.{IsNonDecreasingBy-from_sort}
use Rattle.desk_questions.specs.Inside.QuestionCalls.{has_number}
use Rattle.desk_questions.proofs.FoundLemmas.{among_sorted}
use Rattle.desk_questions.proofs.numbers.in_both.Goals as goal

pub in_rising-requires : goal.in_rising-requires
in_rising-requires c = rw c.as_slice.ensures.value (IsNonDecreasingBy-from_sort (λ x. x) _ c.in_ok-sort.ensures.sorted)

pub returns : goal.returns
returns c = c.in_ok-in_rising.ensures ∙ ap (λ some. filter (has_number some) c.args.numbers.now) c.as_slice.ensures.value
    ∙ among_sorted _ _ c.args.numbers.now c.in_ok-sort.ensures.permutation
