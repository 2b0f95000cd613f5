use Rattle.std.proofs.Common.{◌≡◌, take}
use Rattle.std.specs.Prelude.{filter}
use Rattle.desk_questions.specs.Inside.QuestionCalls.{has_number}
use Rattle.desk_questions.proofs.numbers.in_rising.Given as goal

abbrev pub invariant-loop-number : goal.invariant-loop-number
invariant-loop-number l = l.both.items ≡ filter (has_number l.given) (take l.number-index l.numbers)
