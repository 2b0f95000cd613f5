use Rattle.std.proofs.Common.{◌∙◌}
use Rattle.desk_questions.proofs.NumberLemmas.{search_tells}
use Rattle.desk_questions.proofs.numbers.is_among.Goals as goal

pub returns : goal.returns
returns c = c.is_ok.ensures.value ∙ search_tells c.args.numbers.now c.args.number _ c.binary_search.ensures.position c.requires
