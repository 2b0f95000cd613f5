use Rattle.std.proofs.Common.{◌∙◌}
use Rattle.desk_lists.proofs.WordLemmas.{found_stands}
use Rattle.desk_lists.proofs.folded_words.stands_in.Goals as goal

pub returns : goal.returns
returns c = c.is_some.ensures ∙ found_stands _ _ _ c.find.ensures
