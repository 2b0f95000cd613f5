use Rattle.desk_lists.proofs.WordLemmas.{begins_is, stands_is}
use Rattle.desk_lists.proofs.laws.law_of_words.Goals as goal

pub returns : goal.returns
returns c = record { stands = stands_is; begins = begins_is }
