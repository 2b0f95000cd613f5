use Rattle.tune_contents.proofs.StatePages.{state_count}
use Rattle.tune_contents.proofs.laws.law_of_state_pages.Goals as goal

pub returns : goal.returns
returns c = state_count
