use Rattle.desk_questions.proofs.DumpLaw.{dump_leads}
use Rattle.desk_questions.proofs.laws.law_of_dumps.Goals as goal

pub returns : goal.returns
returns c = dump_leads
