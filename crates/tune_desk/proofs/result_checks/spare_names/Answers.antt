use Rattle.tune_desk.proofs.AskLemmas.{asks_none}
use Rattle.tune_desk.proofs.result_checks.spare_names.Goals as goal

pub returns-in-Other : goal.returns-in-Other
returns-in-Other g c = asks_none _ _ (λ kin. absurd (c.in-Other.ensures kin))
