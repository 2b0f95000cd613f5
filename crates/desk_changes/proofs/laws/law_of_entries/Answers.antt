use Rattle.std.proofs.Common.{map, sym, subst}
use Rattle.tune_changes.specs.Aims.{turn_of}
use Rattle.desk_changes.specs.BackLaws.{LeadsBack}
use Rattle.desk_changes.proofs.BackLemmas.{loads_back, same_back}
use Rattle.desk_changes.proofs.laws.law_of_entries.Goals as goal

pub returns-clause-same : goal.returns-clause-same
returns-clause-same c = same_back

pub returns-clause-back : goal.returns-clause-back
returns-clause-back c = λ kind turns old now is can stands.
    subst (λ commands. LeadsBack commands now old) (sym (same_back kind turns now)) (c.law_of_undo.ensures.back old now (map turn_of turns) is can stands)

pub returns-clause-loads : goal.returns-clause-loads
returns-clause-loads c = loads_back
