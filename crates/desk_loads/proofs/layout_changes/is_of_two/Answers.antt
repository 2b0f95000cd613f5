use Rattle.std.proofs.Common.{sym, ◌∙◌}
use Rattle.std.proofs.lemmas.Bool.{eqb-true}
use Rattle.desk_loads.proofs.UpgradeLemmas.{layout_two}
use Rattle.desk_loads.proofs.layout_changes.is_of_two.Goals as goal

pub returns-in-Ok : goal.returns-in-Ok
returns-in-Ok g c = λ is honest. layout_two _ (sym (c.in-Ok.ensures.counts honest).0 ∙ eqb-true _ _ is)
