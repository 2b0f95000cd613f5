use Rattle.std.proofs.Common.{refl}
use Rattle.desk_loads.proofs.ScriptLemmas.{steps}
use Rattle.desk_loads.proofs.layout_changes.upgrade_archive.Goals as goal

pub returns-then-is_of_two : goal.returns-then-is_of_two
returns-then-is_of_two g c = (refl, c.is_of_two.ensures c.if-is_of_two.true)

pub returns-in-Ok : goal.returns-in-Ok
returns-in-Ok g c = record {
  reply = c.in-Ok.reply;
  upgrade = c.in-Ok.ensures.answers;
  became = λ honest. (steps _ _ _ _ (c.in-Ok.ensures.answers.answers honest) refl).1;
  is_open = c.in-Ok.ensures.closes;
}
