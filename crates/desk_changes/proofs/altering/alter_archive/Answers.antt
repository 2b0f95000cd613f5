use Rattle.std.proofs.Common.{◌≡◌, inl, Ok, string_bytes}
use Rattle.tune_changes.specs.Planning.{planned_by}
use Rattle.desk_changes.specs.Kinds.{kind_of_alteration}
use Rattle.desk_changes.proofs.AlteringLemmas.{grows_none, look_then}
use Rattle.desk_changes.proofs.altering.alter_archive.Goals as goal

pub returns-in-Ok-clause-alters : goal.returns-in-Ok-clause-alters
returns-in-Ok-clause-alters g c = λ is_open same.
    look_then g.D.Disk (string_bytes c.args.file.now) (kind_of_alteration c.args.change.now) (λ state turns. planned_by c.args.change.now state ≡ Ok turns)
    c.in-Ok.turns.items c.args.archive.now c.planned.new.store c.carry.new.archive _ _ c.carry.result c.in-Ok.ensures.asked
    (λ honest. c.in-Ok.ensures.answer is_open honest (same (c.in-Ok.ensures.asked.was_honest honest)))
    (rw (c.kind_of.ensures, c.as_slice.ensures.value) at c.carry.ensures.turns)

pub returns-in-Err-clause-alters : goal.returns-in-Err-clause-alters
returns-in-Err-clause-alters g c = λ is_open same.
    inl (record { asked = c.planned.ensures.asked; unkept = grows_none (string_bytes c.args.file.now) _ })
