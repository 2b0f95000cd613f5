use Rattle.std.proofs.Common.{◌∙◌, ap, Ok}
use Rattle.desk_scenes.proofs.VisitLemmas.{shown_is}
use Rattle.tune_archive.specs.Shelf.{state_of}
use Rattle.desk_orders.proofs.file_questions.shown_tune.Goals as goal

pub returns-in-Ok-Shown-clause-told : goal.returns-in-Ok-Shown-clause-told
returns-in-Ok-Shown-clause-told g c = λ is_open honest.
    shown_is (state_of g.D.Disk.state c.args.archive.now) c.args.number c.in-Ok-Shown.tune
    (c.in-Ok-Shown.ensures.told is_open honest ∙ ap Ok c.in-Ok-Shown.field-0-is)
