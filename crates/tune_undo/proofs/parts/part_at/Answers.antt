use Rattle.std.proofs.lemmas.Result.{IfOk-weaker}
use Rattle.tune_undo.proofs.PartLaws.{part_none, if_none}
use Rattle.tune_undo.proofs.parts.part_at.Goals as goal

pub returns-clause-none : goal.returns-clause-none
returns-clause-none c =
    let tunes = rw c.in_default.is at c.in_ok-found.ensures.none in
    IfOk-weaker c.set_part.result _ _ (λ read. if_none read (λ sets. part_none c.args.bytes.now tunes sets)) c.set_part.ensures.none
