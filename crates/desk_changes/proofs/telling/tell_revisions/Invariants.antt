use Rattle.std.proofs.Common.{drop}
use Rattle.desk_changes.proofs.TellingLemmas.{TellsTo}
use Rattle.desk_changes.proofs.telling.tell_revisions.Given as goal

abbrev pub invariant-loop-part : goal.invariant-loop-part
invariant-loop-part g l =
    TellsTo g.S.TuneStore l.fn.store l.store l.fn.told.items l.told.items l.parts (drop l.part-index l.parts)
