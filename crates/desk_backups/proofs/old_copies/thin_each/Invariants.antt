use Rattle.std.proofs.Common.{◌≤◌, List}
use Rattle.tune_desk.specs.DeskDeeds.{DeskDeed}
use Rattle.desk_backups.specs.Inside.Thinned.{IsThinned}
use Rattle.desk_backups.specs.OldCopies.{ThinsOut, thinning_by}
use Rattle.desk_backups.proofs.old_copies.thin_each.Given as goal

-- of each number below the last that was found there are so many newer copies
abbrev pub invariant-loop-number : goal.invariant-loop-number
invariant-loop-number g l = (l.walked.found ≤ l.asked.keep) × ((was : List (DeskDeed _)) → ThinsOut (thinning_by l.asked) was (g.K.Desk.deeds l.fn.desk)
    → IsThinned (thinning_by l.asked) l.walked was (g.K.Desk.deeds l.desk))
