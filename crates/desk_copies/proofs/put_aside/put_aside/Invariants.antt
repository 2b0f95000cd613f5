use Rattle.std.proofs.Common.{List, ℕ, string_bytes}
use Rattle.tune_desk.specs.DeskDeeds.{DeskDeed}
use Rattle.desk_copies.specs.Inside.HeldFiles.{HoldsArchive}
use Rattle.desk_copies.proofs.put_aside.put_aside.Given as goal

-- what is held stays held
abbrev pub invariant-loop-number : goal.invariant-loop-number
invariant-loop-number g l = (file : List ℕ) (was : List (DeskDeed _)) → HoldsArchive file (string_bytes l.target) was (g.K.Desk.deeds l.fn.desk)
    → HoldsArchive file (string_bytes l.target) was (g.K.Desk.deeds l.desk)
