use Rattle.std.proofs.Common.{string_bytes, take}
use Rattle.desk_books.specs.CheckedBooks.{TellsBookName}
use Rattle.desk_books.specs.Stages.{EachInTurn, stage_of}
use Rattle.desk_scenes.specs.Scenes.{IsQuiet}
use Rattle.desk_books.proofs.checked_books.check_names.Given as goal

-- no file was changed so far, and the first names were gone through
abbrev pub invariant-loop-name : goal.invariant-loop-name
invariant-loop-name g l = record {
  quiet : IsQuiet (g.K.Desk.deeds l.fn.desk) (g.K.Desk.deeds l.desk);
  told : EachInTurn (λ name. TellsBookName (string_bytes l.folder) (string_bytes name)) (take l.name-index l.names)
      (stage_of g.C.Console l.fn.standard.console (g.K.Desk.deeds l.fn.desk)) (stage_of g.C.Console l.standard.console (g.K.Desk.deeds l.desk)) l.worst;
}
