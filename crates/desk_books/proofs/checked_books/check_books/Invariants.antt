use Rattle.std.proofs.Common.{string_bytes, take}
use Rattle.desk_books.specs.CheckedBooks.{TellsPath}
use Rattle.desk_books.specs.Stages.{EachInTurn, stage_of}
use Rattle.desk_scenes.specs.Scenes.{IsQuiet}
use Rattle.desk_books.proofs.checked_books.check_books.Given as goal

-- no file was changed so far, and the first paths were told
abbrev pub invariant-loop-path : goal.invariant-loop-path
invariant-loop-path g l = record {
  quiet : IsQuiet (g.K.Desk.deeds l.fn.desk) (g.K.Desk.deeds l.desk);
  told : EachInTurn (λ path. TellsPath (string_bytes path)) (take l.path-index l.paths)
      (stage_of g.C.Console l.fn.standard.console (g.K.Desk.deeds l.fn.desk)) (stage_of g.C.Console l.standard.console (g.K.Desk.deeds l.desk)) l.worst;
}
