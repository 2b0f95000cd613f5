use Rattle.std.proofs.Common.{None, false, string_bytes, take}
use Rattle.tune_desk.specs.Results.{SparesFiles, result_places}
use Rattle.desk_books.specs.AddedBooks.{TakesPath, reached_by}
use Rattle.desk_books.specs.Givens.{given_by}
use Rattle.desk_books.specs.Stages.{EachInTurn}
use Rattle.desk_books.proofs.taken_books.take_books.Given as goal

-- the books of the first paths were taken in
abbrev pub invariant-loop-path : goal.invariant-loop-path
invariant-loop-path g l = record {
  files : SparesFiles (result_places (string_bytes l.request.file.now) None false) (g.K.Desk.deeds l.fn.desk) (g.K.Desk.deeds l.desk);
  takes : EachInTurn (λ path. TakesPath g.S.TuneStore (given_by l.request) (string_bytes path)) (take l.path-index l.paths)
      (reached_by (g.K.Desk.deeds l.fn.desk) l.fn.intake) (reached_by (g.K.Desk.deeds l.desk) l.intake) l.worst;
}
