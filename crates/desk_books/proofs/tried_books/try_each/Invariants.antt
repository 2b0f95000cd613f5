use Rattle.std.proofs.Common.{◌≡◌, string_bytes, take}
use Rattle.desk_scenes.specs.Scenes.{IsQuiet}
use Rattle.desk_books.specs.Givens.{given_by}
use Rattle.desk_books.specs.Stages.{EachInTurn}
use Rattle.desk_books.specs.TriedBooks.{TriesPath}
use Rattle.desk_books.proofs.tried_books.try_each.Given as goal

-- the books of the first paths were read
abbrev pub invariant-loop-path : goal.invariant-loop-path
invariant-loop-path g l = record {
  layout : l.holding.stock.layout ≡ l.fn.holding.stock.layout;
  quiet : IsQuiet (g.K.Desk.deeds l.fn.desk) (g.K.Desk.deeds l.desk);
  tries : EachInTurn (λ path. TriesPath (given_by l.request) l.fn.holding.stock.layout (string_bytes path)) (take l.path-index l.paths)
      (g.K.Desk.deeds l.fn.desk) (g.K.Desk.deeds l.desk) l.worst;
}
