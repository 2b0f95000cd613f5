use Rattle.desk_scenes.specs.Scenes.{IsQuiet}
use Rattle.desk_books.proofs.found_books.find_books.Given as goal

-- no file was changed so far
abbrev pub invariant-loop-path : goal.invariant-loop-path
invariant-loop-path g l = IsQuiet (g.K.Desk.deeds l.fn.desk) (g.K.Desk.deeds l.desk)
