use Rattle.std.proofs.Common.{◌≡◌}
use Rattle.desk_books.proofs.tried_books.try_parts.Given as goal

abbrev pub invariant-loop-part : goal.invariant-loop-part
invariant-loop-part g l = l.stock.layout ≡ l.fn.stock.layout
