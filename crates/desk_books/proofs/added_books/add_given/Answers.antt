use Rattle.std.proofs.Common.{inl, inr}
use Rattle.desk_books.proofs.added_books.add_given.Goals as goal

pub returns-then-request-clause-adds : goal.returns-then-request-clause-adds
returns-then-request-clause-adds g c = inl (c.if-request.true, c.try_books.ensures.tries)

pub returns-else-request-clause-adds : goal.returns-else-request-clause-adds
returns-else-request-clause-adds g c = inr (c.if-request.false, c.take_found.ensures.takes)
