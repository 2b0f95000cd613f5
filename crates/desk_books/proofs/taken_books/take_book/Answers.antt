use Rattle.std.proofs.Common.{inr, inl, refl}
use Rattle.desk_books.proofs.taken_books.take_book.Goals as goal

pub returns-in-Ok-clause-takes : goal.returns-in-Ok-clause-takes
returns-in-Ok-clause-takes g c =
    inl (c.layout.result, c.choose.new.known, c.in-Ok.choice.parts.items, c.in-Ok.ensures, c.take_choice.ensures.takes)

pub returns-in-Err-clause-takes : goal.returns-in-Err-clause-takes
returns-in-Err-clause-takes g c = inr (c.choose.new.known, refl, c.say_refused.ensures)
