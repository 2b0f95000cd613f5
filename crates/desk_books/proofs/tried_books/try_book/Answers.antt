use Rattle.desk_books.proofs.tried_books.try_book.Goals as goal

pub returns-in-Ok-clause-tries : goal.returns-in-Ok-clause-tries
returns-in-Ok-clause-tries g c = λ zero. c.in-Ok.ensures.taken

pub returns-in-Err-clause-tries : goal.returns-in-Err-clause-tries
returns-in-Err-clause-tries g c = λ zero. absurd (c.say_refused.ensures zero)
