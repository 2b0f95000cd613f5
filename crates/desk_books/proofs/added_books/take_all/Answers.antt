use Rattle.std.proofs.Common.{inl, inr, refl, string_bytes, subst}
use Rattle.tune_archive.specs.AsStore.{store_on}
use Rattle.desk_books.specs.AddedBooks.{TakesPath, reached_at, reached_by, first_course}
use Rattle.desk_books.specs.Givens.{given_by}
use Rattle.desk_books.specs.Stages.{EachInTurn}
use Rattle.desk_books.proofs.TurnLemmas.{each_map}
use Rattle.desk_books.proofs.added_books.take_all.Goals as goal

pub returns-in-Ok-clause-takes : goal.returns-in-Ok-clause-takes
returns-in-Ok-clause-takes g c = λ is_open same.
    let given = given_by c.args.request.now in
    let was = g.K.Desk.deeds c.args.desk.now in
    let asked = c.known_texts.new.store in
    let last = reached_by (g.K.Desk.deeds c.take_books.new.desk) c.take_books.new.intake in
    let takes = subst (λ course. EachInTurn (λ path. TakesPath (store_on g.D.Disk) given (string_bytes path)) c.args.found.now
    (reached_at was asked course) last c.take_books.result) c.new.ensures c.take_books.ensures.takes in
    inl (
      asked,
      c.in-Ok.known,
      record {
        asked = c.in-Ok.ensures.asked;
        told = λ honest. c.in-Ok.ensures.answer is_open honest (same (c.in-Ok.ensures.asked.was_honest honest));
      },
      c.take_books.new.intake.course,
      each_map (TakesPath (store_on g.D.Disk) given) string_bytes c.args.found.now (reached_at was asked (first_course c.in-Ok.known)) last
          c.take_books.result takes,
    )

pub returns-in-Err-clause-takes : goal.returns-in-Err-clause-takes
returns-in-Err-clause-takes g c = λ is_open same. inr (c.in-Err.ensures.asked, refl, c.say_unanswered.ensures)
