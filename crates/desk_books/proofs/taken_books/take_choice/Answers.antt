use Rattle.std.proofs.Common.{string_bytes}
use Rattle.desk_books.specs.AddedBooks.{reached_by}
use Rattle.desk_books.proofs.AddLemmas.{parts_more}
use Rattle.desk_books.proofs.taken_books.take_choice.Goals as goal

pub returns-clause-takes : goal.returns-clause-takes
returns-clause-takes g c =
    let old = reached_by (g.K.Desk.deeds c.args.desk.now) c.args.intake.now in
    let new = reached_by (g.K.Desk.deeds c.take_parts-tally.new.desk) c.take_parts-tally.new.intake in
    parts_more g.S.TuneStore (string_bytes c.args.request.now.file.now) c.args.choice.parts.items old new c.take_parts-tally.result.status c.tell_taken.result
    c.max.result c.max.ensures c.take_parts-tally.ensures.takes
