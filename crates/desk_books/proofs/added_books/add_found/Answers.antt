use Rattle.std.proofs.Common.{inl, inr, string_bytes, map, subst, arith}
use Rattle.desk_scenes.proofs.QuietLemmas.{quiet_none}
use Rattle.desk_books.specs.AddedBooks.{AddsFound}
use Rattle.desk_books.specs.Givens.{given_of}
use Rattle.desk_books.proofs.added_books.add_found.Goals as goal

pub returns-in-Some-clause-adds : goal.returns-in-Some-clause-adds
returns-in-Some-clause-adds g c =
    let found = map string_bytes c.args.found.now in
    let adds = subst (λ input. AddsFound g.D.Disk (given_of (string_bytes c.args.file.now) input c.args.how.now) found (g.K.Desk.deeds c.args.desk.now)
    (g.K.Desk.deeds c.add_given.new.desk) c.add_given.result) c.as_slice.ensures.value c.add_given.ensures.adds in
    inr (found, c.in-Some.input.items, g.K.Desk.deeds c.args.desk.now, quiet_none _, adds)

pub returns-in-None-clause-adds : goal.returns-in-None-clause-adds
returns-in-None-clause-adds g c = inl (quiet_none _, omega arith)
