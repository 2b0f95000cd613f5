use Rattle.std.proofs.Common.{◌≡◌, Ok, Err, inl, inr, refl, subst, map, string_bytes, false, true, rules}
use Rattle.std.specs.List.{list_any}
use Rattle.desk_books.specs.CheckedBooks.{TellsBookName, is_book_name}
use Rattle.desk_books.specs.Stages.{EachInTurn, stage_of}
use Rattle.desk_books.proofs.BookLemmas.{same_stage}
use Rattle.desk_books.proofs.TurnLemmas.{each_map}
use Rattle.desk_books.proofs.checked_books.check_folder.Goals as goal

pub returns-in-Err-clause-told : goal.returns-in-Err-clause-told
returns-in-Err-clause-told g c = (Err c.in-Err.fault, (same_stage _ _ _ _ c.in-Err.ensures.deed, c.unread.ensures))

pub returns-then-not-has_book-clause-told : goal.returns-then-not-has_book-clause-told
returns-then-not-has_book-clause-told g c =
    let none : list_any is_book_name (map string_bytes c.in-Ok.names.items) ≡ false = search rules in
    (Ok (map string_bytes c.in-Ok.names.items), inr (none, same_stage _ _ _ _ c.in-Ok.ensures.deed, refl))

pub returns-clause-told : goal.returns-clause-told
returns-clause-told g c =
    let some : list_any is_book_name (map string_bytes c.in-Ok.names.items) ≡ true = search rules in
    let folder = string_bytes c.args.folder.now in
    let after = stage_of g.C.Console c.check_names.new.standard.console (g.K.Desk.deeds c.check_names.new.desk) in
    let same = subst (λ names. EachInTurn (λ name. TellsBookName folder (string_bytes name)) names
    (stage_of g.C.Console c.args.standard.now.console (g.K.Desk.deeds c.names.new.self)) after c.check_names.result) c.as_slice-2.ensures.value
    c.check_names.ensures.told in
    let told = subst (λ deeds. EachInTurn (λ name. TellsBookName folder (string_bytes name)) c.in-Ok.names.items
    (stage_of g.C.Console c.args.standard.now.console deeds) after c.check_names.result) c.in-Ok.ensures.deed same in
    (Ok (map string_bytes c.in-Ok.names.items), inl (some, each_map (TellsBookName folder) string_bytes c.in-Ok.names.items _ after _ told))
