use Rattle.std.proofs.Common.{◌≡◌, string_bytes, map, drop}
use Rattle.std.specs.List.{list_any}
use Rattle.desk_books.specs.CheckedBooks.{is_book_name}
use Rattle.desk_books.proofs.checked_books.has_book.Given as goal

-- the later names decide
abbrev pub invariant-loop-name : goal.invariant-loop-name
invariant-loop-name l =
    list_any is_book_name (map string_bytes l.names) ≡ list_any is_book_name (map string_bytes (drop l.name-index l.names))
