use Rattle.std.proofs.Common.{◌≡◌, ◌+◌, take}
use Rattle.desk_books.specs.AddedBooks.{added_parts}
use Rattle.desk_books.proofs.added_entries.added_parts.Given as goal

-- the parts of the first texts, and the number of the next one
abbrev pub invariant-loop-text : goal.invariant-loop-text
invariant-loop-text l = record {
  number : l.number ≡ l.first + l.text-index;
  parts : l.parts.items ≡ added_parts l.first (take l.text-index l.texts);
}
