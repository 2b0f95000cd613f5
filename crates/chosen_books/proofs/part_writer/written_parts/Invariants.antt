use Rattle.std.proofs.Common.{ℕ, ◌++◌}
use Rattle.std.specs.Vec.Iter.{into_iter_items}
use Rattle.chosen_books.specs.ChosenTunes.{texts_of}
use Rattle.chosen_books.specs.Inside.WrittenParts.{TextsFit, IsClosed, IsBookPart}
use Rattle.chosen_books.proofs.part_writer.written_parts.Given as goal

abbrev pub invariant-loop-tune : goal.invariant-loop-tune
invariant-loop-tune l = record {
  is : IsBookPart l.part;
  closed : (longest : ℕ) → TextsFit longest (texts_of l.fn.tunes.items)
      → IsClosed longest (texts_of l.fn.tunes.items) l.parts.items (l.part.texts.items ++ texts_of (into_iter_items l.tune-iterator));
}
