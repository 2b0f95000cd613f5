use Rattle.std.proofs.Common.{◌≡◌, ◌||◌, length, Some}
use Rattle.abc_fields.specs.Tunes.{joined, tune_run, has_key}
use Rattle.abc_fields.specs.Inside.LinesLeft.{contents_of}
use Rattle.told_books.specs.Inside.Rooms.{room_after}
use Rattle.told_books.proofs.tunes.measure.Given as goal

abbrev pub invariant-loop-line : goal.invariant-loop-line
invariant-loop-line l = record {
  key : (l.has_key || has_key (tune_run (contents_of l.line-iterator))) ≡ has_key (tune_run (contents_of l.fn.lines));
  room : room_after l.room (length (joined (tune_run (contents_of l.line-iterator))))
      ≡ room_after (Some l.longest) (length (joined (tune_run (contents_of l.fn.lines))));
}
