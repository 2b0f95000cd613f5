use Rattle.std.proofs.Common.{◌≡◌, ◌++◌, length}
use Rattle.std.specs.List.{AllByRecursion}
use Rattle.abc_fields.specs.Limits.{longest_tune}
use Rattle.abc_fields.specs.Tunes.{tune_runs, IsTextWithin}
use Rattle.abc_fields.specs.Inside.LinesLeft.{contents_of}
use Rattle.abc_fields.specs.Inside.HeaderRows.{texts_with}
use Rattle.abc_fields.specs.Inside.CarriedBytes.{KeepsCarried}
use Rattle.abc_fields.proofs.judged_book.texts_of.Given as goal

abbrev pub invariant-loop-line : goal.invariant-loop-line
invariant-loop-line l = record {
  texts : l.texts.items ++ texts_with l.header (tune_runs (contents_of l.lines)) ≡ texts_with l.header (tune_runs (contents_of l.fn.lines));
  good : AllByRecursion (IsTextWithin longest_tune) (texts_with l.header (tune_runs (contents_of l.lines)));
  carried : KeepsCarried l.header l.carried;
}

abbrev pub decreases-loop-line : goal.decreases-loop-line
decreases-loop-line l = length l.lines
