use Rattle.std.proofs.Common.{◌≡◌, ◌≤◌, ◌++◌, length, take, drop}
use Rattle.std.specs.Prelude.{codes, slice_get, option_copied}
use Rattle.std.specs.Option.{option_or}
use Rattle.std.specs.List.{AllByRecursion}
use Rattle.abc_fields.specs.Fields.{non_empty_values, titles_of, rhythm_of}
use Rattle.abc_fields.specs.Limits.{most_titles}
use Rattle.abc_fields.specs.Inside.ToldLines.{IsToldAt, lines_at}
use Rattle.abc_fields.proofs.header.read_fields.Given as goal

abbrev pub invariant-loop-place : goal.invariant-loop-place
invariant-loop-place l = record {
  few : length l.found.titles ≤ most_titles;
  titles : take most_titles (l.found.titles ++ non_empty_values (codes "T:") (lines_at l.text (drop l.place-index l.place-items))) ≡ titles_of l.text;
  rhythm : option_or (option_copied l.found.rhythm) (slice_get (non_empty_values (codes "R:") (lines_at l.text (drop l.place-index l.place-items))) 0)
      ≡ rhythm_of l.text;
  places : AllByRecursion (IsToldAt l.text) (drop l.place-index l.place-items);
}
