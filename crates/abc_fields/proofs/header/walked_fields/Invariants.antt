use Rattle.std.proofs.Common.{◌≡◌, ◌≤◌, ◌++◌, [], length, take}
use Rattle.std.specs.Prelude.{codes, slice_get, option_copied, IsTrue}
use Rattle.std.specs.Option.{option_or}
use Rattle.abc_fields.specs.Fields.{header_of, non_empty_values, titles_of, rhythm_of, first_key, key_text_of}
use Rattle.abc_fields.specs.Limits.{most_titles}
use Rattle.abc_fields.specs.Inside.LinesLeft.{contents_of}
use Rattle.abc_fields.proofs.PercentLemmas.{NonePercent}
use Rattle.abc_fields.proofs.header.walked_fields.Given as goal

abbrev pub invariant-loop-line : goal.invariant-loop-line
invariant-loop-line l = record {
  within : length l.found.titles ≤ most_titles;
  titles : take most_titles (l.found.titles ++ non_empty_values (codes "T:") (header_of (contents_of l.line-iterator))) ≡ titles_of l.text;
  rhythm : option_or (option_copied l.found.rhythm) (slice_get (non_empty_values (codes "R:") (header_of (contents_of l.line-iterator))) 0) ≡ rhythm_of l.text;
  no_key : l.found.key.now ≡ [];
  plain : IsTrue l.plain → NonePercent (contents_of l.line-iterator);
  key : first_key (contents_of l.line-iterator) ≡ key_text_of l.text;
}
