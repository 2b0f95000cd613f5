use Rattle.std.proofs.Common.{◌≡◌, ◌++◌, map, drop}
use Rattle.abc_fields.specs.Fields.{titles_of}
use Rattle.tune_titles.proofs.lists.titles_of.Given as goal

abbrev pub invariant-loop-title : goal.invariant-loop-title
invariant-loop-title l = l.titles.items ++ map (λ title. title.now) (drop l.title-index l.title-items) ≡ titles_of l.text
