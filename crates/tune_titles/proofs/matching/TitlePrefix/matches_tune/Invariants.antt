use Rattle.std.proofs.Common.{◌≡◌, map, drop}
use Rattle.std.specs.List.{list_any}
use Rattle.abc_fields.specs.Bytes.{begins_with}
use Rattle.abc_fields.specs.Fields.{titles_of}
use Rattle.tune_titles.specs.Titles.{sorting_title}
use Rattle.tune_titles.proofs.matching.TitlePrefix.matches_tune.Given as goal

abbrev pub invariant-loop-title : goal.invariant-loop-title
invariant-loop-title l =
    list_any (λ title. begins_with (sorting_title title) l.self) (map (λ title. title.now) (drop l.title-index l.title-items))
    ≡ list_any (λ title. begins_with (sorting_title title) l.self) (titles_of l.text)
