use Rattle.std.proofs.Common.{◌≡◌, ℕ, List, true, subst}
use Rattle.std.specs.Prelude.{Contains, IfOk}
use Rattle.tune_pages.specs.Kept.{HonestAt}
use Rattle.tune_pages.specs.Stand.{Stand}
use Rattle.tune_parts.specs.Parts.{Part}
use Rattle.tune_queries.specs.Queries.{finds}
use Rattle.tune_search.specs.Searches.{HoldsTexts, SearchParts}
use Rattle.tune_archive.proofs.archive_catalog.values_for.Goals as goal

pub returns-clause-finds : goal.returns-clause-finds
returns-clause-finds g c =
    subst
    (λ (s : Stand). IfOk c.candidates.result (λ values. HonestAt g.D.Disk.honest c.candidates.new.edit.base.disk → (before after : List Part)
    (parts : SearchParts) (tunes : List (ℕ × List ℕ)) → HoldsTexts s c.args.searches.now before after parts tunes → (tune : ℕ × List ℕ)
    → Contains tunes tune → finds c.args.searches.now.notes c.args.sought.now tune.1 ≡ true → Contains values.items tune.0))
    c.in_ok-begin.ensures.next c.candidates.ensures.finds
