use Rattle.std.proofs.Common.{ℕ, List, map, subst}
use Rattle.std.specs.List.Sorted.{IsStrictlyIncreasing}
use Rattle.tune_journal.specs.Inside.ListedChanges.{listed_changes}
use Rattle.tune_journal.proofs.ChangeLists.{increasing_from_rises}
use Rattle.tune_journal.proofs.changes.Changes.len.Goals as goal

pub returns-clause-rising : goal.returns-clause-rising
returns-clause-rising c =
    subst (λ (l : List (ℕ × List ℕ)). IsStrictlyIncreasing (map (λ d. d.0) l)) c.self.view_is
    (increasing_from_rises (listed_changes c.self.inside.starts.items c.self.inside.whole.items c.self.inside.changed.items) c.self.invariant.order.rising)
