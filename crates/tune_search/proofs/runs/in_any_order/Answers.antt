use Rattle.std.proofs.Common.{rules}
use Rattle.std.proofs.lemmas.List.Sorted.{IsNonDecreasingBy-from_sort_by}
use Rattle.index_keys.specs.Entries.{rank}
use Rattle.tune_search.proofs.runs.in_any_order.Goals as goal

pub returns-clause-sorted : goal.returns-clause-sorted
returns-clause-sorted g c = IsNonDecreasingBy-from_sort_by rank _ c.sort_unstable_by.ensures.sorted (λ a r q k. search (rules, k))
