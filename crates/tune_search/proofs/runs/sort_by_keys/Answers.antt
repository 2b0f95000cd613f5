use Rattle.std.proofs.Common.{rules}
use Rattle.std.proofs.lemmas.Cmp.{nat_cmp_total}
use Rattle.std.proofs.lemmas.List.Sorted.{ranks_by}
use Rattle.std.proofs.lemmas.Result.{on_ok_weaker}
use Rattle.tune_search.proofs.RunOrders.{answers_by}
use Rattle.tune_search.proofs.runs.sort_by_keys.Goals as goal

pub returns-clause-sorted : goal.returns-clause-sorted
returns-clause-sorted g c =
    on_ok_weaker c.sort_by.result (λ sorted. sorted _ (ranks_by nat_cmp_total (λ e. e.0)) (answers_by (λ e. e.0) (λ a r q k. search (rules, k))))
    c.sort_by.ensures.sorted

pub returns-clause-stable : goal.returns-clause-stable
returns-clause-stable g c = c.sort_by.ensures.stable _ (ranks_by nat_cmp_total (λ e. e.0)) (answers_by (λ e. e.0) (λ a r q k. search (rules, k)))
