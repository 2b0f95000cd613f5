use Rattle.std.proofs.Common.{rules}
use Rattle.std.specs.Ordering.{is_lt}
use Rattle.std.proofs.lemmas.List.Sorted.{ranks_by, answers_always}
use Rattle.tune_titles.specs.Order.{PlacedTitle, row_order}
use Rattle.tune_titles.proofs.OrderLemmas.{row_order_total, law_of_order}
use Rattle.tune_titles.proofs.SortLaw.{one_sort, on_ok}
use Rattle.tune_titles.proofs.title_rows.sort_rows.Goals as goal

pub returns-clause-ok : goal.returns-clause-ok
returns-clause-ok c =
    let old = c.args.rows.now.items in
    let new = c.sort_by.new.self.items in
    let before = λ (x y : PlacedTitle). is_lt (row_order x y) in
    on_ok c.sort_by.result _ _ c.sort_by.ensures.sorted
    (λ sorted.
    one_sort row_order row_order_total old new (sorted before (ranks_by row_order_total (λ r. r)) (answers_always _ _ _ (λ f a r g h. search rules)))
    (c.sort_by.ensures.stable before (ranks_by row_order_total (λ r. r)) (answers_always _ _ _ (λ f a r g h. search rules))))

pub returns-clause-law : goal.returns-clause-law
returns-clause-law c = law_of_order c.args.rows.now.items
