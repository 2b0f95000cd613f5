use Rattle.std.proofs.Common.{rules}
use Rattle.std.specs.Ordering.{is_lt}
use Rattle.std.proofs.lemmas.List.Sorted.{ranks_by, answers_always}
use Rattle.tune_titles.specs.ShownRows.{Shown, shown_order}
use Rattle.tune_titles.proofs.ShownLemmas.{shown_order_total, shown_in_order}
use Rattle.tune_titles.proofs.SortLaw.{one_sort, on_ok}
use Rattle.tune_titles.proofs.shown_rows.sort_shown.Goals as goal

pub returns-clause-ok : goal.returns-clause-ok
returns-clause-ok c =
    let old = c.args.rows.now.items in
    let new = c.sort_by.new.self.items in
    let before = λ (x y : Shown). is_lt (shown_order x y) in
    on_ok c.sort_by.result _ _ c.sort_by.ensures.sorted
    (λ sorted. shown_in_order new old
    (one_sort shown_order shown_order_total old new
    (sorted before (ranks_by shown_order_total (λ r. r)) (answers_always _ _ _ (λ f a r g h. search rules)))
    (c.sort_by.ensures.stable before (ranks_by shown_order_total (λ r. r)) (answers_always _ _ _ (λ f a r g h. search rules)))))
