use Rattle.std.proofs.Common.{ℕ, take, get_or, set, sym, ◌∙◌, ap, arith, List, Bool, false}
use Rattle.std.proofs.lemmas.List.{take_more}
use Rattle.tune_pages.specs.Stand.{marked}
use Rattle.tune_pages.proofs.Chains.{marked_more}
use Rattle.tune_pages.proofs.page_marks.unmark.Goals as goal

pub loop-page-preserved : goal.loop-page-preserved
loop-page-preserved c = (
  ap (λ (m : List Bool). set m (get_or c.args.freed.now c.loop-page.page-index 0) false) c.loop-page.invariant.0
      ∙ sym (marked_more false (take c.loop-page.page-index c.args.freed.now) (get_or c.args.freed.now c.loop-page.page-index 0) c.args.written.now.items)
      ∙ ap (λ (t : List ℕ). marked false t c.args.written.now.items) (sym (take_more c.args.freed.now c.loop-page.page-index 0 (omega arith))),
  c.loop-page.invariant.1,
)
