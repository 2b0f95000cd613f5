use Rattle.std.proofs.Common.{sym, refl, ◌∙◌, ap, arith, List, Bool, true, set}
use Rattle.tune_pages.proofs.Beginning.{front_low}
use Rattle.tune_pages.proofs.Overlay.{front_on}
use Rattle.tune_pages.proofs.page_marks.mark_front.Goals as goal

pub loop-page-init : goal.loop-page-init
loop-page-init c = (sym (front_low c.args.low c.args.written.now.items c.requires.low), refl)

pub loop-page-preserved : goal.loop-page-preserved
loop-page-preserved c = (
  ap (λ (m : List Bool). set m c.loop-page.page true) c.loop-page.invariant.0
      ∙ sym (front_on c.loop-page.page c.loop-page.page c.args.written.now.items (omega arith) (omega arith) (λ q le lt. absurd (omega arith))),
  c.loop-page.invariant.1,
)
