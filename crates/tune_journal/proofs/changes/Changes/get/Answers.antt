use Rattle.std.proofs.Common.{ℕ, List, Some, sym, ◌∙◌, ap}
use Rattle.tune_journal.proofs.ChangeLists.{image_of_found, image_of_missing}
use Rattle.tune_journal.proofs.changes.Changes.get.Goals as goal

pub returns-in-Ok : goal.returns-in-Ok
returns-in-Ok c =
    ap (λ (b : List ℕ). Some b) c.image_at.ensures ∙ sym (image_of_found c.args.page c.in-Ok.at c.args.self.now c.in-Ok.ensures.found)

pub returns-in-Err : goal.returns-in-Err
returns-in-Err c = sym (image_of_missing c.args.page c.in-Err.field-0 c.args.self.now c.in-Err.ensures.missing)
