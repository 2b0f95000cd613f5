use Rattle.std.proofs.Common.{◌-◌, ◌++◌, ℕ, List, Bool, false, length, replicate, take, sym, ◌∙◌, ap}
use Rattle.tune_pages.proofs.Written.{laid, length-laid, laid_anew}
use Rattle.tune_pages.proofs.page_marks.PageMarks.resize.Goals as goal

pub returns : goal.returns
returns c =
    let m = c.self.inside.written.items in
    let n = c.self.inside.count in
    ap (λ (l : List Bool). laid l c.args.count) c.truncate.ensures.items
    ∙ laid_anew m n c.args.count c.self.invariant.0
    ∙ ap (λ (i : ℕ). take c.args.count (laid m n ++ replicate (c.args.count - i) false)) (sym (length-laid m n c.self.invariant.0))
    ∙ ap (λ (l : List Bool). take c.args.count (l ++ replicate (c.args.count - length l) false)) c.self.view_is
