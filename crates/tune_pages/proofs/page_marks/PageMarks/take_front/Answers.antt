use Rattle.std.proofs.Common.{◌≡◌, ◌-◌, ◌++◌, ◌≤◌, List, Bool, false, length, replicate, take, sym, ◌∙◌, ap, arith, rules}
use Rattle.std.proofs.lemmas.List.{take_all}
use Rattle.tune_pages.specs.Work.{front_in_use}
use Rattle.tune_pages.proofs.Written.{laid, length-laid, laid_more, front_laid}
use Rattle.tune_pages.proofs.page_marks.PageMarks.take_front.Goals as goal

pub returns : goal.returns
returns c =
    let m = c.self.inside.written.items in
    let n = c.self.inside.count in
    let most = c.max-most.result in
    let long : length m ≤ most = search rules in
    let more : c.resize.new.self.items ≡ take most m ++ replicate (most - length m) false = search rules in
    let all : c.resize.new.self.items ≡ laid m most = more ∙ ap (λ (l : List Bool). l ++ replicate (most - length m) false) (take_all most m long) in
    let size : length c.args.self.now ≡ n = ap (λ (l : List Bool). length l) (sym c.self.view_is) ∙ length-laid m n c.self.invariant.0 in
    let within : most ≤ n = omega (arith, c.requires.range, size, c.self.invariant.0, c.max-most.ensures, c.len.ensures) in
    let there : c.args.frontier ≤ length c.resize.new.self.items = search rules in
    ap (λ (l : List Bool). laid l n) c.mark_front.ensures.marks
    ∙ front_laid c.args.frontier c.resize.new.self.items n there
    ∙ ap (λ (l : List Bool). front_in_use c.args.frontier l) (ap (λ (l : List Bool). laid l n) all ∙ laid_more m most n long within ∙ c.self.view_is)
