use Rattle.std.proofs.Common.{◌≡◌, ◌∙◌, sym, ap, arith, Some, take, refl}
use Rattle.tune_titles.specs.Articles.{last_cut}
use Rattle.tune_titles.proofs.CutLemmas.{no_cut, cut_at}
use Rattle.tune_titles.proofs.articles.trailing.Goals as goal

pub returns-in_default-clause-none : goal.returns-in_default-clause-none
returns-in_default-clause-none c = rw (no_cut c.args.title.now (λ j lt. c.in_default.ensures j (omega arith) lt)) refl

pub returns : goal.returns
returns c =
    let title = c.args.title.now in
    let at = c.in-Some.at in
    let cut : last_cut title ≡ Some (take at title, c.after.result.now) =
    cut_at title at (λ j lt l. c.in-Some.ensures.0.after j (omega arith) l) c.in-Some.ensures.0.high c.in-Some.ensures.1
    ∙ ap (λ t. Some (take at title, t)) (sym c.after.ensures) in
    rw cut c.trailing_at.ensures
