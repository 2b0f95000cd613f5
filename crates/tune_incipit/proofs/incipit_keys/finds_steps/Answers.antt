use Rattle.std.proofs.Common.{◌≡◌, ap, sym, ◌∙◌, drop, length, refl}
use Rattle.std.specs.Cmp.{both_ways}
use Rattle.std.specs.List.{starts_with}
use Rattle.std.specs.Ordering.{int_eq}
use Rattle.std.proofs.lemmas.Bool.Decides.{Decides-int_eq}
use Rattle.std.proofs.lemmas.Slice.Eq.{starts_is}
use Rattle.tune_incipit.proofs.incipit_keys.finds_steps.Goals as goal

pub returns : goal.returns
returns c =
    let front = c.args.front.now.steps in
    let whole = c.steps.result in
    let is = starts_is Decides-int_eq whole front (starts_with int_eq whole front) refl in
    let same : c.begins.result ≡ starts_with int_eq whole front =
    both_ways _ _ (λ yes. let begun = c.begins.ensures.0 yes in is.1 begun.0 (sym begun.1))
    (λ yes. c.begins.ensures.1 (drop (length front) whole, sym (is.0 yes))) in
    same ∙ ap (λ steps. starts_with int_eq steps front) c.steps.ensures.steps
