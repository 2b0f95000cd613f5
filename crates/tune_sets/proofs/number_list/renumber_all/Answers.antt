use Rattle.std.proofs.Common.{◌≡◌, ◌∙◌, ◌+◌, ◌<◌, suc, ap, sym, arith, length, get_or, slice_set, ℕ, List}
use Rattle.tune_sets.specs.Numbers.{renumbered}
use Rattle.tune_sets.proofs.ChangeLemmas.{mapped_to, mapped_here, mapped_more, mapped_all}
use Rattle.tune_sets.proofs.number_list.renumber_all.Goals as goal

pub loop-i-preserved : goal.loop-i-preserved
loop-i-preserved c =
    let xs : List ℕ = c.args.numbers.now in
    let i = c.loop-i.i in
    let f : ℕ → ℕ = renumbered c.args.from c.args.to in
    let one : i + 1 ≡ suc i = omega arith in
    let within : i < length xs = omega arith in
    let here = c.renumbered.ensures ∙ ap f (ap (λ (ys : List ℕ). get_or ys i 0) c.loop-i.invariant ∙ mapped_here f i xs 0 within) in
    (λ j. slice_set (c.loop-i.invariant j) i (here j)) ∙ mapped_more f i xs 0 within ∙ sym (ap (λ n. mapped_to f n xs) one)

pub returns : goal.returns
returns c = c.loop-i.invariant ∙ mapped_all (renumbered c.args.from c.args.to) c.loop-i.i c.args.numbers.now (omega arith)
