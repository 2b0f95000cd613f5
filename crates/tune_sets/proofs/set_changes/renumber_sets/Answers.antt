use Rattle.std.proofs.Common.{◌≡◌, ◌∙◌, ◌+◌, ◌<◌, suc, ap, sym, arith, length, get_or, slice_set, ℕ, List}
use Rattle.tune_sets.specs.Sets.{renumbered_set}
use Rattle.tune_sets.specs.declared.set_lists.TuneSet.{TuneSet}
use Rattle.tune_sets.proofs.ChangeLemmas.{mapped_to, mapped_here, mapped_more}
use Rattle.tune_sets.proofs.set_changes.renumber_sets.Goals as goal

pub loop-i-preserved : goal.loop-i-preserved
loop-i-preserved c =
    let xs : List TuneSet = c.args.sets.now.items in
    let i = c.loop-i.i in
    let set : TuneSet = c.index_mut.result.now in
    let f : TuneSet → TuneSet = renumbered_set c.args.from c.args.to in
    let one : i + 1 ≡ suc i = omega arith in
    let within : i < length xs = omega (arith, c.args.sets.now.ok.0, c.len-i-end.ensures) in
    let at : set ≡ get_or xs i set = c.index_mut.ensures.value ∙ ap (λ (ys : List TuneSet). get_or ys i set) c.loop-i.invariant
    ∙ mapped_here f i xs set within in
    let here = ap (λ (numbers : List ℕ). record { name = set.name; numbers = numbers }) c.renumber.ensures ∙ ap f at in
    (λ j. slice_set (c.loop-i.invariant j) i (here j)) ∙ mapped_more f i xs set within ∙ sym (ap (λ n. mapped_to f n xs) one)
