use Rattle.std.proofs.Common.{◌∙◌, ◌-◌, ◌<◌, length, ap, sym, arith, []}
use Rattle.tune_sets.specs.Names.{is_before}
use Rattle.tune_sets.proofs.SearchLemmas.{last_is}
use Rattle.tune_sets.proofs.reading.comes_last.Goals as goal

pub returns-in-Some : goal.returns-in-Some
returns-in-Some c =
    let some : 0 < length c.args.sets.now = c.in-Some.ensures.item.3.0 in
    let last = c.in-Some.last.now in
    let name = c.as_slice-in-Some.ensures.value ∙ ap (λ set. set.name) c.in-Some.ensures.item.1
    ∙ sym (last_is [] c.args.sets.now (length c.args.sets.now - 1) last (omega arith)) in
    c.is_before-in-Some.ensures ∙ (λ i. is_before (name i) (c.as_slice-in-Some-2.ensures.value i))
