use Rattle.std.proofs.Common.{ℕ, List, ◌++◌, take, get_or, arith, sym, ◌∙◌, ap}
use Rattle.std.proofs.lemmas.List.{take_more}
use Rattle.tune_index.specs.Leaves.{value_bytes}
use Rattle.tune_index.specs.ListedLeaves.{listed_bytes}
use Rattle.tune_index.proofs.Storing.{listed-push}
use Rattle.tune_index.proofs.listed_leaves.write_numbers.Goals as goal

pub loop-number-preserved : goal.loop-number-preserved
loop-number-preserved c =
    let i = c.loop-number.number-index in
    let numbers = c.args.numbers.now in
    let n = get_or numbers i 0 in
    c.in_ok-push_value.ensures ∙ ap (λ (x : List ℕ). x ++ value_bytes n) c.loop-number.invariant ∙ sym (listed-push (take i numbers) n)
    ∙ ap listed_bytes (sym (take_more numbers i 0 (omega arith)))
