use Rattle.std.proofs.Common.{◌≡◌, ap, ◌∙◌, arith, w32, to_z, of_z}
use Rattle.std.proofs.lemmas.Int.{ints}
use Rattle.abc_keys.specs.Signatures.{of_count}
use Rattle.abc_keys.proofs.CountRule.{by_parts}
use Rattle.abc_keys.proofs.signatures.Signature.of_count.Goals as goal

pub returns : goal.returns
returns c =
    let same : to_z w32 (of_z w32 c.args.count) ≡ c.args.count = omega (arith, ints) in
    by_parts (to_z w32 (of_z w32 c.args.count)) _ _ _ _ _ _ _ c.by_count.ensures c.by_count-2.ensures c.by_count-3.ensures c.by_count-4.ensures
    c.by_count-5.ensures c.by_count-6.ensures c.by_count-7.ensures (omega (arith, ints)) (omega (arith, ints)) ∙ ap of_count same
