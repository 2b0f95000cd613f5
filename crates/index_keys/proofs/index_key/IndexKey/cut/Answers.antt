use Rattle.std.proofs.Common.{ℕ, ◌++◌, List, drop, replicate, arith, ap, ◌∙◌}
use Rattle.byteorder.specs.Endian.{big_from}
use Rattle.index_keys.proofs.CutBytes.{cut_is}
use Rattle.index_keys.proofs.index_key.IndexKey.cut.Goals as goal

pub returns : goal.returns
returns g c =
    let m = c.min-count.ensures in
    c.new.ensures.value ∙ ap (λ (x : List ℕ). big_from 0 g.row.W (x ++ drop c.min-count.result (replicate g.row.W c.args.fill))) c.copy_from_slice.ensures.after
    ∙ cut_is g.row.W c.args.fill c.min-count.result c.args.bytes.now (λ i. omega (arith, c.type_inv.bytes i)) (omega (arith, m)) (omega (arith, m))
    (λ l. omega (arith, m, l))
