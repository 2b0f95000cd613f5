use Rattle.std.proofs.Common.{◌∙◌, ap, arith}
use Rattle.byteorder.specs.Endian.{big_number}
use Rattle.tune_sets.proofs.ByteLemmas.{numbers_more}
use Rattle.tune_sets.proofs.ChangeLemmas.{narrow-push}
use Rattle.tune_sets.proofs.reading.read_numbers.Goals as goal

pub loop-i-preserved : goal.loop-i-preserved
loop-i-preserved c = rw c.in_ok-push.ensures.items record {
  read = numbers_more c.loop-i.numbers.items c.args.bytes.now c.loop-i.i c.read_u32.result c.loop-i.invariant.read (omega arith) (λ i. omega
      (arith, c.type_inv.bytes i)) (c.read_u32.ensures ∙ ap (big_number 4) c.rest_of.ensures);
  narrow = narrow-push c.loop-i.numbers.items c.read_u32.result c.loop-i.invariant.narrow (omega (arith, c.read_u32.type_inv));
}
