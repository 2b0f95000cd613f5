use Rattle.std.proofs.Common.{ap, sym, ◌∙◌}
use Rattle.byteorder.specs.Endian.{big_from}
use Rattle.index_keys.proofs.KeyNumbers.{same_bytes, bytes_of_back}
use Rattle.index_keys.proofs.index_key.IndexKey.is_same.Goals as goal

pub returns : goal.returns
returns g c =
    let one = c.self.inside.bytes in
    let other = c.other.inside.bytes in
    let one_is = bytes_of_back g.row.W one c.self.invariant in
    let other_is = bytes_of_back g.row.W other c.other.invariant in (
      (λ yes. sym c.self.view_is ∙ ap (big_from 0 g.row.W) (c.are_same.ensures.0 yes) ∙ c.other.view_is),
      (λ is. c.are_same.ensures.1 (same_bytes g.row.W one other one_is other_is (c.self.view_is ∙ is ∙ sym c.other.view_is))),
    )
