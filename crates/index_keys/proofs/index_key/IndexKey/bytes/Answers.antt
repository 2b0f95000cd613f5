use Rattle.std.proofs.Common.{sym}
use Rattle.byteorder.specs.Numbers.{big_from-lt}
use Rattle.index_keys.proofs.KeyNumbers.{bytes_of_back}
use Rattle.index_keys.proofs.index_key.IndexKey.bytes.Goals as goal

pub returns-clause-bytes : goal.returns-clause-bytes
returns-clause-bytes g c = rw (← c.self.view_is) (sym c.self.invariant)

pub returns-clause-bound : goal.returns-clause-bound
returns-clause-bound g c =
    rw (← c.self.view_is) (big_from-lt 0 g.row.W c.self.inside.bytes (bytes_of_back g.row.W c.self.inside.bytes c.self.invariant).small)
