use Rattle.std.proofs.Common.{rules}
use Rattle.index_keys.proofs.KeyNumbers.{bytes_back}
use Rattle.index_keys.proofs.index_key.IndexKey.new.Goals as goal

pub invariant_of-key : goal.invariant_of-key
invariant_of-key g c = bytes_back g.row.W c.args.bytes (search rules)
