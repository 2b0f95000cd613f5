use Rattle.std.proofs.Common.{◌≡◌, ◌*◌, ◌/◌, length, arith}
use Rattle.tune_index.proofs.Loading.{listed-numbers}
use Rattle.tune_index.proofs.load.count_numbers.Goals as goal

pub returns-then-bytes-eq0-clause-listed : goal.returns-then-bytes-eq0-clause-listed
returns-then-bytes-eq0-clause-listed c =
    let size : length c.args.bytes.now ≡ length c.args.bytes.now / 4 * 4 = omega (arith, c.if-bytes-eq0.true) in
    listed-numbers (length c.args.bytes.now / 4) c.args.bytes.now (λ k. omega (arith, c.type_inv.bytes k)) size
