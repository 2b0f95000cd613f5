use Rattle.std.proofs.Common.{◌≡◌, length, rules}
use Rattle.tune_journal.proofs.Agreeing.{number_shown}
use Rattle.tune_journal.proofs.look.read_number.Goals as goal

pub returns-clause-number : goal.returns-clause-number
returns-clause-number g c = λ h long.
    (let size : length c.read.new.into ≡ 4 = search rules in
    number_shown c.args.at c.read_u32.result c.read.new.into _ size (c.in_ok-read.ensures.read h) long c.read_u32.ensures)
