use Rattle.std.proofs.Common.{◌≡◌, ◌-◌, replicate, arith, rules}
use Rattle.tune_journal.proofs.Blanks.{blank_later, blank_sooner}
use Rattle.tune_journal.proofs.changes.clear_from.Goals as goal

pub returns-then-used-size-clause-used : goal.returns-then-used-size-clause-used
returns-then-used-size-clause-used c =
    blank_later c.args.used c.args.size c.args.image.now (omega (arith, c.if-used-size.true)) c.requires.size c.requires.used

pub returns-clause-used : goal.returns-clause-used
returns-clause-used c =
    let zeros : c.fill.new.self ≡ replicate (c.args.used - c.args.size) 0 = search rules in
    blank_sooner c.args.used c.args.size c.args.image.now c.fill.new.self (omega (arith, c.if-used-size.false)) c.requires.image zeros c.requires.used
