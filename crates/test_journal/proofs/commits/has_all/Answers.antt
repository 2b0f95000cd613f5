use Rattle.std.proofs.Common.{arith}
use Rattle.tune_journal.proofs.Puts.{names_all}
use Rattle.test_journal.proofs.commits.has_all.Goals as goal

pub returns : goal.returns
returns c = λ yes. names_all c.args.from c.args.to _ (λ p low high. c.loop-page.invariant p low (omega arith))
