use Rattle.std.proofs.Common.{sym}
use Rattle.told_books.proofs.FateLemmas.{never_carried}
use Rattle.told_books.proofs.tune_letters.SomeCarry.carry.Goals as goal

pub returns-in-Never : goal.returns-in-Never
returns-in-Never c = λ runs tells. rw c.in-Never.is (sym (never_carried runs))
