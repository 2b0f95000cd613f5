use Rattle.std.proofs.Common.{sym}
use Rattle.abc_fields.proofs.PercentLemmas.{no_comment}
use Rattle.abc_fields.proofs.values.up_to_comment.Goals as goal

pub returns-then-plain : goal.returns-then-plain
returns-then-plain c = sym (no_comment c.args.line.now (c.requires c.if-plain.true))
