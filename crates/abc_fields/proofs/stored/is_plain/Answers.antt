use Rattle.std.proofs.Common.{ap, not, ◌∙◌}
use Rattle.abc_fields.specs.Bytes.{carriage_return, percent}
use Rattle.abc_fields.proofs.PercentLemmas.{both_absent}
use Rattle.abc_fields.proofs.stored.is_plain.Goals as goal

pub returns-clause-returns : goal.returns-clause-returns
returns-clause-returns c = λ is. (both_absent carriage_return percent c.args.text.now c.memchr2.result c.memchr2.ensures (c.is_none.ensures ∙ ap not is)).0

pub returns-clause-percents : goal.returns-clause-percents
returns-clause-percents c = λ is. (both_absent carriage_return percent c.args.text.now c.memchr2.result c.memchr2.ensures (c.is_none.ensures ∙ ap not is)).1
