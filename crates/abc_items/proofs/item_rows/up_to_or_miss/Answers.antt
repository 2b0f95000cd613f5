use Rattle.std.proofs.Common.{sym}
use Rattle.abc_items.proofs.ClosingMarks.{missing_not_found, none_is_missing}
use Rattle.abc_items.proofs.item_rows.up_to_or_miss.Goals as goal

pub returns-then-missing-clause-value : goal.returns-then-missing-clause-value
returns-then-missing-clause-value c = sym (missing_not_found c.args.closing c.args.bytes.now (c.requires c.if-missing.true))

pub returns-clause-missing : goal.returns-clause-missing
returns-clause-missing c = none_is_missing c.args.closing c.args.bytes.now c.up_to-found.result c.is_none.result c.is_none.ensures c.up_to-found.ensures.value
