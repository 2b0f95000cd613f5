use Rattle.std.proofs.Common.{rules}
use Rattle.abc_items.proofs.ClosingMarks.{search_is}
use Rattle.abc_items.proofs.item_rows.up_to.Goals as goal

pub returns-clause-value : goal.returns-clause-value
returns-clause-value c = rw (search_is c.args.closing c.args.bytes.now c.memchr.result c.memchr.ensures) (search rules)
