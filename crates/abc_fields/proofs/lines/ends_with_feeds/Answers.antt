use Rattle.std.proofs.Common.{sym, ◌∙◌}
use Rattle.abc_fields.proofs.StoredLaw.{lines_whole}
use Rattle.abc_fields.proofs.lines.ends_with_feeds.Goals as goal

pub returns-else-is_empty : goal.returns-else-is_empty
returns-else-is_empty c = λ is. lines_whole c.args.text.now (c.requires c.if-only_feeds.true) (sym c.ends_with.ensures.value ∙ is)
