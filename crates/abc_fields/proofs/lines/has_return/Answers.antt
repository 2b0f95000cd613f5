use Rattle.std.proofs.Common.{◌∙◌}
use Rattle.abc_fields.proofs.StoredLaw.{return_found}
use Rattle.abc_fields.proofs.lines.has_return.Goals as goal

pub returns : goal.returns
returns c = c.is_some.ensures ∙ return_found c.args.text.now c.memchr.result c.memchr.ensures
