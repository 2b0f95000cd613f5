use Rattle.std.proofs.Common.{ap, ◌∙◌, not}
use Rattle.desk_loads.proofs.ScriptLemmas.{none_told}
use Rattle.desk_loads.proofs.filling.has_no_refusal.Goals as goal

pub returns : goal.returns
returns c = λ none. none_told c.args.replies.now c.find.result c.find.ensures (c.is_none.ensures ∙ ap not none)
