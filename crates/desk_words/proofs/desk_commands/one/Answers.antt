use Rattle.desk_words.proofs.CommandLemmas.{rule_required}
use Rattle.desk_words.proofs.desk_commands.one.Goals as goal

pub returns : goal.returns
returns c = rule_required _ _ _ c.word.ensures c.required.ensures
