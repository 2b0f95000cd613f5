use Rattle.desk_words.proofs.CommandLemmas.{rule_more}
use Rattle.desk_words.proofs.desk_commands.several.Goals as goal

pub returns : goal.returns
returns c = rule_more _ _ _ c.word.ensures c.num_args.ensures.0 c.num_args.ensures.1
