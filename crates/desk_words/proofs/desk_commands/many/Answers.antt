use Rattle.desk_words.proofs.CommandLemmas.{rule_more}
use Rattle.desk_words.proofs.desk_commands.many.Goals as goal

pub returns : goal.returns
returns c = rule_more _ _ _ c.one.ensures c.num_args.ensures.0 c.num_args.ensures.1
