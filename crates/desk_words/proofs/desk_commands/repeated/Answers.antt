use Rattle.desk_words.proofs.CommandLemmas.{rule_action, rule_more}
use Rattle.desk_words.proofs.desk_commands.repeated.Goals as goal

pub returns : goal.returns
returns c = rule_action _ _ _ _ (rule_more _ _ _ c.option.ensures c.num_args.ensures.0 c.num_args.ensures.1) c.action.ensures
