use Rattle.std.proofs.Common.{fold, map, take}
use Rattle.clap.specs.Words.{App, with_rule}
use Rattle.desk_words.specs.Inside.Commands.{HasApp}
use Rattle.desk_words.specs.Inside.CommandTable.{argument_rule}
use Rattle.desk_words.proofs.desk_commands.with_arguments.Given as goal

abbrev pub invariant-loop-more : goal.invariant-loop-more
invariant-loop-more l = (app : App) → HasApp l.fn.command app → HasApp l.all (fold with_rule app (map argument_rule (take l.more-index l.arguments)))
