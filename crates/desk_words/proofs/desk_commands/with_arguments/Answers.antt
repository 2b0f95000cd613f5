use Rattle.std.proofs.Common.{arith, ◌<◌, sym, subst, List, fold, length, map}
use Rattle.std.proofs.lemmas.List.{take_all}
use Rattle.clap.specs.Words.{App, with_rule}
use Rattle.desk_words.specs.declared.command_table.Argument.{Argument}
use Rattle.desk_words.specs.Inside.Commands.{HasApp}
use Rattle.desk_words.specs.Inside.CommandTable.{argument_rule}
use Rattle.desk_words.proofs.CommandLemmas.{app_with_rule, fold_map_more}
use Rattle.desk_words.proofs.desk_commands.with_arguments.Goals as goal

pub loop-more-preserved : goal.loop-more-preserved
loop-more-preserved c = λ app has.
    let Has : App → Type 0 = λ with_more. HasApp c.in_ok-all.all with_more in
    let within : c.loop-more.more-index < length c.args.arguments.now = omega arith in
    let next = fold_map_more with_rule argument_rule app c.args.arguments.now c.loop-more.more-index _ within in
    subst Has (sym next) (app_with_rule _ _ _ _ _ (c.loop-more.invariant app has) c.argument.ensures c.in_ok-all.ensures)

pub returns : goal.returns
returns c = λ app has.
    let Has : List Argument → Type 0 = λ rows. HasApp c.loop-more.all (fold with_rule app (map argument_rule rows)) in
    subst Has (take_all c.loop-more.more-index c.args.arguments.now (omega arith)) (c.loop-more.invariant app has)
