use Rattle.std.proofs.Common.{arith, ◌<◌, ◌∙◌, sym, length}
use Rattle.clap.specs.Words.{App, app_of, with_subcommand}
use Rattle.desk_words.specs.Inside.CommandTable.{row_app}
use Rattle.desk_words.proofs.CommandLemmas.{fold_map_more, one_more}
use Rattle.desk_words.proofs.desk_commands.with_commands.Goals as goal

pub loop-row-preserved : goal.loop-row-preserved
loop-row-preserved c =
    let within : c.loop-row.row-index < length c.args.rows.now = omega arith in
    let add = λ (all : App) (command : App). with_subcommand all command.top in
    let next = fold_map_more add row_app (app_of c.args.program) c.args.rows.now c.loop-row.row-index _ within in
    one_more _ _ _ _ c.loop-row.invariant (c.in_ok-all.ensures _ c.command.ensures) ∙ sym next
