use Rattle.clap.specs.Words.{new_app}
use Rattle.desk_words.specs.Inside.Commands.{HasApp}
use Rattle.desk_words.proofs.desk_commands.command.Goals as goal

pub returns : goal.returns
returns c =
    let made : HasApp c.new-plain.result (new_app c.args.row.now.name.now) = record {
      app_is = c.new-plain.ensures.app;
      local = c.new-plain.ensures.local;
    } in
    c.with_arguments.ensures _ (c.with_help.ensures _ made)
