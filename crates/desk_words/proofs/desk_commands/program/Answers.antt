use Rattle.std.proofs.Common.{codes}
use Rattle.clap.specs.Words.{new_app}
use Rattle.desk_words.specs.Inside.Commands.{HasApp}
use Rattle.desk_words.proofs.CommandLemmas.{app_help, app_version}
use Rattle.desk_words.proofs.desk_commands.program.Goals as goal

pub returns : goal.returns
returns c =
    let made : HasApp c.new.result (new_app (codes "tunes-book")) = record { app_is = c.new.ensures.app; local = c.new.ensures.local } in
    c.with_arguments.ensures _ (app_version _ _ _ _ (app_help _ _ _ _ made c.override_help.ensures) c.version-plain.ensures)
