use Rattle.std.proofs.Common.{ap₂, ◌∙◌, refl}
use Rattle.std.proofs.lemmas.Result.{IfOk-weaker}
use Rattle.desk_words.specs.DeskCommands.{all_commands, desk_app, with_commands}
use Rattle.desk_words.proofs.desk_commands.command_line.Goals as goal

pub returns : goal.returns
unfolding desk_app
returns c =
    IfOk-weaker c.with_commands.result _ _ (λ all adds. adds ∙ ap₂ with_commands {v = all_commands} c.in_ok-program.ensures.app_is refl) c.with_commands.ensures
