use Rattle.std.proofs.Common.{refl}
use Rattle.std.proofs.lemmas.Result.{IfOk-weaker}
use Rattle.desk_words.proofs.CommandLemmas.{app_with_command}
use Rattle.desk_words.proofs.desk_commands.with_command.Goals as goal

pub returns-in-Ok : goal.returns-in-Ok
returns-in-Ok c = λ app has.
    IfOk-weaker c.subcommand.result _ _ (λ all adds. app_with_command _ all c.in-Ok.more _ app refl (rw c.in-Ok.is at has) adds) c.subcommand.ensures
