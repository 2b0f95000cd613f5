use Rattle.std.proofs.Common.{◌≡◌, fold, map, take}
use Rattle.clap.specs.Words.{app_of}
use Rattle.tune_cli.specs.CommandLine.{file_app, with_more}
use Rattle.tune_cli.proofs.command_line.with_file_commands.Given as goal

abbrev pub invariant-loop-row : goal.invariant-loop-row
invariant-loop-row l = app_of l.all ≡ fold with_more (app_of l.fn.command) (map (λ row. file_app row.0.now) (take l.row-index l.rows))
