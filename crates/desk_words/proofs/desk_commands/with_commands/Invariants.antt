use Rattle.std.proofs.Common.{◌≡◌, map, take}
use Rattle.clap.specs.Words.{app_of}
use Rattle.desk_words.specs.DeskCommands.{with_commands}
use Rattle.desk_words.specs.Inside.CommandTable.{row_app}
use Rattle.desk_words.proofs.desk_commands.with_commands.Given as goal

abbrev pub invariant-loop-row : goal.invariant-loop-row
invariant-loop-row l = app_of l.all ≡ with_commands (app_of l.fn.program) (map row_app (take l.row-index l.rows))
