-- The rows of the table of commands, by the parser's own rules.
use Rattle.std.specs.Prelude.{ℕ, Some, map}
use Rattle.clap.specs.Words.{App, Rule, Text, new_rule}
use Rattle.clap.specs.declared.builder.action.ArgAction.TheVariants.{Append}
use Rattle.desk_words.specs.declared.command_table.Argument.{Argument}
use Rattle.desk_words.specs.declared.command_table.Argument.TheVariants as argument
use Rattle.desk_words.specs.declared.command_table.CommandRow.{CommandRow}
use Rattle.desk_words.specs.DeskCommands.{flag_rule, option_rule, one_rule, many_rule, several_rule}
use Rattle.desk_words.specs.DeskCommands.{more, with_rules}

-- an option with one value or more, which may be given again
abbrev pub repeated_rule : Text → Rule
repeated_rule name = record (more (option_rule name)) { action = Some Append }

-- an option with a value, which is given by a letter alone
abbrev pub lettered_rule : Text → ℕ → Rule
lettered_rule name letter = record (new_rule name) { short = Some letter; value_names = 1 }

abbrev pub argument_rule : Argument → Rule
argument_rule (argument.Flag name help) = flag_rule name.now
argument_rule (argument.Valued name value help) = option_rule name.now
argument_rule (argument.Repeated name value help) = repeated_rule name.now
argument_rule (argument.Lettered name letter value help) = lettered_rule name.now letter
argument_rule (argument.Word name help) = new_rule name.now
argument_rule (argument.Several name help) = several_rule name.now
argument_rule (argument.One name help) = one_rule name.now
argument_rule (argument.Many name help) = many_rule name.now

abbrev pub row_app : CommandRow → App
row_app row = with_rules row.name.now (map argument_rule row.arguments.now)
