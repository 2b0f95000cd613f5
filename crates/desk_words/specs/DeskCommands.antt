-- The command line of the program, by the parser's own rules.
use Rattle.std.specs.Prelude.{true, List, [], ◌∷◌, ◌++◌, Some, codes, fold}
use Rattle.clap.specs.Words.{App, Rule, Text, new_app, new_rule, with_rule, with_subcommand}
use Rattle.clap.specs.Simple.{on_top}
use Rattle.clap.specs.Lexer.{usize_max}
use Rattle.clap.specs.declared.builder.action.ArgAction.TheVariants.{Append, SetTrue}

-- an option without a value
abbrev pub flag_rule : Text → Rule
flag_rule name = record (new_rule name) { long = Some name; action = Some SetTrue }

-- an option with a value
abbrev pub option_rule : Text → Rule
option_rule name = record (new_rule name) { long = Some name; value_names = 1 }

-- one or more words for an argument
abbrev pub more : Rule → Rule
more rule = record rule {
  range = Some (record { start_inclusive = 1; end_inclusive = usize_max });
}

abbrev pub needed : Rule → Rule
needed rule = record rule { required = true }

-- a word that has to be given, and words of which one has to be given
abbrev pub one_rule : Text → Rule
one_rule name = needed (new_rule name)

abbrev pub many_rule : Text → Rule
many_rule name = more (needed (new_rule name))

-- words that may be given
abbrev pub several_rule : Text → Rule
several_rule name = more (new_rule name)

abbrev pub with_rules : Text → List Rule → App
with_rules name rules = fold with_rule (new_app name) rules

-- the options of a list
abbrev pub list_rules : List Rule
list_rules = flag_rule (codes "json") ∷ flag_rule (codes "csv") ∷ []

-- what tunes are found by
abbrev pub find_rules : List Rule
find_rules = flag_rule (codes "within") ∷ option_rule (codes "title") ∷ option_rule (codes "rhythm")
    ∷ option_rule (codes "key") ∷ option_rule (codes "notes") ∷ option_rule (codes "in")
    ∷ several_rule (codes "WORDS") ∷ []

abbrev pub force_rule : Rule
force_rule = flag_rule (codes "force")

abbrev pub out_rule : Rule
out_rule = one_rule (codes "OUT")

abbrev pub tune_rule : Rule
tune_rule = record (more (option_rule (codes "tune"))) { action = Some Append }

-- the commands that find tunes, that list, on tunes and books, and the others
abbrev pub find_commands : List App
find_commands = with_rules (codes "find") (list_rules ++ find_rules)
    ∷ with_rules (codes "count") find_rules
    ∷ with_rules (codes "random") (list_rules ++ find_rules) ∷ []

abbrev pub list_commands : List App
list_commands = with_rules (codes "titles") list_rules ∷ with_rules (codes "sets") list_rules
    ∷ with_rules (codes "set") (list_rules ++ one_rule (codes "NAME") ∷ [])
    ∷ with_rules (codes "twins") list_rules ∷ []

abbrev pub commands_on_tunes : List App
commands_on_tunes = with_rules (codes "show") (many_rule (codes "NUM") ∷ [])
    ∷ with_rules (codes "export")
    (tune_rule ∷ force_rule ∷ out_rule ∷ new_rule (codes "NAME") ∷ [])
    ∷ with_rules (codes "dump") (force_rule ∷ out_rule ∷ [])
    ∷ with_rules (codes "draft") (one_rule (codes "NUM") ∷ out_rule ∷ []) ∷ []

abbrev pub other_commands : List App
other_commands = with_rules (codes "check") (new_rule (codes "COPY") ∷ [])
    ∷ with_rules (codes "import-check") (many_rule (codes "BOOK") ∷ [])
    ∷ with_rules (codes "place") (force_rule ∷ out_rule ∷ []) ∷ new_app (codes "ask") ∷ []

-- the options of `add`, and its books
abbrev pub add_rules : List Rule
add_rules = flag_rule (codes "new") ∷ flag_rule (codes "split") ∷ flag_rule (codes "dry")
    ∷ flag_rule (codes "good") ∷ flag_rule (codes "show-lost") ∷ flag_rule (codes "carry")
    ∷ several_rule (codes "BOOK") ∷ []

-- the commands that change tunes, that change set lists, and on copies and layouts
abbrev pub change_commands : List App
change_commands = new_app (codes "new") ∷ with_rules (codes "add") add_rules
    ∷ with_rules (codes "delete") (many_rule (codes "NUM") ∷ [])
    ∷ with_rules (codes "replace")
    (option_rule (codes "revision") ∷ one_rule (codes "NUM") ∷ one_rule (codes "BOOK") ∷ [])
    ∷ with_rules (codes "undo")
    (list_rules ++ flag_rule (codes "list") ∷ option_rule (codes "to") ∷ []) ∷ []

abbrev pub place_commands : List App
place_commands = with_rules (codes "put")
    (new_rule (codes "NAME") ∷ several_rule (codes "NUM") ∷ [])
    ∷ with_rules (codes "cut") (one_rule (codes "NAME") ∷ many_rule (codes "PLACE") ∷ [])
    ∷ with_rules (codes "move")
    (one_rule (codes "NAME") ∷ one_rule (codes "PLACE") ∷ one_rule (codes "TO") ∷ [])
    ∷ with_rules (codes "drop") (one_rule (codes "NAME") ∷ []) ∷ []

abbrev pub copy_commands : List App
copy_commands = with_rules (codes "backup")
    (option_rule (codes "keep") ∷ one_rule (codes "COPY") ∷ [])
    ∷ with_rules (codes "restore") (force_rule ∷ one_rule (codes "COPY") ∷ [])
    ∷ with_rules (codes "load") (one_rule (codes "SCRIPT") ∷ []) ∷ new_app (codes "upgrade") ∷ []

-- Commands that another program carries out: this one has their pages of help alone, and knows
-- their names where a word is close to one.
abbrev pub told_commands : List App
told_commands = new_app (codes "edit") ∷ new_app (codes "print") ∷ new_app (codes "hear")
    ∷ new_app (codes "site") ∷ []

-- -f FILE
abbrev pub file_option_rule : Rule
file_option_rule = record (new_rule (codes "file")) { short = Some 102; value_names = 1 }

-- the program before its commands
abbrev pub program_alone : App
program_alone = with_rule
    (with_rule (on_top (λ shape. record shape { has_version = true })
    (new_app (codes "tunes-book"))) file_option_rule)
    (option_rule (codes "wait"))

-- each command in turn
abbrev pub with_commands : App → List App → App
with_commands app commands = fold (λ all command. with_subcommand all command.top) app commands

-- all commands, in the order in which help lists them
abbrev pub all_commands : List App
all_commands = ((((((find_commands ++ list_commands) ++ commands_on_tunes) ++ other_commands)
    ++ change_commands) ++ place_commands) ++ copy_commands) ++ told_commands

-- the program's command line
unfoldable pub desk_app : App
desk_app = with_commands program_alone all_commands
