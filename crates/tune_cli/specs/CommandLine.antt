-- What the words of the program ask for, by the parser's own rules.
use Rattle.std.specs.Prelude.{◌≡◌, ℕ, List, [], ◌∷◌, fold, codes, string_bytes, true}
use Rattle.std.specs.Prelude.{Option, Some, None, option_map, option_and_then}
use Rattle.clap.specs.Words.{App, Rule, new_app, new_rule, with_rule, with_subcommand}
use Rattle.clap.specs.Words.{subcommand_of, first_of, fault_of, Kinds, HasKind, kind_of}
use Rattle.clap.specs.Simple.{on_top}
use Rattle.clap.specs.declared.error.kind.ErrorKind.{ErrorKind}
use Rattle.clap.specs.declared.error.kind.ErrorKind.TheVariants.{DisplayHelp, DisplayVersion}
use Rattle.clap.specs.declared.error.kind.ErrorKind.TheVariants.{OutOfMemory}
use Rattle.tune_cli.specs.declared.command_line.Action.{Action}
use Rattle.tune_cli.specs.declared.command_line.Action.TheVariants as action
use Rattle.tune_cli.specs.declared.command_line.WordsFault.{WordsFault}
use Rattle.tune_cli.specs.declared.command_line.WordsFault.TheVariants.{Clap, Missing}

-- the command line before a subcommand: help by `--help` alone, and a version
abbrev pub tunes_alone : App
tunes_alone =
    on_top (λ shape. record shape { disable_help_subcommand = true; has_version = true })
    (new_app (codes "tunes"))

-- the argument FILE: it has no dashes, and has to be given
abbrev pub file_rule : Rule
file_rule = record (new_rule (codes "FILE")) { required = true }

-- a subcommand whose one argument is FILE
abbrev pub file_app : List ℕ → App
file_app name = with_rule (new_app name) file_rule

-- the subcommands: `list`, with no arguments, and four on a file
abbrev pub subcommands : List App
subcommands = new_app (codes "list") ∷ file_app (codes "make") ∷ file_app (codes "run")
    ∷ file_app (codes "check") ∷ file_app (codes "upgrade") ∷ []

-- one subcommand more
abbrev pub with_more : App → App → App
with_more app more = with_subcommand app more.top

-- the program's command line
abbrev pub tunes_app : App
tunes_app = fold with_more tunes_alone subcommands

-- the name of the subcommand in the words
abbrev pub subcommand_in : List (List ℕ) → Option (List ℕ)
subcommand_in words = option_map (λ p. p.0) (subcommand_of tunes_app words)

-- the value of FILE under the subcommand in the words
abbrev pub file_in : List (List ℕ) → Option (List ℕ)
file_in words = option_and_then (λ p. first_of (codes "FILE") p.1) (subcommand_of tunes_app words)

-- the kinds of error in the words, help and version among them; none where they parse
abbrev pub faults_in : List (List ℕ) → Kinds
faults_in words = fault_of tunes_app words

abbrev pub name_of : Action → List ℕ
name_of action.List = codes "list"
name_of (action.Make file) = codes "make"
name_of (action.Run file) = codes "run"
name_of (action.Check file) = codes "check"
name_of (action.Upgrade file) = codes "upgrade"

-- the file of an action, by the bytes of its path
abbrev pub file_of : Action → Option (List ℕ)
file_of action.List = None
file_of (action.Make file) = Some (string_bytes file)
file_of (action.Run file) = Some (string_bytes file)
file_of (action.Check file) = Some (string_bytes file)
file_of (action.Upgrade file) = Some (string_bytes file)

-- The error is one that the parser finds in the words, or out of memory; or they parse and have no
-- subcommand. That a FILE is not there, where one is asked for, is an error of the parser.
abbrev pub FaultFits : List (List ℕ) → WordsFault → Type 0
FaultFits words (Clap error) = HasKind (faults_in words) error
FaultFits words Missing = (subcommand_in words ≡ None) × (faults_in words ≡ [])

-- out of memory, which the parser reports as its own error
abbrev pub IsOutOfMemory : WordsFault → Type 0
IsOutOfMemory (Clap error) = kind_of error ≡ OutOfMemory
IsOutOfMemory Missing = ⊥

-- the status that goes with a kind of error
abbrev pub status_of_kind : ErrorKind → ℕ
status_of_kind DisplayHelp = 0
status_of_kind DisplayVersion = 0
status_of_kind OutOfMemory = 1
status_of_kind _ = 2

abbrev pub status_of_fault : WordsFault → ℕ
status_of_fault (Clap error) = status_of_kind (kind_of error)
status_of_fault Missing = 2
