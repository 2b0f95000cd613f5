-- Words of the program, and what they ask for.
use Rattle.std.proofs.Common.{◌≡◌, refl, List, ℕ, [], ◌∷◌, Some, None, codes}
use Rattle.clap.proofs.OnLiterals.{clap_on_literals}
use Rattle.clap.specs.declared.error.kind.ErrorKind.TheVariants.{DisplayHelp, MissingRequiredArgument, UnknownArgument}
use Rattle.tune_cli.specs.CommandLine.{subcommand_in, file_in, faults_in}

abbrev tunes : List (List ℕ) → List (List ℕ)
tunes words = codes "tunes" ∷ words

record AsksFor (words : List (List ℕ)) (name file : List ℕ) : Type 0 where
  subcommand : subcommand_in words ≡ Some name
  file_there : file_in words ≡ Some file
  none : faults_in words ≡ []

makes : AsksFor (tunes (codes "make" ∷ codes "a b.tunes" ∷ [])) (codes "make") (codes "a b.tunes")
unfolding clap_on_literals
makes = record { subcommand = refl; file_there = refl; none = refl }

-- a file whose name begins with a dash stands behind `--`
runs : AsksFor (tunes (codes "run" ∷ codes "--" ∷ codes "-x" ∷ [])) (codes "run") (codes "-x")
unfolding clap_on_literals
runs = record { subcommand = refl; file_there = refl; none = refl }

checks_dash : AsksFor (tunes (codes "check" ∷ codes "-" ∷ [])) (codes "check") (codes "-")
unfolding clap_on_literals
checks_dash = record { subcommand = refl; file_there = refl; none = refl }

lists : (subcommand_in (tunes (codes "list" ∷ [])) ≡ Some (codes "list")) × (file_in (tunes (codes "list" ∷ [])) ≡ None)
unfolding clap_on_literals
lists = (refl, refl)

no_file : faults_in (tunes (codes "make" ∷ [])) ≡ MissingRequiredArgument ∷ []
unfolding clap_on_literals
no_file = refl

two_files : faults_in (tunes (codes "make" ∷ codes "a" ∷ codes "b" ∷ [])) ≡ UnknownArgument ∷ []
unfolding clap_on_literals
two_files = refl

flag_as_file : faults_in (tunes (codes "check" ∷ codes "-x" ∷ [])) ≡ UnknownArgument ∷ []
unfolding clap_on_literals
flag_as_file = refl

help_of_run : faults_in (tunes (codes "run" ∷ codes "--help" ∷ [])) ≡ DisplayHelp ∷ []
unfolding clap_on_literals
help_of_run = refl

nothing_asked : (subcommand_in (tunes []) ≡ None) × (faults_in (tunes []) ≡ [])
unfolding clap_on_literals
nothing_asked = (refl, refl)
