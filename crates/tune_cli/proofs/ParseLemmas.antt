-- What a parse by the program's command line tells of the words.
use Rattle.std.proofs.Common.{◌≡◌, ap, ◌∙◌, sym, subst, refl, true, false, inl, inr, List, [], Option, Some, None, option_map, option_and_then, is_some}
use Rattle.std.proofs.Common.{codes, Bor, ◌⊎◌, ◌≢◌}
use Rattle.std.specs.Prelude.{Box, IfSome}
use Rattle.std.specs.Box.{box_value}
use Rattle.clap.specs.declared.parser.matches.ArgMatches.{ArgMatches}
use Rattle.clap.specs.declared.parser.matches.SubCommand.{SubCommand}
use Rattle.clap.specs.declared.parser.matches.ArgMatches.TheViews.{out-ArgMatches, out-SubCommand}
use Rattle.clap.specs.Words.{App, HasMatchesOf, Row, Text, fault_of, first_of, first_value, found_of, has_subcommand, is_simple_and_free, rows_of}
use Rattle.clap.specs.Words.{subcommand_name_of, subcommand_of, subcommand_rows, subcommand_rows_of}
use Rattle.clap.proofs.WalkLemmas.{first_value-rows}
use Rattle.tune_cli.specs.CommandLine.{tunes_app, faults_in, subcommand_in, file_in, FaultFits, IsOutOfMemory}
use Rattle.tune_cli.specs.declared.command_line.WordsFault.{WordsFault}
use Rattle.tune_cli.specs.declared.command_line.WordsFault.TheVariants.{Clap, Missing}
use Rattle.tune_cli.specs.Inside.Subcommands.{IsSubcommand}
use Rattle.tune_cli.proofs.CommandLineLemmas.{one_of_five}
use Rattle.tune_cli.proofs.FileGiven.{has_a_file}

-- the matches are those of the words
pub record Parses (words : List Text) (m : ArgMatches) : Type 0 where
  pub parsed : faults_in words ≡ []
  pub rows : subcommand_rows_of m ≡ subcommand_of tunes_app words

simple : is_simple_and_free tunes_app ≡ true
simple = refl

pub parses : (app : App) (words : List Text) (m : ArgMatches) → app ≡ tunes_app → HasMatchesOf app words m
    → (is_simple_and_free app ≡ true → fault_of app words ≡ []) → Parses words m
parses app words m is has fits =
    let Has : App → Type 0 = λ a. HasMatchesOf a words m in
    let Fits : App → Type 0 = λ a. is_simple_and_free a ≡ true → fault_of a words ≡ [] in
    record {
      parsed = subst Fits is fits simple;
      rows = (subst Has is has refl).1;
    }

named : {Z : Type 0} (sub : Option (Box SubCommand Z))
    → option_map (λ p. p.0) (subcommand_rows sub) ≡ option_map (λ b. (out-SubCommand (box_value b)).name.now) sub
named None = refl
named (Some b) = refl

pub subcommand_named : (words : List Text) (m : ArgMatches) (name : Text) → Parses words m → Some name ≡ subcommand_name_of m
    → subcommand_in words ≡ Some name
subcommand_named words m name p is = ap (option_map (λ q. q.0)) (sym p.rows) ∙ named (out-ArgMatches m).subcommand ∙ sym is

pub subcommand_is_known : (words : List Text) (m : ArgMatches) (name : Text) → Parses words m → Some name ≡ subcommand_name_of m → IsSubcommand name
subcommand_is_known words m name p is =
    let Known : Option Text → Type 0 = λ o. IfSome o IsSubcommand in
    subst Known (subcommand_named words m name p is) (one_of_five words)

first_in : (o : Option (Text × List Row)) (rows : List Row) (id : Text) → Some rows ≡ option_map (λ p. p.1) o
    → option_and_then (λ p. first_of id p.1) o ≡ first_of id rows
first_in None rows id is = cc
first_in (Some p) rows id is =
    let same : p.1 ≡ rows = cc in
    ap (first_of id) same

pub file_given : (words : List Text) (m found : ArgMatches) (file : Option (Bor Text)) → Parses words m
    → Some (rows_of (found_of found)) ≡ option_map (λ p. p.1) (subcommand_rows_of m)
    → option_map (λ s. s.now) file ≡ first_value (found_of found) (codes "FILE")
    → file_in words ≡ option_map (λ s. s.now) file
file_given words m found file p rows is =
    ap (option_and_then (λ q. first_of (codes "FILE") q.1)) (sym p.rows)
    ∙ first_in (subcommand_rows_of m) (rows_of (found_of found)) (codes "FILE") rows
    ∙ sym (first_value-rows (found_of found) (codes "FILE")) ∙ sym is

-- what `asked` says of the file and of its faults, said of the words
pub file_is : (words : List Text) (file : Option Text) → file_in words ≡ file → (path : Option Text)
    → IfSome path (λ p. file ≡ Some p) → IfSome path (λ p. file_in words ≡ Some p)
file_is words file given None is = tt
file_is words file given (Some path) is = given ∙ is

not_both : (o : Option Text) → is_some o ≡ true → o ≡ None → ⊥
not_both None some none = cc
not_both (Some x) some none = cc

pub fault_fits : (words : List Text) (m : ArgMatches) (name : Text) (file : Option (Bor Text)) → Parses words m → subcommand_in words ≡ Some name
    → file_in words ≡ option_map (λ s. s.now) file
    → (fault : WordsFault) → IsOutOfMemory fault ⊎ ((fault ≡ Missing) × (name ≢ codes "list") × (file ≡ None)) → FaultFits words fault
fault_fits words m name file p has given (Clap e) (inl out) = inl out
fault_fits words m name file p has given (Clap e) (inr h) = cc
fault_fits words m name file p has given Missing (inl out) = elim out [ ]
fault_fits words m name file p has given Missing (inr h) =
    absurd (not_both (file_in words) (has_a_file words name p.parsed has h.1) (given ∙ ap (option_map (λ s. s.now)) h.2))

no_rows : {Z : Type 0} (sub : Option (Box SubCommand Z)) → false ≡ is_some sub → subcommand_rows sub ≡ None
no_rows None is = refl
no_rows (Some b) is = cc

pub no_subcommand : (words : List Text) (m : ArgMatches) → Parses words m → false ≡ has_subcommand m → subcommand_of tunes_app words ≡ None
no_subcommand words m p is = sym p.rows ∙ no_rows (out-ArgMatches m).subcommand is
