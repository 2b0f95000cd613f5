-- What a parse by the program's command line tells of the words.
use Rattle.std.proofs.Common.{◌≡◌, ap₂, ◌∙◌, sym, subst, refl, true, inl, List, [], Option, Some, None, option_map, Result, Ok, Err}
use Rattle.std.specs.Prelude.{Box, IfErr, IfOk}
use Rattle.std.specs.Box.{box_value}
use Rattle.clap.specs.declared.parser.matches.ArgMatches.{ArgMatches}
use Rattle.clap.specs.declared.parser.matches.SubCommand.{SubCommand}
use Rattle.clap.specs.declared.parser.matches.ArgMatches.TheViews.{out-ArgMatches, out-SubCommand}
use Rattle.clap.specs.Words.{App, HasKind, HasMatchesOf, Row, Text, fault_of, found_of, is_simple, is_simple_and_free, matches_of, rows_of, subcommand_name_of}
use Rattle.clap.specs.Words.{subcommand_of, subcommand_rows, subcommand_rows_of}
use Rattle.desk_words.specs.declared.asked.Words.{Words}
use Rattle.desk_words.specs.declared.asked.OrderFault.{OrderFault}
use Rattle.desk_words.specs.declared.asked.OrderFault.TheVariants as fault
use Rattle.desk_words.specs.WordAnswers.{GivesWanted, WordRefusal, RefusesWords}
use Rattle.desk_words.specs.DeskCommands.{desk_app}
use Rattle.desk_words.specs.AskedWords.{Asked, OrderFaultFits, asked_by, asked_in, asked_of, order_faults_in, order_by}
use Rattle.desk_words.specs.NamedMeanings.{meaning_named}

-- the matches are those of the words
pub record Parses (words : List Text) (m : ArgMatches) : Type 0 where
  pub parsed : order_faults_in words ≡ []
  pub own : rows_of (found_of m) ≡ matches_of desk_app words
  pub command : subcommand_rows_of m ≡ subcommand_of desk_app words

simple_and_free : is_simple_and_free desk_app ≡ true
unfolding desk_app
simple_and_free = refl

simple : is_simple desk_app ≡ true
unfolding desk_app
simple = refl

pub parses : (app : App) (words : List Text) (m : ArgMatches) → app ≡ desk_app → HasMatchesOf app words m
    → (is_simple_and_free app ≡ true → fault_of app words ≡ []) → Parses words m
parses app words m is has fits =
    let Has : App → Type 0 = λ a. HasMatchesOf a words m in
    let Fits : App → Type 0 = λ a. is_simple_and_free a ≡ true → fault_of a words ≡ [] in
    record {
      parsed = subst Fits is fits simple_and_free;
      own = (subst Has is has simple).0;
      command = (subst Has is has simple).1;
    }

-- what is asked by what was found is what the words ask
pub same_asked : (chance : _) (words : List Text) (m : ArgMatches) → Parses words m
    → asked_in chance (rows_of (found_of m)) (subcommand_rows_of m) ≡ asked_of chance words
same_asked chance words m p = ap₂ (asked_in chance) p.own p.command

pub asks : (wanted given : Result Asked WordRefusal) (r : Result Words OrderFault) → wanted ≡ given → GivesWanted asked_by wanted r
    → IfOk r (λ asked. given ≡ Ok (asked_by asked))
asks wanted given (Ok asked) same gives = sym same ∙ gives
asks wanted given (Err fault) same gives = tt

refused : (chance : _) (words : List Text) (fault : OrderFault) → order_faults_in words ≡ [] → RefusesWords (asked_of chance words) fault
    → OrderFaultFits chance words fault
refused chance words (fault.Clap error) none refuses = inl refuses
refused chance words _ none refuses = (none, refuses)

pub fits : (chance : _) (words : List Text) (wanted : Result Asked WordRefusal) (r : Result Words OrderFault) → order_faults_in words ≡ []
    → wanted ≡ asked_of chance words → GivesWanted asked_by wanted r → IfErr r (OrderFaultFits chance words)
fits chance words wanted (Ok asked) none same gives = tt
fits chance words wanted (Err fault) none same gives =
    let Says : Result Asked WordRefusal → Type 0 = λ given. RefusesWords given fault in
    refused chance words fault none (subst Says same gives)

-- what does not parse fails as it is to
pub fails : (app : App) (words : List Text) (error : _) → app ≡ desk_app → (is_simple_and_free app ≡ true → HasKind (fault_of app words) error)
    → HasKind (order_faults_in words) error
fails app words error is kinds =
    let Fails : App → Type 0 = λ a. is_simple_and_free a ≡ true → HasKind (fault_of a words) error in
    subst Fails is kinds simple_and_free

pub always : (r : Result Words OrderFault) (P : Type 0) → P → IfOk r (λ _. P)
always (Ok asked) P p = p
always (Err fault) P p = tt

named : {Z : Type 0} (sub : Option (Box SubCommand Z))
    → option_map (λ p. p.0) (subcommand_rows sub) ≡ option_map (λ b. (out-SubCommand (box_value b)).name.now) sub
named None = refl
named (Some b) = refl

-- what the command that was found asks for, by its name
pub order_named : (chance : _) (m : ArgMatches) (name : Text) (rows : List Row) → Some name ≡ subcommand_name_of m
    → Some rows ≡ option_map (λ p. p.1) (subcommand_rows_of m) → order_by chance (subcommand_rows_of m) ≡ meaning_named chance name rows
order_named chance m name rows is_name is_rows = go (subcommand_rows_of m) (is_name ∙ sym (named (out-ArgMatches m).subcommand)) is_rows
  where
    go : (o : Option (Text × List Row)) → Some name ≡ option_map (λ p. p.0) o → Some rows ≡ option_map (λ p. p.1) o
        → order_by chance o ≡ meaning_named chance name rows
    go None first second = cc
    go (Some p) first second =
        let named : p.0 ≡ name = cc in
        let found : p.1 ≡ rows = cc in
        ap₂ (meaning_named chance) named found
