-- What the words of the program ask for.
use Rattle.std.specs.Prelude.{◌≡◌, ℕ, List, [], ◌∷◌, Option, Some, None, Result, Ok, Err, codes}
use Rattle.std.specs.Prelude.{option_map, string_bytes}
use Rattle.clap.specs.Words.{HasKind, Kinds, Row, Text, fault_of, first_of, matches_of}
use Rattle.clap.specs.Words.{subcommand_of}
use Rattle.desk_words.specs.declared.asked.Words.{Words}
use Rattle.desk_words.specs.declared.asked.OrderFault.{OrderFault}
use Rattle.desk_words.specs.declared.asked.OrderFault.TheVariants.{Clap}
use Rattle.desk_words.specs.WordAnswers.{WordRefusal, RefusesWords, and_then, empty_file, missing}
use Rattle.desk_words.specs.DeskCommands.{desk_app}
use Rattle.desk_words.specs.Given.{number_in}
use Rattle.desk_words.specs.NamedMeanings.{meaning_named}
use Rattle.desk_words.specs.OrderMeanings.{OrderMeaning, meaning_by}

-- what is asked, by the bytes of its texts
pub record Asked : Type 0 where
  pub file : Option Text
  pub wait : ℕ
  pub order : OrderMeaning

abbrev pub asked_by : Words → Asked
asked_by words = record {
  file = option_map string_bytes words.file;
  wait = words.wait;
  order = meaning_by words.order;
}

-- FILE is not empty
abbrev pub file_by : Option Text → Result (Option Text) WordRefusal
file_by None = Ok None
file_by (Some []) = Err empty_file
file_by (Some (byte ∷ bytes)) = Ok (Some (byte ∷ bytes))

-- SECONDS, or none
abbrev pub wait_by : Option Text → Result ℕ WordRefusal
wait_by None = Ok 0
wait_by (Some word) = number_in word

abbrev pub order_by : ℕ → Option (Text × List Row) → Result OrderMeaning WordRefusal
order_by chance None = Err missing
order_by chance (Some command) = meaning_named chance command.0 command.1

-- what is asked by what the parser found: for the program's own arguments, and for its command's
abbrev pub asked_in : ℕ → List Row → Option (Text × List Row) → Result Asked WordRefusal
asked_in chance rows command =
    and_then (file_by (first_of (codes "file") rows))
    (λ file. and_then (wait_by (first_of (codes "wait") rows))
    (λ wait. and_then (order_by chance command)
    (λ order. Ok (record { file = file; wait = wait; order = order }))))

-- what words ask for that the parser takes
abbrev pub asked_of : ℕ → List Text → Result Asked WordRefusal
asked_of chance words = asked_in chance (matches_of desk_app words) (subcommand_of desk_app words)

-- the kinds of error in the words, help and version among them; none where they parse
abbrev pub order_faults_in : List Text → Kinds
order_faults_in words = fault_of desk_app words

-- The error is one that the parser finds in the words, or out of memory; or they parse, and are
-- refused for this.
abbrev pub OrderFaultFits : ℕ → List Text → OrderFault → Type 0
OrderFaultFits chance words (Clap error) = HasKind (order_faults_in words) error
OrderFaultFits chance words fault = (order_faults_in words ≡ [])
    × RefusesWords (asked_of chance words) fault
