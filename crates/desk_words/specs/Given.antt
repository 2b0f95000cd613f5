-- What the parser found, as values.
use Rattle.std.specs.Prelude.{ℕ, Bool, true, false, ◌&&◌, ◌||◌, ◌==◌, if◌then◌else◌, List, [], ◌∷◌}
use Rattle.std.specs.Prelude.{Option, Some, None, Result, Ok, Err, nat_le, nat_lt, length, codes}
use Rattle.std.specs.Prelude.{unwrap_or, chars, encode_utf8, flat_map, not}
use Rattle.std.specs.List.{list_all}
use Rattle.std.specs.Option.{option_map_or}
use Rattle.std.specs.Str.{bytes_eq}
use Rattle.std.specs.Str.Parse.{digits_value}
use Rattle.clap.specs.Words.{Text, Row, all_of, first_of}
use Rattle.desk_terms.specs.declared.form.Form.{Form}
use Rattle.desk_terms.specs.declared.form.Form.TheVariants.{Rows, Json, Csv}
use Rattle.desk_words.specs.WordAnswers.{WordRefusal, and_then, two_forms, no_number, no_name}
use Rattle.desk_words.specs.WordAnswers.{empty_path}

-- the words that were given for an argument
abbrev pub given : Text → List Row → List Text
given id rows = unwrap_or (all_of id rows) []

-- the first word of an argument, empty where there is none
abbrev pub first_given : Text → List Row → Text
first_given id rows = unwrap_or (first_of id rows) []

-- whether an option without a value was given
abbrev pub is_set : Text → List Row → Bool
is_set id rows =
    option_map_or (λ word. bytes_eq word (codes "true")) (first_of id rows) false

-- a list as JSON, or as CSV, or else as rows
abbrev pub form_by : Bool → Bool → Result Form WordRefusal
form_by true true = Err two_forms
form_by true false = Ok Json
form_by false true = Ok Csv
form_by false false = Ok Rows

abbrev pub form_in : List Row → Result Form WordRefusal
form_in rows = form_by (is_set (codes "json") rows) (is_set (codes "csv") rows)

abbrev pub is_digit : ℕ → Bool
is_digit byte = nat_le 48 byte && nat_le byte 57

-- one digit or more, and nothing else
abbrev pub is_digits : Text → Bool
is_digits word = not (length word == 0) && list_all is_digit word

-- a number has one to nine digits
abbrev pub number_written : Text → Option ℕ
number_written word = if not (is_digits word) then None
    else if nat_lt 9 (length word) then None
    else Some (digits_value 10 word)

abbrev pub number_by : Option ℕ → Text → Result ℕ WordRefusal
number_by None word = Err (no_number word)
number_by (Some number) word = Ok number

abbrev pub number_in : Text → Result ℕ WordRefusal
number_in word = number_by (number_written word) word

-- the number of an option that may be given
abbrev pub number_given : Option Text → Result (Option ℕ) WordRefusal
number_given None = Ok None
number_given (Some word) = and_then (number_in word) (λ number. Ok (Some number))

-- each word is read in turn
abbrev pub each_in : {A : Type 0} → (Text → Result A WordRefusal) → List Text
    → Result (List A) WordRefusal
each_in read [] = Ok []
each_in read (word ∷ words) = and_then (read word)
    (λ value. and_then (each_in read words) (λ values. Ok (value ∷ values)))

abbrev pub numbers_given : List Text → Result (List ℕ) WordRefusal
numbers_given words = each_in number_in words

-- a path is not empty
abbrev pub path_in : Text → Result Text WordRefusal
path_in [] = Err empty_path
path_in (byte ∷ bytes) = Ok (byte ∷ bytes)

abbrev pub paths_in : List Text → Result (List Text) WordRefusal
paths_in words = each_in path_in words

-- letters, digits, - (45) and _ (95)
abbrev pub is_list_name_byte : ℕ → Bool
is_list_name_byte byte = is_digit byte || ((nat_le 65 byte && nat_le byte 90)
    || ((nat_le 97 byte && nat_le byte 122) || (byte == 45 || byte == 95)))

abbrev pub is_name : Text → Bool
is_name word = not (length word == 0) && list_all is_list_name_byte word

-- the name of a set list
abbrev pub name_in : Text → Result Text WordRefusal
name_in word = if is_name word then Ok word else Err (no_name word)

-- a line feed (10) and a carriage return (13) become a blank (32)
abbrev pub blank_for : ℕ → ℕ
blank_for letter = if letter == 10 || letter == 13 then 32 else letter

abbrev pub one_line : Text → Text
one_line text = flat_map (λ letter. encode_utf8 (blank_for letter)) (chars text)
