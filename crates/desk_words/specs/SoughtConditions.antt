-- What tunes are found by.
use Rattle.std.specs.Prelude.{Bool, true, false, ◌&&◌, if◌then◌else◌, List, [], ◌∷◌, ◌++◌, not}
use Rattle.std.specs.Prelude.{Option, Some, None, Result, Ok, Err, codes, map, flat_map, is_some}
use Rattle.std.specs.Prelude.{option_map, option_to_list, string_bytes}
use Rattle.std.specs.List.{list_any}
use Rattle.std.specs.Str.{bytes_eq}
use Rattle.clap.specs.Words.{Text, Row, first_of}
use Rattle.desk_terms.specs.declared.condition.Condition.{Condition}
use Rattle.desk_terms.specs.declared.condition.Condition.TheVariants as condition
use Rattle.desk_words.specs.declared.sought_conditions.SoughtKind.{SoughtKind}
use Rattle.desk_words.specs.declared.sought_conditions.SoughtKind.TheVariants.{Title, Rhythm, Key}
use Rattle.desk_words.specs.declared.sought_conditions.SoughtKind.TheVariants.{Notes}
use Rattle.desk_words.specs.WordAnswers.{WordRefusal, and_then, kind_alone, within_alone, key_alone}
use Rattle.desk_words.specs.Given.{given, is_set, one_line}

-- a condition, by the bytes of its texts
pub data ConditionMeaning : Type 0 where
  titled : Text → ConditionMeaning
  within : List Text → ConditionMeaning
  in_rhythm : Text → ConditionMeaning
  in_key : Text → ConditionMeaning
  noted : Text → Option Text → ConditionMeaning

abbrev pub sought_by : Condition → ConditionMeaning
sought_by (condition.Title text) = titled (string_bytes text)
sought_by (condition.Within words) = within (map string_bytes words.items)
sought_by (condition.Rhythm text) = in_rhythm (string_bytes text)
sought_by (condition.Key text) = in_key (string_bytes text)
sought_by (condition.Notes notes key) =
    noted (string_bytes notes) (option_map string_bytes key)

-- the kinds, by name
abbrev pub sought_kind : Text → Option SoughtKind
sought_kind word = if bytes_eq word (codes "title") then Some Title
    else if bytes_eq word (codes "rhythm") then Some Rhythm
    else if bytes_eq word (codes "key") then Some Key
    else if bytes_eq word (codes "notes") then Some Notes
    else None

-- this text is sought, by its kind; notes are read in the key, where there is one
abbrev pub of_kind : SoughtKind → Option Text → Text → ConditionMeaning
of_kind Title key text = titled text
of_kind Rhythm key text = in_rhythm text
of_kind Key key text = in_key text
of_kind Notes key text = noted text (option_map one_line key)

-- words with a blank between each two
abbrev pub joined_words : List Text → Text
joined_words [] = []
joined_words (word ∷ words) = one_line word ++ flat_map (λ more. 32 ∷ one_line more) words

-- The first of several words may be a kind. Where it is, it stands for no title alone.
abbrev pub by_kind : Option SoughtKind → Option Text → Text → List Text
    → Result ConditionMeaning WordRefusal
by_kind None key word rest = Ok (titled (joined_words (word ∷ rest)))
by_kind (Some kind) key word [] = Err (kind_alone kind)
by_kind (Some kind) key word (next ∷ rest) = Ok (of_kind kind key (joined_words (next ∷ rest)))

-- under --within each word is looked for anywhere in a title
abbrev pub by_lines : List Text → Result (List ConditionMeaning) WordRefusal
by_lines [] = Err within_alone
by_lines (word ∷ rest) = Ok (within (map one_line (word ∷ rest)) ∷ [])

abbrev pub by_plain_words : Option Text → List Text → Result (List ConditionMeaning) WordRefusal
by_plain_words key [] = Ok []
by_plain_words key (word ∷ rest) =
    and_then (by_kind (sought_kind word) key word rest) (λ sought. Ok (sought ∷ []))

-- what the words say that are no options
abbrev pub by_words : Bool → Option Text → List Text → Result (List ConditionMeaning) WordRefusal
by_words true key words = by_lines words
by_words false key words = by_plain_words key words

abbrev pub by_option : SoughtKind → Option Text → Option Text → List ConditionMeaning
by_option kind key text =
    option_to_list (option_map (λ word. of_kind kind key (one_line word)) text)

-- the options --title, --rhythm, --key and --notes
abbrev pub by_options : Option Text → List Row → List ConditionMeaning
by_options key rows = by_option Title key (first_of (codes "title") rows)
    ++ (by_option Rhythm key (first_of (codes "rhythm") rows)
    ++ (by_option Key key (first_of (codes "key") rows)
    ++ by_option Notes key (first_of (codes "notes") rows)))

abbrev pub is_noted : ConditionMeaning → Bool
is_noted (noted notes key) = true
is_noted _ = false

-- a key is for notes
abbrev pub key_used : Option Text → List ConditionMeaning
    → Result (List ConditionMeaning) WordRefusal
key_used key all =
    if is_some key && not (list_any is_noted all) then Err key_alone else Ok all

-- all that a tune is to have: what the words say first, then the options
abbrev pub sought_in : List Row → Result (List ConditionMeaning) WordRefusal
sought_in rows =
    let key = first_of (codes "in") rows in
    and_then (by_words (is_set (codes "within") rows) key (given (codes "WORDS") rows))
    (λ sought. key_used key (sought ++ by_options key rows))
