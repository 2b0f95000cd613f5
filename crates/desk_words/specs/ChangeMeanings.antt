-- What a command asks for that changes an archive, or makes one.
use Rattle.std.specs.Prelude.{ℕ, Bool, true, false, ◌&&◌, if◌then◌else◌, List, [], ◌∷◌}
use Rattle.std.specs.Prelude.{Option, Some, None, Result, Ok, Err, codes}
use Rattle.std.specs.Str.{bytes_eq}
use Rattle.clap.specs.Words.{Text, Row, first_of}
use Rattle.desk_terms.specs.declared.adding.Adding.{Adding}
use Rattle.desk_terms.specs.declared.form.Form.{Form}
use Rattle.desk_terms.specs.declared.form.Form.TheVariants.{Rows}
use Rattle.desk_terms.specs.declared.undoing.Undoing.{Undoing}
use Rattle.desk_terms.specs.declared.undoing.Undoing.TheVariants as undo
use Rattle.desk_words.specs.declared.change_meanings.ChangeVerb.{ChangeVerb}
use Rattle.desk_words.specs.declared.change_meanings.ChangeVerb.TheVariants as verb
use Rattle.desk_words.specs.WordAnswers.{WordRefusal, and_then, no_books, new_and_split, put_alone}
use Rattle.desk_words.specs.WordAnswers.{list_and_to, form_alone}
use Rattle.desk_words.specs.Given.{given, first_given, is_set, form_in, number_in, numbers_given}
use Rattle.desk_words.specs.Given.{number_given, path_in, paths_in, name_in}
use Rattle.desk_words.specs.OrderMeanings.{OrderMeaning, makes, adds, changes, replaces, undoes}
use Rattle.desk_words.specs.OrderMeanings.{backs_up, restores, loads, upgrades}
use Rattle.desk_words.specs.OrderMeanings.{deletes, puts, cuts, moves, drops}

-- the commands, by name
abbrev pub change_verb_of : Text → Option ChangeVerb
change_verb_of name = if bytes_eq name (codes "new") then Some verb.New
    else if bytes_eq name (codes "add") then Some verb.Add
    else if bytes_eq name (codes "delete") then Some verb.Delete
    else if bytes_eq name (codes "put") then Some verb.Put
    else if bytes_eq name (codes "cut") then Some verb.Cut
    else if bytes_eq name (codes "move") then Some verb.Move
    else if bytes_eq name (codes "drop") then Some verb.Drop
    else if bytes_eq name (codes "replace") then Some verb.Replace
    else if bytes_eq name (codes "undo") then Some verb.Undo
    else if bytes_eq name (codes "backup") then Some verb.Backup
    else if bytes_eq name (codes "restore") then Some verb.Restore
    else if bytes_eq name (codes "load") then Some verb.Load
    else if bytes_eq name (codes "upgrade") then Some verb.Upgrade
    else None

-- ADD
abbrev pub adding_in : List Row → Adding
adding_in rows = record {
  only_new = is_set (codes "new") rows;
  good = is_set (codes "good") rows;
  split = is_set (codes "split") rows;
  dry = is_set (codes "dry") rows;
  show_lost = is_set (codes "show-lost") rows;
  carry = is_set (codes "carry") rows;
}

-- there is a book at least
abbrev pub some_books : List Text → Result (List Text) WordRefusal
some_books [] = Err no_books
some_books (word ∷ words) = paths_in (word ∷ words)

-- new tunes alone are not taken by parts
abbrev pub adds_by : List Text → Adding → Result OrderMeaning WordRefusal
adds_by books how = if how.only_new && how.split then Err new_and_split else Ok (adds books how)

abbrev pub adds_in : List Row → Result OrderMeaning WordRefusal
adds_in rows = and_then (some_books (given (codes "BOOK") rows))
    (λ books. adds_by books (adding_in rows))

-- TUNES AND SET LISTS
abbrev pub deletes_in : List Row → Result OrderMeaning WordRefusal
deletes_in rows = and_then (numbers_given (given (codes "NUM") rows))
    (λ numbers. Ok (changes (deletes numbers)))

-- a name and a number at least
abbrev pub puts_by : Text → List Text → Result OrderMeaning WordRefusal
puts_by name [] = Err put_alone
puts_by name (word ∷ words) = and_then (name_in name)
    (λ text. and_then (numbers_given (word ∷ words)) (λ numbers. Ok (changes (puts text numbers))))

abbrev pub puts_in : List Row → Result OrderMeaning WordRefusal
puts_in rows = puts_by (first_given (codes "NAME") rows) (given (codes "NUM") rows)

abbrev pub cuts_in : List Row → Result OrderMeaning WordRefusal
cuts_in rows = and_then (name_in (first_given (codes "NAME") rows))
    (λ name. and_then (numbers_given (given (codes "PLACE") rows))
    (λ places. Ok (changes (cuts name places))))

abbrev pub moves_in : List Row → Result OrderMeaning WordRefusal
moves_in rows = and_then (name_in (first_given (codes "NAME") rows))
    (λ name. and_then (number_in (first_given (codes "PLACE") rows))
    (λ place. and_then (number_in (first_given (codes "TO") rows))
    (λ to. Ok (changes (moves name place to)))))

abbrev pub drops_in : List Row → Result OrderMeaning WordRefusal
drops_in rows = and_then (name_in (first_given (codes "NAME") rows))
    (λ name. Ok (changes (drops name)))

-- a tune is replaced by a book, where it has REV, if that is given
abbrev pub replaces_in : List Row → Result OrderMeaning WordRefusal
replaces_in rows = and_then (number_in (first_given (codes "NUM") rows))
    (λ number. and_then (number_given (first_of (codes "revision") rows))
    (λ revision. and_then (path_in (first_given (codes "BOOK") rows))
    (λ book. Ok (replaces number revision book))))

-- UNDO
-- a form is for a list
abbrev pub unlisted : Form → Undoing → Result Undoing WordRefusal
unlisted Rows undoing = Ok undoing
unlisted _ undoing = Err form_alone

-- by whether --list is given, and by the N of --to
abbrev pub undoing_by : Bool → Option ℕ → Form → Result Undoing WordRefusal
undoing_by true (Some number) form = Err list_and_to
undoing_by true None form = Ok (undo.List form)
undoing_by false (Some number) form = unlisted form (undo.To number)
undoing_by false None form = unlisted form undo.Last

abbrev pub undoes_in : List Row → Result OrderMeaning WordRefusal
undoes_in rows = and_then (form_in rows)
    (λ form. and_then (number_given (first_of (codes "to") rows))
    (λ number. and_then (undoing_by (is_set (codes "list") rows) number form)
    (λ undoing. Ok (undoes undoing))))

-- COPIES
abbrev pub backs_up_in : List Row → Result OrderMeaning WordRefusal
backs_up_in rows = and_then (path_in (first_given (codes "COPY") rows))
    (λ copy. and_then (number_given (first_of (codes "keep") rows))
    (λ keep. Ok (backs_up copy keep)))

abbrev pub restores_in : List Row → Result OrderMeaning WordRefusal
restores_in rows = and_then (path_in (first_given (codes "COPY") rows))
    (λ copy. Ok (restores copy (is_set (codes "force") rows)))

abbrev pub loads_in : List Row → Result OrderMeaning WordRefusal
loads_in rows = and_then (path_in (first_given (codes "SCRIPT") rows))
    (λ script. Ok (loads script))

-- what such a command asks for, by what was found for its arguments
abbrev pub change_of : ChangeVerb → List Row → Result OrderMeaning WordRefusal
change_of verb.New rows = Ok makes
change_of verb.Add rows = adds_in rows
change_of verb.Delete rows = deletes_in rows
change_of verb.Put rows = puts_in rows
change_of verb.Cut rows = cuts_in rows
change_of verb.Move rows = moves_in rows
change_of verb.Drop rows = drops_in rows
change_of verb.Replace rows = replaces_in rows
change_of verb.Undo rows = undoes_in rows
change_of verb.Backup rows = backs_up_in rows
change_of verb.Restore rows = restores_in rows
change_of verb.Load rows = loads_in rows
change_of verb.Upgrade rows = Ok upgrades
