-- What words may ask for; and what a command asks for that asks, or writes a result.
use Rattle.std.specs.Prelude.{ℕ, Bool, if◌then◌else◌, List, [], ◌∷◌}
use Rattle.std.specs.Prelude.{Option, Some, None, Result, Ok, Err, codes, map, string_bytes}
use Rattle.std.specs.Str.{bytes_eq}
use Rattle.clap.specs.Words.{Text, Row, first_of}
use Rattle.desk_terms.specs.declared.adding.Adding.{Adding}
use Rattle.desk_terms.specs.declared.alteration.Alteration.{Alteration}
use Rattle.desk_terms.specs.declared.alteration.Alteration.TheVariants as change
use Rattle.desk_terms.specs.declared.form.Form.{Form}
use Rattle.desk_terms.specs.declared.undoing.Undoing.{Undoing}
use Rattle.desk_terms.specs.declared.question.Question.{Question}
use Rattle.desk_terms.specs.declared.question.Question.TheVariants as question
use Rattle.desk_words.specs.declared.asked.Order.{Order}
use Rattle.desk_words.specs.declared.asked.Order.TheVariants as order
use Rattle.desk_words.specs.declared.asked.Target.{Target}
use Rattle.desk_words.specs.declared.order_meanings.Verb.{Verb}
use Rattle.desk_words.specs.declared.order_meanings.Verb.TheVariants as verb
use Rattle.desk_words.specs.WordAnswers.{WordRefusal, and_then, nothing_asked}
use Rattle.desk_words.specs.WordAnswers.{name_and_tunes}
use Rattle.desk_words.specs.Given.{given, first_given, is_set, form_in, number_in, numbers_given}
use Rattle.desk_words.specs.Given.{path_in, paths_in, name_in}
use Rattle.desk_words.specs.SoughtConditions.{ConditionMeaning, sought_by, sought_in}

-- a question, by the bytes of its texts
pub data Asking : Type 0 where
  finds : List ConditionMeaning → Form → Asking
  counts : List ConditionMeaning → Asking
  chooses : List ConditionMeaning → ℕ → Form → Asking
  lists_titles : Form → Asking
  lists_sets : Form → Asking
  lists_set : Text → Form → Asking
  shows : List ℕ → Asking
  exports_all : Asking
  exports_set : Text → Asking
  exports_tunes : List ℕ → Asking
  lists_twins : Form → Asking
  dumps : Asking

abbrev pub asking_by : Question → Asking
asking_by (question.Find conditions form) = finds (map sought_by conditions.items) form
asking_by (question.Count conditions) = counts (map sought_by conditions.items)
asking_by (question.Random conditions chance form) =
    chooses (map sought_by conditions.items) chance form
asking_by (question.Titles form) = lists_titles form
asking_by (question.Sets form) = lists_sets form
asking_by (question.Set name form) = lists_set (string_bytes name) form
asking_by (question.Show numbers) = shows numbers.items
asking_by question.ExportAll = exports_all
asking_by (question.ExportSet name) = exports_set (string_bytes name)
asking_by (question.ExportTunes numbers) = exports_tunes numbers.items
asking_by (question.Twins form) = lists_twins form
asking_by question.Dump = dumps

-- where a result goes: the path OUT, and whether --force is given
pub record Place : Type 0 where
  pub out : Text
  pub force : Bool

abbrev pub place_by : Target → Place
place_by target = record { out = string_bytes target.out; force = target.force }

-- a change, by the bytes of its texts
pub data ChangeMeaning : Type 0 where
  deletes : List ℕ → ChangeMeaning
  puts : Text → List ℕ → ChangeMeaning
  cuts : Text → List ℕ → ChangeMeaning
  moves : Text → ℕ → ℕ → ChangeMeaning
  drops : Text → ChangeMeaning

abbrev pub change_by : Alteration → ChangeMeaning
change_by (change.Delete numbers) = deletes numbers.items
change_by (change.Put name numbers) = puts (string_bytes name) numbers.items
change_by (change.Cut name places) = cuts (string_bytes name) places.items
change_by (change.Move name place to) = moves (string_bytes name) place to
change_by (change.Drop name) = drops (string_bytes name)

-- an order, by the bytes of its texts
pub data OrderMeaning : Type 0 where
  tells : Asking → OrderMeaning
  writes : Asking → Place → OrderMeaning
  checks : OrderMeaning
  checks_copy : Text → OrderMeaning
  drafts : ℕ → Text → OrderMeaning
  places : Place → OrderMeaning
  checks_books : List Text → OrderMeaning
  asks : OrderMeaning
  makes : OrderMeaning
  adds : List Text → Adding → OrderMeaning
  changes : ChangeMeaning → OrderMeaning
  replaces : ℕ → Option ℕ → Text → OrderMeaning
  undoes : Undoing → OrderMeaning
  backs_up : Text → Option ℕ → OrderMeaning
  restores : Text → Bool → OrderMeaning
  loads : Text → OrderMeaning
  upgrades : OrderMeaning

abbrev pub meaning_by : Order → OrderMeaning
meaning_by (order.Tell asked) = tells (asking_by asked)
meaning_by (order.Write asked target) = writes (asking_by asked) (place_by target)
meaning_by order.Check = checks
meaning_by (order.CheckCopy copy) = checks_copy (string_bytes copy)
meaning_by (order.Draft number out) = drafts number (string_bytes out)
meaning_by (order.Place target) = places (place_by target)
meaning_by (order.CheckBooks books) = checks_books (map string_bytes books.items)
meaning_by order.Ask = asks
meaning_by order.Make = makes
meaning_by (order.Add books how) = adds (map string_bytes books.items) how
meaning_by (order.Alter changed) = changes (change_by changed)
meaning_by (order.Replace number revision book) = replaces number revision (string_bytes book)
meaning_by (order.Undo undoing) = undoes undoing
meaning_by (order.Backup copy keep) = backs_up (string_bytes copy) keep
meaning_by (order.Restore copy force) = restores (string_bytes copy) force
meaning_by (order.Load script) = loads (string_bytes script)
meaning_by order.Upgrade = upgrades

-- the commands that ask or write a result, by name
abbrev pub verb_of : Text → Option Verb
verb_of name = if bytes_eq name (codes "find") then Some verb.Find
    else if bytes_eq name (codes "count") then Some verb.Count
    else if bytes_eq name (codes "random") then Some verb.Random
    else if bytes_eq name (codes "titles") then Some verb.Titles
    else if bytes_eq name (codes "sets") then Some verb.Sets
    else if bytes_eq name (codes "set") then Some verb.Set
    else if bytes_eq name (codes "twins") then Some verb.Twins
    else if bytes_eq name (codes "show") then Some verb.Show
    else if bytes_eq name (codes "check") then Some verb.Check
    else if bytes_eq name (codes "export") then Some verb.Export
    else if bytes_eq name (codes "dump") then Some verb.Dump
    else if bytes_eq name (codes "import-check") then Some verb.ImportCheck
    else if bytes_eq name (codes "place") then Some verb.Place
    else if bytes_eq name (codes "draft") then Some verb.Draft
    else if bytes_eq name (codes "ask") then Some verb.Ask
    else None

-- `find` asks for something
abbrev pub some_sought : List ConditionMeaning → Result (List ConditionMeaning) WordRefusal
some_sought [] = Err nothing_asked
some_sought (sought ∷ rest) = Ok (sought ∷ rest)

abbrev pub finds_in : List Row → Result Asking WordRefusal
finds_in rows = and_then (and_then (sought_in rows) some_sought)
    (λ sought. and_then (form_in rows) (λ form. Ok (finds sought form)))

abbrev pub counts_in : List Row → Result Asking WordRefusal
counts_in rows = and_then (sought_in rows) (λ sought. Ok (counts sought))

abbrev pub chooses_in : ℕ → List Row → Result Asking WordRefusal
chooses_in chance rows = and_then (sought_in rows)
    (λ sought. and_then (form_in rows) (λ form. Ok (chooses sought chance form)))

abbrev pub lists_in : (Form → Asking) → List Row → Result Asking WordRefusal
lists_in asking rows = and_then (form_in rows) (λ form. Ok (asking form))

abbrev pub set_in : List Row → Result Asking WordRefusal
set_in rows = and_then (name_in (first_given (codes "NAME") rows))
    (λ name. and_then (form_in rows) (λ form. Ok (lists_set name form)))

abbrev pub shows_in : List Row → Result Asking WordRefusal
shows_in rows = and_then (numbers_given (given (codes "NUM") rows)) (λ numbers. Ok (shows numbers))

-- NAME, the numbers of --tune, or all
abbrev pub exports_by : Option Text → List Text → Result Asking WordRefusal
exports_by (Some name) (tune ∷ tunes) = Err name_and_tunes
exports_by (Some name) [] = and_then (name_in name) (λ text. Ok (exports_set text))
exports_by None (tune ∷ tunes) =
    and_then (numbers_given (tune ∷ tunes)) (λ numbers. Ok (exports_tunes numbers))
exports_by None [] = Ok exports_all

abbrev pub exports_in : List Row → Result Asking WordRefusal
exports_in rows = exports_by (first_of (codes "NAME") rows) (given (codes "tune") rows)

abbrev pub place_in : List Row → Result Place WordRefusal
place_in rows = and_then (path_in (first_given (codes "OUT") rows))
    (λ out. Ok (record { out = out; force = is_set (codes "force") rows }))

abbrev pub telling : Result Asking WordRefusal → Result OrderMeaning WordRefusal
telling asked = and_then asked (λ asking. Ok (tells asking))

abbrev pub writing : Result Asking WordRefusal → List Row → Result OrderMeaning WordRefusal
writing asked rows =
    and_then asked (λ asking. and_then (place_in rows) (λ place. Ok (writes asking place)))

abbrev pub drafts_in : List Row → Result OrderMeaning WordRefusal
drafts_in rows = and_then (number_in (first_given (codes "NUM") rows))
    (λ number. and_then (path_in (first_given (codes "OUT") rows))
    (λ out. Ok (drafts number out)))

abbrev pub books_in : List Row → Result OrderMeaning WordRefusal
books_in rows =
    and_then (paths_in (given (codes "BOOK") rows)) (λ books. Ok (checks_books books))

abbrev pub places_in : List Row → Result OrderMeaning WordRefusal
places_in rows = and_then (place_in rows) (λ place. Ok (places place))

-- FILE is checked, or COPY
abbrev pub checks_by : Option Text → Result OrderMeaning WordRefusal
checks_by None = Ok checks
checks_by (Some word) = and_then (path_in word) (λ copy. Ok (checks_copy copy))

abbrev pub checks_in : List Row → Result OrderMeaning WordRefusal
checks_in rows = checks_by (first_of (codes "COPY") rows)

-- what such a command asks for, by what was found for its arguments
abbrev pub order_meaning : ℕ → Verb → List Row → Result OrderMeaning WordRefusal
order_meaning chance verb.Find rows = telling (finds_in rows)
order_meaning chance verb.Count rows = telling (counts_in rows)
order_meaning chance verb.Random rows = telling (chooses_in chance rows)
order_meaning chance verb.Titles rows = telling (lists_in lists_titles rows)
order_meaning chance verb.Sets rows = telling (lists_in lists_sets rows)
order_meaning chance verb.Set rows = telling (set_in rows)
order_meaning chance verb.Twins rows = telling (lists_in lists_twins rows)
order_meaning chance verb.Show rows = telling (shows_in rows)
order_meaning chance verb.Check rows = checks_in rows
order_meaning chance verb.Export rows = writing (exports_in rows) rows
order_meaning chance verb.Dump rows = writing (Ok dumps) rows
order_meaning chance verb.ImportCheck rows = books_in rows
order_meaning chance verb.Place rows = places_in rows
order_meaning chance verb.Draft rows = drafts_in rows
order_meaning chance verb.Ask rows = Ok asks
