-- What a question is told: the bytes, or why it is refused.
use Rattle.std.specs.Prelude.{ℕ, ◌%◌, List, [], ◌∷◌, ◌++◌, length, map, filter, take, drop}
use Rattle.std.specs.Prelude.{if◌then◌else◌, Option, Some, None, Result, Ok, Err, string_bytes}
use Rattle.std.specs.List.{list_any, list_all}
use Rattle.tune_books.specs.WrittenBooks.{written_tunes}
use Rattle.tune_store.specs.Limits.{notes_of}
use Rattle.tune_store.specs.Questions.{row_of, exported}
use Rattle.tune_store.specs.State.{State, tune_at}
use Rattle.tune_store.specs.Step.{step}
use Rattle.tune_store.specs.declared.tune.Tune.{Tune}
use Rattle.tune_store.specs.declared.command.Command.TheVariants as command
use Rattle.tune_store.specs.declared.command.Reply.{Reply}
use Rattle.tune_store.specs.declared.command.Reply.TheVariants as reply
use Rattle.tune_store.specs.declared.command.Refusal.{Refusal}
use Rattle.tune_store.specs.declared.command.Refusal.TheVariants.{Unknown, BadQuery}
use Rattle.desk_terms.specs.declared.form.Form.{Form}
use Rattle.desk_terms.specs.declared.form.Form.TheVariants.{Rows}
use Rattle.desk_lists.specs.ListForms.{tune_list_bytes, place_list_bytes, set_list_bytes}
use Rattle.desk_lists.specs.ListForms.{count_line}
use Rattle.desk_lists.specs.Twins.{twin_list_bytes}
use Rattle.desk_questions.specs.Conditions.{gives, asks_nothing}
use Rattle.desk_questions.specs.SameTunes.{twins}
use Rattle.desk_questions.specs.Dumps.{dump_commands, script_bytes}
use Rattle.desk_terms.specs.declared.condition.Condition.{Condition}
use Rattle.desk_terms.specs.declared.question.Question.{Question}
use Rattle.desk_terms.specs.declared.question.Question.TheVariants.{Find, Count, Random, Titles}
use Rattle.desk_terms.specs.declared.question.Question.TheVariants.{Sets, Set, Show, ExportAll}
use Rattle.desk_terms.specs.declared.question.Question.TheVariants.{ExportSet, ExportTunes}
use Rattle.desk_terms.specs.declared.question.Question.TheVariants.{Twins, Dump}

-- BY CONDITIONS
-- the tunes that all of these conditions give, by number
abbrev pub found_by_all : List Condition → State → List Tune
found_by_all conditions state = filter
    (λ tune. list_all (λ condition. gives (notes_of state.layout) condition tune.text) conditions)
    state.tunes

-- these as they are told, unless a condition asks for nothing
abbrev pub of_found : (List Tune → List ℕ) → List Condition → State → Result (List ℕ) Refusal
of_found as_told conditions state =
    if list_any asks_nothing conditions then Err BadQuery
    else Ok (as_told (found_by_all conditions state))

-- the rows of tunes
abbrev pub listed_tunes : Form → List Tune → List ℕ
listed_tunes form tunes = tune_list_bytes form (map row_of tunes)

-- the one at the place that remains of a number by their count; none of none
abbrev pub chosen : ℕ → List Tune → List Tune
chosen chance tunes = take 1 (drop (chance % length tunes) tunes)

-- BY NUMBERS
-- a tune before more
abbrev pub tune_with_more : ℕ → Option Tune → Result (List Tune) Refusal
    → Result (List Tune) Refusal
tune_with_more number None more = Err (Unknown number)
tune_with_more number (Some tune) (Ok tunes) = Ok (tune ∷ tunes)
tune_with_more number (Some tune) (Err refusal) = Err refusal

-- the tunes of these numbers, in this order; the first that no tune has is refused
abbrev pub tunes_at : List ℕ → List Tune → Result (List Tune) Refusal
tunes_at [] tunes = Ok []
tunes_at (number ∷ numbers) tunes =
    tune_with_more number (tune_at number tunes) (tunes_at numbers tunes)

-- what is accepted, as it is told
abbrev pub as_told : {A : Type 0} → (A → List ℕ) → Result A Refusal → Result (List ℕ) Refusal
as_told tell (Ok answer) = Ok (tell answer)
as_told tell (Err refusal) = Err refusal

-- the tunes, each with its number, and an empty line between
abbrev pub shown_tunes : List Tune → List ℕ
shown_tunes tunes =
    drop 1 (written_tunes (map (λ tune. tune.number) tunes) (map (λ tune. tune.text) tunes))

-- THE STORE'S OWN REPLIES
abbrev pub reply_told : Form → Reply → List ℕ
reply_told form (reply.Titled rows) = tune_list_bytes form rows
reply_told form (reply.Sets rows) = set_list_bytes form rows
reply_told form (reply.SetShown name rows) = place_list_bytes form rows
reply_told form (reply.Exported book) = book
reply_told form (reply.SetExported name book) = book
reply_told form other = []

-- QUESTIONS
abbrev pub told : Question → State → Result (List ℕ) Refusal
told (Find conditions form) state = of_found (listed_tunes form) conditions.items state
told (Count conditions) state = of_found
    (λ tunes. count_line (length tunes)) conditions.items state
told (Random conditions chance form) state =
    of_found (λ tunes. listed_tunes form (chosen chance tunes)) conditions.items state
told (Titles form) state = as_told (reply_told form) (step state command.Titles).1
told (Sets form) state = as_told (reply_told form) (step state command.Sets).1
told (Set name form) state =
    as_told (reply_told form) (step state (command.SetShow (string_bytes name))).1
told (Show numbers) state = as_told shown_tunes (tunes_at numbers.items state.tunes)
told ExportAll state = as_told (reply_told Rows) (step state command.ExportAll).1
told (ExportSet name) state =
    as_told (reply_told Rows) (step state (command.ExportSet (string_bytes name))).1
told (ExportTunes numbers) state = as_told exported (tunes_at numbers.items state.tunes)
told (Twins form) state = Ok (twin_list_bytes form (twins state.tunes))
told Dump state = Ok (script_bytes (dump_commands state))
