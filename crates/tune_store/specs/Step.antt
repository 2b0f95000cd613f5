-- What a command does to the plain list, and what it is answered.
use Rattle.std.specs.Prelude.{Ok}
use Rattle.abc_fields.specs.Books.{book_answer}
use Rattle.tune_sets.specs.Sets.{holder}
use Rattle.tune_sets.specs.Calls.{places_of, set_rows_of}
use Rattle.tune_store.specs.Limits.{longest_text, notes_of}
use Rattle.tune_store.specs.State.{State, tune_at}
use Rattle.tune_store.specs.TuneSteps.{Outcome, tunes_step, import_book, replace_book}
use Rattle.tune_store.specs.TuneSteps.{delete_tune, renumber, upgraded_state}
use Rattle.tune_store.specs.SetSteps.{set_new, set_add, set_cut, set_drop}
use Rattle.tune_store.specs.Questions.{shown, find, titled, set_shown, exported, set_exported}
use Rattle.tune_store.specs.declared.command.Command.{Command}
use Rattle.tune_store.specs.declared.command.Command.TheVariants.{Import, Replace, Delete, Show}
use Rattle.tune_store.specs.declared.command.Command.TheVariants.{Renumber, Find, Titles, Sets}
use Rattle.tune_store.specs.declared.command.Command.TheVariants.{SetNew, SetAdd, SetCut, SetDrop}
use Rattle.tune_store.specs.declared.command.Command.TheVariants.{SetShow, ExportAll, ExportSet}
use Rattle.tune_store.specs.declared.command.Command.TheVariants.{Upgrade}
use Rattle.tune_store.specs.declared.command.Reply.TheVariants as reply

-- the state after a command, and its answer
abbrev pub step : State → Command → Outcome
step state (Import book) =
    tunes_step state
    (import_book state.layout state.tunes (book_answer (longest_text state.layout) book))
step state (Replace number revision book) =
    tunes_step state
    (replace_book state.tunes number revision (book_answer (longest_text state.layout) book))
step state (Delete number) =
    tunes_step state
    (delete_tune state.tunes number (holder number state.sets) (tune_at number state.tunes))
step state (Renumber number to) = renumber state number to
step state (Show number) = (state, shown number (tune_at number state.tunes))
step state (Find query) = (state, find (notes_of state.layout) query state.tunes)
step state Titles = (state, Ok (reply.Titled (titled state.tunes)))
step state (SetNew name) = set_new state name
step state (SetAdd name number) = set_add state name number
step state (SetCut name place) = set_cut state name place
step state (SetDrop name) = set_drop state name
step state Sets = (state, Ok (reply.Sets (set_rows_of state.sets)))
step state (SetShow name) = (state, set_shown name state.tunes (places_of name state.sets))
step state ExportAll = (state, Ok (reply.Exported (exported state.tunes)))
step state (ExportSet name) = (state, set_exported name state.tunes (places_of name state.sets))
step state Upgrade = (upgraded_state state, Ok reply.Upgraded)
