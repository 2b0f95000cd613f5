-- A dump: the script that makes the tunes, with their numbers, and the set lists anew, as commands
-- of the store, and the bytes of these.
use Rattle.std.specs.Prelude.{◌≡◌, ℕ, ◌+◌, List, [], ◌∷◌, ◌++◌, length, map, ◌==◌, nat_lt}
use Rattle.std.specs.Prelude.{if◌then◌else◌, Result, Ok, Err, IsTrue, codes, decimal}
use Rattle.std.specs.List.{flat_map}
use Rattle.tune_sets.specs.Calls.{places_of}
use Rattle.tune_sets.specs.declared.faults.SetFault.{SetFault}
use Rattle.tune_sets.specs.declared.set_lists.TuneSet.{TuneSet}
use Rattle.tune_store.specs.Questions.{exported}
use Rattle.tune_store.specs.Revisions.{accepts}
use Rattle.tune_store.specs.State.{State}
use Rattle.tune_store.specs.Step.{step}
use Rattle.tune_store.specs.declared.layout.Layout.TheVariants.{Two}
use Rattle.tune_store.specs.declared.tune.Tune.{Tune}
use Rattle.tune_store.specs.declared.command.Command.{Command}
use Rattle.tune_store.specs.declared.command.Command.TheVariants.{Import, Renumber}
use Rattle.tune_store.specs.declared.command.Command.TheVariants.{SetNew, SetAdd}

-- TUNES
-- A piece is full when its book has more bytes than this.
abbrev pub piece_size : ℕ
piece_size = 1000000

-- the book of a piece; of no tune, no bytes
abbrev pub book_of : List Tune → List ℕ
book_of [] = []
book_of (tune ∷ tunes) = exported (tune ∷ tunes)

-- the import of a book, where it has a byte
abbrev pub imported : List ℕ → List Command
imported [] = []
imported (byte ∷ book) = Import (byte ∷ book) ∷ []

-- The commands for a piece that was begun, and for the tunes after it; `last` is the number of the
-- tune before these, or 0. After a gap a tune goes in alone, and is given its number. Any other
-- goes in with the piece, or begins the next where the piece is full.
abbrev pub tune_dump_commands : ℕ → List Tune → List Tune → List Command
tune_dump_commands last piece [] = imported (book_of piece)
tune_dump_commands last piece (tune ∷ tunes) =
    if tune.number == last + 1 then
    if nat_lt piece_size (length (book_of piece))
    then imported (book_of piece) ++ tune_dump_commands tune.number (tune ∷ []) tunes
    else tune_dump_commands tune.number (piece ++ tune ∷ []) tunes
    else imported (book_of piece) ++ (Import (exported (tune ∷ []))
    ∷ Renumber (last + 1) tune.number ∷ tune_dump_commands tune.number [] tunes)

-- SET LISTS
-- a set list of this name, and the numbers at its places; none where there is none
abbrev pub set_dump_commands : List ℕ → Result (List ℕ) SetFault → List Command
set_dump_commands name (Ok numbers) = SetNew name ∷ map (SetAdd name) numbers
set_dump_commands name (Err why) = []

-- each set list, with its places
abbrev pub sets_commands : List TuneSet → List Command
sets_commands sets = flat_map (λ set. set_dump_commands set.name (places_of set.name sets)) sets

-- THE WHOLE
-- the tunes by number, and then the set lists by name
abbrev pub dump_commands : State → List Command
dump_commands state = tune_dump_commands 0 [] state.tunes ++ sets_commands state.sets

-- a command as a script has it (docs/SCRIPTS.md), of those that a dump has
abbrev pub command_bytes : Command → List ℕ
command_bytes (Import book) = codes "import " ++ decimal (length book) ++ codes "\n" ++ book
command_bytes (Renumber number to) =
    codes "renumber " ++ decimal number ++ codes " " ++ decimal to ++ codes "\n"
command_bytes (SetNew name) = codes "set-new " ++ name ++ codes "\n"
command_bytes (SetAdd name number) =
    codes "set-add " ++ name ++ codes " " ++ decimal number ++ codes "\n"
command_bytes command = []

-- commands, one after another
abbrev pub script_bytes : List Command → List ℕ
script_bytes commands = flat_map command_bytes commands

-- WHAT IT MAKES
-- from one state to another by these commands, none of which is refused
abbrev pub LeadsUnrefused : State → List Command → State → Type 0
LeadsUnrefused old [] new = old ≡ new
LeadsUnrefused old (command ∷ commands) new =
    IsTrue (accepts old command) × LeadsUnrefused (step old command).0 commands new

-- a tune as it is after its import
abbrev pub imported_tune : Tune → Tune
imported_tune tune = record tune { revision = 1 }

-- the tunes, each anew, and the set lists, in layout 2
abbrev pub made_anew : State → State
made_anew state =
    record { layout = Two; tunes = map imported_tune state.tunes; sets = state.sets }
