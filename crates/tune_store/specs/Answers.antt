-- What a store may answer a command, and what it stands for then.
use Rattle.std.specs.Prelude.{◌≡◌, ◌⊎◌, List, [], ◌∷◌, Bool, true, false, not, Result, Ok, Err}
use Rattle.std.specs.Prelude.{⊤, ◌==◌}
use Rattle.tune_store.specs.State.{State, Standing}
use Rattle.tune_store.specs.Step.{step}
use Rattle.tune_store.specs.declared.layout.Layout.{Layout}
use Rattle.tune_store.specs.declared.layout.Layout.TheVariants.{One, Two}
use Rattle.tune_store.specs.declared.command.Command.{Command}
use Rattle.tune_store.specs.declared.command.Command.TheVariants.{Import, Replace, Delete, Show}
use Rattle.tune_store.specs.declared.command.Command.TheVariants.{Renumber, Find, SetNew, SetAdd}
use Rattle.tune_store.specs.declared.command.Command.TheVariants.{SetCut, SetDrop, SetShow}
use Rattle.tune_store.specs.declared.command.Command.TheVariants.{Titles, Sets, ExportAll}
use Rattle.tune_store.specs.declared.command.Command.TheVariants.{ExportSet, Upgrade}
use Rattle.tune_store.specs.declared.command.Reply.{Reply}
use Rattle.tune_store.specs.declared.command.Refusal.{Refusal}
use Rattle.tune_store.specs.declared.command.Refusal.TheVariants.{BookTooLong, NoTune}
use Rattle.tune_store.specs.declared.command.Refusal.TheVariants.{BadTune, NotOne, Unknown, Stale}
use Rattle.tune_store.specs.declared.command.Refusal.TheVariants.{Worn, ArchiveFull, NumbersSpent}
use Rattle.tune_store.specs.declared.command.Refusal.TheVariants.{OutOfMemory}
use Rattle.tune_store.specs.declared.command.Refusal.TheVariants.{Device, Closed}
use Rattle.tune_store.specs.declared.command.Refusal.TheVariants.{Taken, InSet, NoSuchSet, SetTaken}
use Rattle.tune_store.specs.declared.command.Refusal.TheVariants.{SetFull, SetsFull, NoSuchPlace}
use Rattle.tune_store.specs.declared.command.Refusal.TheVariants.{BadName, BadNumber, BadQuery}

-- an open store of this state
abbrev pub open_at : State → Standing
open_at state = record { state = state; closed = false }

-- a closed one
abbrev pub closed_at : State → Standing
closed_at state = record { state = state; closed = true }

-- whether a command is a question, which changes nothing
abbrev pub asks : Command → Bool
asks (Show number) = true
asks (Find query) = true
asks Titles = true
asks Sets = true
asks (SetShow name) = true
asks ExportAll = true
asks (ExportSet name) = true
asks command = false

-- what a store stood for, a command, its answer, and what the store stands for then
pub data Answers : Standing → Command → Result Reply Refusal → Standing → Type 0 where
  -- the answer and the state are those of the plain list
  stepped : (old new : State) (command : Command) (answer : Result Reply Refusal)
      → step old command ≡ (new, answer) → Answers (open_at old) command answer (open_at new)
  -- out of memory, and nothing changed
  no_memory : (old : State) (command : Command)
      → Answers (open_at old) command (Err OutOfMemory) (open_at old)
  -- the device failed: the command did not take place, or it did
  failed_before : (old : State) (command : Command)
      → Answers (open_at old) command (Err Device) (closed_at old)
  failed_after : (old : State) (command : Command)
      → Answers (open_at old) command (Err Device) (closed_at (step old command).0)
  -- the device failed in an earlier call
  is_closed : (old : State) (command : Command)
      → Answers (closed_at old) command (Err Closed) (closed_at old)

-- the states that a command may have gone on to, by its answer
abbrev pub passed : State → Command → Result Reply Refusal → List State
passed state command (Ok reply) = (step state command).0 ∷ []
passed state command (Err Device) = (step state command).0 ∷ []
passed state command (Err refusal) = []

-- whether a store is open after this answer
abbrev pub stays_open : Result Reply Refusal → Bool
stays_open (Ok reply) = true
stays_open (Err Device) = false
stays_open (Err Closed) = false
stays_open (Err refusal) = true

-- Whether a command with this answer may have written to the device: a question has not, nor has
-- one that was refused, but where the device failed.
abbrev pub may_write : Command → Result Reply Refusal → Bool
may_write command (Ok reply) = not (asks command)
may_write command (Err Device) = not (asks command)
may_write command (Err refusal) = false

-- whether the layout is 2
abbrev pub is_two : Layout → Bool
is_two One = false
is_two Two = true

-- whether a command, though it is accepted, leaves a state of this layout as it is: a question,
-- another number for a tune that is its own, and an upgrade of layout 2
abbrev pub changes_nothing : Layout → Command → Bool
changes_nothing layout (Renumber number to) = number == to
changes_nothing layout Upgrade = is_two layout
changes_nothing layout command = asks command

-- WHICH REFUSALS MAY COME TO WHICH COMMAND
-- the refusals of a book that has no tunes to give
abbrev pub IsRefusalOfBook : Refusal → Type 0
IsRefusalOfBook BookTooLong = ⊤
IsRefusalOfBook NoTune = ⊤
IsRefusalOfBook (BadTune place why) = ⊤
IsRefusalOfBook refusal = ⊥

-- the refusals that commands of every kind may be given
abbrev pub IsRefusalOfAny : Command → Refusal → Type 0
IsRefusalOfAny command OutOfMemory = ⊤
IsRefusalOfAny command Device = ⊤
IsRefusalOfAny command Closed = ⊤
IsRefusalOfAny command refusal = ⊥

-- a command's own refusals
abbrev pub IsRefusalOfOwn : Command → Refusal → Type 0
IsRefusalOfOwn (Import book) ArchiveFull = ⊤
IsRefusalOfOwn (Import book) NumbersSpent = ⊤
IsRefusalOfOwn (Import book) refusal = IsRefusalOfBook refusal
IsRefusalOfOwn (Replace number revision book) (NotOne count) = ⊤
IsRefusalOfOwn (Replace number revision book) (Unknown other) = other ≡ number
IsRefusalOfOwn (Replace number revision book) (Stale current) = ⊤
IsRefusalOfOwn (Replace number revision book) Worn = ⊤
IsRefusalOfOwn (Replace number revision book) refusal = IsRefusalOfBook refusal
IsRefusalOfOwn (Delete number) (Unknown other) = other ≡ number
IsRefusalOfOwn (Delete number) (InSet name) = ⊤
IsRefusalOfOwn (Renumber number to) BadNumber = ⊤
IsRefusalOfOwn (Renumber number to) (Unknown other) = other ≡ number
IsRefusalOfOwn (Renumber number to) (Taken other) = other ≡ to
IsRefusalOfOwn (Show number) (Unknown other) = other ≡ number
IsRefusalOfOwn (Find query) BadQuery = ⊤
IsRefusalOfOwn (SetNew name) BadName = ⊤
IsRefusalOfOwn (SetNew name) SetTaken = ⊤
IsRefusalOfOwn (SetNew name) SetsFull = ⊤
IsRefusalOfOwn (SetAdd name number) (Unknown other) = other ≡ number
IsRefusalOfOwn (SetAdd name number) NoSuchSet = ⊤
IsRefusalOfOwn (SetAdd name number) SetFull = ⊤
IsRefusalOfOwn (SetCut name place) NoSuchSet = ⊤
IsRefusalOfOwn (SetCut name place) NoSuchPlace = ⊤
IsRefusalOfOwn (SetDrop name) NoSuchSet = ⊤
IsRefusalOfOwn (SetShow name) NoSuchSet = ⊤
IsRefusalOfOwn (ExportSet name) NoSuchSet = ⊤
IsRefusalOfOwn command refusal = ⊥

-- a refusal that a command may be given
abbrev pub IsRefusalOf : Command → Refusal → Type 0
IsRefusalOf command refusal = IsRefusalOfOwn command refusal ⊎ IsRefusalOfAny command refusal

-- whether a command may ask for memory, in a store that has its tunes in memory
abbrev pub takes_memory : Command → Bool
takes_memory (Delete number) = false
takes_memory (Renumber number to) = false
takes_memory (SetCut name place) = false
takes_memory (SetDrop name) = false
takes_memory Upgrade = false
takes_memory command = true
