-- What an add does with FILE, and with the old texts beside it.
use Rattle.std.specs.Prelude.{◌≡◌, ◌≢◌, ◌⊎◌, ℕ, ◌+◌, List, [], ◌∷◌, ◌++◌}
use Rattle.std.specs.Prelude.{Bool, true, false, if◌then◌else◌, Some, None}
use Rattle.std.specs.Prelude.{Result, Ok, Err, IsOk, is_err}
use Rattle.sha2.specs.Sha256.{sha256}
use Rattle.abc_fields.specs.Books.{book_answer}
use Rattle.tune_disk.specs.declared.disk.Disk as disk
use Rattle.tune_disk.specs.declared.file.Access.TheVariants.{Change}
use Rattle.tune_scripts.specs.Carried.{IsCarried}
use Rattle.tune_store.specs.Limits.{longest_text}
use Rattle.tune_store.specs.declared.layout.Layout.{Layout}
use Rattle.tune_store.specs.declared.command.Command.TheVariants.{Import}
use Rattle.tune_store.specs.declared.command.Reply.{Reply}
use Rattle.tune_store.specs.declared.command.Refusal.{Refusal}
use Rattle.tune_store.specs.declared.tune_store.TuneStore as store
use Rattle.tune_archive.specs.AsStore.{store_on}
use Rattle.tune_archive.specs.Shelf.{Shelf}
use Rattle.tune_asking.specs.Asking.{IsOnlyAsked}
use Rattle.tune_desk.specs.DeskDeeds.{DeskDeed, closed}
use Rattle.tune_desk.specs.OldTexts.{Grows, GrowsNot}
use Rattle.tune_desk.specs.declared.desk.DeskFault.{DeskFault}
use Rattle.tune_undo.specs.declared.old_entries.EntryKind.{EntryKind}
use Rattle.tune_undo.specs.declared.old_entries.EntryKind.TheVariants.{Add, AddMore}
use Rattle.tune_undo.specs.declared.old_entries.After.TheVariants.{Text}
use Rattle.tune_undo.specs.declared.old_entries.Part.{Part}
use Rattle.tune_undo.specs.declared.old_entries.Part.TheVariants.{Tune}
use Rattle.tune_undo.specs.declared.old_entries.Entry.{Entry}
use Rattle.tune_undo.specs.OldEntries.{entry_value}
use Rattle.tune_undo.specs.EntryBytes.{entry_bytes}
use Rattle.desk_terms.specs.declared.adding.Adding.{Adding}
use Rattle.desk_scenes.specs.FileAnswers.{Did}
use Rattle.desk_scenes.specs.OpenedFile.{Opens}
use Rattle.desk_scenes.specs.Scenes.{IsQuiet}
use Rattle.desk_scenes.specs.Visits.{Visits}
use Rattle.desk_books.specs.Stages.{EachInTurn}
use Rattle.desk_books.specs.ChosenParts.{Chooses}
use Rattle.desk_books.specs.Givens.{Given, ReadsGivenBook, given_of}
use Rattle.desk_books.specs.KnownSums.{KnowsTexts}
use Rattle.desk_books.specs.TriedBooks.{TriesFound}
use Rattle.desk_books.specs.declared.taken_books.Course.{Course}
use Rattle.desk_books.specs.declared.taken_books.Intake.{Intake}

-- How far it has come: what was done with files, the store that takes books in, whether an entry
-- was kept, and whether one may stand whose tunes did not come.
pub record Reached (D S : Type 0) : Type 0 where
  pub deeds : List (DeskDeed D)
  pub store : S
  pub course : Course

abbrev pub reached_at : {D S : Type 0} → List (DeskDeed D) → S → Course → Reached D S
reached_at deeds store course = record { deeds = deeds; store = store; course = course }

abbrev pub reached_by : {D S : Type 0} → List (DeskDeed D) → Intake S → Reached D S
reached_by deeds intake = reached_at deeds intake.store intake.course

-- A store from its opening to its closing, and what was done with files meanwhile.
pub record Around (D S : Type 0) : Type 0 where
  pub start : S
  pub finish : S
  pub was : List (DeskDeed D)
  pub now : List (DeskDeed D)

-- ENTRIES
-- the first entry of an add begins it, and each later one goes on with it
abbrev pub added_kind : Bool → EntryKind
added_kind begun = if begun then AddMore else Add

-- tunes of these texts that come, with numbers from this one on
abbrev pub added_parts : ℕ → List (List ℕ) → List Part
added_parts first [] = []
added_parts first (text ∷ texts) =
    Tune first None (Text (sha256 text)) ∷ added_parts (first + 1) texts

-- An entry says that the tunes of this book come.
pub record IsAddOf (begun : Bool) (book : List ℕ) (entry : Entry) : Type 0 where
  pub layout : Layout
  pub texts : List (List ℕ)
  pub first : ℕ
  pub answer : book_answer (longest_text layout) book ≡ Ok texts
  pub kind : entry.kind ≡ added_kind begun
  pub parts : entry.parts.items ≡ added_parts first texts

-- what was done with files for a book
pub record BookDeeds (D : Type 0) : Type 0 where
  pub was : List (DeskDeed D)
  pub now : List (DeskDeed D)

-- An entry of this book was kept beside FILE, and nothing else was done with files.
abbrev pub KeepsBook : {D : Type 0} → List ℕ → List ℕ → BookDeeds D → Course → Course → Type 0
KeepsBook file book deeds old new = (entry : Entry) × IsAddOf old.begun book entry
    × Grows file (entry_bytes (entry_value entry)) deeds.was deeds.now
    × (new ≡ record old { begun = true })

-- ONE PART
-- A store carried out an import of just this book, and nothing else. Where that was refused its
-- entry stands, and so nothing is to come behind it.
pub record Imports {D S : Type 0} (kept : store.Ghosts S) (book : List ℕ) (old new : Reached D S)
    (answer : Result Reply Refusal) : Type 0 where
  pub carried : kept.honest new.store → IsCarried kept old.store
      (record { command = Import book; answer = answer; after = new.store })
  pub deeds : new.deeds ≡ old.deeds
  pub course : new.course ≡ record old.course { failed = is_err answer }

-- An entry of the book was kept, and then it was imported; the status is 0 where the store took it
-- in, and there alone.
abbrev pub TakesIn : {D S : Type 0} → store.Ghosts S → List ℕ → List ℕ → Reached D S → Reached D S
    → ℕ → Type 0
TakesIn {D} {S} kept file book old new status = (deeds : List (DeskDeed D)) × (course : Course)
    × (answer : Result Reply Refusal)
    × KeepsBook file book (record { was = old.deeds; now = deeds }) old.course course
    × Imports kept book (reached_at deeds old.store course) new answer
    × (status ≡ 0 → IsOk answer) × (IsOk answer → status ≡ 0)

-- Nothing was done but that an entry was to be kept, and was not: a device that failed may hold it
-- all the same, and so nothing is to come behind it.
abbrev pub StaysUnkept : {D S : Type 0} → List ℕ → Reached D S → Reached D S → Type 0
StaysUnkept file old new = GrowsNot file old.deeds new.deeds × (new.store ≡ old.store)
    × (new.course ≡ record old.course { failed = true })

-- A part of a book was taken in; or it is refused before that, or its entry could not be kept, and
-- the status says so.
abbrev pub TakesBook : {D S : Type 0} → store.Ghosts S → List ℕ → List ℕ → Reached D S
    → Reached D S → ℕ → Type 0
TakesBook kept file book old new status = TakesIn kept file book old new status
    ⊎ ((status ≢ 0) × ((new ≡ old) ⊎ StaysUnkept file old new))

-- ONE BOOK
-- Its parts were taken in, one after another, up to one that was not: then the status says so.
abbrev pub TakesParts : {D S : Type 0} → store.Ghosts S → List ℕ → List (List ℕ) → Reached D S
    → Reached D S → ℕ → Type 0
TakesParts kept file [] old new status = new ≡ old
TakesParts {D} {S} kept file (part ∷ parts) old new status = ((mid : Reached D S)
    × TakesBook kept file part old mid 0 × TakesParts kept file parts mid new status)
    ⊎ ((status ≢ 0) × (why : ℕ) × (why ≢ 0) × TakesBook kept file part old new why)

-- the same, where this is known
abbrev pub knowing : {D S : Type 0} → List (List ℕ) → Reached D S → Reached D S
knowing known reached = record reached { course = record reached.course { known = known } }

-- What is taken in of a book was chosen, and its parts were taken in; or nothing of it was chosen,
-- and the status says so.
abbrev pub TakesChosen : {D S : Type 0} → store.Ghosts S → Given → List ℕ → Reached D S
    → Reached D S → ℕ → Type 0
TakesChosen kept given book old new status = ((layout : Layout) × (known : List (List ℕ))
    × (parts : List (List ℕ))
    × Chooses given.how layout book (record { was = old.course.known; now = known }) parts
    × TakesParts kept given.file parts (knowing known old) new status)
    ⊎ ((known : List (List ℕ)) × (new ≡ knowing known old) × (status ≢ 0))

-- PATHS
-- what comes of a reading
abbrev pub TakesRead : {D S : Type 0} → store.Ghosts S → Given → Result (List ℕ) DeskFault
    → Reached D S → Reached D S → ℕ → Type 0
TakesRead kept given (Ok book) old new status = TakesChosen kept given book old new status
TakesRead kept given (Err fault) old new status = (new ≡ old) × (status ≢ 0)

-- A book was read and taken in, unless an entry may stand whose tunes did not come.
abbrev pub TakesPath : {D S : Type 0} → store.Ghosts S → Given → List ℕ → Reached D S → Reached D S
    → ℕ → Type 0
TakesPath {D} kept given path old new status =
    ((old.course.failed ≡ true) × (new ≡ old) × (status ≢ 0))
    ⊎ ((old.course.failed ≡ false) × (answer : Result (List ℕ) DeskFault)
    × (deeds : List (DeskDeed D)) × ReadsGivenBook given.input path answer old.deeds deeds
    × TakesRead kept given answer (record old { deeds = deeds }) new status)

-- each of these paths, in order
abbrev pub TakesPaths : {D S : Type 0} → store.Ghosts S → Given → List (List ℕ) → Reached D S
    → Reached D S → ℕ → Type 0
TakesPaths kept given paths old new status =
    EachInTurn (TakesPath kept given) paths old new status

-- THE WHOLE
-- nothing yet, where this is known
abbrev pub first_course : List (List ℕ) → Course
first_course known = record { begun = false; failed = false; known = known }

-- An open store was asked for its texts, where only new tunes are taken in.
pub record AsksTexts {S : Type 0} (kept : store.Ghosts S) (how : Adding) (old new : S)
    (known : List (List ℕ)) : Type 0 where
  pub asked : IsOnlyAsked kept old new
  pub told : kept.honest new → KnowsTexts how.only_new (kept.state old) known

-- So it was, and then the books of these paths were taken in; or it did not tell its texts, and
-- the status says so.
abbrev pub TakesAll : {D S : Type 0} → store.Ghosts S → Given → List (List ℕ) → Around D S → ℕ
    → Type 0
TakesAll {D} {S} kept given paths around status = ((asked : S) × (known : List (List ℕ))
    × AsksTexts kept given.how around.start asked known × (course : Course)
    × TakesPaths kept given paths (reached_at around.was asked (first_course known))
    (reached_at around.now around.finish course) status)
    ⊎ (IsOnlyAsked kept around.start around.finish × (around.now ≡ around.was)
    × (status ≢ 0))

-- FILE was opened to change, the books of these paths were taken in, and FILE was closed.
pub record TakesInto {D : Type 0} (disks : disk.Ghosts D) (given : Given) (paths : List (List ℕ))
    (was now : List (DeskDeed D)) (status : ℕ) : Type 0 where
  pub around : Around D (Shelf D)
  pub opens : Opens disks given.file Change around.start was around.was
  pub takes : TakesAll (store_on disks) given paths around status
  pub disk : D
  pub held : around.finish.pages.disk ≡ Some disk
  pub closes : now ≡ around.now ++ closed given.file disk ∷ []

-- Books were taken in; or FILE was not opened, and the status says so.
abbrev pub TakesFound : {D : Type 0} → disk.Ghosts D → Given → List (List ℕ)
    → List (DeskDeed D) → List (DeskDeed D) → ℕ → Type 0
TakesFound disks given paths was now status = TakesInto disks given paths was now status
    ⊎ (Did was now (Visits disks given.file Change) × (status ≢ 0))

-- They were only tried, where this is asked for, or taken in.
abbrev pub AddsFound : {D : Type 0} → disk.Ghosts D → Given → List (List ℕ)
    → List (DeskDeed D) → List (DeskDeed D) → ℕ → Type 0
AddsFound disks given paths was now status =
    ((given.how.dry ≡ true) × TriesFound disks given paths was now status)
    ⊎ ((given.how.dry ≡ false) × TakesFound disks given paths was now status)

-- What comes of an add of these paths: books were looked for and found, and then taken in, or only
-- tried; or the add was refused before FILE was opened, and nothing was done but to look at files.
abbrev pub Adds : {D : Type 0} → disk.Ghosts D → List ℕ → Adding → List (DeskDeed D)
    → List (DeskDeed D) → ℕ → Type 0
Adds {D} disks file how was now status = (IsQuiet was now × (status ≢ 0))
    ⊎ ((found : List (List ℕ)) × (input : List ℕ) × (mid : List (DeskDeed D))
    × IsQuiet was mid × AddsFound disks (given_of file input how) found mid now status)
