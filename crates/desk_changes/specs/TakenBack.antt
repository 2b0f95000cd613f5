-- What it means that a change is undone, by the entries that it left in the book of old texts.
use Rattle.std.specs.Prelude.{◌≡◌, ◌≢◌, ◌⊎◌, ◌||◌, ℕ, List, [], ◌∷◌, ◌++◌, map, Bool, true, false}
use Rattle.std.specs.Prelude.{if◌then◌else◌, Option, None, Some, Result, Ok, Err}
use Rattle.std.specs.List.{AllByRecursion}
use Rattle.std.specs.Option.{option_to_list}
use Rattle.std.specs.Str.{bytes_eq}
use Rattle.tune_disk.specs.declared.disk.Disk as disk
use Rattle.tune_store.specs.State.{State, tune_at}
use Rattle.tune_store.specs.declared.command.Command.TheVariants.{Renumber}
use Rattle.tune_store.specs.declared.command.Refusal.{Refusal}
use Rattle.tune_store.specs.declared.command.Reply.{Reply}
use Rattle.tune_store.specs.declared.tune.Tune.{Tune}
use Rattle.tune_store.specs.declared.tune_store.TuneStore.{Ghosts}
use Rattle.tune_pages.specs.Kept.{HonestAt}
use Rattle.tune_archive.specs.AsStore.{store_on}
use Rattle.tune_archive.specs.Shelf.{Shelf, state_of}
use Rattle.tune_asking.specs.Asking.{IsOnlyAsked}
use Rattle.tune_changes.specs.Aims.{aimed_back}
use Rattle.tune_changes.specs.Carrying.{Carries}
use Rattle.tune_changes.specs.Judging.{verdict_on}
use Rattle.tune_changes.specs.declared.judging.Verdict.TheVariants.{Before, Changed}
use Rattle.tune_changes.specs.declared.turns.Aim.{Aim}
use Rattle.tune_changes.specs.declared.turns.Aim.TheVariants as aim
use Rattle.tune_undo.specs.EntryBytes.{entry_bytes, mark_bytes}
use Rattle.tune_undo.specs.OldEntries.{EntryValue, StepValue}
use Rattle.tune_undo.specs.declared.old_entries.After.TheVariants.{Nothing}
use Rattle.tune_undo.specs.declared.old_entries.EntryKind.TheVariants.{Kept}
use Rattle.tune_undo.specs.declared.old_entries.Mark.{Mark}
use Rattle.tune_undo.specs.declared.old_entries.Mark.TheVariants.{Undone, Undoing}
use Rattle.tune_undo.specs.declared.old_entries.Part.{Part}
use Rattle.tune_undo.specs.declared.old_entries.Part.TheVariants as subject
use Rattle.tune_desk.specs.DeskDeeds.{DeskDeed}
use Rattle.tune_desk.specs.OldTexts.{Grows, GrowsNot}
use Rattle.desk_changes.specs.ChangedFiles.{Passage}
use Rattle.desk_changes.specs.OldChanges.{BookChange}
use Rattle.desk_changes.specs.ToldUndoings.{undone_bytes}

-- nothing was done
abbrev pub IsStill : {D : Type 0} → Passage D → Type 0
IsStill course = (course.finish ≡ course.start) × (course.now ≡ course.was)

-- LOOKING
-- no part of an entry was changed meanwhile
abbrev pub IsUnchanged : List Part → State → Type 0
IsUnchanged parts state = (place : ℕ) → verdict_on parts state ≢ Changed place

-- nor was one of any entry of a change
abbrev pub AreUnchanged : BookChange → State → Type 0
AreUnchanged change state = AllByRecursion (λ step. IsUnchanged step.entry.parts state) change

-- An open store stayed open, and this is so of the state that it had.
pub record Stood {S : Type 0} (kept : Ghosts S) (old new : S) (Is : State → Type 0) : Type 0 where
  pub stays : kept.closed old ≡ false → kept.closed new ≡ false
  pub was : kept.closed old ≡ false → kept.honest new → Is (kept.state old)

-- WHAT GOES IS KEPT
abbrev pub is_text : Option (List ℕ) → List ℕ → Bool
is_text None text = false
is_text (Some was) text = bytes_eq was text

-- the text of a tune goes where it is there, and is not the one that it was
abbrev pub gone_text : ℕ → Option (List ℕ) → Option Tune → Option Part
gone_text number was None = None
gone_text number was (Some tune) =
    if is_text was tune.text then None else Some (subject.Tune number (Some tune.text) Nothing)

abbrev pub gone_by : Part → State → Option Part
gone_by (subject.Tune number was is) state = gone_text number was (tune_at number state.tunes)
gone_by (subject.Set name was is) state = None

-- the texts that go where these parts are brought to what they were
abbrev pub all_gone_by : List Part → State → List Part
all_gone_by [] state = []
all_gone_by (part ∷ parts) state = option_to_list (gone_by part state) ++ all_gone_by parts state

-- they are kept as an entry that is no change
abbrev pub entry_of_texts : List Part → EntryValue
entry_of_texts parts = record { kind = Kept; parts = parts }

-- an entry of texts was put at the end of the book of old texts, if there are any
abbrev pub KeepsOldTexts : {D : Type 0} → List ℕ → List Part → List (DeskDeed D) → List (DeskDeed D)
    → Type 0
KeepsOldTexts file [] was now = now ≡ was
KeepsOldTexts file parts was now = Grows file (entry_bytes (entry_of_texts parts)) was now

-- FILE was asked for the texts that go, and they were kept.
pub record KeepsGone {D : Type 0} (disks : disk.Ghosts D) (file : List ℕ) (parts : List Part)
    (course : Passage D) : Type 0 where
  pub gone : List Part
  pub asked : IsOnlyAsked (store_on disks) course.start course.finish
  pub are : course.start.closed ≡ false → HonestAt disks.honest course.finish.pages.disk
      → gone ≡ all_gone_by parts (state_of disks.state course.start)
  pub keeps : KeepsOldTexts file gone course.was course.now

-- A STOP WITHIN AN UNDOING
-- At most one tune was to get another number, which was answered so; before that FILE was asked.
abbrev pub RenumbersOne : {D : Type 0} → disk.Ghosts D → (Result Reply Refusal → Type 0)
    → Shelf D → Shelf D → Type 0
RenumbersOne {D} disks Is start finish = IsOnlyAsked (store_on disks) start finish
    ⊎ ((mid : Shelf D) × (number : ℕ) × (to : ℕ) × (result : Result Reply Refusal) × Is result
    × IsOnlyAsked (store_on disks) start mid
    × Carries (store_on disks) mid finish (Renumber number to ∷ []) result)

abbrev pub IsAccepted : Result Reply Refusal → Type 0
IsAccepted result = (reply : Reply) × (result ≡ Ok reply)

-- A mark was put that an undoing begins; or, where it was begun before, a tune that had come back
-- without its number got it.
abbrev pub BeginsUndoing : {D : Type 0} → disk.Ghosts D → List ℕ → Option ℕ → Passage D → Type 0
BeginsUndoing disks file None course = (course.finish ≡ course.start)
    × ((greatest : ℕ) × Grows file (mark_bytes (Undoing greatest)) course.was course.now)
BeginsUndoing disks file (Some greatest) course =
    RenumbersOne disks IsAccepted course.start course.finish × (course.now ≡ course.was)

-- ONE ENTRY
-- each tune and set list to what it was
abbrev pub aim_by : Part → Aim
aim_by (subject.Tune number was is) = aim.Tune number was
aim_by (subject.Set name was is) = aim.Set name was

abbrev pub aims_by : List Part → List Aim
aims_by parts = map aim_by parts

-- Each part was brought to what it was, the last first; then the mark was put that the entry is
-- undone; then it was told, of the archive that this made, which was asked questions alone.
pub record BringsBack {D : Type 0} (disks : disk.Ghosts D) (file : List ℕ) (entry : EntryValue)
    (told : List ℕ) (course : Passage D) : Type 0 where
  pub last : Shelf D
  pub carried : Carries {T = Unit {0}} (store_on disks) course.start last
      (aimed_back (aims_by entry.parts) (state_of disks.state course.start)) (Ok tt)
  pub marked : Grows file (mark_bytes Undone) course.was course.now
  pub asked : IsOnlyAsked (store_on disks) last course.finish
  pub tells : Stood (store_on disks) last course.finish (λ state. told ≡ undone_bytes entry state)

-- An entry was taken back: it was judged first, by questions alone, and none of its parts was
-- changed meanwhile; the texts that go were kept, and the undoing was begun; then each part was
-- brought to what it was, the mark was put, and these bytes were told.
pub record TakesEntryBack {D : Type 0} (disks : disk.Ghosts D) (file : List ℕ) (step : StepValue)
    (told : List ℕ) (course : Passage D) : Type 0 where
  pub judged : Shelf D
  pub kept : Shelf D
  pub ready : Shelf D
  pub was_kept : List (DeskDeed D)
  pub was_begun : List (DeskDeed D)
  pub asked : IsOnlyAsked (store_on disks) course.start judged
  pub stood : Stood (store_on disks) course.start judged (IsUnchanged step.entry.parts)
  pub keeps : KeepsGone disks file step.entry.parts
      (record { start = judged; finish = kept; was = course.was; now = was_kept })
  pub begins : BeginsUndoing disks file step.begun
      (record { start = kept; finish = ready; was = was_kept; now = was_begun })
  pub brings : BringsBack disks file step.entry told
      (record course { start = ready; was = was_begun })

-- An entry was found as it was before the change, by questions alone, and no undoing of it was
-- begun: then the mark alone was put.
pub record FindsAsBefore {D : Type 0} (disks : disk.Ghosts D) (file : List ℕ) (step : StepValue)
    (course : Passage D) : Type 0 where
  pub unbegun : step.begun ≡ None
  pub asked : IsOnlyAsked (store_on disks) course.start course.finish
  pub stood : Stood (store_on disks) course.start course.finish
      (λ state. verdict_on step.entry.parts state ≡ Before)
  pub marked : Grows file (mark_bytes Undone) course.was course.now

-- whether there was something to be taken back, and what was told of it
abbrev pub UndoesEntry : {D : Type 0} → disk.Ghosts D → List ℕ → StepValue → Bool → List ℕ
    → Passage D → Type 0
UndoesEntry disks file step true told course = TakesEntryBack disks file step told course
UndoesEntry disks file step false told course =
    (told ≡ []) × FindsAsBefore disks file step course

-- The book of old texts grew by one entry of texts at most, or by one mark at most.
abbrev pub KeepsTextsOrNot : {D : Type 0} → List ℕ → List (DeskDeed D) → List (DeskDeed D)
    → Type 0
KeepsTextsOrNot file was now = GrowsNot file was now
    ⊎ ((texts : List Part) × Grows file (entry_bytes (entry_of_texts texts)) was now)

abbrev pub MarksOrNot : {D : Type 0} → List ℕ → (Mark → Type 0) → List (DeskDeed D)
    → List (DeskDeed D) → Type 0
MarksOrNot file Is was now = GrowsNot file was now
    ⊎ ((mark : Mark) × Is mark × Grows file (mark_bytes mark) was now)

abbrev pub IsBeginning : Mark → Type 0
IsBeginning mark = (greatest : ℕ) × (mark ≡ Undoing greatest)

-- Where no part was changed meanwhile, each part was brought to what it was, and then the mark was
-- put, or not; or a refusal ended it before that, and the mark was not put.
abbrev pub BringsSome : {D : Type 0} → disk.Ghosts D → List ℕ → List Part → Shelf D → Passage D
    → Type 0
BringsSome disks file parts last course =
    (Carries {T = Unit {0}} (store_on disks) course.start last
    (aimed_back (aims_by parts) (state_of disks.state course.start)) (Ok tt)
    × MarksOrNot file (λ mark. mark ≡ Undone) course.was course.now)
    ⊎ ((refusal : Refusal) × Carries {T = Unit {0}} (store_on disks) course.start last
    (aimed_back (aims_by parts) (state_of disks.state course.start)) (Err refusal)
    × (course.now ≡ course.was))

-- It was broken off: after questions at most a tune got its number, which a stop had left without
-- it, and the texts that go and the mark that an undoing begins were kept at most; then it ended,
-- or the parts were brought to what they were, or some of them. It is marked as undone only where
-- all of them were.
pub record BreaksOffEntry {D : Type 0} (disks : disk.Ghosts D) (file : List ℕ) (parts : List Part)
    (course : Passage D) : Type 0 where
  pub judged : Shelf D
  pub ready : Shelf D
  pub last : Shelf D
  pub was_kept : List (DeskDeed D)
  pub was_begun : List (DeskDeed D)
  pub asked : IsOnlyAsked (store_on disks) course.start judged
  pub renumbers : RenumbersOne disks (λ result. Unit {0}) judged ready
  pub keeps : KeepsTextsOrNot file course.was was_kept
  pub begins : MarksOrNot file IsBeginning was_kept was_begun
  pub ends : ((last ≡ ready) × (course.now ≡ was_begun))
      ⊎ (Stood (store_on disks) course.start judged (IsUnchanged parts)
      × BringsSome disks file parts last (record course { start = ready; was = was_begun }))
  pub told : IsOnlyAsked (store_on disks) last course.finish

-- ONE CHANGE
-- Its entries were undone, the last one first; whether there was something to be taken back, and
-- what was told of them, one after another.
abbrev pub UndoesEntries : {D : Type 0} → disk.Ghosts D → List ℕ → BookChange → Bool → List ℕ
    → Passage D → Type 0
UndoesEntries disks file [] some told course = (some ≡ false) × (told ≡ []) × IsStill course
UndoesEntries {D} disks file (step ∷ later) some told course =
    (mid : Shelf D) × (deeds : List (DeskDeed D)) × (of_later : Bool) × (of_this : Bool)
    × (told_later : List ℕ) × (told_this : List ℕ)
    × UndoesEntries disks file later of_later told_later
    (record course { finish = mid; now = deeds })
    × UndoesEntry disks file step of_this told_this (record course { start = mid; was = deeds })
    × (some ≡ (of_later || of_this)) × (told ≡ told_later ++ told_this)

-- FILE was asked first, for every entry of it, and no part was changed meanwhile.
pub record FindsUnchanged {D : Type 0} (disks : disk.Ghosts D) (change : BookChange)
    (start finish : Shelf D) : Type 0 where
  pub asked : IsOnlyAsked (store_on disks) start finish
  pub stood : Stood (store_on disks) start finish (AreUnchanged change)

-- A change was undone: it was found unchanged, and then its entries were undone.
abbrev pub UndoesChange : {D : Type 0} → disk.Ghosts D → List ℕ → BookChange → Bool → List ℕ
    → Passage D → Type 0
UndoesChange {D} disks file change some told course = (looked : Shelf D)
    × FindsUnchanged disks change course.start looked
    × UndoesEntries disks file change some told (record course { start = looked })

-- Its entries were undone from the last one on, and then one was broken off.
abbrev pub BreaksOffEntries : {D : Type 0} → disk.Ghosts D → List ℕ → BookChange → Passage D
    → Type 0
BreaksOffEntries {D} disks file change course =
    (earlier : BookChange) × (step : StepValue) × (later : BookChange) × (some : Bool)
    × (told : List ℕ) × (mid : Shelf D) × (deeds : List (DeskDeed D))
    × (change ≡ earlier ++ step ∷ later)
    × UndoesEntries disks file later some told (record course { finish = mid; now = deeds })
    × BreaksOffEntry disks file step.entry.parts (record course { start = mid; was = deeds })

-- A change was not undone: FILE was asked, and nothing else was done, as where a part was changed
-- meanwhile; or it was found unchanged, and then broken off.
abbrev pub BreaksOffChange : {D : Type 0} → disk.Ghosts D → List ℕ → BookChange → Passage D → Type 0
BreaksOffChange {D} disks file change course =
    (IsOnlyAsked (store_on disks) course.start course.finish × (course.now ≡ course.was))
    ⊎ ((looked : Shelf D) × FindsUnchanged disks change course.start looked
    × BreaksOffEntries disks file change (record course { start = looked }))
