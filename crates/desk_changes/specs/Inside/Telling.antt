-- What calls come to that tell something.
use Rattle.std.specs.Prelude.{◌≡◌, ℕ, List, ◌++◌, Option, None, Some}
use Rattle.tune_store.specs.State.{State}
use Rattle.tune_store.specs.declared.tune_store.TuneStore.{Ghosts}
use Rattle.desk_changes.specs.TakenBack.{Stood}
use Rattle.desk_changes.specs.ToldChanges.{last_of}
use Rattle.desk_changes.specs.ToldUndoings.{out_line, tunes_out}

-- the bytes that were told before a call, and behind it
pub record ToldBytes : Type 0 where
  pub was : List ℕ
  pub now : List ℕ

-- These more were told, and this is so of them.
pub record Tells (told : ToldBytes) (Is : List ℕ → Type 0) : Type 0 where
  pub more : List ℕ
  pub are : told.now ≡ told.was ++ more
  pub so : Is more

-- What more was told of a store, which stayed open, are the bytes for the state that it had.
abbrev pub TellsOf : {S : Type 0} → Ghosts S → S → S → ToldBytes → (State → List ℕ) → Type 0
TellsOf kept old new told bytes =
    Tells told (λ more. Stood kept old new (λ state. more ≡ bytes state))

-- tunes that are out again, behind those from a first to a last one, if there are any
abbrev pub span_out : Option (ℕ × ℕ) → List ℕ → List ℕ
span_out None tunes = tunes_out tunes
span_out (Some span) tunes = out_line span.0 (last_of span.1 tunes)
