-- A store of which questions alone are asked.
use Rattle.std.specs.Prelude.{◌≡◌, ◌⊎◌, List, true, false, Result, Ok, Err, MatchResult}
use Rattle.std.specs.List.{AllByRecursion}
use Rattle.tune_scripts.specs.Carried.{Carried, CarriesAllOut}
use Rattle.tune_store.specs.Answers.{asks}
use Rattle.tune_store.specs.declared.command.Refusal.{Refusal}
use Rattle.tune_store.specs.declared.command.Refusal.TheVariants.{OutOfMemory, Device}
use Rattle.tune_store.specs.declared.tune_store.TuneStore.{Ghosts}

-- From one store to another by questions alone, one after another, each by one call.
pub record CarriesOutQuestions {S : Type 0} (kept : Ghosts S) (old new : S) : Type 0 where
  pub carried : List (Carried S)
  pub carries_out : CarriesAllOut kept old carried new
  pub questions : AllByRecursion (λ next. asks next.command ≡ true) carried

-- A store was asked questions, and nothing else: it is as it was, and so is its device.
pub record IsOnlyAsked {S : Type 0} (kept : Ghosts S) (old new : S) : Type 0 where
  -- whether its device was honest is known only after it answered
  pub was_honest : kept.honest new → kept.honest old
  pub same_state : kept.honest new → kept.state new ≡ kept.state old
  pub same_moment : kept.honest new → kept.moment new ≡ kept.moment old
  pub stays_sound : kept.sound old → kept.sound new
  pub carried : kept.honest new → CarriesOutQuestions kept old new

-- memory ran out, or the device failed
abbrev pub IsFault : Refusal → Type 0
IsFault refusal = (refusal ≡ OutOfMemory) ⊎ (refusal ≡ Device)

-- an answer is the one that is to be told, or a fault
abbrev pub IsToldOrFault : {A : Type 0} → Result A Refusal → Result A Refusal → Type 0
IsToldOrFault told answer = MatchResult answer (λ value. told ≡ Ok value)
    (λ refusal. (told ≡ Err refusal) ⊎ IsFault refusal)
