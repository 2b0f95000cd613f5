-- What a call that asks a store comes to.
use Rattle.std.specs.Prelude.{◌≡◌, ◌⊎◌, ℕ, List, true, false, Option, Some, None}
use Rattle.std.specs.Prelude.{Result, Ok, Err, MatchResult}
use Rattle.tune_store.specs.Labels.{labels_of}
use Rattle.tune_store.specs.State.{State, tune_at}
use Rattle.tune_store.specs.declared.catalog.Label.{Label}
use Rattle.tune_store.specs.declared.tune.Tune.{Tune}
use Rattle.tune_store.specs.declared.command.Refusal.{Refusal}
use Rattle.tune_store.specs.declared.command.Refusal.TheVariants.{Device, Unknown}
use Rattle.tune_store.specs.declared.tune_store.TuneStore.{Ghosts}
use Rattle.tune_asking.specs.Asking.{IsOnlyAsked, IsFault}

-- what an accepted answer is at a state, and for what a state is refused
pub record Meaning (T : Type 0) : Type 1 where
  pub good : State → T → Type 0
  pub refused : State → Refusal → Type 0

-- Questions were asked, from `old` to `new`; an open store is closed only by a failure of its
-- device; and the answer means this of its state, or is a fault.
pub record Call {S T : Type 0} (kept : Ghosts S) (old new : S) (meaning : Meaning T)
    (result : Result T Refusal) : Type 0 where
  pub asked : IsOnlyAsked kept old new
  pub stays : kept.closed old ≡ false
      → MatchResult result (λ _. kept.closed new ≡ false)
      (λ refusal. kept.closed new ≡ true → refusal ≡ Device)
  pub answer : kept.closed old ≡ false → kept.honest new
      → MatchResult result (meaning.good (kept.state old))
      (λ refusal. meaning.refused (kept.state old) refusal ⊎ IsFault refusal)

-- an answer is what is told of the state
abbrev pub told_by : {T : Type 0} → (State → Result T Refusal) → Meaning T
told_by told = record {
  good = λ state value. told state ≡ Ok value;
  refused = λ state refusal. told state ≡ Err refusal;
}

-- a tune, or that none has the number
abbrev pub tune_or : ℕ → Option Tune → Result Tune Refusal
tune_or number None = Err (Unknown number)
tune_or number (Some tune) = Ok tune

-- the tune of a number
abbrev pub tune_told : ℕ → State → Result Tune Refusal
tune_told number state = tune_or number (tune_at number state.tunes)

-- what is told of the state, where these labels are those of its tunes
abbrev pub told_where : {T : Type 0} → List Label → (State → Result T Refusal) → Meaning T
told_where labels told = record {
  good = λ state value. labels ≡ labels_of state.tunes → told state ≡ Ok value;
  refused = λ state refusal. labels ≡ labels_of state.tunes → told state ≡ Err refusal;
}
