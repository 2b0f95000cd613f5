-- What a stop (a crash or power loss) may have left of a store, over one call or many.
use Rattle.std.specs.Prelude.{◌≡◌, ℕ, ◌-◌, ◌^◌, ◌<◌, ◌≤◌, List, [], ◌∷◌, ◌⊎◌}
use Rattle.tune_store.specs.State.{State}

-- a state is one of these
abbrev pub Among : State → List State → Type 0
Among state [] = ⊥
Among state (other ∷ others) = (state ≡ other) ⊎ Among state others

-- a file stands for one of these states
abbrev pub StandsForOne : (List ℕ → State → Type 0) → List State → List ℕ → Type 0
StandsForOne stands_for [] file = ⊥
StandsForOne stands_for (state ∷ states) file =
    stands_for file state ⊎ StandsForOne stands_for states file

-- the count of failures rose, or stood at the greatest that it can have
abbrev pub HasFailed : ℕ → ℕ → Type 0
HasFailed old new = (old < new) ⊎ (2 ^ 64 - 1 ≤ old)

-- What is told of a store, by the members of its trait: whether its device has answered as a
-- device does, and whether it is sound; its state; how far its device has come; which files a stop
-- may have left at a moment, and since one; and whether a file stands for a state.
pub record Tellings (S : Type 0) : Type 1 where
  pub honest : S → Type 0
  pub sound : S → Type 0
  pub state : S → State
  pub moment : S → ℕ
  pub left_at : S → ℕ → List ℕ → Type 0
  pub left_since : S → ℕ → List ℕ → Type 0
  pub stands_for : List ℕ → State → Type 0

-- which files a stop may have left of a store at a moment, and since one
pub record LeftBy (S : Type 0) : Type 1 where
  pub at : S → ℕ → List ℕ → Type 0
  pub since : S → ℕ → List ℕ → Type 0

-- these members, as one value
abbrev pub tellings : {S : Type 0} → (S → Type 0) → (S → Type 0) → (S → State) → (S → ℕ)
    → LeftBy S → (List ℕ → State → Type 0) → Tellings S
tellings honest sound state moment left stands_for = record {
  honest = honest;
  sound = sound;
  state = state;
  moment = moment;
  left_at = left.at;
  left_since = left.since;
  stands_for = stands_for;
}

-- From `old` to `new` a store passed these states.
pub record Passes {S : Type 0} (store : Tellings S) (old new : S) (states : List State)
    : Type 0 where
  -- it stands for one of them now, or for the state that it stood for
  pub reaches : store.honest new → Among (store.state new) (store.state old ∷ states)
  -- whether its device was honest is known only after it answered
  pub was_honest : store.honest new → store.honest old
  pub stays_sound : store.sound old → store.sound new
  pub later : store.honest new → store.moment old ≤ store.moment new
  -- what a stop might have left by then, it might still have left: no past is taken back
  pub keeps : store.honest new → (since : ℕ) (file : List ℕ)
      → store.left_since old since file → store.left_since new since file
  -- and at a moment that has come by then a stop leaves no other file later on
  pub recalls : store.honest new → (at : ℕ) (file : List ℕ) → at ≤ store.moment old
      → store.left_at new at file → store.left_at old at file
  -- beside that it may have left files that stand for one of them, or for the state before, alone
  pub leaves : store.sound old → store.honest new → (since : ℕ) (file : List ℕ)
      → since ≤ store.moment old → store.left_since new since file
      → store.left_since old since file
      ⊎ StandsForOne store.stands_for (store.state old ∷ states) file
