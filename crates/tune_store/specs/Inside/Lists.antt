-- What the calls of an archive in memory give, over its lists.
use Rattle.std.specs.Prelude.{◌≡◌, ℕ, ◌<◌, ◌≤◌, List, length, true, Result, Ok, Err, Some}
use Rattle.std.specs.List.{AllWithin}
use Rattle.tune_sets.specs.declared.set_lists.TuneSet.{TuneSet}
use Rattle.tune_store.specs.declared.layout.Layout.{Layout}
use Rattle.tune_store.specs.State.{State}
use Rattle.tune_store.specs.Plans.{after, changed, grows}
use Rattle.tune_store.specs.declared.tune.Tune.{Tune}
use Rattle.tune_store.specs.declared.plans.Change.{Change}
use Rattle.tune_store.specs.declared.plans.Plan.{Plan}
use Rattle.tune_store.specs.declared.command.Reply.{Reply}
use Rattle.tune_store.specs.declared.command.Refusal.{Refusal}
use Rattle.tune_store.specs.declared.command.Refusal.TheVariants.{OutOfMemory}

-- the state of a layout, a list of tunes and of sets
abbrev pub state_with : Layout → List Tune → List TuneSet → State
state_with layout tunes sets = record { layout = layout; tunes = tunes; sets = sets }

-- from this state to that a plan was carried out, and its reply given; or memory ran out, which the
-- change asked for, and the state is as it was
abbrev pub CarriedOut : State → Plan → Result Reply Refusal → State → Type 0
CarriedOut old plan (Ok reply) new = (reply ≡ plan.reply) × (new ≡ after plan.change old)
CarriedOut old plan (Err refusal) new =
    (refusal ≡ OutOfMemory) × (new ≡ old) × (grows plan.change ≡ true)

-- the same of a change alone
abbrev pub Made : State → Change → Result (Unit {0}) Refusal → State → Type 0
Made old change (Ok done) new = new ≡ changed change old
Made old change (Err refusal) new =
    (refusal ≡ OutOfMemory) × (new ≡ old) × (grows (Some change) ≡ true)

-- the place of the first tune whose number is not below this one, or behind the last
pub record IsPlaceFrom (number : ℕ) (tunes : List Tune) (place : ℕ) : Type 0 where
  pub within : place ≤ length tunes
  pub before : AllWithin (λ tune. tune.number < number) tunes 0 place
  pub behind : AllWithin (λ tune. number ≤ tune.number) tunes place (length tunes)

-- the place of the first tune of a greater number, or behind the last
pub record IsPlaceAfter (number : ℕ) (tunes : List Tune) (place : ℕ) : Type 0 where
  pub within : place ≤ length tunes
  pub before : AllWithin (λ tune. tune.number ≤ number) tunes 0 place
  pub behind : AllWithin (λ tune. number < tune.number) tunes place (length tunes)
