-- What an archive holds: a plain list of tunes, and set lists that name them.
use Rattle.std.specs.Prelude.{ℕ, ◌<◌, ◌≤◌, List, [], ◌∷◌, Bool, length, max, ⊤, ◌==◌}
use Rattle.std.specs.Prelude.{if◌then◌else◌, Option, None, Some, IsSome}
use Rattle.std.specs.List.{AllByRecursion}
use Rattle.abc_fields.specs.Tunes.{IsTuneText}
use Rattle.tune_sets.specs.Sets.{AreSetLists}
use Rattle.tune_sets.specs.declared.set_lists.TuneSet.{TuneSet}
use Rattle.tune_store.specs.declared.layout.Layout.{Layout}
use Rattle.tune_store.specs.declared.layout.Layout.TheVariants.{One}
use Rattle.tune_store.specs.declared.tune.Tune.{Tune}
use Rattle.tune_store.specs.Limits.{longest_text, most_tunes, greatest_number, greatest_revision}

-- a layout, tunes by rising number, and set lists by rising name
pub record State : Type 0 where
  pub layout : Layout
  pub tunes : List Tune
  pub sets : List TuneSet

-- the state of an archive of a layout in which nothing is yet
abbrev pub empty_of : Layout → State
empty_of layout = record { layout = layout; tunes = []; sets = [] }

-- that of a new archive in memory
abbrev pub empty_state : State
empty_state = empty_of One

-- what a store stands for, and whether an earlier call was answered by a fault of its device
pub record Standing : Type 0 where
  pub state : State
  pub closed : Bool

-- the same of a store, by what it stands for and whether it is closed
abbrev pub standing_by : {S : Type 0} → (S → State) → (S → Bool) → S → Standing
standing_by state closed store = record { state = state store; closed = closed store }

-- the tune of a number
abbrev pub tune_at : ℕ → List Tune → Option Tune
tune_at number [] = None
tune_at number (tune ∷ tunes) = if tune.number == number then Some tune else tune_at number tunes

-- the greatest number, or 0
abbrev pub greatest : List Tune → ℕ
greatest [] = 0
greatest (tune ∷ tunes) = max tune.number (greatest tunes)

-- numbers rise strictly, and are above this one
abbrev pub NumbersRiseFrom : ℕ → List Tune → Type 0
NumbersRiseFrom low [] = ⊤
NumbersRiseFrom low (tune ∷ tunes) = (low < tune.number) × NumbersRiseFrom tune.number tunes

-- a tune within the limits
pub record IsTune (layout : Layout) (tune : Tune) : Type 0 where
  pub revised : 0 < tune.revision
  pub revision : tune.revision ≤ greatest_revision
  pub text : IsTuneText tune.text
  pub fits : length tune.text ≤ longest_text layout

-- tunes within the limits, by rising number
pub record IsTunes (layout : Layout) (tunes : List Tune) : Type 0 where
  pub rises : NumbersRiseFrom 0 tunes
  pub numbers : greatest tunes ≤ greatest_number
  pub each : AllByRecursion (IsTune layout) tunes
  pub count : length tunes ≤ most_tunes layout

-- each of these numbers is that of a tune
abbrev pub AreHeld : List Tune → List ℕ → Type 0
AreHeld tunes numbers = AllByRecursion (λ number. IsSome (tune_at number tunes)) numbers

-- each place of each set names a tune
abbrev pub NameTunes : List Tune → List TuneSet → Type 0
NameTunes tunes sets = AllByRecursion (λ set. AreHeld tunes set.numbers) sets

-- a state within the limits
pub record IsState (state : State) : Type 0 where
  pub tunes : IsTunes state.layout state.tunes
  pub sets : AreSetLists state.sets
  pub named : NameTunes state.tunes state.sets
