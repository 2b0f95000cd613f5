-- The text of a tune on its chain.
use Rattle.std.specs.Prelude.{◌≡◌, ℕ, ◌^◌, ◌<◌, List}
use Rattle.abc_fields.specs.Tunes.{IsTextWithin}
use Rattle.tune_pages.specs.Stand.{Stand, HasChain}
use Rattle.tune_store.specs.Limits.{longest_text}
use Rattle.tune_store.specs.declared.layout.Layout.{Layout}
use Rattle.tune_format.specs.Written.{written_text}

-- these bytes are a revision and this text of a tune, within the limits of the layout
pub record IsTextOf (layout : Layout) (bytes : List ℕ) (revision : ℕ) (text : List ℕ) : Type 0 where
  pub written : written_text revision text ≡ bytes
  pub few : revision < 2 ^ 16
  pub good : IsTextWithin (longest_text layout) text

-- The chain that begins there is in use, and holds a revision and this text of a tune.
pub record HoldsText (layout : Layout) (s : Stand) (first revision : ℕ) (text : List ℕ)
    : Type 0 where
  pub trail : List ℕ
  pub bytes : List ℕ
  pub has : HasChain s first trail bytes
  pub is : IsTextOf layout bytes revision text

-- some text stands there
abbrev pub HoldsSomeText : Layout → Stand → ℕ → Type 0
HoldsSomeText layout s first =
    (revision : ℕ) × (text : List ℕ) × HoldsText layout s first revision text
