-- The file beside a copy that tells its sum.
use Rattle.std.specs.Prelude.{◌≡◌, ◌⊎◌, ℕ, List, ◌++◌, codes, take, slice_index, Ok}
use Rattle.std.specs.List.{Contains}
use Rattle.hex.specs.Hex.{decode_sized}
use Rattle.tune_desk.specs.DeskDeeds.{DeskDeed, looked, read}
use Rattle.tune_desk.specs.declared.desk.Standing.TheVariants.{Nothing}

-- COPY.sha256
abbrev pub sum_path : List ℕ → List ℕ
sum_path copy = copy ++ codes ".sha256"

-- A text begins with the 64 digits of this sum, and a blank.
pub record TellsSum (text sum : List ℕ) : Type 0 where
  pub digits : decode_sized (take 64 text) 32 ≡ Ok sum
  pub blank : slice_index text 64 ≡ 32

-- Nothing stands at COPY.sha256; or what stands there tells this sum.
abbrev pub AgreesWith : {D : Type 0} → List ℕ → List ℕ → List (DeskDeed D) → Type 0
AgreesWith copy sum since = Contains since (looked (sum_path copy) (Ok Nothing))
    ⊎ ((text : List ℕ) × Contains since (read (sum_path copy) (Ok text)) × TellsSum text sum)
