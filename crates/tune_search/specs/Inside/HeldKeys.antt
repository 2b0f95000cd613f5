-- The key that each number has in an index in which it has one at most.
use Rattle.std.specs.Prelude.{◌≡◌, ℕ, ◌<◌, List, [], ◌∷◌, length, slice_index}
use Rattle.index_keys.specs.Entries.{Entry}
use Rattle.index_keys.specs.Groups.{Grouped, grouped_entries}
use Rattle.index_keys.specs.Holdings.{keys_at}

-- A number has these keys: none; one, and which; or more, which a count of 2 stands for.
abbrev pub HasKeys : List ℕ → ℕ → ℕ → Type 0
HasKeys [] count key = count ≡ 0
HasKeys (first ∷ []) count key = (count ≡ 1) × (key ≡ first)
HasKeys (first ∷ (second ∷ later)) count key = count ≡ 2

-- for each of the numbers how many keys it has, and the first
pub record AreKeysHeld (numbers : List ℕ) (es : List Entry) (counts keys : List ℕ) : Type 0 where
  pub counted : length counts ≡ length numbers
  pub keyed : length keys ≡ length numbers
  pub each : (k : ℕ) → k < length numbers
      → HasKeys (keys_at (slice_index numbers k) es) (slice_index counts k) (slice_index keys k)

-- the same where each key is kept once: for each of the numbers which of the keys is its first
pub record AreHeldInGroups (numbers : List ℕ) (grouped : Grouped) (counts ids : List ℕ)
    : Type 0 where
  pub counted : length counts ≡ length numbers
  pub placed : length ids ≡ length numbers
  pub within : (k : ℕ) → k < length numbers → 0 < slice_index counts k
      → slice_index ids k < length grouped.keys
  pub each : (k : ℕ) → k < length numbers
      → HasKeys (keys_at (slice_index numbers k) (grouped_entries grouped))
      (slice_index counts k) (slice_index grouped.keys (slice_index ids k))
