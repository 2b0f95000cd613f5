-- Lists of keys, and the ranges in which they are looked for (own profile).
use Rattle.std.specs.Prelude.{ℕ, ◌+◌, ◌≤◌, List, [], ◌∷◌, if◌then◌else◌, nat_lt, Contains}

-- the keys rise strictly, from this one on
abbrev pub KeysRise : ℕ → List ℕ → Type 0
KeysRise low [] = Unit {0}
KeysRise low (key ∷ keys) = (low ≤ key) × KeysRise (key + 1) keys

-- the keys with this one in its place; one that is there stays
abbrev pub with_key : ℕ → List ℕ → List ℕ
with_key key [] = key ∷ []
with_key key (other ∷ keys) =
    if nat_lt key other then key ∷ other ∷ keys
    else (if nat_lt other key then other ∷ with_key key keys else other ∷ keys)

-- these keys in rising order, each once
abbrev pub rising_keys : List ℕ → List ℕ
rising_keys [] = []
rising_keys (key ∷ keys) = with_key key (rising_keys keys)

-- one of the keys is from low to high, both included
pub record HasKeyWithin (keys : List ℕ) (low high : ℕ) : Type 0 where
  pub key : ℕ
  pub among : Contains keys key
  pub from : low ≤ key
  pub to : key ≤ high
