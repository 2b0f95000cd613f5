-- What the entries of an index hold of tunes, each a number and a text (own profile).
use Rattle.std.specs.Prelude.{◌≡◌, ◌≢◌, ℕ, ◌^◌, ◌<◌, ◌==◌, List, Contains, map, filter}
use Rattle.std.specs.List.{AllByRecursion}
use Rattle.index_keys.specs.Entries.{Entry}

-- the two lists have the same members
pub record SameMembers {X : Type 0} (list others : List X) : Type 0 where
  pub forth : (one : X) → Contains list one → Contains others one
  pub back : (one : X) → Contains others one → Contains list one

-- WHICH TUNES
-- each number is below 2 ^ 32, as the value of an entry has to be
abbrev pub AreSmall : {Text : Type 0} → List (ℕ × Text) → Type 0
AreSmall {Text} tunes = (tune : ℕ × Text) → Contains tunes tune → tune.0 < 2 ^ 32

-- no two tunes have one number
abbrev pub HaveOwnNumbers : {Text : Type 0} → List (ℕ × Text) → Type 0
HaveOwnNumbers {Text} tunes = (tune other : ℕ × Text) → Contains tunes tune
    → Contains tunes other → tune.0 ≡ other.0 → tune ≡ other

-- The others are the tunes but for the one that is gone, whose number it alone had.
pub record IsWithout {Text : Type 0} (gone : ℕ × Text) (tunes others : List (ℕ × Text))
    : Type 0 where
  pub among : (tune : ℕ × Text) → Contains others tune → Contains tunes tune
  pub apart : (tune : ℕ × Text) → Contains others tune → tune.0 ≢ gone.0
  pub one : (tune : ℕ × Text) → Contains tunes tune → tune.0 ≡ gone.0 → tune ≡ gone
  pub rest : (tune : ℕ × Text) → Contains tunes tune → tune.0 ≢ gone.0 → Contains others tune

-- THEIR ENTRIES
-- The entries are exactly those of the tunes: the number of each at each key of its text.
pub record HoldsEntries {Text : Type 0} (keys_of : Text → List ℕ) (tunes : List (ℕ × Text))
    (entries : List Entry) : Type 0 where
  pub held : (tune : ℕ × Text) (key : ℕ) → Contains tunes tune → Contains (keys_of tune.1) key
      → Contains entries (key, tune.0)
  pub only : (entry : Entry) → Contains entries entry → (tune : ℕ × Text)
      × Contains tunes tune × (tune.0 ≡ entry.1) × Contains (keys_of tune.1) entry.0

-- the keys at which a number stands, in order
abbrev pub keys_at : ℕ → List Entry → List ℕ
keys_at number entries = map (λ entry. entry.0) (filter (λ entry. entry.1 == number) entries)

-- The same, one tune after another: each number stands at the keys of its tune, and each entry's
-- number is that of a tune.
pub record HoldsByNumber {Text : Type 0} (keys_of : Text → List ℕ) (tunes : List (ℕ × Text))
    (entries : List Entry) : Type 0 where
  pub each : AllByRecursion (λ tune. keys_at tune.0 entries ≡ keys_of tune.1) tunes
  pub known : AllByRecursion (λ entry. Contains (map (λ tune. tune.0) tunes) entry.1) entries
