-- How a name lies in place.
use Rattle.std.specs.Prelude.{◌≡◌, ℕ, ◌-◌, ◌≤◌, List, ◌++◌, length, take, replicate, true}
use Rattle.tune_sets.specs.Limits.{longest_name}
use Rattle.tune_sets.specs.Names.{is_good_name}

-- a name with zeros after it
abbrev pub padded_name : List ℕ → List ℕ
padded_name name = name ++ replicate (longest_name - length name) 0

-- room for the longest name, with a good name of this length at its front, and zeros after it
pub record IsHeldName (len : ℕ) (bytes : List ℕ) : Type 0 where
  pub short : len ≤ longest_name
  pub size : length (take len bytes) ≡ len
  pub good : is_good_name (take len bytes) ≡ true
  pub zeros : padded_name (take len bytes) ≡ bytes
