-- The entries of texts, one text after another.
use Rattle.std.specs.Prelude.{ℕ, ◌∷◌, ◌++◌, [], List, map}
use Rattle.index_keys.specs.Entries.{Entry}

-- a number at each of these keys
abbrev pub entries_at_keys : ℕ → List ℕ → List Entry
entries_at_keys number keys = map (λ key. (key, number)) keys

-- the number of each tune at each of its keys
abbrev pub entries_of_tunes : (List ℕ → List ℕ) → List (ℕ × List ℕ) → List Entry
entries_of_tunes keys_of [] = []
entries_of_tunes keys_of (tune ∷ tunes) =
    entries_at_keys tune.0 (keys_of tune.1) ++ entries_of_tunes keys_of tunes
