-- Entries of incipits as an opening holds them: most keys by their steps, the others whole.
use Rattle.std.specs.Prelude.{◌≡◌, ℕ, ◌+◌, ◌<◌, ◌≤◌, List, length, map, slice_index}
use Rattle.std.specs.Prelude.{slice_index_or}
use Rattle.std.specs.List.{AllByRecursion}
use Rattle.index_keys.specs.Cuts.{cut_number}
use Rattle.index_keys.specs.Entries.{Entry}
use Rattle.tune_incipit.specs.ScaleAndIncipitKeys.{bytes_of_steps}
use Rattle.tune_search.specs.declared.held_keys.HeldKey.{HeldKey}
use Rattle.tune_search.specs.declared.held_keys.HeldKey.TheVariants as held

-- What contracts see of held entries: the keys as they are held, with values, and those keys that
-- are kept whole.
pub record HeldShape : Type 0 where
  pub entries : List (HeldKey × ℕ)
  pub others : List ℕ

-- the key of so many bytes that is held: that of the steps, or one of those that are kept whole
abbrev pub whole_key : ℕ → List ℕ → HeldKey → ℕ
whole_key width others (held.Steps steps) = cut_number width 0 (bytes_of_steps steps)
whole_key width others (held.Other place) = slice_index others place

-- an entry, with its key whole
abbrev pub whole_entry : ℕ → List ℕ → HeldKey × ℕ → Entry
whole_entry width others entry = (whole_key width others entry.0, entry.1)

-- the entries, in order
abbrev pub held_entries : ℕ → HeldShape → List Entry
held_entries width shape = map (whole_entry width shape.others) shape.entries

-- A key is that of steps, or one of so many that are kept whole.
abbrev pub IsKeptKey : ℕ → HeldKey → Type 0
IsKeptKey count (held.Steps steps) = Unit {0}
IsKeptKey count (held.Other place) = place < count

-- Each key is there, no more keys are kept whole than there are entries, and this is the last
-- entry, where there is one.
pub record AreHeldEntries (width : ℕ) (entries : List (HeldKey × ℕ)) (others : List ℕ)
    (last : Entry) : Type 0 where
  pub kept : AllByRecursion (λ entry. IsKeptKey (length others) entry.0) entries
  pub few : length others ≤ length entries
  pub is_last : (i : ℕ) → i + 1 ≡ length entries
      → last ≡ slice_index_or (map (whole_entry width others) entries) i last
