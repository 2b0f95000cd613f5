-- Entries in order, each key kept once.
use Rattle.std.specs.Prelude.{ℕ, ◌<◌, ◌≤◌, List, length, map, slice_index, slice_index_or}
use Rattle.std.specs.List.{AllByRecursion}
use Rattle.index_keys.specs.Entries.{Entry}

-- What contracts see of grouped entries: their keys, and for each entry, in order, the number of
-- its key among these, from 0 on, with its value.
pub record Grouped : Type 0 where
  pub keys : List ℕ
  pub places : List (ℕ × ℕ)

-- the entry that such a place stands for
abbrev pub placed_entry : List ℕ → ℕ × ℕ → Entry
placed_entry keys place = (slice_index keys place.0, place.1)

-- the entries, in order
abbrev pub grouped_entries : Grouped → List Entry
grouped_entries grouped = map (placed_entry grouped.keys) grouped.places

-- the entry at a place, where there is one
abbrev pub nth_entry : List Entry → ℕ → Entry
nth_entry entries place = slice_index_or entries place (0, 0)

-- Each entry has one of the keys, and there are no more keys than entries.
pub record IsGrouped (keys : List ℕ) (places : List (ℕ × ℕ)) : Type 0 where
  pub known : AllByRecursion (λ place. place.0 < length keys) places
  pub few : length keys ≤ length places
