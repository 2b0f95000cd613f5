-- How many pages an archive uses at most, by its layout.
use Rattle.std.specs.Prelude.{ℕ, ◌+◌, ◌*◌}
use Rattle.abc_fields.specs.Limits.{most_titles}
use Rattle.tune_pages.specs.Faults.{pages_for}
use Rattle.tune_search.specs.SearchPages.{most_entries}
use Rattle.tune_store.specs.Limits.{longest_text, most_tunes}
use Rattle.tune_store.specs.declared.layout.Layout.{Layout}
use Rattle.tune_store.specs.declared.layout.Layout.TheVariants.{One, Two}
use Rattle.tune_format.specs.RootOffsets.{number_bytes, revision_bytes}

-- the chain of a tune: 4 pages in layout 1
abbrev pub most_tune_pages : Layout → ℕ
most_tune_pages layout = pages_for (longest_text layout + revision_bytes)

-- that of the set lists, in each layout
abbrev pub most_sets_pages : ℕ
most_sets_pages = 104

-- the list of an index with so many leaves for each tune
abbrev pub most_list_pages : ℕ → Layout → ℕ
most_list_pages leaves layout = pages_for (number_bytes * (leaves * most_tunes layout))

-- the index of numbers, which has no more leaves than entries: 20,020
abbrev pub most_number_pages : Layout → ℕ
most_number_pages layout = most_tunes layout + most_list_pages 1 layout

-- the search indexes: 220,217
abbrev pub most_search_pages : Layout → ℕ
most_search_pages layout = most_entries * most_tunes layout
    + (most_list_pages most_titles layout + 3 * most_list_pages 1 layout)

-- all chains and leaves of a state: 320,341
abbrev pub most_part_pages : Layout → ℕ
most_part_pages layout = most_tunes layout * most_tune_pages layout
    + (most_number_pages layout + (most_search_pages layout + most_sets_pages))

-- these, and the root: 320,342
abbrev pub most_used : Layout → ℕ
most_used layout = 1 + most_part_pages layout

-- the same in numbers
abbrev pub most_in_use : Layout → ℕ
most_in_use One = 320342
most_in_use Two = 1400693

-- so many pages are enough for the state before a command and the one after it together
abbrev pub enough_pages : Layout → ℕ
enough_pages One = 640684
enough_pages Two = 2801386
