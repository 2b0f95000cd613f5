-- What a file is read as, whatever it holds: functions that are total.
use Rattle.std.specs.Prelude.{ℕ, zero, suc, ◌+◌, ◌*◌, ◌/◌, ◌^◌, List, [], ◌∷◌, ◌++◌, length, take}
use Rattle.std.specs.Prelude.{drop, map, ◌==◌, if◌then◌else◌}
use Rattle.std.specs.List.{flat_map}
use Rattle.byteorder.specs.Endian.{big_number}
use Rattle.index_keys.specs.Entries.{Entry}
use Rattle.tune_index.specs.Leaves.{leaf_in}
use Rattle.tune_index.specs.ListedLeaves.{numbers_in}
use Rattle.tune_journal.specs.Image.{gate_of, count_of, new_count_of, log_of, pages_of}
use Rattle.tune_journal.specs.FileOffsets.{gate_open}
use Rattle.tune_journal.specs.Pages.{page_at, changed_pages}
use Rattle.tune_pages.specs.Chain.{next_page_of, piece_of}
use Rattle.tune_search.specs.Searches.{key_bytes}
use Rattle.tune_sets.specs.declared.set_lists.TuneSet.{TuneSet}
use Rattle.tune_store.specs.Limits.{layout_number}
use Rattle.tune_store.specs.declared.layout.Layout.{Layout}
use Rattle.tune_store.specs.declared.layout.Layout.TheVariants.{One, Two}
use Rattle.tune_store.specs.declared.tune.Tune.{Tune}
use Rattle.tune_format.specs.RootOffsets.{numbers_offset, sets_offset, number_bytes, revision_bytes}
use Rattle.tune_format.specs.RootOffsets.{version_offset, zeros_of_key}
use Rattle.tune_format.specs.Written.{number_at}

-- CHAINS
-- the bytes on the pages of a chain from a page on, at most so many
abbrev pub bytes_from : ℕ → List (List ℕ) → ℕ → List ℕ
bytes_from zero pages page = []
bytes_from (suc most) pages page =
    if page == 0 then []
    else piece_of (page_at pages page) ++ bytes_from most pages (next_page_of (page_at pages page))

-- the bytes of the chain that begins there
abbrev pub chain_at : List (List ℕ) → ℕ → List ℕ
chain_at pages first = bytes_from (length pages) pages first

-- INDEXES
-- the entries of the leaves that the chain from a page on lists, one leaf after another
abbrev pub entries_at : List (List ℕ) → ℕ → List Entry
entries_at pages first =
    let list = chain_at pages first in
    flat_map (λ page. leaf_in key_bytes (page_at pages page))
    (numbers_in (length list / number_bytes) list)

-- TUNES
-- a tune, by its number and its chain
abbrev pub tune_of : ℕ → List ℕ → Tune
tune_of number bytes = record {
  number = number;
  revision = big_number revision_bytes bytes;
  text = drop revision_bytes bytes;
}

-- the tune of an entry of the index of numbers
abbrev pub tune_at_entry : List (List ℕ) → Entry → Tune
tune_at_entry pages entry = tune_of (entry.0 / 256 ^ zeros_of_key) (chain_at pages entry.1)

-- SETS
-- so many numbers, four bytes each
abbrev pub numbers_in_bytes : ℕ → List ℕ → List ℕ
numbers_in_bytes zero bytes = []
numbers_in_bytes (suc count) bytes = number_at 0 bytes
    ∷ numbers_in_bytes count (drop number_bytes bytes)

-- behind the name the number of its places, in two bytes
abbrev pub place_count_in : List ℕ → ℕ
place_count_in bytes = big_number 2 bytes

-- the sets of these bytes, at most so many: of each the length of its name, the name, the number of
-- its places, and the numbers at them
abbrev pub sets_of : ℕ → List ℕ → List TuneSet
sets_of zero bytes = []
sets_of (suc most) [] = []
sets_of (suc most) (size ∷ bytes) =
    record {
      name = take size bytes;
      numbers = numbers_in_bytes (place_count_in (drop size bytes)) (drop (size + 2) bytes);
    } ∷ sets_of most (drop (size + 2 + number_bytes * place_count_in (drop size bytes)) bytes)

abbrev pub sets_written : List ℕ → List TuneSet
sets_written bytes = sets_of (length bytes) bytes

-- PAGES AND FILES
-- the layout that pages are read in: the second where the root says so, else the first
abbrev pub layout_in : List (List ℕ) → Layout
layout_in pages =
    if number_at version_offset (page_at pages 0) == layout_number Two then Two else One

-- the tunes and the sets that pages are read as
abbrev pub tunes_in : List (List ℕ) → List Tune
tunes_in pages =
    map (tune_at_entry pages) (entries_at pages (number_at numbers_offset (page_at pages 0)))

abbrev pub sets_in : List (List ℕ) → List TuneSet
sets_in pages = sets_written (chain_at pages (number_at sets_offset (page_at pages 0)))

-- the pages that a file is read as: those in their places, or behind an open gate those that its
-- log makes of them
abbrev pub pages_in : List ℕ → List (List ℕ)
pages_in file =
    if gate_of file == gate_open
    then changed_pages (pages_of (new_count_of file) file) (log_of file)
    else pages_of (count_of file) file
