-- This archive's file format: which list of pages a file stands for. FileOffsets.antt says where
-- its parts stand. Numbers have four bytes, the highest first.
use Rattle.std.specs.Prelude.{◌≡◌, ◌≢◌, ◌⊎◌, ℕ, ◌+◌, ◌*◌, ◌<◌, ◌≤◌, List, length, take, drop, map}
use Rattle.std.specs.Prelude.{slice_index, All}
use Rattle.byteorder.specs.Endian.{big_number}
use Rattle.std.specs.List.{range_with_len}
use Rattle.tune_journal.specs.FileOffsets.{block_bytes, magic, magic_offset, magic_bytes}
use Rattle.tune_journal.specs.FileOffsets.{gate_offset}
use Rattle.tune_journal.specs.FileOffsets.{gate_open, descriptor_offset, entry_count_offset}
use Rattle.tune_journal.specs.FileOffsets.{count_offset, pages_offset, log_entry_bytes}
use Rattle.tune_journal.specs.FileOffsets.{least_length}
use Rattle.tune_journal.specs.FileOffsets.{most_pages}
use Rattle.tune_journal.specs.Pages.{changed_pages}
use Rattle.std.specs.List.Sorted.{IsStrictlyIncreasing}

-- the n bytes from there on
abbrev pub window : ℕ → ℕ → List ℕ → List ℕ
window at n file = take n (drop at file)

-- the number there
unfoldable pub number : ℕ → List ℕ → ℕ
number at file = big_number 4 (window at 4 file)

-- where a page stands
abbrev pub page_offset : ℕ → ℕ
page_offset page = pages_offset + block_bytes * page

-- entry i of the log behind m pages
abbrev pub entry_offset : ℕ → ℕ → ℕ
entry_offset m i = pages_offset + block_bytes * m + log_entry_bytes * i

-- the first n pages, each at its offset
unfoldable pub pages_of : ℕ → List ℕ → List (List ℕ)
pages_of n file = map (λ p. window (page_offset p) block_bytes file) (range_with_len 0 n)

-- k entries of the log behind m pages: the number of a page, and its image
unfoldable pub entries : ℕ → ℕ → List ℕ → List (ℕ × List ℕ)
entries m k file =
    map (λ i. (number (entry_offset m i) file, window (entry_offset m i + 4) block_bytes file))
    (range_with_len 0 k)

-- what a file says, part by part
abbrev pub magic_of : List ℕ → List ℕ
magic_of file = window magic_offset magic_bytes file

abbrev pub count_of : List ℕ → ℕ
count_of file = number count_offset file

-- the page count that the log leads to
abbrev pub new_count_of : List ℕ → ℕ
new_count_of file = number descriptor_offset file

-- and the number of its entries
abbrev pub entry_count_of : List ℕ → ℕ
entry_count_of file = number entry_count_offset file

abbrev pub log_of : List ℕ → List (ℕ × List ℕ)
log_of file = entries (new_count_of file) (entry_count_of file) file

abbrev pub gate_of : List ℕ → ℕ
gate_of file = slice_index file gate_offset

-- A log names pages below m, each above the last.
pub record IsLog (m : ℕ) (log : List (ℕ × List ℕ)) : Type 0 where
  pub some : 0 < length log
  pub few : length log ≤ m
  pub rising : IsStrictlyIncreasing (map (λ e. e.0) log)
  pub below : All (λ e. e.0 < m) log

-- The file begins with the magic, and has room for a page.
pub record IsHeaded (file : List ℕ) : Type 0 where
  pub magic : magic_of file ≡ magic
  pub long : least_length ≤ length file

-- It has room for n pages, which are as many as there may be.
pub record HasPageCount (n : ℕ) (file : List ℕ) : Type 0 where
  pub least : 1 ≤ n
  pub most : n ≤ most_pages
  pub long : page_offset n ≤ length file

-- It has a whole log of k entries behind m pages.
pub record HasLog (m k : ℕ) (file : List ℕ) : Type 0 where
  pub count : HasPageCount m file
  pub long : entry_offset m k ≤ length file
  pub log : IsLog m (entries m k file)

-- Behind a closed gate the pages stand at their offsets; behind an open one so they do, but for
-- those that the log names.
pub record StandsFor (pages : List (List ℕ)) (file : List ℕ) : Type 0 where
  pub headed : IsHeaded file
  pub is_closed : gate_of file ≢ gate_open
      → HasPageCount (count_of file) file × (pages ≡ pages_of (count_of file) file)
  pub is_open : gate_of file ≡ gate_open
      → HasLog (new_count_of file) (entry_count_of file) file
      × (pages ≡ changed_pages (pages_of (new_count_of file) file) (log_of file))

-- before or after
abbrev pub StandsForEither : List (List ℕ) → List (List ℕ) → List ℕ → Type 0
StandsForEither before after file = StandsFor before file ⊎ StandsFor after file

-- this file stands for no pages
abbrev pub StandsForNone : List ℕ → Type 0
StandsForNone file = (pages : List (List ℕ)) → StandsFor pages file → ⊥
