-- What the pages of an archive hold, as bytes and as entries. Numbers have the highest byte first.
-- RootOffsets.antt says where they stand.
use Rattle.std.specs.Prelude.{◌≡◌, ℕ, ◌-◌, ◌*◌, ◌^◌, List, ◌++◌, drop, map, replicate}
use Rattle.byteorder.specs.Endian.{big_bytes, big_number}
use Rattle.index_keys.specs.Entries.{Entry}
use Rattle.tune_journal.specs.FileOffsets.{block_bytes}
use Rattle.tune_store.specs.Limits.{layout_number}
use Rattle.tune_store.specs.declared.layout.Layout.{Layout}
use Rattle.tune_store.specs.declared.tune.Tune.{Tune}
use Rattle.tune_format.specs.RootOffsets.{version_offset, numbers_offset, titles_offset}
use Rattle.tune_format.specs.RootOffsets.{rhythms_offset, scales_offset, incipits_offset}
use Rattle.tune_format.specs.RootOffsets.{sets_offset}
use Rattle.tune_format.specs.RootOffsets.{number_bytes, revision_bytes, zeros_of_key}
use Rattle.tune_format.specs.declared.root.Firsts.{Firsts}
use Rattle.tune_format.specs.declared.rows.Row.{Row}

-- the number in the four bytes there
abbrev pub number_at : ℕ → List ℕ → ℕ
number_at offset bytes = big_number number_bytes (drop offset bytes)

-- THE ROOT
-- It says the number of the layout, and where the lists of the indexes and the set lists begin.
pub record IsRoot (layout : Layout) (image : List ℕ) (firsts : Firsts) : Type 0 where
  pub is_version : number_at version_offset image ≡ layout_number layout
  pub numbers : number_at numbers_offset image ≡ firsts.numbers
  pub titles : number_at titles_offset image ≡ firsts.searches.titles
  pub rhythms : number_at rhythms_offset image ≡ firsts.searches.rhythms
  pub scales : number_at scales_offset image ≡ firsts.searches.scales
  pub incipits : number_at incipits_offset image ≡ firsts.searches.incipits
  pub sets : number_at sets_offset image ≡ firsts.sets

-- what a root says, as bytes
abbrev pub head_of_root : Layout → Firsts → List ℕ
head_of_root layout firsts = big_bytes number_bytes (layout_number layout)
    ++ (big_bytes number_bytes firsts.numbers ++ (big_bytes number_bytes firsts.searches.titles
    ++ (big_bytes number_bytes firsts.searches.rhythms
    ++ (big_bytes number_bytes firsts.searches.scales
    ++ (big_bytes number_bytes firsts.searches.incipits
    ++ big_bytes number_bytes firsts.sets)))))

-- a root as it is written: zeros behind what it says
unfoldable pub root_bytes : Layout → Firsts → List ℕ
root_bytes layout firsts =
    head_of_root layout firsts ++ replicate (block_bytes - 7 * number_bytes) 0

-- the root of an archive without a page besides
abbrev pub no_firsts : Firsts
no_firsts = record {
  numbers = 0;
  searches = record { titles = 0; rhythms = 0; scales = 0; incipits = 0 };
  sets = 0;
}

-- TUNES
-- the key of a number in the index of numbers: its four bytes, and zeros
abbrev pub number_key : ℕ → ℕ
number_key number = number * 256 ^ zeros_of_key

-- the entry of a tune in that index: at the key of its number the first page of its chain
abbrev pub row_entry : Row → Entry
row_entry row = (number_key row.number, row.first)

abbrev pub number_entries : List Row → List Entry
number_entries rows = map row_entry rows

-- a revision, in two bytes, and a text
abbrev pub written_text : ℕ → List ℕ → List ℕ
written_text revision text = big_bytes revision_bytes revision ++ text

-- a tune, as its chain holds it
abbrev pub stored_tune : Tune → List ℕ
stored_tune tune = written_text tune.revision tune.text
