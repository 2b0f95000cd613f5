-- How many pages the search indexes have, and where their lists begin.
use Rattle.std.specs.Prelude.{◌≡◌, ℕ, ◌+◌, ◌*◌, ◌≤◌, true, length, List}
use Rattle.abc_fields.specs.Limits.{most_titles}
use Rattle.tune_pages.specs.Faults.{pages_for}
use Rattle.tune_search.specs.Searches.{SearchShape}
use Rattle.tune_search.specs.declared.loading.SearchFirsts.{SearchFirsts}

-- LEAVES
-- how many leaves the four have
abbrev pub leaf_count : SearchShape → ℕ
leaf_count shape = length shape.titles.pages + length shape.rhythms.pages
    + length shape.scales.pages + length shape.incipits.pages

-- how many entries a tune has at most: one for each title, and one of each other kind
abbrev pub most_entries : ℕ
most_entries = most_titles + 3

-- Each index has no more leaves than the tunes may have entries there.
pub record HasFewLeaves (shape : SearchShape) (tunes : List (ℕ × List ℕ)) : Type 0 where
  pub titles : length shape.titles.pages ≤ most_titles * length tunes
  pub rhythms : length shape.rhythms.pages ≤ length tunes
  pub scales : length shape.scales.pages ≤ length tunes
  pub incipits : length shape.incipits.pages ≤ length tunes

-- LISTS
-- where those of the four begin
abbrev pub firsts_in : SearchShape → SearchFirsts
firsts_in shape = record {
  titles = shape.titles.first;
  rhythms = shape.rhythms.first;
  scales = shape.scales.first;
  incipits = shape.incipits.first;
}

-- no leaf of the four came or went since they were stored
pub record AreListed (shape : SearchShape) : Type 0 where
  pub titles : shape.titles.listed ≡ true
  pub rhythms : shape.rhythms.listed ≡ true
  pub scales : shape.scales.listed ≡ true
  pub incipits : shape.incipits.listed ≡ true

-- how many pages they take: four bytes for each leaf
abbrev pub lists_of : SearchShape → ℕ
lists_of shape = pages_for (4 * length shape.titles.pages)
    + pages_for (4 * length shape.rhythms.pages) + pages_for (4 * length shape.scales.pages)
    + pages_for (4 * length shape.incipits.pages)
