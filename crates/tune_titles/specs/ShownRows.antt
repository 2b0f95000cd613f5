-- Rows of an index of titles as it shows them (own profile).
use Rattle.std.specs.Prelude.{ℕ, List}
use Rattle.std.specs.Ordering.{nat_cmp, ordering_then}
use Rattle.std.specs.Cmp.Lexicographic.{slice_cmp}
use Rattle.std.specs.declared.cmp.Ordering.{Ordering}
use Rattle.tune_titles.specs.Order.{PlacedTitle}
use Rattle.tune_titles.specs.Titles.{sorting_title, index_title}

-- by what a title is sorted, the title as the index shows it, the number of the tune, and the place
-- among the titles of that tune
pub record Shown : Type 0 where
  pub sorting : List ℕ
  pub title : List ℕ
  pub number : ℕ
  pub place : ℕ

abbrev pub shown_row : PlacedTitle → Shown
shown_row row = record {
  sorting = sorting_title row.title;
  title = index_title row.title;
  number = row.number;
  place = row.place;
}

-- the order of such rows is that of their titles
abbrev pub shown_order : Shown → Shown → Ordering
shown_order a b = ordering_then (slice_cmp nat_cmp a.sorting b.sorting)
    (ordering_then (nat_cmp a.number b.number) (nat_cmp a.place b.place))
