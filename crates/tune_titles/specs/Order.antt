-- The order of titles in an index (own profile).
use Rattle.std.specs.Prelude.{◌≡◌, ℕ, List, [], ◌∷◌, if◌then◌else◌}
use Rattle.std.specs.List.Sorted.{IsPermutation, IsSorted, IsStrictlySortedBy}
use Rattle.std.specs.Ordering.{is_lt, nat_cmp, ordering_then}
use Rattle.std.specs.Cmp.Lexicographic.{slice_cmp}
use Rattle.std.specs.declared.cmp.Ordering.{Ordering}
use Rattle.tune_titles.specs.Articles.{small_letters}
use Rattle.tune_titles.specs.Titles.{sorting_title}

-- a title, the number of its tune, and its place among the titles of that tune
pub record PlacedTitle : Type 0 where
  pub title : List ℕ
  pub number : ℕ
  pub place : ℕ

-- texts in byte order, but for capitals
abbrev pub small_order : List ℕ → List ℕ → Ordering
small_order a b = slice_cmp nat_cmp (small_letters a) (small_letters b)

-- by sorting title in byte order, then by number, then by place
abbrev pub row_order : PlacedTitle → PlacedTitle → Ordering
row_order a b = ordering_then
    (slice_cmp nat_cmp (sorting_title a.title) (sorting_title b.title))
    (ordering_then (nat_cmp a.number b.number) (nat_cmp a.place b.place))

-- an element put before the first that does not come before it
abbrev pub put_in : {X : Type 0} → (X → X → Ordering) → X → List X → List X
put_in cmp x [] = x ∷ []
put_in cmp x (first ∷ xs) =
    if is_lt (cmp first x) then first ∷ put_in cmp x xs else x ∷ first ∷ xs

-- the elements in order; those that neither comes before the other stay as they stood
abbrev pub in_order : {X : Type 0} → (X → X → Ordering) → List X → List X
in_order cmp [] = []
in_order cmp (x ∷ xs) = put_in cmp x (in_order cmp xs)

-- THE SAME IN A READER'S WORDS
-- they are the same rows, none comes before one above it, and the rows have no other order in which
-- each comes before those below it
pub record LawOfOrder (rows : List PlacedTitle) : Type 0 where
  pub same : IsPermutation rows (in_order row_order rows)
  pub rises : IsSorted row_order (in_order row_order rows)
  pub only : (others : List PlacedTitle) → IsPermutation rows others
      → IsStrictlySortedBy row_order others → others ≡ in_order row_order rows
