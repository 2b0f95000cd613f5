-- How many pages the lists of four indexes take, stored one after another.
use Rattle.std.proofs.Common.{◌≡◌, ℕ, ◌+◌, ◌*◌, ◌<◌, ◌≤◌, length, arith}
use Rattle.tune_index.specs.Indexes.{Shape}
use Rattle.tune_pages.specs.Faults.{free_pages, pages_for}
use Rattle.tune_pages.specs.Stand.{Stand}
use Rattle.tune_pages.specs.declared.fault.Fault.{Fault}
use Rattle.tune_pages.specs.declared.fault.Fault.TheVariants.{FileFull}
use Rattle.tune_search.specs.SearchPages.{lists_of}
use Rattle.tune_search.specs.Searches.{SearchShape}

-- ONE LIST
-- how many pages it takes, that it took no more, and that fewer were free
abbrev pub list_of : Shape → ℕ
list_of shape = pages_for (4 * length shape.pages)

abbrev pub Takes : Stand → Stand → Shape → Type 0
Takes old new shape = free_pages old.used ≤ free_pages new.used + list_of shape

abbrev pub IsFull : Fault → Stand → Shape → Type 0
IsFull fault s shape = fault ≡ FileFull → free_pages s.used < list_of shape

-- FOUR OF THEM, AS NUMBERS
four_sum : (a0 a1 a2 a3 a4 t r c i : ℕ) → a0 ≤ a1 + t → a1 ≤ a2 + r → a2 ≤ a3 + c → a3 ≤ a4 + i → a0 ≤ a4 + (t + r + c + i)
four_sum a0 a1 a2 a3 a4 t r c i one two three four = omega arith

no_first : (a0 t r c i : ℕ) → a0 < t → a0 < t + r + c + i
no_first a0 t r c i none = omega arith

no_second : (a0 a1 t r c i : ℕ) → a0 ≤ a1 + t → a1 < r → a0 < t + r + c + i
no_second a0 a1 t r c i one none = omega arith

no_third : (a0 a1 a2 t r c i : ℕ) → a0 ≤ a1 + t → a1 ≤ a2 + r → a2 < c → a0 < t + r + c + i
no_third a0 a1 a2 t r c i one two none = omega arith

no_fourth : (a0 a1 a2 a3 t r c i : ℕ) → a0 ≤ a1 + t → a1 ≤ a2 + r → a2 ≤ a3 + c → a3 < i → a0 < t + r + c + i
no_fourth a0 a1 a2 a3 t r c i one two three none = omega arith

-- AS LISTS
pub four_take : (s0 s1 s2 s3 s4 : Stand) (was : SearchShape) → Takes s0 s1 was.titles → Takes s1 s2 was.rhythms → Takes s2 s3 was.scales
    → Takes s3 s4 was.incipits → free_pages s0.used ≤ free_pages s4.used + lists_of was
four_take s0 s1 s2 s3 s4 was one two three four = four_sum (free_pages s0.used) (free_pages s1.used) (free_pages s2.used) (free_pages s3.used)
    (free_pages s4.used) (list_of was.titles) (list_of was.rhythms) (list_of was.scales) (list_of was.incipits) one two three four

-- one of them found the file full
module _ (fault : Fault) (s0 : Stand) (was : SearchShape) where
  pub no_titles_take : IsFull fault s0 was.titles → fault ≡ FileFull → free_pages s0.used < lists_of was
  no_titles_take full is =
      no_first (free_pages s0.used) (list_of was.titles) (list_of was.rhythms) (list_of was.scales) (list_of was.incipits) (full is)

  pub no_rhythms_take : (s1 : Stand) → Takes s0 s1 was.titles → IsFull fault s1 was.rhythms → fault ≡ FileFull → free_pages s0.used < lists_of was
  no_rhythms_take s1 one full is = no_second (free_pages s0.used) (free_pages s1.used) (list_of was.titles) (list_of was.rhythms)
      (list_of was.scales) (list_of was.incipits) one (full is)

  pub no_scales_take : (s1 s2 : Stand) → Takes s0 s1 was.titles → Takes s1 s2 was.rhythms → IsFull fault s2 was.scales → fault ≡ FileFull
      → free_pages s0.used < lists_of was
  no_scales_take s1 s2 one two full is = no_third (free_pages s0.used) (free_pages s1.used) (free_pages s2.used) (list_of was.titles)
      (list_of was.rhythms) (list_of was.scales) (list_of was.incipits) one two (full is)

  pub no_incipits_take : (s1 s2 s3 : Stand) → Takes s0 s1 was.titles → Takes s1 s2 was.rhythms → Takes s2 s3 was.scales → IsFull fault s3 was.incipits
      → fault ≡ FileFull → free_pages s0.used < lists_of was
  no_incipits_take s1 s2 s3 one two three full is = no_fourth (free_pages s0.used) (free_pages s1.used) (free_pages s2.used) (free_pages s3.used)
      (list_of was.titles) (list_of was.rhythms) (list_of was.scales) (list_of was.incipits) one two three (full is)
