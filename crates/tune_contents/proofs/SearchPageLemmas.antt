-- The texts in the search indexes, and the pages that these take, as texts go and come.
use Rattle.std.proofs.Common.{◌≡◌, ℕ, ◌+◌, ◌*◌, ◌<◌, ◌≤◌, List, [], ◌++◌, length, Option, Some, None, refl, subst, arith}
use Rattle.std.specs.List.{Contains}
use Rattle.std.proofs.lemmas.Grind.{div_ceil_times}
use Rattle.abc_fields.specs.Limits.{most_titles}
use Rattle.index_keys.specs.Holdings.{AreSmall}
use Rattle.tune_pages.specs.Faults.{free_pages, pages_for}
use Rattle.tune_pages.specs.LinkOffsets.{piece_room}
use Rattle.tune_pages.specs.Stand.{Stand}
use Rattle.tune_parts.specs.Parts.{Part}
use Rattle.tune_search.specs.SearchPages.{HasFewLeaves, leaf_count, lists_of, most_entries}
use Rattle.tune_search.specs.Searches.{HoldsSomeTexts, HoldsTexts, SearchParts, SearchRuns, SearchShape}
use Rattle.tune_format.specs.RootOffsets.{number_bytes}
use Rattle.tune_contents.specs.Inside.Searching.{HoldsTextsWith, IsSomeRun, PutsIn, PutsTexts, TakesOut, TakesTexts, search_pages}
use Rattle.tune_contents.proofs.SearchingLemmas.{Text}

-- ONE AFTER THE OTHER
pub others_small : (gone : Option SearchRuns) (tunes others : List Text) → AreSmall tunes → TakesOut gone tunes others → AreSmall others
others_small None tunes others small out = λ x c. small x (subst (λ (texts : List Text). Contains texts x) out c)
others_small (Some run) tunes others small out = λ x c. small x (out.2.among x c)

some_more : (come : Option SearchRuns) → IsSomeRun come → (more : List Text) × PutsIn come more
some_more None some = ([], refl)
some_more (Some run) some = (some.0, (some.1, some.2))

module _ (s0 s1 : Stand) (was is1 : SearchShape) (gone : Option SearchRuns) (takes : TakesTexts s0 s1 was is1 gone) where
  pub some_left : HoldsTextsWith s0 was gone → HoldsSomeTexts s1 is1
  some_left (before, after, parts, tunes, small, (others, out), h) =
      let left = takes before after parts tunes others small out h in
      (before, after, left.0, others, left.1)

  module _ (s2 : Stand) (is2 : SearchShape) (come : Option SearchRuns) (puts : PutsTexts s1 s2 is1 is2 come) where
    pub texts_laid : (before after : List Part) (parts : SearchParts) (tunes others more : List Text) → AreSmall tunes → TakesOut gone tunes others
        → PutsIn come more → HoldsTexts s0 was before after parts tunes → (next : SearchParts) × HoldsTexts s2 is2 before after next (others ++ more)
    texts_laid before after parts tunes others more small out in_ h =
        let left = takes before after parts tunes others small out h in
        puts before after left.0 others more (others_small gone tunes others small out) in_ left.1

    pub some_laid : HoldsTextsWith s0 was gone → IsSomeRun come → HoldsSomeTexts s2 is2
    some_laid (before, after, parts, tunes, small, (others, out), h) some =
        let more = some_more come some in
        let laid = texts_laid before after parts tunes others more.0 small out more.1 h in
        (before, after, laid.0, others ++ more.0, laid.1)

-- PAGES
at_most : (n k : ℕ) → n ≤ piece_room * k → pages_for n ≤ k
at_most n k le = let ceil = div_ceil_times n piece_room (omega arith) in omega (arith, le, ceil.0, ceil.1)

-- more bytes have no fewer pages
more_pages : (n m : ℕ) → n ≤ m → pages_for n ≤ pages_for m
more_pages n m le = let ceil = div_ceil_times m piece_room (omega arith) in at_most n (pages_for m) (omega (arith, le, ceil.0, ceil.1))

-- the leaves and the lists of so many tunes
pub few_pages : (shape : SearchShape) (texts : List Text) → HasFewLeaves shape texts → leaf_count shape + lists_of shape ≤ search_pages (length texts)
few_pages shape texts few =
    let t : length shape.titles.pages ≤ most_titles * length texts = few.titles in
    let r : length shape.rhythms.pages ≤ length texts = few.rhythms in
    let c : length shape.scales.pages ≤ length texts = few.scales in
    let i : length shape.incipits.pages ≤ length texts = few.incipits in
    let titles = more_pages (4 * length shape.titles.pages) (number_bytes * (most_titles * length texts)) (omega arith) in
    let rhythms = more_pages (4 * length shape.rhythms.pages) (number_bytes * length texts) (omega arith) in
    let scales = more_pages (4 * length shape.scales.pages) (number_bytes * length texts) (omega arith) in
    let incipits = more_pages (4 * length shape.incipits.pages) (number_bytes * length texts) (omega arith) in
    omega arith

abbrev pub Balance : Stand → Stand → SearchShape → SearchShape → Type 0
Balance old new was is = free_pages old.used + leaf_count was ≡ free_pages new.used + leaf_count is

-- a run found the file full, or a list did, or none
pub full_for_come : (s0 s1 : Stand) (was is : SearchShape) (count : ℕ) → Balance s0 s1 was is → free_pages s1.used + leaf_count is < most_entries * count
    → free_pages s0.used < search_pages count
full_for_come s0 s1 was is count one full = omega arith

module _ (s0 s1 s2 : Stand) (was is1 is2 : SearchShape) (one : Balance s0 s1 was is1) (two : Balance s1 s2 is1 is2) (texts : List Text)
    (few : HasFewLeaves is2 texts) where
  pub full_for_lists : free_pages s2.used < lists_of is2 → free_pages s0.used < search_pages (length texts)
  full_for_lists full = let most = few_pages is2 texts few in omega arith

  pub takes_few : (s3 : Stand) → free_pages s2.used ≤ free_pages s3.used + lists_of is2 → free_pages s0.used ≤ free_pages s3.used + search_pages (length texts)
  takes_few s3 took = let most = few_pages is2 texts few in omega arith
