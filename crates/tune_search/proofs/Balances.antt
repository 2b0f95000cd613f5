-- How many pages are free as runs go into four indexes, one after another.
use Rattle.std.proofs.Common.{◌≡◌, ℕ, ◌+◌, ◌*◌, ◌<◌, ◌≤◌, List, ◌++◌, length, arith}
use Rattle.tune_index.specs.ListedLeaves.{index_with}
use Rattle.tune_pages.specs.Faults.{free_pages}
use Rattle.tune_pages.specs.Stand.{Stand}
use Rattle.index_keys.specs.Entries.{Entry, IsRising, inserted_all}
use Rattle.index_keys.specs.Holdings.{AreSmall, HoldsEntries}
use Rattle.index_keys.proofs.Holding.{holds_more}
use Rattle.index_keys.proofs.RisingEntries.{inserted_all_rises}
use Rattle.tune_incipit.specs.ScaleAndIncipitKeys.{incipit_keys, scale_keys}
use Rattle.tune_index.specs.Indexes.{KeepsBalance, Shape}
use Rattle.tune_parts.specs.Parts.{Part}
use Rattle.tune_search.specs.IndexParts.{HoldsIndexAmong, IndexParts, LaysIndex}
use Rattle.tune_search.specs.Inside.Four.{HoldsFour, entry_count, runs_put_in}
use Rattle.tune_search.specs.SearchPages.{leaf_count, most_entries}
use Rattle.tune_search.specs.Searches.{AreRunsOf, HoldsKeys, HoldsTexts, IsRunOf, SearchParts, SearchRuns, SearchShape}
use Rattle.tune_search.specs.Searches.{incipit_bytes, key_bytes}
use Rattle.tune_search.proofs.FewEntries.{few_among, few_by_incipit, few_by_rhythm, few_by_scale, few_by_title}
use Rattle.tune_search.proofs.Four.{changed, incipits_among, one_laid, rhythms_among, same_entries, scales_among, three_laid, titles_among, two_laid}
use Rattle.tune_search.proofs.Four.{with_rhythms, with_scales, with_titles}
use Rattle.tune_search.proofs.AsManyNotes.{notes_run}
use Rattle.tune_search.proofs.Texts.{entries_of_texts, texts_four}
use Rattle.tune_titles.specs.TitleAndRhythmKeys.{rhythm_keys, title_keys}

-- WHERE THE FILE IS FULL
-- for one index, and for four
abbrev pub IsFullFor : ℕ → Stand → Shape → (List Entry → List Entry) → Type 0
IsFullFor width s shape change = (before after : List Part) (parts : IndexParts) (entries : List Entry)
    → HoldsIndexAmong width s (index_with shape entries) before after parts → free_pages s.used + length shape.pages < length (change entries)

abbrev pub AreFullFor : Stand → SearchShape → (SearchRuns → SearchRuns) → Type 0
AreFullFor s shape change = (before after : List Part) (parts : SearchParts) (entries : SearchRuns)
    → HoldsFour s shape before after parts entries → free_pages s.used + leaf_count shape < entry_count (change entries)

-- no entries are lost
abbrev pub Grows : (List Entry → List Entry) → Type 0
Grows change = (entries : List Entry) → length entries ≤ length (change entries)

module _ (was : SearchShape) (titles rhythms scales : Shape) (t r c i : List Entry → List Entry) (more_r : Grows r) (more_c : Grows c) (more_i : Grows i) where
  -- each index as it is before its run goes in has few leaves
  few_rhythms : (s : Stand) (before after : List Part) (parts : SearchParts) (entries : SearchRuns) → HoldsFour s was before after parts entries
      → length was.rhythms.pages ≤ length (r entries.rhythms)
  few_rhythms s before after parts entries h =
      let few = few_among key_bytes s was.rhythms _ _ parts.rhythms entries.rhythms (rhythms_among s was before after parts entries h) in
      let grown = more_r entries.rhythms in
      omega arith

  few_scales : (s : Stand) (before after : List Part) (parts : SearchParts) (entries : SearchRuns) → HoldsFour s was before after parts entries
      → length was.scales.pages ≤ length (c entries.scales)
  few_scales s before after parts entries h =
      let few = few_among key_bytes s was.scales _ _ parts.scales entries.scales (scales_among s was before after parts entries h) in
      let grown = more_c entries.scales in
      omega arith

  few_incipits : (s : Stand) (before after : List Part) (parts : SearchParts) (entries : SearchRuns) → HoldsFour s was before after parts entries
      → length was.incipits.pages ≤ length (i entries.incipits)
  few_incipits s before after parts entries h =
      let few = few_among (incipit_bytes was.notes) s was.incipits _ _ parts.incipits entries.incipits (incipits_among s was before after parts entries h) in
      let grown = more_i entries.incipits in
      omega arith

  pub titles_full : (s0 : Stand) → IsFullFor key_bytes s0 was.titles t → AreFullFor s0 was (changed t r c i)
  titles_full s0 full = λ before after parts entries h.
      let none = full _ _ parts.titles entries.titles (titles_among s0 was before after parts entries h) in
      let rest_r = few_rhythms s0 before after parts entries h in
      let rest_c = few_scales s0 before after parts entries h in
      let rest_i = few_incipits s0 before after parts entries h in
      omega arith

  pub rhythms_full : (s0 s1 : Stand) → LaysIndex key_bytes s0 s1 was.titles titles t → KeepsBalance s0 s1 was.titles.pages titles.pages
      → IsFullFor key_bytes s1 was.rhythms r → AreFullFor s0 was (changed t r c i)
  rhythms_full s0 s1 first one full = λ before after parts entries h.
      let is = with_titles titles was in
      let more = changed t same_entries same_entries same_entries entries in
      let done = one_laid was titles titles titles titles t t t t s0 s1 first before after parts entries h in
      let few = few_among key_bytes s1 titles _ _ done.0.titles (t entries.titles) (titles_among s1 is before after done.0 more done.1) in
      let none = full _ _ done.0.rhythms entries.rhythms (rhythms_among s1 is before after done.0 more done.1) in
      let rest_c = few_scales s0 before after parts entries h in
      let rest_i = few_incipits s0 before after parts entries h in
      omega arith

  pub scales_full : (s0 s1 s2 : Stand) → LaysIndex key_bytes s0 s1 was.titles titles t → LaysIndex key_bytes s1 s2 was.rhythms rhythms r
      → KeepsBalance s0 s1 was.titles.pages titles.pages → KeepsBalance s1 s2 was.rhythms.pages rhythms.pages
      → IsFullFor key_bytes s2 was.scales c → AreFullFor s0 was (changed t r c i)
  scales_full s0 s1 s2 first second one two full = λ before after parts entries h.
      let is = with_rhythms rhythms (with_titles titles was) in
      let more = changed t r same_entries same_entries entries in
      let done = two_laid was titles rhythms rhythms rhythms t r r r s0 s1 s2 first second before after parts entries h in
      let few = few_among key_bytes s2 titles _ _ done.0.titles (t entries.titles) (titles_among s2 is before after done.0 more done.1) in
      let fewer = few_among key_bytes s2 rhythms _ _ done.0.rhythms (r entries.rhythms) (rhythms_among s2 is before after done.0 more done.1) in
      let none = full _ _ done.0.scales entries.scales (scales_among s2 is before after done.0 more done.1) in
      let rest_i = few_incipits s0 before after parts entries h in
      omega arith

  pub incipits_full : (s0 s1 s2 s3 : Stand) → LaysIndex key_bytes s0 s1 was.titles titles t → LaysIndex key_bytes s1 s2 was.rhythms rhythms r
      → LaysIndex key_bytes s2 s3 was.scales scales c → KeepsBalance s0 s1 was.titles.pages titles.pages
      → KeepsBalance s1 s2 was.rhythms.pages rhythms.pages → KeepsBalance s2 s3 was.scales.pages scales.pages
      → IsFullFor (incipit_bytes was.notes) s3 was.incipits i → AreFullFor s0 was (changed t r c i)
  incipits_full s0 s1 s2 s3 first second third one two three full = λ before after parts entries h.
      let is = with_scales scales (with_rhythms rhythms (with_titles titles was)) in
      let more = changed t r c same_entries entries in
      let done = three_laid was titles rhythms scales scales t r c c s0 s1 s2 s3 first second third before after parts entries h in
      let few = few_among key_bytes s3 titles _ _ done.0.titles (t entries.titles) (titles_among s3 is before after done.0 more done.1) in
      let fewer = few_among key_bytes s3 rhythms _ _ done.0.rhythms (r entries.rhythms) (rhythms_among s3 is before after done.0 more done.1) in
      let fewest = few_among key_bytes s3 scales _ _ done.0.scales (c entries.scales) (scales_among s3 is before after done.0 more done.1) in
      let none = full _ _ done.0.incipits entries.incipits (incipits_among s3 is before after done.0 more done.1) in
      omega arith

-- HOW MANY ENTRIES MORE TUNES HAVE
-- an index with a run put in
module _ (width : ℕ) (keys_of : List ℕ → List ℕ) (tunes more : List (ℕ × List ℕ)) (was : Shape) (parts : IndexParts) (run : List Entry)
    (small : AreSmall tunes) (also : AreSmall more) (are : IsRunOf width keys_of more run) (h : HoldsKeys width keys_of tunes was parts) where
  rising_more : IsRising (inserted_all run h.entries)
  rising_more = inserted_all_rises run h.entries h.keeps.rising

  exact_more : HoldsEntries keys_of (tunes ++ more) (inserted_all run h.entries)
  exact_more = holds_more keys_of tunes more h.entries run small also h.exact are.exact

pub few_more : (s : Stand) (shape : SearchShape) (runs : SearchRuns) (before after : List Part) (parts : SearchParts) (tunes more : List (ℕ × List ℕ))
    → AreSmall tunes → AreSmall more → runs.notes ≡ shape.notes → AreRunsOf more runs → (h : HoldsTexts s shape before after parts tunes)
    → entry_count (runs_put_in runs (entries_of_texts s shape before after parts tunes h)) ≤ most_entries * length (tunes ++ more)
few_more s shape runs before after parts tunes more small also same are h =
    let all = tunes ++ more in
    let titles = few_by_title all (inserted_all runs.titles h.titles.entries)
    (rising_more key_bytes title_keys tunes more shape.titles parts.titles runs.titles small also are.titles h.titles)
    (exact_more key_bytes title_keys tunes more shape.titles parts.titles runs.titles small also are.titles h.titles) in
    let rhythms = few_by_rhythm all (inserted_all runs.rhythms h.rhythms.entries)
    (rising_more key_bytes rhythm_keys tunes more shape.rhythms parts.rhythms runs.rhythms small also are.rhythms h.rhythms)
    (exact_more key_bytes rhythm_keys tunes more shape.rhythms parts.rhythms runs.rhythms small also are.rhythms h.rhythms) in
    let scales = few_by_scale all (inserted_all runs.scales h.scales.entries)
    (rising_more key_bytes scale_keys tunes more shape.scales parts.scales runs.scales small also are.scales h.scales)
    (exact_more key_bytes scale_keys tunes more shape.scales parts.scales runs.scales small also are.scales h.scales) in
    let width = incipit_bytes shape.notes in
    let keys_of = incipit_keys shape.notes in
    let run = notes_run runs.notes shape.notes more runs.incipits same are.incipits in
    let incipits = few_by_incipit shape.notes all (inserted_all runs.incipits h.incipits.entries)
    (rising_more width keys_of tunes more shape.incipits parts.incipits runs.incipits small also run h.incipits)
    (exact_more width keys_of tunes more shape.incipits parts.incipits runs.incipits small also run h.incipits) in
    omega arith

-- so many pages are free
pub full_for_texts : (s : Stand) (shape : SearchShape) (runs : SearchRuns) → runs.notes ≡ shape.notes → AreFullFor s shape (λ entries. runs_put_in runs entries)
    → (before after : List Part) (parts : SearchParts) (tunes more : List (ℕ × List ℕ)) → AreSmall tunes → AreSmall more → AreRunsOf more runs
    → HoldsTexts s shape before after parts tunes → free_pages s.used + leaf_count shape < most_entries * length (tunes ++ more)
full_for_texts s shape runs same full before after parts tunes more small also are h =
    let entries = entries_of_texts s shape before after parts tunes h in
    let none = full before after parts entries (texts_four s shape before after parts tunes h) in
    let few = few_more s shape runs before after parts tunes more small also same are h in
    omega arith

-- FOUR CALLS, ONE AFTER ANOTHER
-- what each keeps of how many pages are free
pub four_balance : (s0 s1 s2 s3 s4 : Stand) (was is : SearchShape) → KeepsBalance s0 s1 was.titles.pages is.titles.pages
    → KeepsBalance s1 s2 was.rhythms.pages is.rhythms.pages → KeepsBalance s2 s3 was.scales.pages is.scales.pages
    → KeepsBalance s3 s4 was.incipits.pages is.incipits.pages → free_pages s0.used + leaf_count was ≡ free_pages s4.used + leaf_count is
four_balance s0 s1 s2 s3 s4 was is one two three four = omega arith
