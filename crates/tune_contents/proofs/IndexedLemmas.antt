-- Tunes and the indexes of them, changed one after the other.
use Rattle.std.proofs.Common.{◌≡◌, ℕ, ◌+◌, ◌*◌, ◌^◌, ◌<◌, ◌≤◌, inl, inr, List, [], ◌∷◌, ◌++◌, length, sym, ◌∙◌, ap, subst, arith, append_assoc}
use Rattle.std.specs.List.{AllByRecursion}
use Rattle.std.proofs.lemmas.List.{length-map}
use Rattle.std.specs.Prelude.{Option, Result}
use Rattle.index_keys.specs.Entries.{AllFit, Entry, inserted_all, removed_all}
use Rattle.index_keys.specs.Holdings.{AreSmall, SameMembers}
use Rattle.index_keys.proofs.Members.{contains_cases, contains_none}
use Rattle.index_keys.proofs.Holding.{holds_same}
use Rattle.tune_index.specs.ListedLeaves.{index_with}
use Rattle.tune_incipit.specs.ScaleAndIncipitKeys.{incipit_keys, scale_keys}
use Rattle.tune_index.specs.Indexes.{Shape}
use Rattle.tune_pages.specs.Faults.{pages_for}
use Rattle.tune_pages.specs.FreePages.{TakesAtMost}
use Rattle.tune_pages.specs.Stand.{Stand}
use Rattle.tune_pages.specs.declared.fault.Fault.{Fault}
use Rattle.tune_parts.specs.Parts.{Part, HoldsParts}
use Rattle.tune_search.specs.IndexParts.{HoldsIndexAmong, HoldsSomeIndex, IndexParts, KeepsIndex, LaysIndex, parts_of_index}
use Rattle.tune_search.specs.Searches.{HoldsKeys, HoldsTexts, SearchParts, SearchRuns, SearchShape}
use Rattle.tune_search.specs.Searches.{key_bytes, parts_of_search}
use Rattle.tune_sets.specs.declared.set_lists.TuneSet.{TuneSet}
use Rattle.tune_store.specs.Limits.{greatest_number}
use Rattle.tune_store.specs.Plans.{CanChange, changed_tunes}
use Rattle.tune_store.specs.State.{IsTunes, NumbersRiseFrom, greatest}
use Rattle.tune_store.specs.declared.layout.Layout.{Layout}
use Rattle.tune_store.specs.declared.plans.Change.{Change}
use Rattle.tune_store.specs.declared.tune.Tune.{Tune}
use Rattle.tune_titles.specs.TitleAndRhythmKeys.{rhythm_keys, title_keys}
use Rattle.tune_format.specs.Filed.{HoldTunes, archive_parts, numbered_texts, rows_of_tunes}
use Rattle.tune_format.specs.RootOffsets.{number_bytes}
use Rattle.tune_format.specs.Written.{number_entries}
use Rattle.tune_format.specs.declared.rows.Row.{Row}
use Rattle.tune_format.proofs.TextLemmas.{rows_count}
use Rattle.tune_contents.specs.Claimed.{AreRows, RowsRise}
use Rattle.tune_contents.specs.Holds.{KeepsTexts, labels_in}
use Rattle.tune_contents.specs.Inside.Changes.{HoldsTunesWithin, KeepsRows, LaysChange}
use Rattle.tune_contents.specs.Inside.Indexed.{HoldsSomeIndexed, LaysIndexed, StandsAround, index_pages, keeps_of}
use Rattle.tune_contents.specs.Inside.Laying.{HoldsSomeTunes, HoldsTunes}
use Rattle.tune_contents.specs.Next.{rows_after}
use Rattle.tune_contents.specs.declared.next.RowChange.{RowChange}
use Rattle.tune_contents.specs.Inside.Searching.{ChangesTexts, HoldsTextsWith, LaysTexts, PutsIn, TakesOut, TakesSome, search_pages}

-- ROWS
rows_rise_from : (low : ℕ) (tunes : List Tune) (texts : List Part) → NumbersRiseFrom low tunes → RowsRise low (rows_of_tunes tunes texts)
rows_rise_from low [] texts rises = tt
rows_rise_from low (tune ∷ tunes) [] rises = tt
rows_rise_from low (tune ∷ tunes) (part ∷ texts) rises = (rises.0, rows_rise_from tune.number tunes texts rises.1)

rows_below : (most : ℕ) (tunes : List Tune) (texts : List Part) → greatest tunes ≤ most → AllByRecursion (λ row. row.number ≤ most) (rows_of_tunes tunes texts)
rows_below most [] texts le = tt
rows_below most (tune ∷ tunes) [] le = tt
rows_below most (tune ∷ tunes) (part ∷ texts) le = (omega (arith, le), rows_below most tunes texts (omega (arith, le)))

-- the rows of tunes within the limits are within them
pub are_rows : (layout : Layout) (tunes : List Tune) (texts : List Part) → IsTunes layout tunes → HoldTunes texts tunes
    → AreRows layout (rows_of_tunes tunes texts)
are_rows layout tunes texts within holds = record {
  rise = rows_rise_from 0 tunes texts within.rises;
  numbers = rows_below greatest_number tunes texts within.numbers;
  few = omega (arith, within.count, rows_count tunes texts holds);
}

-- TEXTS
small_below : (tunes : List Tune) → greatest tunes ≤ greatest_number → AreSmall (numbered_texts tunes)
small_below [] le = λ tune at. absurd (contains_none tune at)
small_below (tune ∷ tunes) le = λ one at. elim (contains_cases (tune.number, tune.text) (numbered_texts tunes) one at) [
  | inl here ↦ subst (λ (t : ℕ × List ℕ). t.0 < 2 ^ 32) here (omega (arith, le))
  | inr later ↦ small_below tunes (omega (arith, le)) one later
]

-- the numbers of tunes within the limits have 32 bits
pub are_small : (layout : Layout) (tunes : List Tune) → IsTunes layout tunes → AreSmall (numbered_texts tunes)
are_small layout tunes within = small_below tunes within.numbers

same_keys : {width : ℕ} → (keys_of : List ℕ → List ℕ) (held others : List (ℕ × List ℕ)) (shape : Shape) (parts : IndexParts) → SameMembers held others
    → HoldsKeys width keys_of held shape parts → HoldsKeys width keys_of others shape parts
same_keys keys_of held others shape parts same h = record {
  entries = h.entries;
  keeps = h.keeps;
  exact = holds_same keys_of held others h.entries same h.exact;
}

same_texts : (shape : SearchShape) (parts : SearchParts) (held others : List (ℕ × List ℕ)) → SameMembers held others → KeepsTexts shape parts held
    → KeepsTexts shape parts others
same_texts shape parts held others same k = record {
  titles = same_keys title_keys held others shape.titles parts.titles same k.titles;
  rhythms = same_keys rhythm_keys held others shape.rhythms parts.rhythms same k.rhythms;
  scales = same_keys scale_keys held others shape.scales parts.scales same k.scales;
  incipits = same_keys (incipit_keys shape.notes) held others shape.incipits parts.incipits same k.incipits;
}

-- PARTS
-- all but the tunes
abbrev pub ahead_of : IndexParts → SearchParts → Part → List Part
ahead_of numbers searches set_lists = parts_of_index numbers ++ (parts_of_search searches ++ set_lists ∷ [])

with_texts : (numbers : IndexParts) (searches : SearchParts) (set_lists : Part) (texts : List Part)
    → ahead_of numbers searches set_lists ++ texts ≡ archive_parts numbers searches set_lists texts
with_texts numbers searches set_lists texts =
    append_assoc (parts_of_index numbers) (parts_of_search searches ++ set_lists ∷ []) texts
    ∙ ap (λ (l : List Part). parts_of_index numbers ++ l) (append_assoc (parts_of_search searches) (set_lists ∷ []) texts)

-- Around the part of the set lists stand tunes as the rows say, an index of these entries, and search indexes of these texts.
pub record Stands (s : Stand) (index : Shape) (entries : List Entry) (search : SearchShape) (held : List (ℕ × List ℕ)) (rows : List Row) (tunes : List Tune)
    (set_lists : Part) : Type 0 where
  pub numbers : IndexParts
  pub searches : SearchParts
  pub texts : List Part
  pub holds : HoldsParts s (archive_parts numbers searches set_lists texts)
  pub keeps_numbers : KeepsIndex key_bytes index numbers entries
  pub keeps_searches : KeepsTexts search searches held
  pub are_tunes : HoldTunes texts tunes
  pub listed : rows ≡ rows_of_tunes tunes texts

-- ONE CHANGE AFTER THE OTHER
module _ (s : Stand) (index : Shape) (entries : List Entry) (search : SearchShape) (held : List (ℕ × List ℕ)) (rows : List Row) (tunes : List Tune)
    (set_lists : Part) (st : Stands s index entries search held rows tunes set_lists) where
  pub tunes_there : HoldsTunes s (ahead_of st.numbers st.searches set_lists) tunes rows
  tunes_there = record {
    texts = st.texts;
    holds = subst (HoldsParts s) (sym (with_texts st.numbers st.searches set_lists st.texts)) st.holds;
    are_tunes = st.are_tunes;
    listed = st.listed;
  }

  pub index_there : HoldsIndexAmong key_bytes s (index_with index entries) [] (parts_of_search st.searches ++ set_lists ∷ st.texts) st.numbers
  index_there = record { holds = st.holds; keeps = st.keeps_numbers }

  pub texts_there : HoldsTexts s search (parts_of_index st.numbers) (set_lists ∷ st.texts) st.searches held
  texts_there = record {
    holds = st.holds;
    titles = st.keeps_searches.titles;
    rhythms = st.keeps_searches.rhythms;
    scales = st.keeps_searches.scales;
    incipits = st.keeps_searches.incipits;
  }

  pub some_index : HoldsSomeIndex key_bytes s index
  some_index = ([], parts_of_search st.searches ++ set_lists ∷ st.texts, st.numbers, entries, index_there)

  -- the tunes are others
  pub with_tunes : (new : Stand) (left : List Row) (more : List Tune) → HoldsTunes new (ahead_of st.numbers st.searches set_lists) more left
      → Stands new index entries search held left more set_lists
  with_tunes new left more h = record {
    numbers = st.numbers;
    searches = st.searches;
    texts = h.texts;
    holds = subst (HoldsParts new) (with_texts st.numbers st.searches set_lists h.texts) h.holds;
    keeps_numbers = st.keeps_numbers;
    keeps_searches = st.keeps_searches;
    are_tunes = h.are_tunes;
    listed = h.listed;
  }

  -- the entries are others
  pub with_entries : (new : Stand) (next : Shape) (change : List Entry → List Entry) → LaysIndex key_bytes s new index next change
      → Stands new next (change entries) search held rows tunes set_lists
  with_entries new next change lays =
      let done = lays [] (parts_of_search st.searches ++ set_lists ∷ st.texts) st.numbers entries index_there in
      record {
        numbers = done.0;
        searches = st.searches;
        texts = st.texts;
        holds = done.1.holds;
        keeps_numbers = done.1.keeps;
        keeps_searches = st.keeps_searches;
        are_tunes = st.are_tunes;
        listed = st.listed;
      }

  -- the search indexes are of other texts
  pub with_held : (new : Stand) (next : SearchShape) (others : List (ℕ × List ℕ))
      → (parts : SearchParts) × HoldsTexts new next (parts_of_index st.numbers) (set_lists ∷ st.texts) parts others
      → Stands new index entries next others rows tunes set_lists
  with_held new next others done = record {
    numbers = st.numbers;
    searches = done.0;
    texts = st.texts;
    holds = done.1.holds;
    keeps_numbers = st.keeps_numbers;
    keeps_searches = record { titles = done.1.titles; rhythms = done.1.rhythms; scales = done.1.scales; incipits = done.1.incipits };
    are_tunes = st.are_tunes;
    listed = st.listed;
  }

-- FROM TUNES TO TUNES
abbrev pub around : (s : Stand) (index : Shape) (search : SearchShape) (rows : List Row) (tunes : List Tune) (set_lists : Part)
    → StandsAround s (keeps_of index search rows) tunes set_lists
    → Stands s index (number_entries rows) search (numbered_texts tunes) rows tunes set_lists
around s index search rows tunes set_lists a = record {
  numbers = a.numbers;
  searches = a.searches;
  texts = a.texts;
  holds = a.holds;
  keeps_numbers = subst (λ (r : List Row). KeepsIndex key_bytes index a.numbers (number_entries r)) (sym a.listed) a.keeps_numbers;
  keeps_searches = a.keeps_searches;
  are_tunes = a.are_tunes;
  listed = a.listed;
}

pub is_around : (s : Stand) (index : Shape) (entries : List Entry) (search : SearchShape) (held : List (ℕ × List ℕ)) (rows : List Row) (tunes : List Tune)
    (set_lists : Part) → entries ≡ number_entries rows → SameMembers held (numbered_texts tunes) → Stands s index entries search held rows tunes set_lists
    → StandsAround s (keeps_of index search rows) tunes set_lists
is_around s index entries search held rows tunes set_lists all same st = record {
  numbers = st.numbers;
  searches = st.searches;
  texts = st.texts;
  holds = st.holds;
  keeps_numbers = subst (λ (r : List Row). KeepsIndex key_bytes index st.numbers (number_entries r)) st.listed
      (subst (KeepsIndex key_bytes index st.numbers) all st.keeps_numbers);
  keeps_searches = same_texts search st.searches held (numbered_texts tunes) same st.keeps_searches;
  are_tunes = st.are_tunes;
  listed = st.listed;
}

-- THE CHANGE
-- what was laid of the tunes and of the index of numbers, and what goes out of the search indexes and comes in
pub record LaidTunes (layout : Layout) (s mid : Stand) (was rows : List Row) (change : Change) (gone come : List Entry) : Type 0 where
  pub lays : LaysChange s mid was rows change
  pub kept : KeepsRows change was rows
  pub entries : RowsRise 0 was → RowsRise 0 rows → AllFit key_bytes (number_entries was)
      → inserted_all come (removed_all gone (number_entries was)) ≡ number_entries rows

pub lays_from : (s one mid : Stand) (was rows : List Row) (change : Change) → one ≡ s → LaysChange one mid was rows change
    → LaysChange s mid was rows change
lays_from s one mid was rows change same lays = subst (λ (t : Stand). LaysChange t mid was rows change) same lays

-- by what is ensured of it, of rows that are those
pub laid_tunes : (layout : Layout) (s one mid : Stand) (was : List Row) (made : RowChange) (change : Change) (gone come : List Entry) → one ≡ s
    → LaysChange one mid was (rows_after made was) change → KeepsRows change was (rows_after made was)
    → (RowsRise 0 was → RowsRise 0 (rows_after made was) → AllFit key_bytes (number_entries was)
    → inserted_all come (removed_all gone (number_entries was)) ≡ number_entries (rows_after made was))
    → LaidTunes layout s mid was (rows_after made was) change gone come
laid_tunes layout s one mid was made change gone come same lays kept entries = record {
  lays = lays_from s one mid was (rows_after made was) change same lays;
  kept = kept;
  entries = entries;
}

abbrev pub TextsChange : Layout → Stand → List Row → Change → Option SearchRuns → Option SearchRuns → Type 0
TextsChange layout s was change gone come = (ahead : List Part) (tunes : List Tune) (sets : List TuneSet) → IsTunes layout tunes
    → HoldsTunes s ahead tunes was → CanChange change layout (labels_in was) sets
    → ChangesTexts gone come (numbered_texts tunes) (numbered_texts (changed_tunes change tunes))

pub tunes_around : (s : Stand) (index : Shape) (search : SearchShape) (was : List Row) (tunes : List Tune) (set_lists : Part)
    → (a : StandsAround s (keeps_of index search was) tunes set_lists) → HoldsTunes s (ahead_of a.numbers a.searches set_lists) tunes was
tunes_around s index search was tunes set_lists a =
    tunes_there s index (number_entries was) search (numbered_texts tunes) was tunes set_lists (around s index search was tunes set_lists a)

module _ (layout : Layout) (s mid : Stand) (index : Shape) (search : SearchShape) (was rows : List Row) (change : Change) (tunes : List Tune)
    (set_lists : Part) (within : IsTunes layout tunes) (a : StandsAround s (keeps_of index search was) tunes set_lists) where
  -- the tunes are changed, and the indexes are not yet
  pub tunes_changed : LaysChange s mid was rows change
      → Stands mid index (number_entries was) search (numbered_texts tunes) rows (changed_tunes change tunes) set_lists
  tunes_changed lays =
      let st = around s index search was tunes set_lists a in
      with_tunes s index (number_entries was) search (numbered_texts tunes) was tunes set_lists st mid rows (changed_tunes change tunes)
      (lays (ahead_of st.numbers st.searches set_lists) tunes within.rises
      (tunes_there s index (number_entries was) search (numbered_texts tunes) was tunes set_lists st))

  rows_within : AreRows layout was
  rows_within = subst (AreRows layout) (sym a.listed) (are_rows layout tunes a.texts within a.are_tunes)

  -- the entries are then those of the rows
  pub all_entries : (gone come : List Entry) (sets : List TuneSet) → CanChange change layout (labels_in was) sets
      → LaidTunes layout s mid was rows change gone come
      → inserted_all come (removed_all gone (number_entries was)) ≡ number_entries rows
  all_entries gone come sets can laid =
      laid.entries rows_within.rise (laid.kept layout sets can rows_within).rise (around s index search was tunes set_lists a).keeps_numbers.fit

  -- and so many
  pub count_entries : (gone come : List Entry) (sets : List TuneSet) → CanChange change layout (labels_in was) sets
      → LaidTunes layout s mid was rows change gone come
      → length (inserted_all come (removed_all gone (number_entries was))) ≡ length (changed_tunes change tunes)
  count_entries gone come sets can laid =
      let st = tunes_changed laid.lays in
      ap (λ (l : List Entry). length l) (all_entries gone come sets can laid) ∙ length-map rows _
      ∙ ap (λ (l : List Row). length l) st.listed ∙ rows_count (changed_tunes change tunes) st.texts st.are_tunes

-- ALL OF IT
abbrev entries_after : List Entry → List Entry → List Entry → List Entry
entries_after gone come entries = inserted_all come (removed_all gone entries)

-- how many pages the index of numbers takes, by what is ensured of it
abbrev pub NumbersTake : {T : Type 0} → Result T Fault → Stand → Stand → Shape → List Entry → List Entry → Type 0
NumbersTake result old new was gone come = (before after : List Part) (parts : IndexParts) (entries : List Entry)
    → HoldsIndexAmong key_bytes old (index_with was entries) before after parts
    → let count = length (inserted_all come (removed_all gone entries)) in TakesAtMost (count + pages_for (number_bytes * count)) result old new

-- and the search indexes
abbrev pub SearchesTake : {T : Type 0} → Result T Fault → Stand → Stand → SearchShape → Option SearchRuns → Option SearchRuns → Type 0
SearchesTake result old new was out into = (before after : List Part) (parts : SearchParts) (tunes others more : List (ℕ × List ℕ)) → AreSmall tunes
    → TakesOut out tunes others → PutsIn into more → HoldsTexts old was before after parts tunes
    → TakesAtMost (search_pages (length (others ++ more))) result old new

module _ (layout : Layout) (s mid late new : Stand) (index next : Shape) (search found : SearchShape) (was rows : List Row) (change : Change)
    (gone come : List Entry) (out into : Option SearchRuns) (laid : LaidTunes layout s mid was rows change gone come) (tunes : List Tune) (set_lists : Part)
    (sets : List TuneSet) (within : IsTunes layout tunes) (can : CanChange change layout (labels_in was) sets)
    (a : StandsAround s (keeps_of index search was) tunes set_lists) where
  changed_first : Stands mid index (number_entries was) search (numbered_texts tunes) rows (changed_tunes change tunes) set_lists
  changed_first = tunes_changed layout s mid index search was rows change tunes set_lists within a laid.lays

  pub numbers_take : {T : Type 0} → (result : Result T Fault) → NumbersTake result mid late index gone come
      → TakesAtMost (index_pages (length (changed_tunes change tunes))) result mid late
  numbers_take result takes =
      let st = changed_first in
      subst (λ (n : ℕ). TakesAtMost (index_pages n) result mid late)
      (count_entries layout s mid index search was rows change tunes set_lists within a gone come sets can laid)
      (takes [] (parts_of_search st.searches ++ set_lists ∷ st.texts) st.numbers (number_entries was)
      (index_there mid index (number_entries was) search (numbered_texts tunes) rows (changed_tunes change tunes) set_lists st))

  module _ (lays : LaysIndex key_bytes mid late index next (λ entries. inserted_all come (removed_all gone entries)))
      (texts : TextsChange layout s was change out into) where
    numbers_next : Stands late next (entries_after gone come (number_entries was)) search (numbered_texts tunes) rows (changed_tunes change tunes) set_lists
    numbers_next = with_entries mid index (number_entries was) search (numbered_texts tunes) rows (changed_tunes change tunes) set_lists changed_first late next
        (λ entries. inserted_all come (removed_all gone entries)) lays

    texts_next : ChangesTexts out into (numbered_texts tunes) (numbered_texts (changed_tunes change tunes))
    texts_next = texts (ahead_of a.numbers a.searches set_lists) tunes sets within
        (tunes_around s index search was tunes set_lists a) can

    texts_late : HoldsTexts late search (parts_of_index numbers_next.numbers) (set_lists ∷ numbers_next.texts) numbers_next.searches (numbered_texts tunes)
    texts_late = texts_there late next (entries_after gone come (number_entries was)) search (numbered_texts tunes) rows (changed_tunes change tunes)
        set_lists numbers_next

    pub searches_take : {T : Type 0} → (result : Result T Fault) → SearchesTake result late new search out into
        → TakesAtMost (search_pages (length (changed_tunes change tunes))) result late new
    searches_take result takes =
        subst (λ (n : ℕ). TakesAtMost (search_pages n) result late new)
        (texts_next.count ∙ length-map (changed_tunes change tunes) (λ (tune : Tune). (tune.number, tune.text)))
        (takes (parts_of_index numbers_next.numbers) (set_lists ∷ numbers_next.texts) numbers_next.searches (numbered_texts tunes) texts_next.others
        texts_next.more (are_small layout tunes within) texts_next.takes texts_next.puts texts_late)

    pub searches_last : LaysTexts late new search found out into → StandsAround new (keeps_of next found rows) (changed_tunes change tunes) set_lists
    searches_last searched =
        let done = searched (parts_of_index numbers_next.numbers) (set_lists ∷ numbers_next.texts) numbers_next.searches (numbered_texts tunes)
        texts_next.others texts_next.more (are_small layout tunes within) texts_next.takes texts_next.puts texts_late in
        is_around new next (entries_after gone come (number_entries was)) found (texts_next.others ++ texts_next.more) rows (changed_tunes change tunes)
        set_lists (all_entries layout s mid index search was rows change tunes set_lists within a gone come sets can laid) texts_next.same
        (with_held late next (entries_after gone come (number_entries was)) search (numbered_texts tunes) rows (changed_tunes change tunes) set_lists
        numbers_next new found (texts_next.others ++ texts_next.more) done)

-- the tunes, then the index of numbers, then the search indexes
pub indexed_laid : (layout : Layout) (s mid late new : Stand) (index next : Shape) (search found : SearchShape) (was rows : List Row) (change : Change)
    (gone come : List Entry) (out into : Option SearchRuns) → LaidTunes layout s mid was rows change gone come → TextsChange layout s was change out into
    → LaysIndex key_bytes mid late index next (λ entries. inserted_all come (removed_all gone entries)) → LaysTexts late new search found out into
    → LaysIndexed layout s new (keeps_of index search was) (keeps_of next found rows) change
indexed_laid layout s mid late new index next search found was rows change gone come out into laid texts lays searched =
    λ set_lists tunes sets within can a. searches_last layout s mid late new index next search found was rows change gone come out into laid tunes
    set_lists sets within can a lays texts searched

-- WHAT THE CALLS ASK FOR
-- what goes is of some of the tunes that stand there
abbrev pub TakesFrom : Layout → Stand → List Row → Option SearchRuns → Type 0
TakesFrom layout s was gone = (ahead : List Part) (tunes : List Tune) → IsTunes layout tunes → HoldsTunes s ahead tunes was
    → TakesSome gone (numbered_texts tunes)

module _ (layout : Layout) (s : Stand) (index : Shape) (search : SearchShape) (was : List Row)
    (some : HoldsSomeIndexed layout s (keeps_of index search was)) where
  pub some_within : HoldsTunesWithin layout s was
  some_within =
      let h = some.1 in (
        ahead_of h.around.numbers h.around.searches h.set_lists,
        some.0,
        h.within,
        tunes_around s index search was some.0 h.set_lists h.around,
      )

  pub some_tunes : HoldsSomeTunes s was
  some_tunes = (some_within.0, some_within.1, some_within.3)

  pub some_numbers : (mid : Stand) (rows : List Row) (change : Change) → LaysChange s mid was rows change → HoldsSomeIndex key_bytes mid index
  some_numbers mid rows change lays =
      let h = some.1 in
      some_index mid index (number_entries was) search (numbered_texts some.0) rows (changed_tunes change some.0) h.set_lists
      (tunes_changed layout s mid index search was rows change some.0 h.set_lists h.within h.around lays)

  -- and what goes is of some of the texts
  pub some_searches : (mid late : Stand) (rows : List Row) (change : Change) (next : Shape) (changes : List Entry → List Entry) (out : Option SearchRuns)
      → LaysChange s mid was rows change → LaysIndex key_bytes mid late index next changes
      → TakesFrom layout s was out → HoldsTextsWith late search out
  some_searches mid late rows change next changes out lays indexed takes =
      let h = some.1 in
      let st = tunes_changed layout s mid index search was rows change some.0 h.set_lists h.within h.around lays in
      let then = with_entries mid index (number_entries was) search (numbered_texts some.0) rows (changed_tunes change some.0) h.set_lists st late next
      changes indexed in (
        parts_of_index then.numbers,
        h.set_lists ∷ then.texts,
        then.searches,
        numbered_texts some.0,
        are_small layout some.0 h.within,
        takes (ahead_of h.around.numbers h.around.searches h.set_lists) some.0 h.within
            (tunes_around s index search was some.0 h.set_lists h.around),
        texts_there late next (changes (number_entries was)) search (numbered_texts some.0) rows (changed_tunes change some.0) h.set_lists then,
      )
