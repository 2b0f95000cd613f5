-- How many pages a state uses.
use Rattle.std.proofs.Common.{◌≡◌, ℕ, zero, suc, ◌+◌, ◌*◌, ◌≤◌, List, [], ◌∷◌, ◌++◌, length, map, replicate, true, false, refl, ◌∙◌, ap, arith}
use Rattle.std.proofs.lemmas.List.{length-map}
use Rattle.std.proofs.Common.{length-append, fold}
use Rattle.std.specs.Int.{bytes_high_first}
use Rattle.std.specs.List.{AllByRecursion}
use Rattle.std.proofs.lemmas.Grind.{div_ceil_times}
use Rattle.tune_pages.specs.Faults.{free_pages, pages_for}
use Rattle.tune_pages.specs.LinkOffsets.{piece_room}
use Rattle.tune_pages.specs.Stand.{Stand}
use Rattle.tune_pages.proofs.Counting.{worth, marked_less}
use Rattle.tune_pages.proofs.FreePages.{AreSized, chain_count}
use Rattle.std.proofs.lemmas.Bool.Decides.{nat_tests}
use Rattle.abc_fields.specs.Limits.{most_titles}
use Rattle.index_keys.specs.Entries.{Entry}
use Rattle.tune_index.specs.ListedLeaves.{stand_of_pages}
use Rattle.tune_index.proofs.Puts.{leaves_within}
use Rattle.tune_index.proofs.Storing.{length-listed}
use Rattle.tune_parts.specs.Parts.{Part, IsPart, trails, root_and_trails, HoldsParts}
use Rattle.tune_parts.specs.Parts.PartKind.{chain}
use Rattle.tune_parts.proofs.Lists.{all_left, all_right}
use Rattle.tune_parts.proofs.PartLemmas.{its_chain}
use Rattle.tune_parts.proofs.Staying.{trails_join}
use Rattle.tune_search.specs.IndexParts.{HoldsIndex, IndexParts, parts_of_index}
use Rattle.tune_search.specs.Searches.{SearchParts, key_bytes, parts_of_search}
use Rattle.tune_search.proofs.AmongLemmas.{leaves_on_pages}
use Rattle.tune_search.proofs.FewEntries.{few_by_incipit, few_by_rhythm, few_by_scale, few_by_title}
use Rattle.tune_sets.specs.Names.{is_good_name}
use Rattle.tune_format.proofs.TextLemmas.{rows_count}
use Rattle.tune_sets.specs.SetBytes.{written_sets, stored_set, written_numbers}
use Rattle.tune_sets.specs.Sets.{IsTuneSet, AreSetLists}
use Rattle.tune_sets.specs.declared.set_lists.TuneSet.{TuneSet}
use Rattle.tune_sets.proofs.ByteLemmas.{length-written_numbers}
use Rattle.tune_store.specs.Limits.{longest_text, most_tunes, notes_of}
use Rattle.tune_store.specs.State.{State, IsTune, IsTunes, IsState}
use Rattle.tune_store.specs.declared.layout.Layout.{Layout}
use Rattle.tune_store.specs.declared.tune.Tune.{Tune}
use Rattle.tune_format.specs.Filed.{AreChains, Filed, HoldTunes, archive_parts, numbered_texts, rows_of_tunes}
use Rattle.tune_format.specs.Searched.{AreSearchIndexes}
use Rattle.tune_format.specs.RootOffsets.{number_bytes, revision_bytes}
use Rattle.tune_format.specs.Written.{number_entries, stored_tune}
use Rattle.tune_contents.specs.Holds.{HoldsContents}
use Rattle.tune_contents.specs.Inside.Indexed.{index_pages}
use Rattle.tune_contents.specs.Inside.Searching.{search_pages}
use Rattle.tune_contents.specs.Most.{most_tune_pages, most_number_pages, most_part_pages, most_search_pages, most_sets_pages, most_used}
use Rattle.tune_contents.specs.declared.contents.Contents.{Contents}
use Rattle.tune_contents.specs.Inside.Takes.{tune_pages, sets_pages}

-- the pages of chains of these bytes
abbrev chain_pages : List (List ℕ) → ℕ
chain_pages [] = 0
chain_pages (bytes ∷ more) = pages_for (length bytes) + chain_pages more

abbrev bytes_of : List Part → List (List ℕ)
bytes_of parts = map (λ part. part.bytes) parts

none_from : (n a : ℕ) → fold (λ a b. a + worth b) a (replicate n false) ≡ a + n
none_from zero a = omega arith
none_from (suc n) a = none_from n (a + 1) ∙ omega arith

none_used : (n : ℕ) → free_pages (replicate n false) ≡ n
none_used n = none_from n 0 ∙ omega arith

trails_count : (pages : List (List ℕ)) (parts : List Part) → AreSized pages → AreChains parts → AllByRecursion (IsPart pages) parts
    → length (trails parts) ≡ chain_pages (bytes_of parts)
trails_count pages [] sized kinds are = refl
trails_count pages (part ∷ parts) sized kinds are =
    let here = chain_count pages part.first part.trail part.bytes sized (its_chain pages part kinds.0 are.0) in
    let more = trails_count pages parts sized kinds.1 are.1 in
    omega (arith, here, more, length-append part.trail (trails parts))

-- What parts use, and the root, and what is free are all pages up to the limit.
parts_count : (s : Stand) (parts : List Part) → HoldsParts s parts → free_pages s.used + (length (trails parts) + 1) ≡ length s.used
parts_count s parts holds =
    let less = marked_less (root_and_trails parts) (replicate (length s.used) false) holds.apart in
    let same : free_pages s.used ≡ _ = ap free_pages holds.used in
    let none = none_used (length s.used) in
    omega (arith, less, same, none)

trails_more : (before after : List Part) → length (trails (before ++ after)) ≡ length (trails before) + length (trails after)
trails_more before after = ap (λ (l : List ℕ). length l) (trails_join before after) ∙ length-append (trails before) (trails after)

-- TUNES
at_most : (n k : ℕ) → n ≤ piece_room * k → pages_for n ≤ k
at_most n k le = let ceil = div_ceil_times n piece_room (omega arith) in omega (arith, le, ceil.0, ceil.1)

-- more bytes have no fewer pages
pub pages_mono : (n m : ℕ) → n ≤ m → pages_for n ≤ pages_for m
pages_mono n m le = let ceil = div_ceil_times m piece_room (omega arith) in at_most n (pages_for m) (omega (arith, le, ceil.0, ceil.1))

pub text_count : (layout : Layout) (text : List ℕ) → length text ≤ longest_text layout → tune_pages text ≤ most_tune_pages layout
text_count layout text fits = pages_mono (length text + revision_bytes) (longest_text layout + revision_bytes) (omega (arith, fits))

product_le : (a b m : ℕ) → a ≤ b → m * a ≤ b * m
product_le a b zero le = omega arith
product_le a b (suc m) le = let more = product_le a b m le in omega (arith, le, more)

-- so many chains of at most so many pages, of which there are no more than these
pub times_count : (pages count most many : ℕ) → pages ≤ most * count → count ≤ many → pages ≤ many * most
times_count pages count most many le few = let more = product_le count many most few in omega (arith, le, more)

tunes_count : (layout : Layout) (tunes : List Tune) → AllByRecursion (IsTune layout) tunes
    → chain_pages (map stored_tune tunes) ≤ most_tune_pages layout * length tunes
tunes_count layout [] are = omega arith
tunes_count layout (tune ∷ tunes) are =
    let size : length (stored_tune tune) ≡ length tune.text + revision_bytes = omega arith in
    let here = text_count layout tune.text are.0.fits in
    let same : pages_for (length (stored_tune tune)) ≡ tune_pages tune.text = ap pages_for size in
    let more = tunes_count layout tunes are.1 in
    omega (arith, here, same, more)

-- SETS
good_short : (name : List ℕ) → is_good_name name ≡ true → length name ≤ 40
good_short name good = grind (arith, nat_tests)

set_size : (set : TuneSet) → IsTuneSet set → length (stored_set set) ≤ 843
set_size set is =
    let numbers = length-written_numbers set.numbers in
    let short = good_short set.name is.name in
    omega (arith, is.places, short, numbers, length-append set.name (bytes_high_first 2 (length set.numbers) ++ written_numbers set.numbers))

sets_size : (sets : List TuneSet) → AllByRecursion IsTuneSet sets → length (written_sets sets) ≤ 843 * length sets
sets_size [] are = omega arith
sets_size (set ∷ sets) are =
    let here = set_size set are.0 in
    let more = sets_size sets are.1 in
    omega (arith, here, more, length-append (stored_set set) (written_sets sets))

pub sets_count : (sets : List TuneSet) → AreSetLists sets → sets_pages sets ≤ most_sets_pages
sets_count sets are = at_most (length (written_sets sets)) most_sets_pages (omega (arith, sets_size sets are.each, are.count))

-- INDEXES
-- leaves have a page each, and are no more than their entries
leaves_count : (width : ℕ) (pages : List (List ℕ)) (parts : IndexParts) (entries : List Entry) → AllByRecursion (IsPart pages) parts.leaves
    → HoldsIndex width parts entries → (length (trails parts.leaves) ≡ length parts.leaves) × (length parts.leaves ≤ length entries)
leaves_count width pages parts entries stand holds =
    let on = leaves_on_pages width (stand_of_pages pages) parts.leaves holds.leaves stand in
    let firsts = map (λ (part : Part). part.first) parts.leaves in
    let many : length firsts ≡ length parts.leaves = length-map parts.leaves (λ (part : Part). part.first) in
    let alone = ap (λ (l : List ℕ). length l) on.alone in
    let within = leaves_within width (stand_of_pages pages) firsts on.form in
    let same = ap (λ (l : List Entry). length l) (on.entries ∙ holds.hold) in
    (omega (arith, alone, many), omega (arith, many, within, same))

-- an index of at most so many entries has at most a page for each, and its list
index_count : (width : ℕ) (pages : List (List ℕ)) (parts : IndexParts) (entries : List Entry) (most : ℕ) → AreSized pages
    → AllByRecursion (IsPart pages) (parts_of_index parts) → HoldsIndex width parts entries → length entries ≤ most
    → length (trails (parts_of_index parts)) ≤ most + pages_for (number_bytes * most)
index_count width pages parts entries most sized stand holds few =
    let leaves = leaves_count width pages parts entries stand.1 holds in
    let its = chain_count pages parts.list.first parts.list.trail parts.list.bytes sized (its_chain pages parts.list holds.is_chain stand.0) in
    let firsts = map (λ (part : Part). part.first) parts.leaves in
    let many : length firsts ≡ length parts.leaves = length-map parts.leaves (λ (part : Part). part.first) in
    let size : length parts.list.bytes ≡ 4 * length firsts = ap (λ (l : List ℕ). length l) holds.listed ∙ length-listed firsts in
    let list = pages_mono (length parts.list.bytes) (number_bytes * most) (omega (arith, size, many, few, leaves.1)) in
    omega (arith, its, list, leaves.0, leaves.1, few, length-append parts.list.trail (trails parts.leaves))

-- so have the four, of so many tunes
search_count : (notes : ℕ) (pages : List (List ℕ)) (parts : SearchParts) (tunes : List (ℕ × List ℕ)) → AreSized pages
    → AllByRecursion (IsPart pages) (parts_of_search parts) → AreSearchIndexes notes tunes parts
    → length (trails (parts_of_search parts)) ≤ search_pages (length tunes)
search_count notes pages parts tunes sized stand are =
    let t = parts_of_index parts.titles in
    let r = parts_of_index parts.rhythms in
    let c = parts_of_index parts.scales in
    let i = parts_of_index parts.incipits in
    let behind = all_right (IsPart pages) t (r ++ (c ++ i)) stand in
    let later = all_right (IsPart pages) r (c ++ i) behind in
    let titles = index_count key_bytes pages parts.titles are.titles.entries (most_titles * length tunes) sized
    (all_left (IsPart pages) t (r ++ (c ++ i)) stand) are.titles.holds
    (few_by_title tunes are.titles.entries are.titles.holds.rising are.titles.exact) in
    let rhythms = index_count key_bytes pages parts.rhythms are.rhythms.entries (length tunes) sized
    (all_left (IsPart pages) r (c ++ i) behind) are.rhythms.holds
    (few_by_rhythm tunes are.rhythms.entries are.rhythms.holds.rising are.rhythms.exact) in
    let scales = index_count key_bytes pages parts.scales are.scales.entries (length tunes) sized
    (all_left (IsPart pages) c i later) are.scales.holds
    (few_by_scale tunes are.scales.entries are.scales.holds.rising are.scales.exact) in
    let incipits = index_count (4 * notes) pages parts.incipits are.incipits.entries (length tunes) sized
    (all_right (IsPart pages) c i later) are.incipits.holds
    (few_by_incipit notes tunes are.incipits.entries are.incipits.holds.rising are.incipits.exact) in
    omega (arith, titles, rhythms, scales, incipits, trails_more t (r ++ (c ++ i)), trails_more r (c ++ i), trails_more c i)

-- more tunes have no fewer pages of indexes
pub numbers_most : (layout : Layout) (count : ℕ) → count ≤ most_tunes layout → index_pages count ≤ most_number_pages layout
numbers_most layout count few =
    let list = pages_mono (number_bytes * count) (number_bytes * (1 * most_tunes layout)) (omega (arith, few)) in
    omega (arith, few, list)

pub searches_most : (layout : Layout) (count : ℕ) → count ≤ most_tunes layout → search_pages count ≤ most_search_pages layout
searches_most layout count few =
    let titles = pages_mono (number_bytes * (most_titles * count)) (number_bytes * (most_titles * most_tunes layout)) (omega (arith, few)) in
    let list = pages_mono (number_bytes * count) (number_bytes * (1 * most_tunes layout)) (omega (arith, few)) in
    omega (arith, few, titles, list)

-- CHAINS
-- none that holds a part of a state has more pages
module _ (pages : List (List ℕ)) (sized : AreSized pages) (part : Part) (kind : part.kind ≡ chain) (is : IsPart pages part) (layout : Layout) where
  trail_count : (bytes : List ℕ) → part.bytes ≡ bytes → length part.trail ≡ pages_for (length bytes)
  trail_count bytes holds = chain_count pages part.first part.trail part.bytes sized (its_chain pages part kind is)
      ∙ ap (λ (l : List ℕ). pages_for (length l)) holds

  pub tune_few : (tune : Tune) → part.bytes ≡ stored_tune tune → length tune.text ≤ longest_text layout → length part.trail ≤ most_tune_pages layout
  tune_few tune holds fits =
      let size : length (stored_tune tune) ≡ length tune.text + revision_bytes = omega arith in
      let same : pages_for (length (stored_tune tune)) ≡ tune_pages tune.text = ap pages_for size in
      omega (arith, trail_count (stored_tune tune) holds, same, text_count layout tune.text fits)

  pub sets_few : (sets : List TuneSet) → part.bytes ≡ written_sets sets → AreSetLists sets → length part.trail ≤ most_sets_pages
  sets_few sets holds are = omega (arith, trail_count (written_sets sets) holds, sets_count sets are)

-- ALL
-- the texts of a state
texts_count : (pages : List (List ℕ)) (layout : Layout) (texts : List Part) (tunes : List Tune) → AreSized pages → AllByRecursion (IsPart pages) texts
    → HoldTunes texts tunes → AllByRecursion (IsTune layout) tunes → length tunes ≤ most_tunes layout
    → length (trails texts) ≤ most_tunes layout * most_tune_pages layout
texts_count pages layout texts tunes sized stand are each few =
    let all = times_count _ (length tunes) _ _ (tunes_count layout tunes each) few in
    let trails = trails_count pages texts sized are.are_chains stand in
    let same : chain_pages (bytes_of texts) ≡ chain_pages (map stored_tune tunes) = ap chain_pages are.hold in
    omega (arith, all, trails, same)

-- all of it
parts_sum : (numbers : IndexParts) (searches : SearchParts) (set_lists : Part) (texts : List Part) (layout : Layout)
    → length (trails (parts_of_index numbers)) ≤ most_number_pages layout → length (trails (parts_of_search searches)) ≤ most_search_pages layout
    → length set_lists.trail ≤ most_sets_pages → length (trails texts) ≤ most_tunes layout * most_tune_pages layout
    → length (trails (archive_parts numbers searches set_lists texts)) ≤ most_part_pages layout
parts_sum numbers searches set_lists texts layout few_numbers few_searches few_sets few_texts =
    omega (
      arith,
      few_numbers,
      few_searches,
      few_sets,
      few_texts,
      trails_more (parts_of_index numbers) (parts_of_search searches ++ set_lists ∷ texts),
      trails_more (parts_of_search searches) (set_lists ∷ texts),
      length-append set_lists.trail (trails texts),
    )

-- the chains and leaves of tunes that are within the limits of a layout, and of their sets
pub filed_count : (limits layout : Layout) (pages : List (List ℕ)) (tunes : List Tune) (sets : List TuneSet) (filed : Filed layout pages tunes sets)
    → AreSized pages → IsTunes limits tunes → AreSetLists sets
    → length (trails (archive_parts filed.numbers filed.searches filed.set_lists filed.texts)) ≤ most_part_pages limits
filed_count limits layout pages tunes sets filed sized within are =
    let n = parts_of_index filed.numbers in
    let q = parts_of_search filed.searches in
    let behind = filed.set_lists ∷ filed.texts in
    let stand = filed.parts.stand in
    let after_numbers = all_right (IsPart pages) n (q ++ behind) stand in
    let after_searches = all_right (IsPart pages) q behind after_numbers in
    let rows = rows_of_tunes tunes filed.texts in
    let many : length (number_entries rows) ≡ length tunes = length-map rows _ ∙ rows_count tunes filed.texts filed.are_tunes in
    let numbers = index_count key_bytes pages filed.numbers (number_entries rows) (length tunes) sized
    (all_left (IsPart pages) n (q ++ behind) stand) filed.are_numbers (omega (arith, many)) in
    let searches = search_count (notes_of layout) pages filed.searches (numbered_texts tunes) sized
    (all_left (IsPart pages) q behind after_numbers) filed.are_searches in
    let size : length (numbered_texts tunes) ≡ length tunes = length-map tunes _ in
    let same : search_pages (length (numbered_texts tunes)) ≡ search_pages (length tunes) = ap search_pages size in
    let lists = sets_few pages sized filed.set_lists filed.sets_are_chain after_searches.0 limits sets filed.are_sets are in
    let texts = texts_count pages limits filed.texts tunes sized after_searches.1 filed.are_tunes within.each within.count in
    parts_sum filed.numbers filed.searches filed.set_lists filed.texts limits
    (omega (arith, numbers, numbers_most limits (length tunes) within.count))
    (omega (arith, searches, same, searches_most limits (length tunes) within.count)) lists texts

-- the root, and the chains and leaves of a state within the limits
pub state_count : (s : Stand) (contents : Contents) (state : State) → HoldsContents s contents state → IsState state → AreSized s.pages
    → length s.used ≤ free_pages s.used + most_used state.layout
state_count s contents state holds within sized =
    let filed = holds.filed in
    let parts = filed_count state.layout state.layout s.pages state.tunes state.sets filed sized within.tunes within.sets in
    let all = parts_count s (archive_parts filed.numbers filed.searches filed.set_lists filed.texts) holds.holds in
    omega (arith, parts, all)
