-- Pages that hold tunes and sets are read as these, and a file as its pages.
use Rattle.tune_store.specs.declared.layout.Layout.{Layout}
use Rattle.std.proofs.Common.{◌≡◌, ◌≢◌, inl, inr, ℕ, zero, suc, ◌+◌, ◌*◌, ◌/◌, ◌^◌, ◌<◌, ◌≤◌, List, [], ◌∷◌, ◌++◌, length, map, take, drop, replicate}
use Rattle.std.proofs.Common.{true, false, refl, sym, ◌∙◌, ap, subst, arith, length-append}
use Rattle.std.proofs.Math.Seq.{take-append_seam, drop-append_seam}
use Rattle.std.specs.List.{AllByRecursion, flat_map}
use Rattle.std.proofs.lemmas.Bool.{cases_eq}
use Rattle.std.proofs.lemmas.Bool.Decides.{nat_tests}
use Rattle.std.proofs.lemmas.Grind.{flat_map-append}
use Rattle.std.proofs.lemmas.List.{drop-drop, length-replicate}
use Rattle.byteorder.specs.Endian.{big_bytes, big_number}
use Rattle.byteorder.specs.Numbers.{big_number-reads_back}
use Rattle.index_keys.specs.Entries.{Entry}
use Rattle.tune_index.specs.Leaves.{leaf_in, value_bytes, value_in}
use Rattle.tune_index.specs.ListedLeaves.{listed_bytes, numbers_in}
use Rattle.tune_journal.specs.Image.{StandsFor, gate_of, count_of, new_count_of, log_of, pages_of}
use Rattle.tune_journal.specs.Pages.{page_at, changed_pages}
use Rattle.tune_pages.specs.Chain.{Leads, bytes_along, next_page_of, piece_of}
use Rattle.tune_pages.specs.Stand.{IsFree, AllFree, marked}
use Rattle.tune_pages.proofs.Chains.{length-marked}
use Rattle.tune_pages.proofs.Marks.{used_few}
use Rattle.tune_parts.specs.Parts.{AreApart, IsPart, IsPartOf, Part, PartKind, trails, root_and_trails}
use Rattle.tune_parts.specs.Parts.PartKind.{chain, leaf}
use Rattle.tune_parts.proofs.Lists.{all_left, all_right}
use Rattle.tune_parts.proofs.Once.{free_once, once_free, once_cut}
use Rattle.tune_parts.proofs.PartLemmas.{free_front, each_used, its_chain}
use Rattle.tune_search.specs.IndexParts.{HoldsIndex, IndexParts, IsLeafPart, entries_of_parts, parts_of_index}
use Rattle.tune_search.specs.Searches.{key_bytes, parts_of_search}
use Rattle.tune_search.proofs.LeafParts.{no_chain}
use Rattle.tune_sets.specs.SetBytes.{written_numbers, stored_set, written_sets}
use Rattle.tune_sets.specs.Sets.{IsTuneSet, AreSetLists}
use Rattle.tune_sets.specs.declared.set_lists.TuneSet.{TuneSet}
use Rattle.tune_sets.proofs.ByteLemmas.{set_parts, length-written_numbers}
use Rattle.tune_store.specs.State.{IsTune, IsTunes}
use Rattle.tune_store.specs.declared.tune.Tune.{Tune}
use Rattle.tune_format.specs.Filed.{AreChains, HoldTunes, Filed, archive_parts, rows_of_tunes}
use Rattle.tune_format.specs.Reading.{bytes_from, chain_at, entries_at, tune_of, tune_at_entry}
use Rattle.tune_format.specs.Reading.{numbers_in_bytes, place_count_in, sets_of, sets_written, tunes_in, sets_in, pages_in}
use Rattle.tune_format.specs.Written.{number_entries, number_key, stored_tune}
use Rattle.tune_format.proofs.Bytes.{number_front}
use Rattle.tune_format.proofs.TextLemmas.{tune_without, first_held, later_held}

-- CHAINS
-- pages that come once are at most as many as there are
few_free : (n : ℕ) (trail : List ℕ) → AllFree trail (replicate n false) → length trail ≤ n
few_free n trail free =
    let none = replicate n false in
    let known = free_once trail none free in
    omega (arith, used_few trail (marked true trail none) (each_used trail none known.0 known.1), length-marked true trail none, length-replicate n false)

step_on : (most : ℕ) (pages : List (List ℕ)) (page : ℕ) → 0 < page
    → bytes_from (suc most) pages page ≡ piece_of (page_at pages page) ++ bytes_from most pages (next_page_of (page_at pages page))
step_on most pages page some = grind (arith, nat_tests, some)

step_off : (most : ℕ) (pages : List (List ℕ)) (page : ℕ) → page ≡ 0 → bytes_from most pages page ≡ []
step_off zero pages page is = refl
step_off (suc most) pages page is = grind (arith, nat_tests, is)

-- a walk that may go far enough finds the bytes of a chain
bytes_from_is : (most : ℕ) (pages : List (List ℕ)) (first : ℕ) (trail : List ℕ) → length trail ≤ most → Leads pages first trail 0
    → bytes_from most pages first ≡ bytes_along pages trail
bytes_from_is most pages first [] le leads = step_off most pages first leads
bytes_from_is zero pages first (p ∷ trail) le leads = absurd (omega (arith, le))
bytes_from_is (suc most) pages first (p ∷ trail) le leads =
    ap (bytes_from (suc most) pages) leads.0 ∙ step_on most pages p leads.1
    ∙ ap (λ l. piece_of (page_at pages p) ++ l) (bytes_from_is most pages (next_page_of (page_at pages p)) trail (omega (arith, le)) leads.4)

-- each of these chains is read as its bytes, and begins at a page that is there
abbrev ReadsPart : List (List ℕ) → Part → Type 0
ReadsPart pages part = (chain_at pages part.first ≡ part.bytes) × (part.first ≤ length pages)

first_there : (pages : List (List ℕ)) (first : ℕ) (trail : List ℕ) → Leads pages first trail 0 → first ≤ length pages
first_there pages first [] leads = omega (arith, leads)
first_there pages first (p ∷ trail) leads = omega (arith, leads.0, leads.2)

reads_part : (pages : List (List ℕ)) (part : Part) → part.kind ≡ chain → IsPart pages part → AllFree part.trail (replicate (length pages) false)
    → ReadsPart pages part
reads_part pages part kind stands free =
    let is = its_chain pages part kind stands in (
      bytes_from_is (length pages) pages part.first part.trail (few_free (length pages) part.trail free) is.leads ∙ is.holds,
      first_there pages part.first part.trail is.leads,
    )

-- the pages behind the root
apart_rest : (pages : List (List ℕ)) (parts : List Part) → AreApart (length pages) parts → AllFree (trails parts) (replicate (length pages) false)
apart_rest pages parts apart =
    let none = replicate (length pages) false in
    let known = free_once (root_and_trails parts) none apart in
    once_free (trails parts) none known.0.1 known.1.1

trails_join : (xs ys : List Part) → trails (xs ++ ys) ≡ trails xs ++ trails ys
trails_join xs ys = flat_map-append (λ (part : Part). part.trail) xs ys

reads_parts : (pages : List (List ℕ)) (parts : List Part) → AreChains parts → AllByRecursion (IsPart pages) parts
    → AllFree (trails parts) (replicate (length pages) false) → AllByRecursion (ReadsPart pages) parts
reads_parts pages [] kinds stand free = tt
reads_parts pages (part ∷ parts) kinds stand free =
    let none = replicate (length pages) false in
    let known = free_once (part.trail ++ trails parts) none free in
    let rest = once_cut [] part.trail (trails parts) known.0 in (
      reads_part pages part kinds.0 stand.0 (free_front part.trail (trails parts) none free),
      reads_parts pages parts kinds.1 stand.1 (once_free (trails parts) none rest.0 (all_right (IsFree none) part.trail (trails parts) known.1)),
    )

-- the parts behind others
behind : (xs ys : List Part) (count : ℕ) → AllFree (trails (xs ++ ys)) (replicate count false) → AllFree (trails ys) (replicate count false)
behind xs ys count free =
    let none = replicate count false in
    let parted = subst (λ (ps : List ℕ). AllFree ps none) (trails_join xs ys) free in
    let known = free_once (trails xs ++ trails ys) none parted in
    let rest = once_cut [] (trails xs) (trails ys) known.0 in
    once_free (trails ys) none rest.0 (all_right (IsFree none) (trails xs) (trails ys) known.1)

-- INDEXES
-- numbers that are listed are read back
listed_read : (numbers : List ℕ) → AllByRecursion (λ n. n < 2 ^ 32) numbers → numbers_in (length numbers) (listed_bytes numbers) ≡ numbers
unfolding value_bytes value_in
listed_read [] small = refl
listed_read (n ∷ numbers) small =
    (λ i. number_front n (listed_bytes numbers) small.0 i ∷ listed_read numbers small.1 i)

length-listed : (numbers : List ℕ) → length (listed_bytes numbers) ≡ 4 * length numbers
unfolding value_bytes
length-listed [] = refl
length-listed (n ∷ numbers) = omega (arith, length-listed numbers)

-- the image of a leaf is that of its page, which is there
leaf_image : (pages : List (List ℕ)) (kind : PartKind) (first : ℕ) (trail bytes : List ℕ) → kind ≡ leaf → IsPartOf kind pages first trail bytes
    → (page_at pages first ≡ bytes) × (first < length pages)
leaf_image pages chain first trail bytes is stands = absurd (no_chain is)
leaf_image pages leaf first trail bytes is stands = (stands.holds, stands.there)

-- each of these leaves has the image of its page
abbrev ReadsLeaf : List (List ℕ) → Part → Type 0
ReadsLeaf pages part = (page_at pages part.first ≡ part.bytes) × (part.first < length pages)

reads_leaves : (pages : List (List ℕ)) (leaves : List Part) → AllByRecursion (IsLeafPart key_bytes) leaves → AllByRecursion (IsPart pages) leaves
    → AllByRecursion (ReadsLeaf pages) leaves
reads_leaves pages [] forms stand = tt
reads_leaves pages (part ∷ leaves) forms stand =
    (leaf_image pages part.kind part.first part.trail part.bytes forms.0.is_leaf stand.0, reads_leaves pages leaves forms.1 stand.1)

leaves_read : (pages : List (List ℕ)) (leaves : List Part) → AllByRecursion (ReadsLeaf pages) leaves
    → flat_map (λ page. leaf_in key_bytes (page_at pages page)) (map (λ part. part.first) leaves) ≡ entries_of_parts key_bytes leaves
leaves_read pages [] reads = refl
leaves_read pages (part ∷ leaves) reads = (λ i. leaf_in key_bytes (reads.0.0 i) ++ leaves_read pages leaves reads.1 i)

firsts_small : (pages : List (List ℕ)) (leaves : List Part) → length pages < 2 ^ 32 → AllByRecursion (ReadsLeaf pages) leaves
    → AllByRecursion (λ n. n < 2 ^ 32) (map (λ part. part.first) leaves)
firsts_small pages [] few reads = tt
firsts_small pages (part ∷ leaves) few reads = (omega (arith, few, reads.0.1), firsts_small pages leaves few reads.1)

-- the entries of an index that stands there are read off its list
index_read : (pages : List (List ℕ)) (index : IndexParts) (entries : List Entry) → length pages < 2 ^ 32 → HoldsIndex key_bytes index entries
    → AllByRecursion (IsPart pages) (parts_of_index index) → AllFree index.list.trail (replicate (length pages) false)
    → entries_at pages index.list.first ≡ entries
index_read pages index entries few holds stand free =
    let numbers = map (λ (part : Part). part.first) index.leaves in
    let reads = reads_leaves pages index.leaves holds.leaves stand.1 in
    let list = (reads_part pages index.list holds.is_chain stand.0 free).0 ∙ holds.listed in
    let count : length (listed_bytes numbers) / 4 ≡ length numbers = omega (arith, length-listed numbers) in
    ap (λ l. flat_map (λ page. leaf_in key_bytes (page_at pages page)) (numbers_in (length l / 4) l)) list
    ∙ ap (λ n. flat_map (λ page. leaf_in key_bytes (page_at pages page)) (numbers_in n (listed_bytes numbers))) count
    ∙ ap (flat_map (λ page. leaf_in key_bytes (page_at pages page))) (listed_read numbers (firsts_small pages index.leaves few reads))
    ∙ leaves_read pages index.leaves reads ∙ holds.hold

-- TUNES
tune_read : (tune : Tune) → tune.revision < 2 ^ 16 → tune_of tune.number (stored_tune tune) ≡ tune
tune_read tune small =
    ap (λ r. record { number = tune.number; revision = r; text = tune.text }) (big_number-reads_back 2 tune.revision tune.text (omega (arith, small)))

-- a tune whose revision has room
abbrev HasRoom : Tune → Type 0
HasRoom tune = tune.revision < 2 ^ 16

number_read : (number : ℕ) → number_key number / 256 ^ 28 ≡ number
number_read number = omega arith

tunes_read : (pages : List (List ℕ)) (tunes : List Tune) (texts : List Part) → AllByRecursion HasRoom tunes → HoldTunes texts tunes
    → AllByRecursion (ReadsPart pages) texts → map (tune_at_entry pages) (number_entries (rows_of_tunes tunes texts)) ≡ tunes
tunes_read pages [] texts rooms holds reads = refl
tunes_read pages (tune ∷ tunes) [] rooms holds reads = absurd (tune_without tune tunes holds)
tunes_read pages (tune ∷ tunes) (part ∷ texts) rooms holds reads =
    let its = first_held part texts tune tunes holds in
    let later = later_held part texts tune tunes holds in
    let first = reads.0.0 ∙ its in
    (λ i. tune_of (number_read tune.number i) (first i) ∷ map (tune_at_entry pages) (number_entries (rows_of_tunes tunes texts)))
    ∙ (λ i. tune_read tune rooms.0 i ∷ tunes_read pages tunes texts rooms.1 later reads.1 i)

rooms_of : (layout : Layout) (tunes : List Tune) → AllByRecursion (IsTune layout) tunes → AllByRecursion HasRoom tunes
rooms_of layout [] each = tt
rooms_of layout (tune ∷ tunes) each = (omega (arith, each.0.revision), rooms_of layout tunes each.1)

-- SETS
numbers_read : (numbers rest : List ℕ) → AllByRecursion (λ n. n < 2 ^ 32) numbers → numbers_in_bytes (length numbers) (written_numbers numbers ++ rest)
    ≡ numbers
numbers_read [] rest small = refl
numbers_read (n ∷ numbers) rest small =
    (λ i. number_front n (written_numbers numbers ++ rest) small.0 i ∷ numbers_read numbers rest small.1 i)

-- the parts of a set at the front of bytes
record AtFront (size : ℕ) (bytes name numbers rest : List ℕ) : Type 0 where
  name_is : take size bytes ≡ name
  count_is : place_count_in (drop size bytes) ≡ length numbers
  numbers_are : drop (size + 2) bytes ≡ written_numbers numbers ++ rest
  rest_is : drop (size + 2 + 4 * length numbers) bytes ≡ rest

at_front : (name numbers rest : List ℕ) → length numbers < 2 ^ 16
    → AtFront (length name) (name ++ (big_bytes 2 (length numbers) ++ (written_numbers numbers ++ rest))) name numbers rest
at_front name numbers rest few =
    let n = length name in
    let count = length numbers in
    let tail = big_bytes 2 count ++ (written_numbers numbers ++ rest) in
    let bytes = name ++ tail in
    let behind : drop n bytes ≡ tail = drop-append_seam name tail in
    let numbers_are : drop (n + 2) bytes ≡ written_numbers numbers ++ rest = sym (drop-drop 2 n bytes) ∙ ap (drop 2) behind in
    let size : 4 * count ≡ length (written_numbers numbers) = sym (length-written_numbers numbers) in
    record {
      name_is = take-append_seam name tail;
      count_is = ap (big_number 2) behind ∙ big_number-reads_back 2 count (written_numbers numbers ++ rest) (omega (arith, few));
      numbers_are = numbers_are;
      rest_is = sym (drop-drop (4 * count) (n + 2) bytes) ∙ ap (drop (4 * count)) numbers_are ∙ ap (λ k. drop k (written_numbers numbers ++ rest)) size
          ∙ drop-append_seam (written_numbers numbers) rest;
    }

-- the set at the front of bytes
set_read : (most : ℕ) (set : TuneSet) (rest : List ℕ) → IsTuneSet set → sets_of (suc most) (stored_set set ++ rest) ≡ set ∷ sets_of most rest
set_read most set rest is =
    let n = length set.name in
    let bytes = set.name ++ (big_bytes 2 (length set.numbers) ++ (written_numbers set.numbers ++ rest)) in
    let front = at_front set.name set.numbers rest (omega (arith, is.places)) in
    let later : drop (n + 2 + 4 * place_count_in (drop n bytes)) bytes ≡ rest = ap (λ c. drop (n + 2 + 4 * c) bytes) front.count_is ∙ front.rest_is in
    ap (sets_of (suc most)) (set_parts set rest)
    ∙ (λ i. record { name = front.name_is i; numbers = numbers_in_bytes (front.count_is i) (front.numbers_are i) } ∷ sets_of most (later i))
    ∙ ap (λ l. record { name = set.name; numbers = l } ∷ sets_of most rest) (numbers_read set.numbers rest is.numbers)

sets_read : (most : ℕ) (sets : List TuneSet) → AllByRecursion IsTuneSet sets → length sets ≤ most → sets_of most (written_sets sets) ≡ sets
sets_read zero [] each le = refl
sets_read (suc most) [] each le = refl
sets_read zero (set ∷ sets) each le = absurd (omega (arith, le))
sets_read (suc most) (set ∷ sets) each le = set_read most set (written_sets sets) each.0 ∙ ap (λ l. set ∷ l) (sets_read most sets each.1 (omega (arith, le)))

sets_long : (sets : List TuneSet) → length sets ≤ length (written_sets sets)
sets_long [] = omega arith
sets_long (set ∷ sets) = omega (arith, sets_long sets, length-append (stored_set set) (written_sets sets))

-- PAGES
-- the set lists and the tunes are read as their bytes
filed_texts : (layout : Layout) (pages : List (List ℕ)) (tunes : List Tune) (sets : List TuneSet) (filed : Filed layout pages tunes sets)
    → AllByRecursion (ReadsPart pages) (filed.set_lists ∷ filed.texts)
filed_texts layout pages tunes sets filed =
    let numbers = parts_of_index filed.numbers in
    let searches = parts_of_search filed.searches in
    let texts = filed.set_lists ∷ filed.texts in
    let free = behind searches texts (length pages) (behind numbers (searches ++ texts) (length pages) (all_free layout pages tunes sets filed)) in
    reads_parts pages texts (filed.sets_are_chain, filed.are_tunes.are_chains)
    (all_right (IsPart pages) searches texts (all_right (IsPart pages) numbers (searches ++ texts) filed.parts.stand)) free
  where
    all_free : (layout : Layout) (pages : List (List ℕ)) (tunes : List Tune) (sets : List TuneSet) (filed : Filed layout pages tunes sets)
        → AllFree (trails (archive_parts filed.numbers filed.searches filed.set_lists filed.texts)) (replicate (length pages) false)
    all_free layout pages tunes sets filed = apart_rest pages (archive_parts filed.numbers filed.searches filed.set_lists filed.texts) filed.parts.apart

filed_numbers : (layout : Layout) (pages : List (List ℕ)) (tunes : List Tune) (sets : List TuneSet) (filed : Filed layout pages tunes sets)
    → length pages < 2 ^ 32 → entries_at pages filed.numbers.list.first ≡ number_entries (rows_of_tunes tunes filed.texts)
filed_numbers layout pages tunes sets filed few =
    let numbers = parts_of_index filed.numbers in
    let rest = parts_of_search filed.searches ++ filed.set_lists ∷ filed.texts in
    let free = apart_rest pages (numbers ++ rest) filed.parts.apart in
    index_read pages filed.numbers (number_entries (rows_of_tunes tunes filed.texts)) few filed.are_numbers
    (all_left (IsPart pages) numbers rest filed.parts.stand)
    (free_front filed.numbers.list.trail (trails (filed.numbers.leaves ++ rest)) (replicate (length pages) false) free)

pub tunes_filed : {layout : Layout} → (pages : List (List ℕ)) (tunes : List Tune) (sets : List TuneSet) → Filed layout pages tunes sets → IsTunes layout tunes
    → length pages < 2 ^ 32 → tunes_in pages ≡ tunes
tunes_filed pages tunes sets filed are few =
    ap (λ n. map (tune_at_entry pages) (entries_at pages n)) filed.root.numbers
    ∙ ap (map (tune_at_entry pages)) (filed_numbers _ pages tunes sets filed few)
    ∙ tunes_read pages tunes filed.texts (rooms_of _ tunes are.each) filed.are_tunes (filed_texts _ pages tunes sets filed).1

pub sets_filed : {layout : Layout} → (pages : List (List ℕ)) (tunes : List Tune) (sets : List TuneSet) → Filed layout pages tunes sets → AreSetLists sets
    → sets_in pages ≡ sets
sets_filed pages tunes sets filed are =
    let reads = filed_texts _ pages tunes sets filed in
    let chain = ap (chain_at pages) filed.root.sets ∙ reads.0.0 ∙ filed.are_sets in
    ap sets_written chain ∙ sets_read (length (written_sets sets)) sets are.each (sets_long sets)

-- FILES
open_pages : (file : List ℕ) → gate_of file ≡ 167 → pages_in file ≡ changed_pages (pages_of (new_count_of file) file) (log_of file)
open_pages file is = grind (arith, nat_tests, is)

closed_pages : (file : List ℕ) → gate_of file ≢ 167 → pages_in file ≡ pages_of (count_of file) file
closed_pages file shut = grind (arith, nat_tests, shut)

-- a file is read as the pages that it stands for
pub pages_read : (pages : List (List ℕ)) (file : List ℕ) → StandsFor pages file → pages_in file ≡ pages
pages_read pages file stands = elim (cases_eq (gate_of file) 167) [
  | inl is ↦ open_pages file is ∙ sym (stands.is_open is).1
  | inr shut ↦ closed_pages file shut ∙ sym (stands.is_closed shut).1
]
