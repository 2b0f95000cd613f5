-- What the contents of an archive hold, through a change.
use Rattle.std.proofs.Common.{◌≡◌, ◌≢◌, ℕ, true, false, List, ◌∷◌, ◌++◌, Option, Some, None, is_some, refl, sym, ◌∙◌, ap, subst, arith, append_assoc}
use Rattle.std.proofs.lemmas.List.{length-map}
use Rattle.index_keys.specs.Entries.{Entry}
use Rattle.tune_incipit.specs.ScaleAndIncipitKeys.{incipit_keys, scale_keys}
use Rattle.tune_index.specs.Indexes.{Shape}
use Rattle.tune_index.specs.ListedLeaves.{listed_bytes}
use Rattle.tune_journal.specs.Pages.{page_at}
use Rattle.tune_pages.specs.Stand.{Stand, HasSomeChain, HasChain}
use Rattle.tune_parts.specs.Parts.{Part, HoldsParts}
use Rattle.tune_parts.specs.Parts.PartKind.{chain}
use Rattle.tune_parts.proofs.PartLemmas.{are_parts, has_part}
use Rattle.tune_search.specs.IndexParts.{HoldsIndex, IndexParts, KeepsIndex, parts_of_index}
use Rattle.tune_search.specs.SearchPages.{AreListed, firsts_in}
use Rattle.tune_search.specs.Searches.{HoldsKeys, SearchParts, SearchShape, key_bytes, parts_of_search}
use Rattle.tune_sets.specs.SetBytes.{written_sets}
use Rattle.tune_sets.specs.declared.set_lists.TuneSet.{TuneSet}
use Rattle.tune_sets.proofs.PlaceLemmas.{unheld_renumbered}
use Rattle.tune_store.specs.declared.layout.Layout.{Layout}
use Rattle.tune_store.specs.Limits.{notes_of}
use Rattle.tune_store.specs.Plans.{CanChange, changed, changed_layout, changed_sets, changed_tunes}
use Rattle.tune_store.specs.State.{State, IsState, IsTunes}
use Rattle.tune_store.specs.declared.tune.Tune.{Tune}
use Rattle.tune_store.specs.declared.plans.Change.{Change}
use Rattle.tune_store.specs.declared.plans.Change.TheVariants.{Add, Put, Take, Move, NewSet}
use Rattle.tune_store.specs.declared.plans.Change.TheVariants.{AddPlace, CutPlace, DropSet, Upgrade}
use Rattle.tune_titles.specs.TitleAndRhythmKeys.{rhythm_keys, title_keys}
use Rattle.tune_format.specs.Filed.{archive_parts, firsts_of, numbered_texts, rows_of_tunes}
use Rattle.tune_format.specs.Searched.{AreSearchIndexes, IsSearchIndex}
use Rattle.tune_format.specs.Written.{IsRoot, number_entries}
use Rattle.tune_format.specs.declared.root.Firsts.{Firsts}
use Rattle.tune_format.specs.declared.rows.Row.{Row}
use Rattle.tune_contents.specs.Holds.{label_in, labels_in, HoldsContents, HoldsMemory, HoldsSomeState, KeepsTexts, LaysMemory, Memory}
use Rattle.tune_contents.specs.Inside.Changes.{RowsAccept, SetsAccept, changes_sets}
use Rattle.tune_contents.specs.Inside.Indexed.{HoldsIndexed, HoldsSomeIndexed, Keeps, LaysIndexed, StandsAround, keeps_of}
use Rattle.tune_contents.specs.Inside.Laying.{HoldsSets, LaysRoot, LaysSets}
use Rattle.tune_contents.specs.Next.{memory_after, rows_after}
use Rattle.tune_contents.specs.declared.contents.Contents.{Contents}
use Rattle.tune_contents.specs.declared.next.Next.{Next}

-- WHAT A CHANGE ASKS
pub rows_accept : (layout : Layout) (change : Change) (rows : List Row) (sets : List TuneSet) → CanChange change layout (labels_in rows) sets
    → RowsAccept change rows
rows_accept layout (Add first texts) rows sets can = let most = can.1 in omega (arith, most)
rows_accept layout (Put place tune) rows sets can = let within = can.0 in omega (arith, within, length-map rows label_in)
rows_accept layout (Take place) rows sets can = omega (arith, can, length-map rows label_in)
rows_accept layout (Move number to) rows sets can = tt
rows_accept layout (NewSet name) rows sets can = tt
rows_accept layout (AddPlace name number) rows sets can = tt
rows_accept layout (CutPlace name place) rows sets can = tt
rows_accept layout (DropSet name) rows sets can = tt
rows_accept layout Upgrade rows sets can = tt

pub sets_accept : (layout : Layout) (change : Change) (rows : List Row) (sets : List TuneSet) → CanChange change layout (labels_in rows) sets
    → SetsAccept change sets
sets_accept layout (Add first texts) rows sets can = tt
sets_accept layout (Put place tune) rows sets can = tt
sets_accept layout (Take place) rows sets can = tt
sets_accept layout (Move number to) rows sets can = tt
sets_accept layout (NewSet name) rows sets can = can
sets_accept layout (AddPlace name number) rows sets can = can
sets_accept layout (CutPlace name place) rows sets can = can
sets_accept layout (DropSet name) rows sets can = can
sets_accept layout Upgrade rows sets can = tt

is_none : (found : Option (List ℕ)) → is_some found ≡ false → found ≡ None
is_none None h = refl
is_none (Some name) h = cc

-- a change of tunes alone leaves the set lists
sets_stay : (change : Change) (sets : List TuneSet) → changes_sets change sets ≡ false → changed_sets change sets ≡ sets
sets_stay (Add first texts) sets h = refl
sets_stay (Put place tune) sets h = refl
sets_stay (Take place) sets h = refl
sets_stay (Move number to) sets h = unheld_renumbered number to sets (is_none _ h)
sets_stay (NewSet name) sets h = cc
sets_stay (AddPlace name number) sets h = cc
sets_stay (CutPlace name place) sets h = cc
sets_stay (DropSet name) sets h = cc
sets_stay Upgrade sets h = refl

-- a change that is no upgrade leaves the layout
pub layout_stays : (change : Change) (layout : Layout) → change ≢ Upgrade → changed_layout change layout ≡ layout
layout_stays (Add first texts) layout other = refl
layout_stays (Put place tune) layout other = refl
layout_stays (Take place) layout other = refl
layout_stays (Move number to) layout other = refl
layout_stays (NewSet name) layout other = refl
layout_stays (AddPlace name number) layout other = refl
layout_stays (CutPlace name place) layout other = refl
layout_stays (DropSet name) layout other = refl
layout_stays Upgrade layout other = absurd (other refl)

-- the state after such a change, in the same layout
abbrev pub changed_within : Change → State → State
changed_within change state =
    record { layout = state.layout; tunes = changed_tunes change state.tunes; sets = changed_sets change state.sets }

-- is that after it
pub changed_is : (change : Change) (state : State) → change ≢ Upgrade → changed change state ≡ changed_within change state
changed_is change state other = ap (λ (l : Layout). record {
  layout = l;
  tunes = changed_tunes change state.tunes;
  sets = changed_sets change state.sets;
}) (layout_stays change state.layout other)

-- INDEXES
-- where its list names the leaves, memory has an index as it stands
index_held : {width : ℕ} → (shape : Shape) (parts : IndexParts) (entries : List Entry) → shape.listed ≡ true → KeepsIndex width shape parts entries
    → HoldsIndex width parts entries
index_held shape parts entries listed k = record {
  is_chain = k.is_chain;
  leaves = k.leaves;
  listed = k.listed listed ∙ ap listed_bytes k.pages;
  hold = k.hold;
  rising = k.rising;
}

search_held : {width : ℕ} → (keys_of : List ℕ → List ℕ) (tunes : List (ℕ × List ℕ)) (shape : Shape) (parts : IndexParts) → shape.listed ≡ true
    → HoldsKeys width keys_of tunes shape parts → IsSearchIndex width keys_of tunes parts
search_held keys_of tunes shape parts listed h =
    record { entries = h.entries; holds = index_held shape parts h.entries listed h.keeps; exact = h.exact }

searches_held : (shape : SearchShape) (parts : SearchParts) (tunes : List (ℕ × List ℕ)) → AreListed shape → KeepsTexts shape parts tunes
    → AreSearchIndexes shape.notes tunes parts
searches_held shape parts tunes listed k = record {
  titles = search_held title_keys tunes shape.titles parts.titles listed.titles k.titles;
  rhythms = search_held rhythm_keys tunes shape.rhythms parts.rhythms listed.rhythms k.rhythms;
  scales = search_held scale_keys tunes shape.scales parts.scales listed.scales k.scales;
  incipits = search_held (incipit_keys shape.notes) tunes shape.incipits parts.incipits listed.incipits k.incipits;
}

-- THE PARTS OF CONTENTS
abbrev pub keeps_in : Contents → Keeps
keeps_in c = keeps_of c.numbers c.searches c.rows.items

abbrev pub around_of : (s : Stand) (c : Contents) (state : State) → (h : HoldsContents s c state) → StandsAround s (keeps_in c) state.tunes h.filed.set_lists
around_of s c state h = record {
  numbers = h.filed.numbers;
  searches = h.filed.searches;
  texts = h.filed.texts;
  holds = h.holds;
  keeps_numbers = h.numbers;
  keeps_searches = h.searches;
  are_tunes = h.filed.are_tunes;
  listed = h.listed;
}

within_of : (s : Stand) (c : Contents) (state : State) → HoldsContents s c state → IsTunes state.layout state.tunes → IsTunes c.layout state.tunes
within_of s c state h is = subst (λ (layout : Layout). IsTunes layout state.tunes) (sym h.layout) is

-- the tunes of the contents, and their indexes
pub indexed_of : (s : Stand) (c : Contents) (state : State) → IsState state → HoldsContents s c state → HoldsIndexed c.layout s (keeps_in c) state.tunes
indexed_of s c state is h = record { set_lists = h.filed.set_lists; around = around_of s c state h; within = within_of s c state h is.tunes }

pub some_indexed : (s : Stand) (c : Contents) → HoldsSomeState s c → HoldsSomeIndexed c.layout s (keeps_in c)
some_indexed s c (state, is, h) = (state.tunes, indexed_of s c state is h)

-- the set lists among the other parts
abbrev before_sets : IndexParts → SearchParts → List Part
before_sets numbers searches = parts_of_index numbers ++ parts_of_search searches

sets_among : (numbers : IndexParts) (searches : SearchParts) (set_lists : Part) (texts : List Part)
    → before_sets numbers searches ++ set_lists ∷ texts ≡ archive_parts numbers searches set_lists texts
sets_among numbers searches set_lists texts = append_assoc (parts_of_index numbers) (parts_of_search searches) (set_lists ∷ texts)

-- what memory says of where things begin and of what its lists name
pub record SaysWhere (numbers : Shape) (searches : SearchShape) (firsts : Firsts) : Type 0 where
  pub first : numbers.first ≡ firsts.numbers
  pub numbers_listed : numbers.listed ≡ true
  pub others : firsts.searches ≡ firsts_in searches
  pub searches_listed : AreListed searches

firsts_are : (c : Memory) (numbers : IndexParts) (searches : SearchParts) (set_lists : Part) (entries : List Entry) (tunes : List (ℕ × List ℕ))
    → SaysWhere c.numbers c.searches c.firsts → KeepsIndex key_bytes c.numbers numbers entries → KeepsTexts c.searches searches tunes
    → set_lists.first ≡ c.firsts.sets → c.firsts ≡ firsts_of numbers searches set_lists
firsts_are c numbers searches set_lists entries tunes says index texts sets =
    let one : c.firsts.numbers ≡ numbers.list.first = sym says.first ∙ index.first in
    let four : c.firsts.searches ≡ (firsts_of numbers searches set_lists).searches = says.others
    ∙ (λ i. record {
      titles = texts.titles.keeps.first i;
      rhythms = texts.rhythms.keeps.first i;
      scales = texts.scales.keeps.first i;
      incipits = texts.incipits.keeps.first i;
    }) in
    let last : c.firsts.sets ≡ set_lists.first = sym sets in
    λ i. record { numbers = one i; searches = four i; sets = last i }

pub memory_held : (s : Stand) (c : Memory) (layout : Layout) (tunes : List Tune) (sets : List TuneSet) (set_lists : Part) → c.layout ≡ layout
    → c.searches.notes ≡ notes_of layout → c.sets ≡ sets → SaysWhere c.numbers c.searches c.firsts
    → StandsAround s (keeps_of c.numbers c.searches c.rows) tunes set_lists → set_lists.kind ≡ chain → set_lists.first ≡ c.firsts.sets
    → set_lists.bytes ≡ written_sets c.sets → IsRoot c.layout (page_at s.pages 0) c.firsts
    → HoldsMemory s c (record { layout = layout; tunes = tunes; sets = sets })
memory_held s c layout tunes sets set_lists known notes same says a kind begins bytes root =
    let firsts = firsts_are c a.numbers a.searches set_lists (number_entries (rows_of_tunes tunes a.texts)) (numbered_texts tunes) says a.keeps_numbers
    a.keeps_searches begins in
    record {
      layout = known;
      notes = notes;
      filed = record {
        numbers = a.numbers;
        searches = a.searches;
        set_lists = set_lists;
        texts = a.texts;
        parts = are_parts s (archive_parts a.numbers a.searches set_lists a.texts) a.holds;
        root = subst (λ (l : Layout). IsRoot l (page_at s.pages 0) (firsts_of a.numbers a.searches set_lists)) known
            (subst (λ (f : Firsts). IsRoot c.layout (page_at s.pages 0) f) firsts root);
        are_numbers = index_held c.numbers a.numbers (number_entries (rows_of_tunes tunes a.texts)) says.numbers_listed a.keeps_numbers;
        are_searches = subst (λ (n : ℕ). AreSearchIndexes n (numbered_texts tunes) a.searches) notes
            (searches_held c.searches a.searches (numbered_texts tunes) says.searches_listed a.keeps_searches);
        sets_are_chain = kind;
        are_sets = bytes ∙ ap (λ (l : List TuneSet). written_sets l) same;
        are_tunes = a.are_tunes;
      };
      holds = a.holds;
      listed = a.listed;
      numbers = a.keeps_numbers;
      numbers_listed = says.numbers_listed;
      searches = a.keeps_searches;
      searches_listed = says.searches_listed;
      sets = same;
      firsts = firsts;
    }

-- THE CHANGE
-- the tunes and the indexes are changed, and the set lists are not yet
module _ (s mid : Stand) (c : Contents) (is : Keeps) (change : Change) (can : CanChange change c.layout (labels_in c.rows.items) c.sets)
    (lays : LaysIndexed c.layout s mid (keeps_in c) is change) (state : State) (within : IsTunes state.layout state.tunes) (h : HoldsContents s c state) where
  indexed_then : StandsAround mid is (changed_tunes change state.tunes) h.filed.set_lists
  indexed_then = lays h.filed.set_lists state.tunes c.sets (within_of s c state h within) can (around_of s c state h)

  sets_then : HoldsSets mid (before_sets indexed_then.numbers indexed_then.searches) indexed_then.texts c.firsts.sets c.sets
  sets_then = record {
    part = h.filed.set_lists;
    holds = subst (HoldsParts mid) (sym (sets_among indexed_then.numbers indexed_then.searches h.filed.set_lists indexed_then.texts)) indexed_then.holds;
    is_chain = h.filed.sets_are_chain;
    is_first = ap (λ (f : Firsts). f.sets) (sym h.firsts);
    bytes = h.filed.are_sets ∙ ap (λ (l : List TuneSet). written_sets l) (sym h.sets);
  }

  chain_then : HasSomeChain mid c.firsts.sets
  unfolding sets_then
  chain_then =
      let part = h.filed.set_lists in (
        part.trail,
        part.bytes,
        subst (λ (n : ℕ). HasChain mid n part.trail part.bytes) sets_then.is_first
            (has_part mid part (before_sets indexed_then.numbers indexed_then.searches) indexed_then.texts h.filed.sets_are_chain
            (subst (HoldsParts mid) (sym (sets_among indexed_then.numbers indexed_then.searches part indexed_then.texts)) indexed_then.holds)),
      )

  -- the set lists, and then the root
  laid_then : (late new : Stand) (left : Memory) → is ≡ keeps_of left.numbers left.searches left.rows
      → LaysSets mid late c.firsts.sets left.firsts.sets (changes_sets change c.sets) left.sets
      → LaysRoot c.layout late new left.firsts → left.layout ≡ c.layout → left.searches.notes ≡ c.searches.notes
      → left.sets ≡ changed_sets change c.sets → SaysWhere left.numbers left.searches left.firsts
      → HoldsMemory new left (record { layout = state.layout; tunes = changed_tunes change state.tunes; sets = changed_sets change state.sets })
  laid_then late new left same named root known notes sets says =
      let before = before_sets indexed_then.numbers indexed_then.searches in
      let now = named before indexed_then.texts c.sets (λ e. sym (sets ∙ sets_stay change c.sets e)) sets_then in
      let holds = root.parts (before ++ now.part ∷ indexed_then.texts) now.holds in
      let all : StandsAround new is (changed_tunes change state.tunes) now.part = record {
        numbers = indexed_then.numbers;
        searches = indexed_then.searches;
        texts = indexed_then.texts;
        holds = subst (HoldsParts new) (sets_among indexed_then.numbers indexed_then.searches now.part indexed_then.texts) holds;
        keeps_numbers = indexed_then.keeps_numbers;
        keeps_searches = indexed_then.keeps_searches;
        are_tunes = indexed_then.are_tunes;
        listed = indexed_then.listed;
      } in
      memory_held new left state.layout (changed_tunes change state.tunes) (changed_sets change state.sets) now.part (known ∙ h.layout) (notes ∙ h.notes)
      (sets ∙ ap (λ (l : List TuneSet). changed_sets change l) h.sets) says
      (subst (λ (k : Keeps). StandsAround new k (changed_tunes change state.tunes) now.part) same all) now.is_chain now.is_first now.bytes
      (subst (λ (l : Layout). IsRoot l (page_at new.pages 0) left.firsts) (sym known) root.root)

-- the set lists begin at a chain
pub sets_there : (s mid : Stand) (c : Contents) (is : Keeps) (change : Change) → CanChange change c.layout (labels_in c.rows.items) c.sets
    → LaysIndexed c.layout s mid (keeps_in c) is change → HoldsSomeState s c → HasSomeChain mid c.firsts.sets
sets_there s mid c is change can lays (state, within, h) = chain_then s mid c is change can lays state within.tunes h

-- all is changed
pub state_laid : (s mid late new : Stand) (c : Contents) (next : Next) (change : Change) → CanChange change c.layout (labels_in c.rows.items) c.sets
    → LaysIndexed c.layout s mid (keeps_in c) (keeps_of next.numbers next.searches (rows_after next.rows c.rows.items)) change
    → LaysSets mid late c.firsts.sets next.firsts.sets (changes_sets change c.sets) next.sets → LaysRoot c.layout late new next.firsts
    → next.layout ≡ c.layout → next.searches.notes ≡ c.searches.notes → next.sets ≡ changed_sets change c.sets
    → SaysWhere next.numbers next.searches next.firsts → change ≢ Upgrade → LaysMemory s new c (memory_after next c) change
state_laid s mid late new c next change can lays named root known notes sets says other =
    let is : Keeps = keeps_of next.numbers next.searches (rows_after next.rows c.rows.items) in
    λ state within h. subst (λ (after : State). HoldsMemory new (memory_after next c) after) (sym (changed_is change state other))
    (laid_then s mid c is change can lays state within.tunes h late new (memory_after next c) refl named root known notes sets says)
