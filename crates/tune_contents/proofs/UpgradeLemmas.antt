-- Layout 2, laid on the pages of an archive of layout 1.
use Rattle.std.proofs.Common.{◌≡◌, ℕ, ◌+◌, ◌<◌, ◌≤◌, List, [], ◌∷◌, ◌++◌, length, get_or, drop, map, Some, Result, Ok, Err, OnOk, false, is_err}
use Rattle.std.proofs.Common.{refl, sym, ◌∙◌, ap, subst, arith, inl, inr, append-nil, append_assoc}
use Rattle.std.proofs.lemmas.List.{length-map, map-append}
use Rattle.std.specs.List.{AllByRecursion}
use Rattle.std.proofs.Math.ListN.{drop_of_length-le}
use Rattle.index_keys.specs.Entries.{Entry}
use Rattle.index_keys.specs.Holdings.{AreSmall}
use Rattle.index_keys.proofs.Members.{contains_cases, contains_none}
use Rattle.tune_index.specs.Indexes.{Shape}
use Rattle.tune_journal.specs.Pages.{page_at}
use Rattle.tune_pages.specs.Faults.{free_pages}
use Rattle.tune_pages.specs.FreePages.{TakesAtMost}
use Rattle.tune_pages.specs.Stand.{Stand}
use Rattle.tune_pages.specs.declared.fault.Fault.{Fault}
use Rattle.tune_parts.specs.Parts.{Part}
use Rattle.tune_search.specs.IncipitRuns.{AreIncipitsOf, GathersIncipits, HoldsIncipits, NumbersRise}
use Rattle.tune_search.specs.IndexParts.{KeepsIndex, parts_of_index}
use Rattle.tune_search.specs.SearchPages.{AreListed, HasFewLeaves, firsts_in, leaf_count, lists_of}
use Rattle.tune_search.specs.Searches.{HoldsTexts, SearchParts, SearchShape, key_bytes}
use Rattle.tune_sets.specs.SetBytes.{written_sets}
use Rattle.tune_sets.specs.declared.set_lists.TuneSet.{TuneSet}
use Rattle.tune_store.specs.Limits.{greatest_number}
use Rattle.tune_store.specs.State.{IsState, IsTunes, State}
use Rattle.tune_store.specs.TuneSteps.{upgraded_state}
use Rattle.tune_store.specs.declared.layout.Layout.{Layout}
use Rattle.tune_store.specs.declared.layout.Layout.TheVariants.{One, Two}
use Rattle.tune_store.specs.declared.tune.Tune.{Tune}
use Rattle.tune_format.specs.Filed.{archive_parts, numbered_texts, rows_of_tunes}
use Rattle.tune_format.specs.Written.{IsRoot, number_entries}
use Rattle.tune_format.specs.declared.root.Firsts.{Firsts}
use Rattle.tune_format.specs.declared.rows.Row.{Row}
use Rattle.tune_contents.specs.Claimed.{AreRows, RowsRise}
use Rattle.tune_contents.specs.Holds.{HoldsContents, HoldsMemory, HoldsSomeState, Memory}
use Rattle.tune_contents.specs.Inside.Changes.{HoldsTunesWithin}
use Rattle.tune_contents.specs.Inside.Indexed.{StandsAround, keeps_of}
use Rattle.tune_contents.specs.Inside.Laying.{HoldsTunes, LaysRoot}
use Rattle.tune_contents.specs.Inside.TuneRows.{numbers_of_rows}
use Rattle.tune_contents.specs.Inside.Searching.{IsTuneAt, search_pages}
use Rattle.tune_contents.specs.Inside.Upgrading.{AreOfTunes, GathersTo, LengthensTexts}
use Rattle.tune_contents.specs.Most.{most_part_pages}
use Rattle.tune_contents.specs.Texts.{HoldsText}
use Rattle.tune_contents.specs.declared.contents.Contents.{Contents}
use Rattle.tune_contents.proofs.ClaimedRowLemmas.{list_at}
use Rattle.tune_contents.proofs.ContentsLemmas.{SaysWhere, around_of, memory_held, some_indexed}
use Rattle.tune_contents.proofs.IndexedLemmas.{ahead_of, some_within, tunes_around}
use Rattle.tune_contents.proofs.OldTuneLemmas.{as_many, some_row, some_tune, tune_read}
use Rattle.tune_contents.proofs.SearchPageLemmas.{few_pages}
use Rattle.tune_contents.proofs.StatePages.{searches_most}

-- a number and a text
abbrev Text : Type 0
Text = ℕ × List ℕ

-- NUMBERS
-- texts with the numbers of rows rise as these do
numbers_rise : (low least : ℕ) (rows : List Row) (texts : List Text) → map (λ (text : Text). text.0) texts ≡ numbers_of_rows rows → least ≤ low + 1
    → RowsRise low rows → NumbersRise least texts
numbers_rise low least rows [] same le rises = tt
numbers_rise low least [] (text ∷ texts) same le rises = (let no : ⊥ = cc in absurd no)
numbers_rise low least (row ∷ rows) (text ∷ texts) same le rises =
    let first : text.0 ≡ row.number = cc in
    let rest : map (λ (t : Text). t.0) texts ≡ numbers_of_rows rows = cc in
    let above = rises.0 in
    (omega (arith, first, above, le), numbers_rise row.number (text.0 + 1) rows texts rest (omega (arith, first)) rises.1)

-- and have 32 bits as they have
numbers_small : (rows : List Row) (texts : List Text) → map (λ (text : Text). text.0) texts ≡ numbers_of_rows rows
    → AllByRecursion (λ row. row.number ≤ greatest_number) rows → AreSmall texts
numbers_small rows [] same below = λ one at. absurd (contains_none one at)
numbers_small [] (text ∷ texts) same below = (let no : ⊥ = cc in absurd no)
numbers_small (row ∷ rows) (text ∷ texts) same below = λ one at. elim (contains_cases text texts one at) [
  | inl here ↦
      let first : text.0 ≡ row.number = cc in
      let its : text.0 ≡ one.0 = ap (λ (t : Text). t.0) here in
      let least = below.0 in
      omega (arith, first, its, least)
  | inr later ↦
      let rest : map (λ (t : Text). t.0) texts ≡ numbers_of_rows rows = cc in
      numbers_small rows texts rest below.1 one later
]

-- THE ROWS, ONE AFTER ANOTHER
-- none yet
pub gathers_none : (Honest : Type 0) (layout : Layout) (s : Stand) (rows : List Row) (run : List Entry) → GathersIncipits [] run
    → GathersTo Honest layout s rows 0 run
gathers_none Honest layout s rows run none = record { texts = []; gathers = none; numbers = refl; are_tunes = λ h ahead tunes are holds. refl }

-- one more text behind
more_behind : (texts : List Text) (one : Text) (rest all : List Text) → texts ++ one ∷ rest ≡ all → (texts ++ one ∷ []) ++ rest ≡ all
more_behind texts one rest all e = append_assoc texts (one ∷ []) rest ∙ e

module _ (Honest Then : Type 0) (layout : Layout) (s now : Stand) (rows : List Row) (place : ℕ) (was is : List Entry) (text : List ℕ)
    (back : Then → Honest) (same : Honest → now ≡ s) (l : place < length rows) (so : GathersTo Honest layout s rows place was)
    (read : Then → (revision : ℕ) (other : List ℕ) → HoldsText layout now (get_or rows place some_row).first revision other → text ≡ other)
    (adds : (tunes : List Text) → GathersIncipits tunes was
    → GathersIncipits (tunes ++ ((get_or rows place some_row).number, text) ∷ []) is) where
  -- the number and the text of the row
  abbrev its : Text
  its = ((get_or rows place some_row).number, text)

  -- the numbers of the rows in front, and this one
  numbers_then : map (λ (t : Text). t.0) (so.texts ++ its ∷ []) ++ numbers_of_rows (drop (place + 1) rows) ≡ numbers_of_rows rows
  numbers_then =
      let rest : numbers_of_rows (drop place rows) ≡ its.0 ∷ numbers_of_rows (drop (place + 1) rows) = ap numbers_of_rows (list_at rows place some_row l) in
      let front : map (λ (t : Text). t.0) (so.texts ++ its ∷ []) ≡ map (λ (t : Text). t.0) so.texts ++ its.0 ∷ [] =
      map-append (λ (t : Text). t.0) so.texts (its ∷ []) in
      ap (λ (l : List ℕ). l ++ numbers_of_rows (drop (place + 1) rows)) front
      ∙ append_assoc (map (λ (t : Text). t.0) so.texts) (its.0 ∷ []) (numbers_of_rows (drop (place + 1) rows))
      ∙ ap (λ (l : List ℕ). map (λ (t : Text). t.0) so.texts ++ l) (sym rest) ∙ so.numbers

  -- the text is that of the tune at the place
  its_tune : Then → (ahead : List Part) (tunes : List Tune) → IsTunes layout tunes → HoldsTunes s ahead tunes rows → IsTuneAt place tunes (Some its)
  its_tune h ahead tunes are holds =
      tune_read layout s ahead tunes rows place some_row text l are holds
      (λ revision other there. read h revision other (subst (λ (t : Stand). HoldsText layout t (get_or rows place some_row).first revision other)
      (sym (same (back h))) there))

  -- the tunes in front, and this one
  tunes_then : Then → (ahead : List Part) (tunes : List Tune) → IsTunes layout tunes → HoldsTunes s ahead tunes rows
      → (so.texts ++ its ∷ []) ++ numbered_texts (drop (place + 1) tunes) ≡ numbered_texts tunes
  tunes_then h ahead tunes are holds =
      let at = its_tune h ahead tunes are holds in
      let d = some_tune in
      let one : its ≡ ((get_or tunes place d).number, (get_or tunes place d).text) = (let e = at.1 d in cc) in
      let rest : numbered_texts (drop place tunes) ≡ its ∷ numbered_texts (drop (place + 1) tunes) =
      ap numbered_texts (list_at tunes place d at.0) ∙ ap (λ (t : Text). t ∷ numbered_texts (drop (place + 1) tunes)) (sym one) in
      more_behind so.texts its (numbered_texts (drop (place + 1) tunes)) (numbered_texts tunes)
      (ap (λ (l : List Text). so.texts ++ l) (sym rest) ∙ so.are_tunes (back h) ahead tunes are holds)

  -- one more row
  pub gathers_more : GathersTo Then layout s rows (place + 1) is
  gathers_more = record {
    texts = so.texts ++ its ∷ [];
    gathers = adds so.texts so.gathers;
    numbers = numbers_then;
    are_tunes = tunes_then;
  }

-- ALL ROWS
module _ (Honest : Type 0) (layout : Layout) (s : Stand) (rows : List Row) (place : ℕ) (was is : List Entry) (end : length rows ≤ place)
    (are : AreRows layout rows) (so : GathersTo Honest layout s rows place was)
    (orders : (tunes : List Text) → NumbersRise 0 tunes → AreSmall tunes → GathersIncipits tunes was → AreIncipitsOf tunes is) where
  -- the texts have the numbers of all rows
  numbers_all : map (λ (t : Text). t.0) so.texts ≡ numbers_of_rows rows
  numbers_all =
      sym (append-nil (map (λ (t : Text). t.0) so.texts))
      ∙ ap (λ (l : List ℕ). map (λ (t : Text). t.0) so.texts ++ l) (sym (ap numbers_of_rows (drop_of_length-le rows end))) ∙ so.numbers

  -- so that their entries may be put in order
  pub texts_ordered : AreIncipitsOf so.texts is
  texts_ordered = orders so.texts (numbers_rise 0 0 rows so.texts numbers_all (omega arith) are.rise) (numbers_small rows so.texts numbers_all are.numbers)
      so.gathers

  -- which are those of the tunes that stand there
  pub tunes_ordered : Honest → AreOfTunes layout s rows is
  tunes_ordered h = λ ahead tunes within holds.
      (let few : length tunes ≤ place = omega (arith, end, as_many s ahead tunes rows holds) in
      let all : so.texts ≡ numbered_texts tunes = sym (append-nil so.texts)
      ∙ ap (λ (l : List Text). so.texts ++ l) (sym (ap numbered_texts (drop_of_length-le tunes few))) ∙ so.are_tunes h ahead tunes within holds in
      subst (λ (l : List Text). AreIncipitsOf l is) all texts_ordered)

-- WHAT STANDS THERE
-- some tunes within the limits of layout 1
pub some_tunes_within : (s : Stand) (c : Contents) → c.layout ≡ One → HoldsSomeState s c → HoldsTunesWithin One s c.rows.items
some_tunes_within s c one some =
    subst (λ (layout : Layout). HoldsTunesWithin layout s c.rows.items) one
    (some_within c.layout s c.numbers c.searches c.rows.items (some_indexed s c some))

module _ (s : Stand) (c : Contents) (one : c.layout ≡ One) (state : State) (is : IsState state) (h : HoldsContents s c state) where
  -- its tunes are within the limits of layout 1
  within_one : IsTunes One state.tunes
  within_one = subst (λ (layout : Layout). IsTunes layout state.tunes) (sym h.layout ∙ one) is.tunes

  -- the search indexes hold the texts of its tunes
  abbrev texts_held : HoldsTexts s c.searches (parts_of_index h.filed.numbers) (h.filed.set_lists ∷ h.filed.texts) h.filed.searches
      (numbered_texts state.tunes)
  texts_held = record {
    holds = h.holds;
    titles = h.searches.titles;
    rhythms = h.searches.rhythms;
    scales = h.searches.scales;
    incipits = h.searches.incipits;
  }

  -- the incipits of whatever tunes stand there are those of its tunes
  pub incipits_held : (run : List Entry) → AreOfTunes One s c.rows.items run → AreIncipitsOf (numbered_texts state.tunes) run
  incipits_held run are =
      are (ahead_of h.filed.numbers h.filed.searches h.filed.set_lists) state.tunes within_one
      (tunes_around s c.numbers c.searches c.rows.items state.tunes h.filed.set_lists (around_of s c state h))

  -- so many pages are enough
  pub pages_enough : search_pages (length (numbered_texts state.tunes)) ≤ most_part_pages One
  pages_enough =
      let same : search_pages (length (numbered_texts state.tunes)) ≡ search_pages (length state.tunes) = ap search_pages (length-map state.tunes _) in
      let most = searches_most One (length state.tunes) within_one.count in
      omega (arith, same, most)

-- and so they are held, as the pages stand after they were read
pub some_incipits : (s now : Stand) (c : Contents) (shape : SearchShape) (run : List Entry) → c.layout ≡ One → now ≡ s → shape ≡ c.searches
    → AreOfTunes One s c.rows.items run → HoldsSomeState s c → HoldsIncipits now shape run
some_incipits s now c shape run one same copied are (state, is, h) =
    subst (λ (t : Stand). HoldsIncipits t shape run) (sym same) (subst (λ (x : SearchShape). HoldsIncipits s x run) (sym copied) (
      parts_of_index h.filed.numbers,
      h.filed.set_lists ∷ h.filed.texts,
      h.filed.searches,
      numbered_texts state.tunes,
      incipits_held s c one state is h run are,
      texts_held s c one state is h,
    ))

-- PAGES
-- no more than so many are no more than more
at_most_more : {T : Type 0} (result : Result T Fault) (old new : Stand) (n m : ℕ) → n ≤ m → TakesAtMost n result old new → TakesAtMost m result old new
at_most_more (Ok x) old new n m le takes = omega (arith, le, takes)
at_most_more (Err fault) old new n m le takes = λ e. (let lt = takes e in omega (arith, le, lt))

-- the leaves that there are then and their lists are enough for all that was taken
pub longer_takes : (s mid new : Stand) (was longer : SearchShape) (texts : List Text) → HasFewLeaves longer texts
    → free_pages s.used + leaf_count was ≡ free_pages mid.used + leaf_count longer → free_pages mid.used ≤ free_pages new.used + lists_of longer
    → free_pages s.used ≤ free_pages new.used + search_pages (length texts)
longer_takes s mid new was longer texts few balance took = let most = few_pages longer texts few in omega arith

-- where the lists found the file full, too few were free at first
pub longer_full : (s mid : Stand) (was longer : SearchShape) (texts : List Text) → HasFewLeaves longer texts
    → free_pages s.used + leaf_count was ≡ free_pages mid.used + leaf_count longer → free_pages mid.used < lists_of longer
    → free_pages s.used < search_pages (length texts)
longer_full s mid was longer texts few balance full = let most = few_pages longer texts few in omega arith

-- the tunes' incipits take what is enough for a state
pub upgrade_takes : {T : Type 0} (result : Result T Fault) (s now new : Stand) (c : Contents) (shape : SearchShape) (run : List Entry) → c.layout ≡ One
    → now ≡ s → shape ≡ c.searches → AreOfTunes One s c.rows.items run
    → ((before after : List Part) (parts : SearchParts) (texts : List Text) → AreIncipitsOf texts run → HoldsTexts now shape before after parts texts
    → TakesAtMost (search_pages (length texts)) result now new) → (state : State) → HoldsContents s c state → IsState state
    → TakesAtMost (most_part_pages One) result s new
upgrade_takes result s now new c shape run one same copied are takes state h is =
    let its = subst (λ (t : Stand). (before after : List Part) (parts : SearchParts) (texts : List Text) → AreIncipitsOf texts run
    → HoldsTexts t shape before after parts texts → TakesAtMost (search_pages (length texts)) result t new) same takes in
    let all = subst (λ (x : SearchShape). (before after : List Part) (parts : SearchParts) (texts : List Text) → AreIncipitsOf texts run
    → HoldsTexts s x before after parts texts → TakesAtMost (search_pages (length texts)) result s new) copied its in
    at_most_more result s new (search_pages (length (numbered_texts state.tunes))) (most_part_pages One) (pages_enough s c one state is h)
    (all (parts_of_index h.filed.numbers) (h.filed.set_lists ∷ h.filed.texts) h.filed.searches (numbered_texts state.tunes)
    (incipits_held s c one state is h run are) (texts_held s c one state is h))

-- THE UPGRADE
-- what is kept in memory then: the same, but for the search indexes, and where these begin
pub record IsUpgraded (c : Contents) (left : Memory) : Type 0 where
  pub layout : left.layout ≡ Two
  pub rows : left.rows ≡ c.rows.items
  pub numbers : left.numbers ≡ c.numbers
  pub sets : left.sets ≡ c.sets
  pub notes : left.searches.notes ≡ 12
  pub listed : AreListed left.searches
  pub first_numbers : left.firsts.numbers ≡ c.firsts.numbers
  pub first_searches : left.firsts.searches ≡ firsts_in left.searches
  pub first_sets : left.firsts.sets ≡ c.firsts.sets

-- the state is held in layout 2
pub upgraded : (s mid new : Stand) (c : Contents) (left : Memory) (shape : SearchShape) (run : List Entry) → c.layout ≡ One → shape ≡ c.searches
    → AreOfTunes One s c.rows.items run → LengthensTexts s mid shape left.searches run → LaysRoot Two mid new left.firsts → IsUpgraded c left
    → (state : State) → IsState state → HoldsContents s c state → HoldsMemory new left (upgraded_state state)
upgraded s mid new c left shape run one copied are lengthens root kept state is h =
    let filed = h.filed in
    let texts : HoldsTexts s shape (parts_of_index filed.numbers) (filed.set_lists ∷ filed.texts) filed.searches (numbered_texts state.tunes) =
    subst (λ (x : SearchShape). HoldsTexts s x (parts_of_index filed.numbers) (filed.set_lists ∷ filed.texts) filed.searches (numbered_texts state.tunes))
    (sym copied) (texts_held s c one state is h) in
    let longer = lengthens (parts_of_index filed.numbers) (filed.set_lists ∷ filed.texts) filed.searches (numbered_texts state.tunes)
    (incipits_held s c one state is h run are) texts in
    let says : SaysWhere left.numbers left.searches left.firsts = record {
      first = ap (λ (x : Shape). x.first) kept.numbers ∙ h.numbers.first ∙ sym (ap (λ (f : Firsts). f.numbers) h.firsts) ∙ sym kept.first_numbers;
      numbers_listed = ap (λ (x : Shape). x.listed) kept.numbers ∙ h.numbers_listed;
      others = kept.first_searches;
      searches_listed = kept.listed;
    } in
    let around : StandsAround new (keeps_of left.numbers left.searches left.rows) state.tunes filed.set_lists = record {
      numbers = filed.numbers;
      searches = longer.0;
      texts = filed.texts;
      holds = root.parts (archive_parts filed.numbers longer.0 filed.set_lists filed.texts) longer.1.holds;
      keeps_numbers = subst (λ (x : Shape). KeepsIndex key_bytes x filed.numbers (number_entries (rows_of_tunes state.tunes filed.texts)))
          (sym kept.numbers) h.numbers;
      keeps_searches = record { titles = longer.1.titles; rhythms = longer.1.rhythms; scales = longer.1.scales; incipits = longer.1.incipits };
      are_tunes = filed.are_tunes;
      listed = kept.rows ∙ h.listed;
    } in
    memory_held new left Two state.tunes state.sets filed.set_lists kept.layout kept.notes (kept.sets ∙ h.sets) says around filed.sets_are_chain
    (sym (ap (λ (f : Firsts). f.sets) h.firsts) ∙ sym kept.first_sets)
    (filed.are_sets ∙ ap (λ (l : List TuneSet). written_sets l) (sym (kept.sets ∙ h.sets)))
    (subst (λ (l : Layout). IsRoot l (page_at new.pages 0) left.firsts) (sym kept.layout) root.root)

-- ANSWERS
-- what a call ensures that was not refused
pub not_refused : {T E : Type 0} (result : Result T E) (P : Type 0) → is_err result ≡ false → OnOk result P → P
not_refused (Ok x) P went p = p
not_refused (Err e) P went p = cc
