-- The state that stands on pages that were claimed.
use Rattle.std.proofs.Common.{◌≡◌, inl, inr, ℕ, ◌*◌, ◌<◌, ◌≤◌, List, [], ◌∷◌, ◌++◌, length, drop, get_or, map, eqb, Bool, true}
use Rattle.std.proofs.Common.{refl, sym, ◌∙◌, ap, subst, append_assoc, arith}
use Rattle.std.specs.Prelude.{IsSome}
use Rattle.std.specs.List.{AllByRecursion, Contains}
use Rattle.std.proofs.lemmas.Bool.{cases_Bool, eqb-true, eq-eqb, false≢true}
use Rattle.index_keys.specs.Entries.{Entry}
use Rattle.index_keys.specs.Holdings.{HaveOwnNumbers, HoldsEntries, keys_at}
use Rattle.index_keys.proofs.Members.{contains_cases, contains_none}
use Rattle.index_keys.proofs.ByNumber.{by_number_held, held_by_number}
use Rattle.tune_search.specs.Loaded.{search_with}
use Rattle.tune_incipit.specs.Incipits.{incipit_of, tune_notes}
use Rattle.tune_incipit.specs.ScaleAndIncipitKeys.{incipit_keys, scale_keys}
use Rattle.tune_incipit.proofs.KeyLaws.{incipit_rises, scales_rise}
use Rattle.tune_index.specs.Indexes.{Shape}
use Rattle.tune_index.specs.ListedLeaves.{listed_bytes, index_with, pages_claimed}
use Rattle.tune_journal.specs.Pages.{page_at}
use Rattle.tune_parts.specs.Parts.{AreParts, Part}
use Rattle.tune_parts.proofs.Lists.{all_map}
use Rattle.tune_pages.specs.Claim.{IsChainFault}
use Rattle.tune_pages.specs.declared.fault.ClaimFault.{ClaimFault}
use Rattle.tune_pages.proofs.Claiming.{fault_as}
use Rattle.tune_search.specs.LoadedParts.{HasClaimed, HoldEachAtMost}
use Rattle.tune_search.specs.SearchClaims.{AreAllKnown, HoldByNumber, StandsAtKeys}
use Rattle.tune_search.specs.IndexParts.{HoldsIndex, IndexParts, KeepsIndex, parts_of_index}
use Rattle.tune_search.specs.Searches.{SearchParts, SearchRuns, SearchShape, key_bytes, parts_of_search}
use Rattle.tune_sets.specs.Sets.{AreSetLists}
use Rattle.tune_sets.specs.SetBytes.{written_sets}
use Rattle.tune_sets.specs.declared.set_lists.TuneSet.{TuneSet}
use Rattle.tune_store.specs.Limits.{greatest_number, most_tunes, notes_of}
use Rattle.tune_store.specs.State.{State, NumbersRiseFrom, greatest, tune_at, AreHeld, NameTunes}
use Rattle.tune_store.specs.declared.layout.Layout.{Layout}
use Rattle.tune_store.specs.declared.layout.Layout.TheVariants.{One, Two}
use Rattle.tune_store.specs.declared.tune.Tune.{Tune}
use Rattle.tune_format.specs.Filed.{HoldTunes, archive_parts, numbered_texts, rows_of_tunes}
use Rattle.tune_format.specs.States.{IsStateOf}
use Rattle.tune_format.specs.Written.{IsRoot, number_entries}
use Rattle.tune_format.specs.declared.root.Firsts.{Firsts}
use Rattle.tune_format.specs.declared.rows.Row.{Row}
use Rattle.tune_format.proofs.TextLemmas.{later_held, rows_count, tune_without}
use Rattle.tune_titles.specs.TitleAndRhythmKeys.{rhythm_keys, title_keys}
use Rattle.tune_titles.proofs.KindLaws.{rhythm_rises, titles_rise}
use Rattle.tune_contents.specs.Claimed.{AreRows, IsClaimed, RowsRise}
use Rattle.tune_contents.specs.declared.contents.Contents.{Contents}
use Rattle.tune_contents.specs.Inside.ClaimedParts.{AreBlocks, AreRowsThere, AreTunesThere, ClaimsLists, HasLists, IsStateThere, ListsClaimed, StandAtKeys}
use Rattle.tune_contents.specs.Inside.ClaimedParts.{TunesClaimed, runs_filed, tune_site}
use Rattle.tune_contents.specs.Inside.ClaimedRows.{AreEntriesOfRows, HasNumber, HaveFew, NumberRows, NameRows}
use Rattle.tune_contents.specs.Inside.TuneRows.{numbers_of_rows}
use Rattle.tune_contents.proofs.ClaimLemmas.{at_pages, claimed_as}
use Rattle.tune_contents.proofs.ClaimListLemmas.{fault_where, layout_there, searches_few, state_some}
use Rattle.tune_contents.proofs.ClaimedRowLemmas.{all_each, each_all, rows_as, same_numbers}

-- ROWS OF TUNES
rise_of : (low : ℕ) (tunes : List Tune) (texts : List Part) → NumbersRiseFrom low tunes → RowsRise low (rows_of_tunes tunes texts)
rise_of low [] texts rises = tt
rise_of low (tune ∷ tunes) [] rises = tt
rise_of low (tune ∷ tunes) (part ∷ texts) rises = (rises.0, rise_of tune.number tunes texts rises.1)

within_of : (tunes : List Tune) (texts : List Part) → greatest tunes ≤ greatest_number
    → AllByRecursion (λ row. row.number ≤ greatest_number) (rows_of_tunes tunes texts)
within_of [] texts top = tt
within_of (tune ∷ tunes) [] top = tt
within_of (tune ∷ tunes) (part ∷ texts) top = (omega (arith, top), within_of tunes texts (omega (arith, top)))

rises_by : (low : ℕ) (tunes : List Tune) (texts : List Part) → HoldTunes texts tunes → RowsRise low (rows_of_tunes tunes texts) → NumbersRiseFrom low tunes
rises_by low [] texts hold rise = tt
rises_by low (tune ∷ tunes) [] hold rise = absurd (tune_without tune tunes hold)
rises_by low (tune ∷ tunes) (part ∷ texts) hold rise = (rise.0, rises_by tune.number tunes texts (later_held part texts tune tunes hold) rise.1)

top_by : (tunes : List Tune) (texts : List Part) → HoldTunes texts tunes
    → AllByRecursion (λ row. row.number ≤ greatest_number) (rows_of_tunes tunes texts) → greatest tunes ≤ greatest_number
top_by [] texts hold within = omega arith
top_by (tune ∷ tunes) [] hold within = absurd (tune_without tune tunes hold)
top_by (tune ∷ tunes) (part ∷ texts) hold within =
    let more = top_by tunes texts (later_held part texts tune tunes hold) within.1 in
    let here = within.0 in
    omega (arith, more, here)

-- their numbers
rows_have_numbers : (tunes : List Tune) (texts : List Part) → HoldTunes texts tunes
    → numbers_of_rows (rows_of_tunes tunes texts) ≡ map (λ (tune : ℕ × List ℕ). tune.0) (numbered_texts tunes)
rows_have_numbers [] texts hold = refl
rows_have_numbers (tune ∷ tunes) [] hold = absurd (tune_without tune tunes hold)
rows_have_numbers (tune ∷ tunes) (part ∷ texts) hold =
    ap (λ (l : List ℕ). tune.number ∷ l) (rows_have_numbers tunes texts (later_held part texts tune tunes hold))

state_rows : (pages : List (List ℕ)) (state : State) (is : IsStateOf pages state) → AreRows state.layout (rows_of_tunes state.tunes is.filed.texts)
state_rows pages state is =
    let few = is.within.tunes.count in
    let count = rows_count state.tunes is.filed.texts is.filed.are_tunes in
    record {
      rise = rise_of 0 state.tunes is.filed.texts is.within.tunes.rises;
      numbers = within_of state.tunes is.filed.texts is.within.tunes.numbers;
      few = omega (arith, count, few);
    }

-- OWN NUMBERS
above_all : (low : ℕ) (tunes : List Tune) → NumbersRiseFrom low tunes → (t : ℕ × List ℕ) → Contains (numbered_texts tunes) t → low < t.0
above_all low [] rises t c = absurd (contains_none t c)
above_all low (tune ∷ tunes) rises t c = elim (contains_cases (tune.number, tune.text) (numbered_texts tunes) t c) [
  | inl e ↦ subst (λ (n : ℕ). low < n) (ap (λ (x : ℕ × List ℕ). x.0) e) rises.0
  | inr more ↦ let first = rises.0 in let later = above_all tune.number tunes rises.1 t more in omega (arith, first, later)
]

own_numbers : (low : ℕ) (tunes : List Tune) → NumbersRiseFrom low tunes → HaveOwnNumbers (numbered_texts tunes)
own_numbers low [] rises = λ t other c also same. absurd (contains_none t c)
own_numbers low (tune ∷ tunes) rises = λ t other c also same.
    elim (contains_cases (tune.number, tune.text) (numbered_texts tunes) t c) as (λ _. t ≡ other) [
      | inl e ↦ elim (contains_cases (tune.number, tune.text) (numbered_texts tunes) other also) as (λ _. t ≡ other) [
        | inl f ↦ sym e ∙ f
        | inr more ↦
            let later = above_all tune.number tunes rises.1 other more in
            let here : tune.number ≡ t.0 = ap (λ (x : ℕ × List ℕ). x.0) e in
            absurd (omega (arith, later, here, same))
      ]
      | inr more ↦ elim (contains_cases (tune.number, tune.text) (numbered_texts tunes) other also) as (λ _. t ≡ other) [
        | inl f ↦
            let later = above_all tune.number tunes rises.1 t more in
            let here : tune.number ≡ other.0 = ap (λ (x : ℕ × List ℕ). x.0) f in
            absurd (omega (arith, later, here, same))
        | inr behind ↦ own_numbers tune.number tunes rises.1 t other more behind same
      ]
    ]

-- WHAT A STATE'S INDEXES HOLD
state_holds : (pages : List (List ℕ)) (state : State) (is : IsStateOf pages state)
    → HoldByNumber (numbered_texts state.tunes) (runs_filed is.filed.are_searches)
state_holds pages state is =
    let tunes = numbered_texts state.tunes in
    let own : HaveOwnNumbers tunes = own_numbers 0 state.tunes is.within.tunes.rises in
    let are = is.filed.are_searches in
    let notes = notes_of state.layout in
    record {
      titles = by_number_held title_keys tunes are.titles.entries are.titles.holds.rising own (λ t c. titles_rise t.1) are.titles.exact;
      rhythms = by_number_held rhythm_keys tunes are.rhythms.entries are.rhythms.holds.rising own (λ t c. rhythm_rises t.1) are.rhythms.exact;
      scales = by_number_held scale_keys tunes are.scales.entries are.scales.holds.rising own (λ t c. scales_rise t.1) are.scales.exact;
      incipits = by_number_held (incipit_keys notes) tunes are.incipits.entries are.incipits.holds.rising own
          (λ t c. incipit_rises (4 * notes) (incipit_of notes (tune_notes t.1))) are.incipits.exact;
    }

-- each of the tunes has a property
of_numbered : (P : ℕ × List ℕ → Type 0) (tunes : List Tune) → AllByRecursion P (numbered_texts tunes)
    → AllByRecursion (λ (tune : Tune). P (tune.number, tune.text)) tunes
of_numbered P [] all = tt
of_numbered P (tune ∷ tunes) all = (all.0, of_numbered P tunes all.1)

to_numbered : (P : ℕ × List ℕ → Type 0) (tunes : List Tune) → AllByRecursion (λ (tune : Tune). P (tune.number, tune.text)) tunes
    → AllByRecursion P (numbered_texts tunes)
to_numbered P [] all = tt
to_numbered P (tune ∷ tunes) all = (all.0, to_numbered P tunes all.1)

-- where the entries are those of the tunes, each stands at its keys
each_stands : (runs : SearchRuns) (tunes : List (ℕ × List ℕ)) → AllByRecursion (λ tune. keys_at tune.0 runs.titles ≡ title_keys tune.1) tunes
    → AllByRecursion (λ tune. keys_at tune.0 runs.rhythms ≡ rhythm_keys tune.1) tunes
    → AllByRecursion (λ tune. keys_at tune.0 runs.scales ≡ scale_keys tune.1) tunes
    → AllByRecursion (λ tune. keys_at tune.0 runs.incipits ≡ incipit_keys runs.notes tune.1) tunes
    → AllByRecursion (λ tune. StandsAtKeys runs tune.0 tune.1) tunes
each_stands runs [] a b c d = tt
each_stands runs (tune ∷ tunes) a b c d =
    (record { titles = a.0; rhythms = b.0; scales = c.0; incipits = d.0 }, each_stands runs tunes a.1 b.1 c.1 d.1)

stand_all : (runs : SearchRuns) (tunes : List Tune) → HoldByNumber (numbered_texts tunes) runs → StandAtKeys runs tunes
stand_all runs tunes holds = of_numbered (λ tune. StandsAtKeys runs tune.0 tune.1) tunes
    (each_stands runs (numbered_texts tunes) holds.titles.each holds.rhythms.each holds.scales.each holds.incipits.each)

-- and the other way round
held_all : (runs : SearchRuns) (tunes : List Tune) → StandAtKeys runs tunes
    → AreAllKnown (map (λ (tune : ℕ × List ℕ). tune.0) (numbered_texts tunes)) runs → HoldByNumber (numbered_texts tunes) runs
held_all runs tunes keys known =
    let all = to_numbered (λ tune. StandsAtKeys runs tune.0 tune.1) tunes keys in
    let list = numbered_texts tunes in
    record {
      titles = record {
        each = all_map (λ tune. StandsAtKeys runs tune.0 tune.1) (λ tune. keys_at tune.0 runs.titles ≡ title_keys tune.1) (λ t s. s.titles) list all;
        known = known.titles;
      };
      rhythms = record {
        each = all_map (λ tune. StandsAtKeys runs tune.0 tune.1) (λ tune. keys_at tune.0 runs.rhythms ≡ rhythm_keys tune.1) (λ t s. s.rhythms) list all;
        known = known.rhythms;
      };
      scales = record {
        each = all_map (λ tune. StandsAtKeys runs tune.0 tune.1) (λ tune. keys_at tune.0 runs.scales ≡ scale_keys tune.1) (λ t s. s.scales) list all;
        known = known.scales;
      };
      incipits = record {
        each = all_map (λ tune. StandsAtKeys runs tune.0 tune.1) (λ tune. keys_at tune.0 runs.incipits ≡ incipit_keys runs.notes tune.1)
            (λ t s. s.incipits) list all;
        known = known.incipits;
      };
    }

-- PARTS
-- the tunes behind all others
joined : (numbers : IndexParts) (searches : SearchParts) (set_lists : Part) (texts : List Part)
    → archive_parts numbers searches set_lists [] ++ texts ≡ archive_parts numbers searches set_lists texts
joined numbers searches set_lists texts =
    let a = parts_of_index numbers in
    let b = parts_of_search searches in
    append_assoc a (b ++ set_lists ∷ []) texts ∙ ap (λ (l : List Part). a ++ l) (append_assoc b (set_lists ∷ []) texts)

-- NAMES
-- a number that a tune has is that of its row
tune_has : (number : ℕ) (tunes : List Tune) (texts : List Part) → HoldTunes texts tunes → IsSome (tune_at number tunes)
    → HasNumber (rows_of_tunes tunes texts) number
tune_has number [] texts hold some = absurd (false≢true some)
tune_has number (tune ∷ tunes) [] hold some = absurd (tune_without tune tunes hold)
tune_has number (tune ∷ tunes) (part ∷ texts) hold some = elim (cases_Bool (eqb tune.number number)) [
  | inl same ↦ inl (eqb-true tune.number number same)
  | inr differs ↦ (let found = rw differs at some in inr (tune_has number tunes texts (later_held part texts tune tunes hold) found))
]

has_tune : (number : ℕ) (tunes : List Tune) (texts : List Part) → HasNumber (rows_of_tunes tunes texts) number → IsSome (tune_at number tunes)
has_tune number [] texts has = absurd has
has_tune number (tune ∷ tunes) [] has = absurd has
has_tune number (tune ∷ tunes) (part ∷ texts) (inl same) = let e = eq-eqb tune.number number same in rw e refl
has_tune number (tune ∷ tunes) (part ∷ texts) (inr has) = elim (cases_Bool (eqb tune.number number)) [
  | inl same ↦ rw same refl
  | inr differs ↦ rw differs (has_tune number tunes texts has)
]

-- rows with the same numbers have each of them
has_as : (number : ℕ) (rows others : List Row) → numbers_of_rows rows ≡ numbers_of_rows others → HasNumber others number → HasNumber rows number
has_as number rows [] same has = absurd has
has_as number [] (other ∷ others) same has = absurd (let size = ap (λ (l : List ℕ). length l) same in omega arith)
has_as number (row ∷ rows) (other ∷ others) same (inl is) = inl (ap (λ (l : List ℕ). get_or l 0 0) same ∙ is)
has_as number (row ∷ rows) (other ∷ others) same (inr has) = inr (has_as number rows others (ap (λ (l : List ℕ). drop 1 l) same) has)

named_there : (tunes : List Tune) (texts : List Part) (rows : List Row) (sets : List TuneSet) → HoldTunes texts tunes
    → number_entries rows ≡ number_entries (rows_of_tunes tunes texts) → NameTunes tunes sets → NameRows rows sets
named_there tunes texts rows sets hold same named =
    let held : (number : ℕ) → IsSome (tune_at number tunes) → HasNumber rows number =
    λ number some. has_as number rows (rows_of_tunes tunes texts) (same_numbers rows (rows_of_tunes tunes texts) same)
    (tune_has number tunes texts hold some) in
    each_all (λ set. NumberRows rows set.numbers) sets
    (all_map (λ set. AreHeld tunes set.numbers) (λ set. NumberRows rows set.numbers)
    (λ set names. each_all (HasNumber rows) set.numbers
    (all_map (λ number. IsSome (tune_at number tunes)) (HasNumber rows) held set.numbers names)) sets named)

tunes_named : (tunes : List Tune) (texts : List Part) (rows : List Row) (sets : List TuneSet) → rows ≡ rows_of_tunes tunes texts → NameRows rows sets
    → NameTunes tunes sets
tunes_named tunes texts rows sets same names =
    let held : (number : ℕ) → HasNumber rows number → IsSome (tune_at number tunes) =
    λ number has. has_tune number tunes texts (subst (λ r. HasNumber r number) same has) in
    all_map (λ set. NumberRows rows set.numbers) (λ set. AreHeld tunes set.numbers)
    (λ set its. all_map (HasNumber rows) (λ number. IsSome (tune_at number tunes)) held set.numbers (all_each (HasNumber rows) set.numbers its))
    sets (all_each (λ set. NumberRows rows set.numbers) sets names)

-- WHAT A STATE HAS, OF WHAT WAS CLAIMED
-- in each layout an index has few entries
few_tunes : (layout : Layout) → 8 * most_tunes layout ≤ 400000
few_tunes One = omega arith
few_tunes Two = omega arith

module _ (pages : List (List ℕ)) (state : State) (is : IsStateOf pages state) (numbers : IndexParts) (searches : SearchParts) (set_lists : Part)
    (entries : List Entry) (runs : SearchRuns) (has : HasLists is numbers searches set_lists entries runs) where
  -- its rows are those of the entries
  listed_there : AreEntriesOfRows state.layout entries
  listed_there = (rows_of_tunes state.tunes is.filed.texts, state_rows pages state is, has.are_entries)

  holds_there : HoldByNumber (numbered_texts state.tunes) runs
  holds_there = subst (HoldByNumber (numbered_texts state.tunes)) has.are_runs (state_holds pages state is)

  -- rows of the same entries have its numbers
  numbers_there : (rows : List Row) → number_entries rows ≡ entries
      → numbers_of_rows rows ≡ map (λ (tune : ℕ × List ℕ). tune.0) (numbered_texts state.tunes)
  numbers_there rows same = same_numbers rows (rows_of_tunes state.tunes is.filed.texts) (same ∙ sym has.are_entries)
      ∙ rows_have_numbers state.tunes is.filed.texts is.filed.are_tunes

  known_there : (rows : List Row) → number_entries rows ≡ entries → HaveFew runs × AreAllKnown (numbers_of_rows rows) runs
  known_there rows same =
      let holds = holds_there in
      let few = subst (λ (r : SearchRuns). HoldEachAtMost 400000 searches r) has.are_runs
      (subst (λ (s : SearchParts). HoldEachAtMost 400000 s (runs_filed is.filed.are_searches)) has.are_searches
      (searches_few pages state is 400000 (few_tunes state.layout))) in (
        record {
          titles = omega (arith, few.titles.few);
          rhythms = omega (arith, few.rhythms.few);
          scales = omega (arith, few.scales.few);
          incipits = omega (arith, few.incipits.few);
        },
        subst (λ (l : List ℕ). AreAllKnown l runs) (sym (numbers_there rows same))
            (record {
              titles = holds.titles.known;
              rhythms = holds.rhythms.known;
              scales = holds.scales.known;
              incipits = holds.incipits.known;
            }),
      )

  -- its tunes stand behind the lists
  tunes_there : (rows : List Row) → number_entries rows ≡ entries → AreBlocks pages
      → AreTunesThere (tune_site state.layout pages (archive_parts numbers searches set_lists []) runs) rows
  tunes_there rows same sized = (
    state.tunes,
    is.filed.texts,
    record {
      sized = sized;
      are = subst (AreParts pages) (sym (joined numbers searches set_lists is.filed.texts))
          (subst (λ p. AreParts pages (archive_parts numbers searches p is.filed.texts)) has.are_sets
          (subst (λ s. AreParts pages (archive_parts numbers s is.filed.set_lists is.filed.texts)) has.are_searches
          (subst (λ n. AreParts pages (archive_parts n is.filed.searches is.filed.set_lists is.filed.texts)) has.are_numbers is.filed.parts)));
      hold = is.filed.are_tunes;
      listed = has.are_entries ∙ sym same;
      each = is.within.tunes.each;
      keys = stand_all runs state.tunes holds_there;
    },
  )

-- THE FAULTS
module _ (f : ClaimFault) (layout : Layout) (pages : List (List ℕ)) (now : List Bool) (firsts : Firsts) (shape : Shape) (entries : List Entry)
    (shapes : SearchShape) (runs : SearchRuns) (bytes : List ℕ)
    (lists : ListsClaimed layout (pages_claimed pages now) firsts (index_with shape entries) (search_with shapes runs) bytes) where
  pub listed_fault : (other : List Entry) → other ≡ entries → IsChainFault f (AreEntriesOfRows layout other) → IsChainFault f (IsStateThere pages)
  listed_fault other same call = fault_where f (IsStateThere pages) (λ there.
      let l = lists (state_some pages there) in
      fault_as f (AreEntriesOfRows layout other) (IsStateThere pages)
      (λ (some : IsStateThere pages). subst (AreEntriesOfRows layout) (sym same)
      (subst (λ (its : Layout). AreEntriesOfRows its entries) (layout_there pages firsts l.root some.0 some.1)
      (listed_there pages some.0 some.1 l.numbers l.searches l.set_lists entries runs (l.only some.0 some.1)))) call)

  pub rows_fault : (at : List (List ℕ)) (rows : List Row) → at ≡ pages → number_entries rows ≡ entries → AreBlocks pages
      → ((front : List Part) → HasClaimed at now front → IsChainFault f (AreRowsThere (tune_site layout at front runs) rows))
      → IsChainFault f (IsStateThere pages)
  rows_fault at rows on same sized call = fault_where f (IsStateThere pages) (λ there.
      let l = lists (state_some pages there) in
      let front = archive_parts l.numbers l.searches l.set_lists [] in
      fault_as f (AreRowsThere (tune_site layout pages front runs) rows) (IsStateThere pages)
      (λ (some : IsStateThere pages).
      let its = l.only some.0 some.1 in
      let known = known_there pages some.0 some.1 l.numbers l.searches l.set_lists entries runs its rows same in
      record {
        few = known.0;
        known = known.1;
        tunes = subst (λ (its : Layout). AreTunesThere (tune_site its pages front runs) rows) (layout_there pages firsts l.root some.0 some.1)
            (tunes_there pages some.0 some.1 l.numbers l.searches l.set_lists entries runs its rows same sized);
      })
      (at_pages (λ p before. IsChainFault f (AreRowsThere (tune_site layout p before runs) rows)) at pages now front on l.has call))

  pub sets_fault : (rows : List Row) → number_entries rows ≡ entries
      → IsChainFault f ((sets : List TuneSet) × AreSetLists sets × (written_sets sets ≡ bytes) × NameRows rows sets)
      → IsChainFault f (IsStateThere pages)
  sets_fault rows same call = fault_where f (IsStateThere pages) (λ there.
      let l = lists (state_some pages there) in
      fault_as f ((sets : List TuneSet) × AreSetLists sets × (written_sets sets ≡ bytes) × NameRows rows sets) (IsStateThere pages)
      (λ (some : IsStateThere pages).
      let its = l.only some.0 some.1 in (
        some.0.sets,
        some.1.within.sets,
        sym some.1.filed.are_sets ∙ ap (λ (p : Part). p.bytes) its.are_sets ∙ l.sets_hold,
        named_there some.0.tunes some.1.filed.texts rows some.0.sets some.1.filed.are_tunes (same ∙ sym its.are_entries) some.1.within.named,
      ))
      call)

-- THE STATE
kept_index : {width : ℕ} {entries : List Entry} → (shape : Shape) (parts : IndexParts) → shape.listed ≡ true → KeepsIndex width shape parts entries
    → HoldsIndex width parts entries
kept_index shape parts listed keeps = record {
  is_chain = keeps.is_chain;
  leaves = keeps.leaves;
  listed = keeps.listed listed ∙ ap listed_bytes keeps.pages;
  hold = keeps.hold;
  rising = keeps.rising;
}

pub state_claimed : (at pages : List (List ℕ)) (now last : List Bool) (contents : Contents) (entries : List Entry) (runs : SearchRuns)
    (bytes : List ℕ) (listed : List Row) → at ≡ pages
    → ClaimsLists contents.layout (pages_claimed pages now) contents.firsts (index_with contents.numbers entries) (search_with contents.searches runs) bytes
    → AreRows contents.layout contents.rows.items → number_entries listed ≡ entries → number_entries contents.rows.items ≡ number_entries listed
    → AreAllKnown (numbers_of_rows listed) runs
    → written_sets contents.sets ≡ bytes → AreSetLists contents.sets → NameRows contents.rows.items contents.sets
    → ((front : List Part) → HasClaimed at now front → TunesClaimed (tune_site contents.layout at front runs) last contents.rows.items)
    → IsClaimed pages contents last
state_claimed at pages now last contents entries runs bytes listed on l are same also known written are_sets names call =
    let front = archive_parts l.numbers l.searches l.set_lists [] in
    let rows : List Row = contents.rows.items in
    let t : TunesClaimed (tune_site contents.layout pages front runs) last rows =
    at_pages (λ p before. TunesClaimed (tune_site contents.layout p before runs) last rows) at pages now front on l.has call in
    let has = claimed_as pages last _ _ (joined l.numbers l.searches l.set_lists t.texts) t.has in
    let rows_same : number_entries (rows_of_tunes t.tunes t.texts) ≡ entries = ap number_entries (sym t.rows_are) ∙ also ∙ same in
    let its : AreRows contents.layout (rows_of_tunes t.tunes t.texts) = subst (AreRows contents.layout) t.rows_are are in
    let numbers : numbers_of_rows listed ≡ map (λ (tune : ℕ × List ℕ). tune.0) (numbered_texts t.tunes) =
    same_numbers listed (rows_of_tunes t.tunes t.texts) (same ∙ sym rows_same) ∙ rows_have_numbers t.tunes t.texts t.hold in
    let holds : HoldByNumber (numbered_texts t.tunes) runs =
    held_all runs t.tunes t.keys (subst (λ (n : List ℕ). AreAllKnown n runs) numbers known) in
    let list = numbered_texts t.tunes in
    let titles = held_by_number title_keys list runs.titles holds.titles in
    let rhythms = held_by_number rhythm_keys list runs.rhythms holds.rhythms in
    let scales = held_by_number scale_keys list runs.scales holds.scales in
    let by_runs = held_by_number (incipit_keys runs.notes) list runs.incipits holds.incipits in
    let incipits = subst (λ (n : ℕ). HoldsEntries (incipit_keys n) list runs.incipits) l.of_runs by_runs in
    let its_notes : HoldsEntries (incipit_keys (notes_of contents.layout)) list runs.incipits =
    subst (λ (n : ℕ). HoldsEntries (incipit_keys n) list runs.incipits) l.notes incipits in
    let its_index : HoldsIndex (4 * notes_of contents.layout) l.searches.incipits runs.incipits =
    subst (λ (n : ℕ). HoldsIndex (4 * n) l.searches.incipits runs.incipits) l.notes
    (kept_index contents.searches.incipits l.searches.incipits l.all_listed.incipits l.incipits) in
    let keeps : KeepsIndex key_bytes contents.numbers l.numbers (number_entries (rows_of_tunes t.tunes t.texts)) =
    subst (λ (es : List Entry). KeepsIndex key_bytes contents.numbers l.numbers es) (sym rows_same) l.keeps in
    let count = rows_count t.tunes t.texts t.hold in
    record {
      notes = l.notes;
      tunes = t.tunes;
      filed = record {
        numbers = l.numbers;
        searches = l.searches;
        set_lists = l.set_lists;
        texts = t.texts;
        parts = has.are;
        root = subst (IsRoot contents.layout (page_at pages 0)) l.firsts_are l.root;
        are_numbers = kept_index contents.numbers l.numbers l.listed keeps;
        are_searches = record {
          titles = record {
            entries = runs.titles;
            holds = kept_index contents.searches.titles l.searches.titles l.all_listed.titles l.titles;
            exact = titles;
          };
          rhythms = record {
            entries = runs.rhythms;
            holds = kept_index contents.searches.rhythms l.searches.rhythms l.all_listed.rhythms l.rhythms;
            exact = rhythms;
          };
          scales = record {
            entries = runs.scales;
            holds = kept_index contents.searches.scales l.searches.scales l.all_listed.scales l.scales;
            exact = scales;
          };
          incipits = record {
            entries = runs.incipits;
            holds = its_index;
            exact = its_notes;
          };
        };
        sets_are_chain = l.sets_are_chain;
        are_sets = l.sets_hold ∙ sym written;
        are_tunes = t.hold;
      };
      within = record {
        tunes = record {
          rises = rises_by 0 t.tunes t.texts t.hold its.rise;
          numbers = top_by t.tunes t.texts t.hold its.numbers;
          each = t.each;
          count = omega (arith, its.few, count);
        };
        sets = are_sets;
        named = tunes_named t.tunes t.texts rows contents.sets t.rows_are names;
      };
      marks = has.marks;
      listed = t.rows_are;
      numbers = keeps;
      numbers_listed = l.listed;
      searches = record {
        titles = record { entries = runs.titles; keeps = l.titles; exact = titles };
        rhythms = record { entries = runs.rhythms; keeps = l.rhythms; exact = rhythms };
        scales = record { entries = runs.scales; keeps = l.scales; exact = scales };
        incipits = record { entries = runs.incipits; keeps = l.incipits; exact = incipits };
      };
      searches_listed = l.all_listed;
      firsts = l.firsts_are;
    }

-- as the code has it
pub texts_claimed : {layout : Layout} → (at pages : List (List ℕ)) (now last : List Bool) (contents : Contents) (entries : List Entry)
    (runs : SearchRuns) (bytes : List ℕ) (listed rows : List Row) (sets : List TuneSet) → at ≡ pages
    → contents.layout ≡ layout → contents.rows.items ≡ rows → contents.sets ≡ sets
    → ClaimsLists layout (pages_claimed pages now) contents.firsts (index_with contents.numbers entries) (search_with contents.searches runs) bytes
    → AreRows layout listed → number_entries listed ≡ entries → number_entries rows ≡ number_entries listed
    → AreAllKnown (numbers_of_rows listed) runs → written_sets sets ≡ bytes → AreSetLists sets → NameRows rows sets
    → ((front : List Part) → HasClaimed at now front → TunesClaimed (tune_site layout at front runs) last rows)
    → IsClaimed pages contents last
texts_claimed at pages now last contents entries runs bytes listed rows sets on its its_rows its_sets l are same also known written good names call =
    let entries_are : number_entries contents.rows.items ≡ number_entries listed = ap number_entries its_rows ∙ also in
    state_claimed at pages now last contents entries runs bytes listed on
    (subst (λ (n : Layout). ClaimsLists n (pages_claimed pages now) contents.firsts (index_with contents.numbers entries) (search_with contents.searches runs)
    bytes) (sym its) l)
    (rows_as contents.rows.items listed entries_are (subst (λ layout. AreRows layout listed) (sym its) are)) same entries_are known
    (ap written_sets its_sets ∙ written) (subst AreSetLists (sym its_sets) good)
    (subst (λ r. NameRows r contents.sets) (sym its_rows) (subst (NameRows rows) (sym its_sets) names))
    (λ front has. subst (λ r. TunesClaimed (tune_site contents.layout at front runs) last r) (sym its_rows)
    (subst (λ layout. TunesClaimed (tune_site layout at front runs) last rows) (sym its) (call front has)))

-- of equal pages, entries and bytes
pub lists_as : {layout : Layout} → (at pages : List (List ℕ)) (now : List Bool) (firsts : Firsts) (shape : Shape) (other entries : List Entry)
    (shapes : SearchShape) (runs : SearchRuns) (others bytes : List ℕ) → at ≡ pages → other ≡ entries → others ≡ bytes
    → ClaimsLists layout (pages_claimed pages now) firsts (index_with shape entries) (search_with shapes runs) bytes
    → ClaimsLists layout (pages_claimed at now) firsts (index_with shape other) (search_with shapes runs) others
lists_as {layout} at pages now firsts shape other entries shapes runs others bytes on same also l =
    subst (λ p. ClaimsLists layout (pages_claimed p now) firsts (index_with shape other) (search_with shapes runs) others) (sym on)
    (subst (λ es. ClaimsLists layout (pages_claimed pages now) firsts (index_with shape es) (search_with shapes runs) others) (sym same)
    (subst (λ b. ClaimsLists layout (pages_claimed pages now) firsts (index_with shape entries) (search_with shapes runs) b) (sym also) l))

pub lists_at : {layout : Layout} → (at pages : List (List ℕ)) (now : List Bool) (firsts : Firsts) (shape : Shape) (other entries : List Entry)
    (shapes : SearchShape) (runs : SearchRuns) (others bytes : List ℕ) → at ≡ pages → other ≡ entries → others ≡ bytes
    → ListsClaimed layout (pages_claimed pages now) firsts (index_with shape entries) (search_with shapes runs) bytes
    → ListsClaimed layout (pages_claimed at now) firsts (index_with shape other) (search_with shapes runs) others
lists_at at pages now firsts shape other entries shapes runs others bytes on same also lists = λ some.
    lists_as at pages now firsts shape other entries shapes runs others bytes on same also
    (lists (subst (λ (p : List (List ℕ)). 0 < length p) on some))
