-- An index of incipits by eight notes, emptied, and the one by twelve in its place.
use Rattle.std.proofs.Common.{◌≡◌, ℕ, ◌+◌, ◌<◌, ◌≤◌, List, [], ◌∷◌, ◌++◌, length, map, arith, inl, inr, refl, sym, ap, subst, ◌∙◌}
use Rattle.std.specs.List.{AllByRecursion, Contains}
use Rattle.tune_pages.specs.Faults.{free_pages}
use Rattle.tune_pages.specs.Frame.{TradesPages}
use Rattle.tune_pages.specs.Stand.{Stand}
use Rattle.tune_parts.specs.Parts.{HoldsParts, Part}
use Rattle.index_keys.proofs.Entering.{SmallValues, all_back, all_new}
use Rattle.index_keys.proofs.RisingEntries.{inserted_all_rises}
use Rattle.index_keys.specs.Entries.{AllFit, Entry, IsRising, inserted_all}
use Rattle.index_keys.specs.Holdings.{HoldsEntries}
use Rattle.index_keys.proofs.Members.{contains_none}
use Rattle.tune_incipit.specs.ScaleAndIncipitKeys.{incipit_keys}
use Rattle.tune_index.specs.Indexes.{AllLeaves, HasPages, IsIndex, KeepsBalance, KeepsList, Shape, entries_of, heads_of}
use Rattle.tune_index.specs.Leaves.{leaf_in, slice_entry}
use Rattle.tune_index.specs.ListedLeaves.{listed_bytes, index_with}
use Rattle.tune_search.specs.IndexParts.{HoldsIndexAmong, HoldsSomeIndex, IndexParts, IsLeafPart, LaysIndex, entries_of_parts, parts_of_index}
use Rattle.tune_search.specs.IncipitRuns.{AreIncipitsOf, HoldsIncipits}
use Rattle.tune_search.specs.Inside.Lengthening.{Lengthens}
use Rattle.tune_search.specs.Searches.{HoldsTexts, IsRunOf, SearchParts, SearchShape}
use Rattle.tune_search.proofs.AmongLemmas.{incipits_among}
use Rattle.tune_search.proofs.FewEntries.{few_among, few_by_incipit}
use Rattle.tune_search.proofs.Four.{fourth_of}
use Rattle.tune_search.proofs.Laid.{IsWorked, laid}
use Rattle.tune_search.proofs.TextRuns.{fits_at}

-- NOTHING IS LEFT
no_length : {X : Type 0} (xs : List X) → length xs ≡ 0 → xs ≡ []
no_length [] none = refl
no_length (x ∷ xs) none = absurd (omega (arith, none))

no_firsts : (leaves : List Part) → map (λ part. part.first) leaves ≡ [] → leaves ≡ []
no_firsts [] none = refl
no_firsts (leaf ∷ leaves) none = cc

-- an index without an entry has no leaf
pub record HasNoLeaf (shape : Shape) (parts : IndexParts) : Type 0 where
  pub pages : shape.pages ≡ []
  pub leaves : parts.leaves ≡ []

pub no_leaf : (width : ℕ) (s : Stand) (shape : Shape) (before after : List Part) (parts : IndexParts)
    → HoldsIndexAmong width s (index_with shape []) before after parts
    → HasNoLeaf shape parts
no_leaf width s shape before after parts h =
    let few = few_among width s shape before after parts [] h in
    let none : shape.pages ≡ [] = no_length shape.pages (omega (arith, few)) in
    record { pages = none; leaves = no_firsts parts.leaves (sym h.keeps.pages ∙ none) }

-- IN ITS PLACE
-- what is made in the place of another index
pub record IsInPlaceOf (shape other : Shape) : Type 0 where
  pub pages : shape.pages ≡ []
  pub heads : shape.heads ≡ []
  pub first : shape.first ≡ other.first
  pub listed : shape.listed ≡ other.listed

-- where that has no entry left, the index stands on its parts, of keys of any length
emptied : (width other : ℕ) (s : Stand) (shape made : Shape) (before after : List Part) (parts : IndexParts) → IsInPlaceOf made shape
    → HoldsIndexAmong width s (index_with shape []) before after parts → HoldsIndexAmong other s (index_with made []) before after parts
emptied width other s shape made before after parts is h =
    let none = no_leaf width s shape before after parts h in
    record {
      holds = h.holds;
      keeps = record {
        is_chain = h.keeps.is_chain;
        leaves = subst (λ (leaves : List Part). AllByRecursion (IsLeafPart other) leaves) (sym none.leaves) tt;
        first = is.first ∙ h.keeps.first;
        pages = is.pages ∙ sym (ap (λ (leaves : List Part). map (λ part. part.first) leaves) none.leaves);
        heads = is.heads ∙ sym (ap (λ (leaves : List Part). map (λ part. slice_entry (leaf_in other part.bytes) 0) leaves) none.leaves);
        listed = λ yes. h.keeps.listed (sym is.listed ∙ yes) ∙ ap listed_bytes (none.pages ∙ sym is.pages);
        hold = ap (entries_of_parts other) none.leaves;
        rising = tt;
        fit = tt;
      };
    }

-- an index that has no leaf
bare_index : (width : ℕ) (s : Stand) (shape : Shape) → shape.pages ≡ [] → shape.heads ≡ [] → IsIndex width s shape
bare_index width s shape bare none = record {
  form = subst (λ (pages : List ℕ). AllLeaves width s pages) (sym bare) tt;
  heads = none ∙ sym (ap (λ (pages : List ℕ). heads_of width s pages) bare);
  rising = subst (λ (pages : List ℕ). IsRising (entries_of width s pages)) (sym bare) tt;
  fit = subst (λ (pages : List ℕ). AllFit width (entries_of width s pages)) (sym bare) tt;
}

-- Where all leaves went, the index stands there without an entry.
pub bare_laid : (width : ℕ) (old new : Stand) (was is : Shape) (before after : List Part) (parts : IndexParts) (entries : List Entry)
    → HoldsIndexAmong width old (index_with was entries) before after parts → KeepsList was is → is.pages ≡ [] → is.heads ≡ []
    → TradesPages was.pages is.pages old new → IsWorked old new
    → (next : IndexParts) × HoldsIndexAmong width new (index_with is []) before after next
bare_laid width old new was is before after parts entries h list bare none trades worked =
    laid width old new was is before after parts entries [] h list (subst (λ (pages : List ℕ). HasPages new pages) (sym bare) (tt, tt)) trades
    (bare_index width new is bare none) (ap (λ (pages : List ℕ). entries_of width new pages) bare) worked

-- The index that is made, in the place of the old one.
pub taken : (old new : Stand) (was is made : Shape) → LaysIndex 32 old new was is (λ entries. []) → IsInPlaceOf made is
    → (before after : List Part) (parts : IndexParts) (entries : List Entry) → HoldsIndexAmong 32 old (index_with was entries) before after parts
    → (next : IndexParts) × HoldsIndexAmong 48 new (index_with made []) before after next
taken old new was is made lays in_place before after parts entries h =
    let done = lays before after parts entries h in
    (done.0, emptied 32 48 new is made before after done.0 in_place done.1)

-- PAGES
-- the old leaves are free, and the new ones were taken
pub both_balance : (s0 s1 s2 : Stand) (was made longer : Shape) → free_pages s1.used ≡ free_pages s0.used + length was.pages
    → KeepsBalance s1 s2 made.pages longer.pages → made.pages ≡ []
    → free_pages s0.used + length was.pages ≡ free_pages s2.used + length longer.pages
both_balance s0 s1 s2 was made longer first second bare = let none : length made.pages ≡ 0 = ap length bare in omega (arith, first, second, none)

-- where the new leaves found no page
pub full_then : (s0 s1 : Stand) (was made : Shape) (run : List Entry) → free_pages s1.used ≡ free_pages s0.used + length was.pages
    → made.pages ≡ [] → free_pages s1.used + length made.pages < length (inserted_all run [])
    → free_pages s0.used + length was.pages < length (inserted_all run [])
full_then s0 s1 was made run first bare full = let none : length made.pages ≡ 0 = ap length bare in omega (arith, first, none, full)

-- THE ENTRIES OF TUNES
-- the run of tunes, put in where nothing was: it holds them, and is no longer than they are many
pub record IsHeld (notes : ℕ) (tunes : List (ℕ × List ℕ)) (entries : List Entry) : Type 0 where
  pub exact : HoldsEntries (incipit_keys notes) tunes entries
  pub few : length entries ≤ length tunes

only_run : (run : List Entry) (e : Entry) → Contains (inserted_all run []) e → Contains run e
only_run run e at = elim (all_back run [] e at) [ inl mine ↦ mine | inr none ↦ absurd (contains_none e none) ]

pub put_alone : (width notes : ℕ) (tunes : List (ℕ × List ℕ)) (run : List Entry) → IsRunOf width (incipit_keys notes) tunes run
    → IsHeld notes tunes (inserted_all run [])
put_alone width notes tunes run is =
    let small : SmallValues run = λ e at. (fits_at width run e is.fit at).value in
    let exact : HoldsEntries (incipit_keys notes) tunes (inserted_all run []) = record {
      held = λ tune key at has. all_new run [] (key, tune.0) small (λ e none. absurd (contains_none e none)) (is.exact.held tune key at has);
      only = λ e at. is.exact.only e (only_run run e at);
    } in
    record { exact = exact; few = few_by_incipit notes tunes (inserted_all run []) (inserted_all_rises run [] tt) exact }

-- FOUR INDEXES
-- those of incipits by eight notes, and by twelve
abbrev pub with_notes : ℕ → Shape → Shape → Shape → Shape → SearchShape
with_notes notes titles rhythms scales incipits =
    record { notes = notes; titles = titles; rhythms = rhythms; scales = scales; incipits = incipits }

module _ (old new : Stand) (titles rhythms scales was is : Shape) (run : List Entry) where
  -- the index of incipits among all other parts
  pub eight_among : (before after : List Part) (parts : SearchParts) (tunes : List (ℕ × List ℕ))
      → (h : HoldsTexts old (with_notes 8 titles rhythms scales was) before after parts tunes)
      → HoldsIndexAmong 32 old (index_with was h.incipits.entries)
      (((before ++ parts_of_index parts.titles) ++ parts_of_index parts.rhythms) ++ parts_of_index parts.scales) after parts.incipits
  eight_among before after parts tunes h = incipits_among old (with_notes 8 titles rhythms scales was) before after parts tunes h

  -- some index stands there
  pub has_index : HoldsIncipits old (with_notes 8 titles rhythms scales was) run → HoldsSomeIndex 32 old was
  has_index (before, after, parts, tunes, are, h) = (_, _, parts.incipits, h.incipits.entries, eight_among before after parts tunes h)

  pub texts_lengthened : Lengthens old new was is run → (before after : List Part) (parts : SearchParts) (tunes : List (ℕ × List ℕ))
      → AreIncipitsOf tunes run → HoldsTexts old (with_notes 8 titles rhythms scales was) before after parts tunes
      → (next : SearchParts) × HoldsTexts new (with_notes 12 titles rhythms scales is) before after next tunes
  texts_lengthened lengthens before after parts tunes are h =
      let done = lengthens _ _ parts.incipits h.incipits.entries (eight_among before after parts tunes h) in (
        record { titles = parts.titles; rhythms = parts.rhythms; scales = parts.scales; incipits = done.0 },
        record {
          holds = subst (λ (l : List Part). HoldsParts new l) (sym (fourth_of before (parts_of_index parts.titles) (parts_of_index parts.rhythms)
              (parts_of_index parts.scales) (parts_of_index done.0) after)) done.1.holds;
          titles = h.titles;
          rhythms = h.rhythms;
          scales = h.scales;
          incipits = record { entries = inserted_all run []; keeps = done.1.keeps; exact = (put_alone 48 12 tunes run are).exact };
        },
      )

  -- where the file is full, fewer pages are free than there are tunes
  pub full_for_tunes : free_pages old.used + length was.pages < length (inserted_all run [])
      → (tunes : List (ℕ × List ℕ)) → AreIncipitsOf tunes run → free_pages old.used < length tunes
  full_for_tunes full tunes are = let few = (put_alone 48 12 tunes run are).few in omega (arith, full, few)
