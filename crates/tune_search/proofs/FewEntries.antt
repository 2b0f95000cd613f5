-- How many entries tunes have, and how many leaves an index of them.
use Rattle.std.proofs.Common.{◌≡◌, ℕ, suc, ◌+◌, ◌*◌, ◌≤◌, List, [], ◌∷◌, length, map, take, Option, None, Some, arith, inl, inr}
use Rattle.std.proofs.Common.{refl, sym, ◌∙◌, subst, length-append}
use Rattle.std.specs.List.{Contains}
use Rattle.std.specs.Prelude.{ℤ}
use Rattle.std.proofs.Math.Nat.{mul-suc}
use Rattle.std.proofs.lemmas.Bool.{cases_lt}
use Rattle.std.proofs.lemmas.List.{length-map, length-take}
use Rattle.tune_index.specs.ListedLeaves.{index_with}
use Rattle.tune_pages.specs.Stand.{Stand}
use Rattle.abc_fields.specs.Fields.{key_text_of, rhythm_of, titles_of}
use Rattle.abc_fields.specs.Limits.{most_titles}
use Rattle.abc_keys.specs.declared.scales.Scale.{Scale}
use Rattle.index_keys.specs.Cuts.{cut_number}
use Rattle.index_keys.specs.Entries.{Entry, IsRising, rank, EntriesRiseFrom}
use Rattle.index_keys.specs.Holdings.{HoldsEntries}
use Rattle.index_keys.proofs.KeyOrder.{with_front, with_later, with_there}
use Rattle.index_keys.proofs.Members.{contains_cases, contains_first, contains_later, contains_none}
use Rattle.index_keys.specs.KeyLists.{rising_keys, with_key}
use Rattle.tune_incipit.specs.Incipits.{incipit_of, tune_notes}
use Rattle.tune_incipit.specs.Scales.{scale_of_text}
use Rattle.tune_incipit.specs.ScaleAndIncipitKeys.{incipit_keys, incipit_keys_of, scale_keys, scale_keys_of}
use Rattle.tune_index.proofs.Beside.{few_leaves}
use Rattle.tune_index.specs.Indexes.{Shape}
use Rattle.tune_parts.specs.Parts.{Part}
use Rattle.tune_search.specs.IndexParts.{HoldsIndexAmong, IndexParts}
use Rattle.tune_search.specs.Inside.TextEntries.{entries_at_keys, entries_of_tunes}
use Rattle.tune_search.specs.SearchPages.{HasFewLeaves}
use Rattle.tune_search.specs.Searches.{HoldsTexts, SearchParts, SearchShape, incipit_bytes, key_bytes}
use Rattle.tune_search.proofs.AmongLemmas.{among_entries, among_index, incipits_among, rhythms_among, scales_among, titles_among}
use Rattle.tune_search.proofs.TextRuns.{held_in}
use Rattle.tune_titles.specs.TitleAndRhythmKeys.{rhythm_keys, rhythm_keys_of, title_keys}
use Rattle.tune_titles.specs.Titles.{sorting_title}

-- ENTRIES AMONG OTHERS
-- a list without one of its entries
record Without (xs : List Entry) (e : Entry) : Type 0 where
  pub rest : List Entry
  pub long : length xs ≡ suc (length rest)
  pub others : (y : Entry) → Contains xs y → (e ≡ y → ⊥) → Contains rest y

without : (xs : List Entry) (e : Entry) → Contains xs e → Without xs e
without [] e at = absurd (contains_none e at)
without (x ∷ xs) e at = elim (contains_cases x xs e at) [
  | inl here ↦ record {
    rest = xs;
    long = refl;
    others = λ y among apart. elim (contains_cases x xs y among) [ inl same ↦ absurd (apart (sym here ∙ same)) | inr later ↦ later ];
  }
  | inr later ↦
      let less = without xs e later in
      record {
        rest = x ∷ less.rest;
        long = (let l = less.long in omega arith);
        others = λ y among apart. elim (contains_cases x xs y among) [
          | inl here ↦ subst (λ (z : Entry). Contains (x ∷ less.rest) z) here (contains_first x less.rest)
          | inr further ↦ contains_later x less.rest y (less.others y further apart)
        ];
      }
]

-- an entry of a list that rises is no lower
rises_each : (low : ℕ) (es : List Entry) (y : Entry) → EntriesRiseFrom low es → Contains es y → low ≤ rank y
rises_each low [] y up at = absurd (contains_none y at)
rises_each low (e ∷ es) y up at = elim (contains_cases e es y at) [
  | inl here ↦ subst (λ (z : Entry). low ≤ rank z) here up.0
  | inr later ↦ let least = rises_each (rank e + 1) es y up.1 later in let first = up.0 in omega arith
]

higher : (e y : Entry) → rank e + 1 ≤ rank y → e ≡ y → ⊥
higher e y over same = let none : rank y + 1 ≤ rank y = subst (λ (z : Entry). rank z + 1 ≤ rank y) same over in omega arith

-- entries that rise are no more than the list that has them all
rising_few : (low : ℕ) (es all : List Entry) → EntriesRiseFrom low es → ((e : Entry) → Contains es e → Contains all e) → length es ≤ length all
rising_few low [] all up among = omega arith
rising_few low (e ∷ es) all up among =
    let less = without all e (among e (contains_first e es)) in
    let rest = rising_few (rank e + 1) es less.rest up.1
    (λ y at. less.others y (among y (contains_later e es y at)) (higher e y (rises_each (rank e + 1) es y up.1 at))) in
    let long = less.long in
    omega arith

-- ENTRIES OF TUNES
length_at : (number : ℕ) (keys : List ℕ) → length (entries_at_keys number keys) ≡ length keys
length_at number keys = length-map keys (λ (key : ℕ). (key, number))

one_more : (most n k rest : ℕ) → k ≤ most → rest ≤ most * n → k + rest ≤ most * suc n
one_more most n k rest one others = let e = mul-suc most n in omega arith

all_few : (keys_of : List ℕ → List ℕ) (most : ℕ) → ((text : List ℕ) → length (keys_of text) ≤ most) → (tunes : List (ℕ × List ℕ))
    → length (entries_of_tunes keys_of tunes) ≤ most * length tunes
all_few keys_of most few [] = omega arith
all_few keys_of most few (tune ∷ tunes) =
    rw (length-append (entries_at_keys tune.0 (keys_of tune.1)) (entries_of_tunes keys_of tunes), length_at tune.0 (keys_of tune.1))
    (one_more most (length tunes) (length (keys_of tune.1)) (length (entries_of_tunes keys_of tunes)) (few tune.1) (all_few keys_of most few tunes))

pub few_entries : (keys_of : List ℕ → List ℕ) (most : ℕ) → ((text : List ℕ) → length (keys_of text) ≤ most) → (tunes : List (ℕ × List ℕ)) (es : List Entry)
    → IsRising es → HoldsEntries keys_of tunes es → length es ≤ most * length tunes
few_entries keys_of most few tunes es up holds =
    let among = rising_few 0 es (entries_of_tunes keys_of tunes) up
    (λ e at.
    let tune = holds.only e at in
    subst (λ (number : ℕ). Contains {X = Entry} (entries_of_tunes keys_of tunes) (e.0, number)) tune.2 (held_in keys_of tunes tune.0 e.0 tune.1 tune.3)) in
    let all = all_few keys_of most few tunes in
    omega arith

-- HOW MANY KEYS A TEXT HAS
length_with : (key : ℕ) (keys : List ℕ) → length (with_key key keys) ≤ suc (length keys)
length_with key [] = omega arith
length_with key (other ∷ keys) = elim (cases_lt key other) [
  | inl front ↦ rw (with_front key other keys front) (omega arith)
  | inr rest ↦ elim (cases_lt other key) [
    | inl later ↦ rw (with_later key other keys later) (let l = length_with key keys in omega arith)
    | inr there ↦ rw (with_there key other keys (omega arith)) (omega arith)
  ]
]

length_rising : (keys : List ℕ) → length (rising_keys keys) ≤ length keys
length_rising [] = omega arith
length_rising (key ∷ keys) = let one = length_with key (rising_keys keys) in let rest = length_rising keys in omega arith

few_titles : (text : List ℕ) → length (title_keys text) ≤ most_titles
few_titles text =
    let key = λ (title : List ℕ). cut_number 32 0 (sorting_title title) in
    let rising = length_rising (map key (titles_of text)) in
    let same = length-map (titles_of text) key in
    let front : length (titles_of text) ≤ 8 = few_front _ in
    omega arith
  where
    few_front : (values : List (List ℕ)) → length (take 8 values) ≤ 8
    few_front values = let l = length-take 8 values in omega arith

one_rhythm : (rhythm : Option (List ℕ)) → length (rhythm_keys_of rhythm) ≤ 1
one_rhythm None = omega arith
one_rhythm (Some rhythm) = omega arith

one_scale : (scale : Option Scale) → length (scale_keys_of scale) ≤ 1
one_scale None = omega arith
one_scale (Some scale) = omega arith

one_incipit : (width : ℕ) (steps : List ℤ) → length (incipit_keys_of width steps) ≤ 1
one_incipit width [] = omega arith
one_incipit width (step ∷ steps) = omega arith

-- so many entries of each kind
pub few_by_title : (tunes : List (ℕ × List ℕ)) (es : List Entry) → IsRising es → HoldsEntries title_keys tunes es → length es ≤ most_titles * length tunes
few_by_title tunes es up holds = few_entries title_keys most_titles few_titles tunes es up holds

pub few_by_rhythm : (tunes : List (ℕ × List ℕ)) (es : List Entry) → IsRising es → HoldsEntries rhythm_keys tunes es → length es ≤ length tunes
few_by_rhythm tunes es up holds =
    let few = few_entries rhythm_keys 1 (λ text. one_rhythm (rhythm_of text)) tunes es up holds in omega arith

pub few_by_scale : (tunes : List (ℕ × List ℕ)) (es : List Entry) → IsRising es → HoldsEntries scale_keys tunes es → length es ≤ length tunes
few_by_scale tunes es up holds =
    let few = few_entries scale_keys 1 (λ text. one_scale (scale_of_text (key_text_of text))) tunes es up holds in omega arith

pub few_by_incipit : (notes : ℕ) (tunes : List (ℕ × List ℕ)) (es : List Entry) → IsRising es → HoldsEntries (incipit_keys notes) tunes es
    → length es ≤ length tunes
few_by_incipit notes tunes es up holds =
    let few = few_entries (incipit_keys notes) 1 (λ text. one_incipit (4 * notes) (incipit_of notes (tune_notes text))) tunes es up holds in omega arith

-- LEAVES
pub few_among : (width : ℕ) (s : Stand) (shape : Shape) (before after : List Part) (parts : IndexParts) (entries : List Entry)
    → HoldsIndexAmong width s (index_with shape entries) before after parts → length shape.pages ≤ length entries
few_among width s shape before after parts entries among =
    subst (λ (es : List Entry). length shape.pages ≤ length es) (among_entries width s shape before after parts entries among)
    (few_leaves width s shape (among_index width s shape before after parts entries among))

pub few_for_texts : (s : Stand) (shape : SearchShape) (before after : List Part) (parts : SearchParts) (tunes : List (ℕ × List ℕ))
    → HoldsTexts s shape before after parts tunes → HasFewLeaves shape tunes
few_for_texts s shape before after parts tunes h = record { titles = titles; rhythms = rhythms; scales = scales; incipits = incipits }
  where
    titles : length shape.titles.pages ≤ most_titles * length tunes
    titles =
        let leaves = few_among key_bytes s shape.titles _ _ parts.titles h.titles.entries (titles_among s shape before after parts tunes h) in
        let few = few_by_title tunes h.titles.entries h.titles.keeps.rising h.titles.exact in
        omega arith

    rhythms : length shape.rhythms.pages ≤ length tunes
    rhythms =
        let leaves = few_among key_bytes s shape.rhythms _ _ parts.rhythms h.rhythms.entries (rhythms_among s shape before after parts tunes h) in
        let few = few_by_rhythm tunes h.rhythms.entries h.rhythms.keeps.rising h.rhythms.exact in
        omega arith

    scales : length shape.scales.pages ≤ length tunes
    scales =
        let leaves = few_among key_bytes s shape.scales _ _ parts.scales h.scales.entries (scales_among s shape before after parts tunes h) in
        let few = few_by_scale tunes h.scales.entries h.scales.keeps.rising h.scales.exact in
        omega arith

    incipits : length shape.incipits.pages ≤ length tunes
    incipits =
        let leaves = few_among (incipit_bytes shape.notes) s shape.incipits _ _ parts.incipits h.incipits.entries
        (incipits_among s shape before after parts tunes h) in
        let few = few_by_incipit shape.notes tunes h.incipits.entries h.incipits.keeps.rising h.incipits.exact in
        omega arith
