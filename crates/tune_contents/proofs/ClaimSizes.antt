-- How many pages the chains of a state have at most.
use Rattle.std.proofs.Common.{◌≡◌, ℕ, ◌+◌, ◌*◌, ◌≤◌, List, [], ◌∷◌, ◌++◌, length, true, ◌∙◌, ap, arith}
use Rattle.std.proofs.Common.{length-append}
use Rattle.std.specs.Int.{bytes_high_first}
use Rattle.std.specs.List.{AllByRecursion}
use Rattle.std.proofs.lemmas.Bool.Decides.{nat_tests}
use Rattle.std.proofs.lemmas.Grind.{div_ceil_times}
use Rattle.tune_pages.specs.Faults.{pages_for}
use Rattle.tune_pages.specs.LinkOffsets.{piece_room}
use Rattle.tune_pages.proofs.FreePages.{AreSized, chain_count}
use Rattle.tune_parts.specs.Parts.{Part, IsPart}
use Rattle.tune_parts.specs.Parts.PartKind.{chain}
use Rattle.tune_parts.proofs.PartLemmas.{its_chain}
use Rattle.tune_sets.specs.Names.{is_good_name}
use Rattle.tune_sets.specs.SetBytes.{written_sets, stored_set, written_numbers}
use Rattle.tune_sets.specs.Sets.{IsTuneSet, AreSetLists}
use Rattle.tune_sets.specs.declared.set_lists.TuneSet.{TuneSet}
use Rattle.tune_sets.proofs.ByteLemmas.{length-written_numbers}
use Rattle.tune_store.specs.Limits.{longest_text}
use Rattle.tune_store.specs.declared.layout.Layout.{Layout}
use Rattle.tune_store.specs.declared.tune.Tune.{Tune}
use Rattle.tune_format.specs.RootOffsets.{revision_bytes}
use Rattle.tune_format.specs.Written.{stored_tune}
use Rattle.tune_contents.specs.Most.{most_tune_pages, most_sets_pages}

at_most : (n k : ℕ) → n ≤ piece_room * k → pages_for n ≤ k
at_most n k le = let ceil = div_ceil_times n piece_room (omega arith) in omega (arith, le, ceil.0, ceil.1)

-- more bytes have no fewer pages
pages_mono : (n m : ℕ) → n ≤ m → pages_for n ≤ pages_for m
pages_mono n m le = let ceil = div_ceil_times m piece_room (omega arith) in at_most n (pages_for m) (omega (arith, le, ceil.0, ceil.1))

text_count : (layout : Layout) (text : List ℕ) → length text ≤ longest_text layout
    → pages_for (length text + revision_bytes) ≤ most_tune_pages layout
text_count layout text fits = pages_mono (length text + revision_bytes) (longest_text layout + revision_bytes) (omega (arith, fits))

-- SETS
good_short : (name : List ℕ) → is_good_name name ≡ true → length name ≤ 40
good_short name good = grind (arith, nat_tests)

set_size : (set : TuneSet) → IsTuneSet set → length (stored_set set) ≤ 843
set_size set is =
    let numbers = length-written_numbers set.numbers in
    let short = good_short set.name is.name in
    omega (arith, is.places, short, numbers, length-append set.name (bytes_high_first 2 (length set.numbers) ++ written_numbers set.numbers))

sets_size : (sets : List TuneSet) → AllByRecursion IsTuneSet sets → length (written_sets sets) ≤ 843 * length sets
sets_size [] are = omega arith
sets_size (set ∷ sets) are =
    let here = set_size set are.0 in
    let more = sets_size sets are.1 in
    omega (arith, here, more, length-append (stored_set set) (written_sets sets))

sets_count : (sets : List TuneSet) → AreSetLists sets → pages_for (length (written_sets sets)) ≤ most_sets_pages
sets_count sets are = at_most (length (written_sets sets)) most_sets_pages (omega (arith, sets_size sets are.each, are.count))

-- CHAINS
-- none that holds a tune or the sets of a state has more pages
module _ (pages : List (List ℕ)) (sized : AreSized pages) (part : Part) (kind : part.kind ≡ chain) (is : IsPart pages part) where
  trail_count : (bytes : List ℕ) → part.bytes ≡ bytes → length part.trail ≡ pages_for (length bytes)
  trail_count bytes holds = chain_count pages part.first part.trail part.bytes sized (its_chain pages part kind is)
      ∙ ap (λ (l : List ℕ). pages_for (length l)) holds

  pub tune_few : (layout : Layout) (tune : Tune) → part.bytes ≡ stored_tune tune → length tune.text ≤ longest_text layout
      → length part.trail ≤ most_tune_pages layout
  tune_few layout tune holds fits =
      let size : length (stored_tune tune) ≡ length tune.text + revision_bytes = omega arith in
      let same : pages_for (length (stored_tune tune)) ≡ pages_for (length tune.text + revision_bytes) = ap pages_for size in
      omega (arith, trail_count (stored_tune tune) holds, same, text_count layout tune.text fits)

  pub sets_few : (sets : List TuneSet) → part.bytes ≡ written_sets sets → AreSetLists sets → length part.trail ≤ most_sets_pages
  sets_few sets holds are = omega (arith, trail_count (written_sets sets) holds, sets_count sets are)
