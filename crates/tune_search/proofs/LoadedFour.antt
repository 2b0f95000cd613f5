-- Four indexes that were loaded, one after another, among parts.
use Rattle.std.proofs.Common.{◌≡◌, ℕ, ◌^◌, ◌<◌, List, ◌++◌, length, Bool, refl, sym, ◌∙◌, ap, subst, append_assoc}
use Rattle.index_keys.specs.Entries.{Entry}
use Rattle.tune_index.specs.Indexes.{Shape}
use Rattle.tune_index.specs.ListedLeaves.{LoadsIndex, index_with, pages_claimed}
use Rattle.tune_parts.specs.Parts.{AreParts, Part}
use Rattle.tune_search.specs.LoadedParts.{ClaimsParts, HasClaimed, HoldEachAtMost, HoldsAtMost, HoldsLoadedSearch, search_firsts_of, parts_loaded}
use Rattle.tune_search.specs.LoadedParts.{search_loaded}
use Rattle.tune_search.specs.IndexParts.{IndexParts, parts_of_index}
use Rattle.tune_search.specs.Loaded.{AreStored, IsStoredThen, LoadsSearch, search_with}
use Rattle.tune_search.specs.Searches.{SearchParts, SearchRuns, SearchShape, incipit_bytes, key_bytes, parts_of_search}
use Rattle.tune_search.specs.declared.loading.SearchFirsts.{SearchFirsts}
use Rattle.tune_search.proofs.ClaimedParts.{parts_behind}
use Rattle.tune_search.proofs.LoadedIndex.{claims_there, held_loaded, loaded_claims, pages_of, same_loaded, stored_there, there_stored}
use Rattle.tune_search.proofs.LoadLemmas.{still_few}

-- WHAT WAS LOADED
joined : (front a b c d : List Part) → (((front ++ a) ++ b) ++ c) ++ d ≡ front ++ (a ++ (b ++ (c ++ d)))
joined front a b c d = append_assoc ((front ++ a) ++ b) c d ∙ append_assoc (front ++ a) b (c ++ d) ∙ append_assoc front a (b ++ (c ++ d))

pub held_four : (most : ℕ) (pages : List (List ℕ)) (claimed after : List Bool) (firsts : SearchFirsts) (shape : SearchShape) (entries : SearchRuns)
    (front : List Part) → HasClaimed pages claimed front → (loads : LoadsSearch most (pages_claimed pages claimed) after firsts (search_with shape entries))
    → HoldsLoadedSearch (pages_claimed pages after) front firsts (search_loaded loads) (search_with shape entries)
held_four most pages claimed after firsts shape entries front has loads =
    let a : List Part = parts_of_index (parts_loaded loads.titles) in
    let b : List Part = parts_of_index (parts_loaded loads.rhythms) in
    let c : List Part = parts_of_index (parts_loaded loads.scales) in
    let d : List Part = parts_of_index (parts_loaded loads.incipits) in
    let titles = held_loaded key_bytes most pages claimed loads.with_titles firsts.titles shape.titles entries.titles front has loads.titles in
    let rhythms = held_loaded key_bytes most pages loads.with_titles loads.with_rhythms firsts.rhythms shape.rhythms entries.rhythms (front ++ a)
    titles.has loads.rhythms in
    let scales = held_loaded key_bytes most pages loads.with_rhythms loads.with_scales firsts.scales shape.scales entries.scales ((front ++ a) ++ b)
    rhythms.has loads.scales in
    let incipits = held_loaded (incipit_bytes shape.notes) most pages loads.with_scales after firsts.incipits shape.incipits entries.incipits
    (((front ++ a) ++ b) ++ c) scales.has loads.incipits in
    record {
      has = subst (λ (l : List Part). HasClaimed pages after l) (joined front a b c d) incipits.has;
      notes = loads.notes;
      titles = titles.keeps;
      rhythms = rhythms.keeps;
      scales = scales.keeps;
      incipits = incipits.keeps;
      begin = refl;
    }

-- WHAT STANDS THERE
-- the parts of one of the indexes, with those of the others behind it
pub next_there : (pages : List (List ℕ)) (front mine others more : List Part) → AreParts pages (front ++ ((mine ++ others) ++ more))
    → AreParts pages (front ++ (mine ++ (others ++ more)))
next_there pages front mine others more are =
    subst (λ (l : List Part). AreParts pages (front ++ l)) (append_assoc mine others more) are

-- an index stands there, and what stands behind it can be loaded then
there_then : (most : ℕ) (pages : List (List ℕ)) (claimed : List Bool) (parts : IndexParts) (entries : List Entry) (front more : List Part)
    (Then : List Bool → Type 0) → AreParts pages (front ++ (parts_of_index parts ++ more)) → ClaimsParts pages claimed front
    → HoldsAtMost key_bytes most parts entries
    → ((now : List Bool) → AreParts pages ((front ++ parts_of_index parts) ++ more) → ClaimsParts pages now (front ++ parts_of_index parts) → Then now)
    → IsStoredThen most pages claimed parts.list.first Then
there_then most pages claimed parts entries front more Then are marks holds then = (
  parts.list.trail,
  pages_of parts,
  stored_there key_bytes most pages parts entries front more are holds claimed marks,
  then _ (parts_behind pages front (parts_of_index parts) more are)
      (claims_there key_bytes most pages parts entries front more are holds claimed marks),
)

pub there_four : (most : ℕ) (pages : List (List ℕ)) (claimed : List Bool) (parts : SearchParts) (entries : SearchRuns) (front more : List Part)
    → AreParts pages (front ++ (parts_of_search parts ++ more)) → ClaimsParts pages claimed front → HoldEachAtMost most parts entries
    → AreStored entries.notes most pages claimed (search_firsts_of parts)
there_four most pages claimed parts entries front more are marks hold =
    let a : List Part = parts_of_index parts.titles in
    let b : List Part = parts_of_index parts.rhythms in
    let c : List Part = parts_of_index parts.scales in
    let d : List Part = parts_of_index parts.incipits in
    there_then most pages claimed parts.titles entries.titles front ((b ++ (c ++ d)) ++ more) _ (next_there pages front a (b ++ (c ++ d)) more are)
    marks hold.titles (λ with_titles at_rhythms marks_then.
    there_then most pages with_titles parts.rhythms entries.rhythms (front ++ a) ((c ++ d) ++ more) _
    (next_there pages (front ++ a) b (c ++ d) more at_rhythms) marks_then hold.rhythms (λ with_rhythms at_scales marks_later.
    there_then most pages with_rhythms parts.scales entries.scales ((front ++ a) ++ b) (d ++ more) _
    (next_there pages ((front ++ a) ++ b) c d more at_scales) marks_later hold.scales (λ with_scales at_incipits marks_last.
    there_stored (incipit_bytes entries.notes) most pages with_scales parts.incipits entries.incipits (((front ++ a) ++ b) ++ c) more at_incipits
    marks_last hold.incipits)))

-- WHAT IS LOADED IS WHAT STANDS THERE
-- One index is, and this is what stands behind it.
pub record SameThen (pages : List (List ℕ)) (after : List Bool) (loaded other : IndexParts) (entries others : List Entry) (front more : List Part)
    : Type 0 where
  pub parts : other ≡ loaded
  pub entries_are : others ≡ entries
  pub are : AreParts pages ((front ++ parts_of_index other) ++ more)
  pub marks : ClaimsParts pages after (front ++ parts_of_index other)
  pub few : length after < 256 ^ 4

same_then : (most : ℕ) (pages : List (List ℕ)) (claimed after : List Bool) (first : ℕ) (shape : Shape) (entries : List Entry)
    (loads : LoadsIndex key_bytes most (pages_claimed pages claimed) after first (index_with shape entries)) (other : IndexParts) (others : List Entry)
    (front more : List Part)
    → length claimed < 256 ^ 4 → AreParts pages (front ++ (parts_of_index other ++ more)) → ClaimsParts pages claimed front
    → HoldsAtMost key_bytes most other others → other.list.first ≡ first
    → SameThen pages after (parts_loaded loads) other entries others front more
same_then most pages claimed after first shape entries loads other others front more few are marks holds begins =
    let same = same_loaded key_bytes most pages claimed after first shape entries loads other others front more few are marks holds begins in
    let behind = loaded_claims key_bytes most pages claimed after first shape entries front loads marks in
    record {
      parts = same.0;
      entries_are = same.1;
      are = parts_behind pages front (parts_of_index other) more are;
      marks = subst (λ (p : IndexParts). ClaimsParts pages after (front ++ parts_of_index p)) (sym same.0) behind;
      few = still_few key_bytes most pages claimed after first shape entries loads few;
    }

pub same_four : (most : ℕ) (pages : List (List ℕ)) (claimed after : List Bool) (firsts : SearchFirsts) (shape : SearchShape) (entries : SearchRuns)
    (loads : LoadsSearch most (pages_claimed pages claimed) after firsts (search_with shape entries)) (other : SearchParts) (others : SearchRuns)
    (front more : List Part)
    → length claimed < 256 ^ 4 → AreParts pages (front ++ (parts_of_search other ++ more)) → ClaimsParts pages claimed front
    → others.notes ≡ entries.notes → HoldEachAtMost most other others → search_firsts_of other ≡ firsts → (other ≡ search_loaded loads) × (others ≡ entries)
same_four most pages claimed after firsts shape entries loads other others front more few are marks notes hold begin =
    let a : List Part = parts_of_index other.titles in
    let b : List Part = parts_of_index other.rhythms in
    let c : List Part = parts_of_index other.scales in
    let d : List Part = parts_of_index other.incipits in
    let titles = same_then most pages claimed loads.with_titles firsts.titles shape.titles entries.titles loads.titles other.titles others.titles front
    ((b ++ (c ++ d)) ++ more) few (next_there pages front a (b ++ (c ++ d)) more are) marks hold.titles
    (ap (λ (f : SearchFirsts). f.titles) begin) in
    let rhythms = same_then most pages loads.with_titles loads.with_rhythms firsts.rhythms shape.rhythms entries.rhythms loads.rhythms
    other.rhythms others.rhythms (front ++ a) ((c ++ d) ++ more) titles.few (next_there pages (front ++ a) b (c ++ d) more titles.are) titles.marks
    hold.rhythms (ap (λ (f : SearchFirsts). f.rhythms) begin) in
    let scales = same_then most pages loads.with_rhythms loads.with_scales firsts.scales shape.scales entries.scales loads.scales
    other.scales others.scales ((front ++ a) ++ b) (d ++ more) rhythms.few (next_there pages ((front ++ a) ++ b) c d more rhythms.are) rhythms.marks
    hold.scales (ap (λ (f : SearchFirsts). f.scales) begin) in
    let its : HoldsAtMost (incipit_bytes shape.notes) most other.incipits others.incipits =
    subst (λ (n : ℕ). HoldsAtMost (incipit_bytes n) most other.incipits others.incipits) (notes ∙ loads.notes) hold.incipits in
    let incipits = same_loaded (incipit_bytes shape.notes) most pages loads.with_scales after firsts.incipits shape.incipits entries.incipits loads.incipits
    other.incipits others.incipits (((front ++ a) ++ b) ++ c) more scales.few scales.are scales.marks its
    (ap (λ (f : SearchFirsts). f.incipits) begin) in (
      (λ i. record { titles = titles.parts i; rhythms = rhythms.parts i; scales = scales.parts i; incipits = incipits.0 i }),
      (λ i. record {
        notes = notes i;
        titles = titles.entries_are i;
        rhythms = rhythms.entries_are i;
        scales = scales.entries_are i;
        incipits = incipits.1 i;
      }),
    )
