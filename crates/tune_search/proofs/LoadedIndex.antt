-- An index that was loaded, among parts.
use Rattle.std.proofs.Common.{◌≡◌, ℕ, ◌^◌, ◌<◌, ◌≤◌, List, ◌++◌, length, map, Bool, true, refl, sym, ◌∙◌, ap, subst}
use Rattle.std.specs.List.{AllByRecursion}
use Rattle.index_keys.specs.Entries.{Entry, IsRising}
use Rattle.tune_index.specs.Indexes.{Shape, entries_of}
use Rattle.tune_index.specs.Leaves.{leaf_in, slice_entry}
use Rattle.tune_index.specs.ListedLeaves.{IsStored, LoadsIndex, StoredIndex, stand_of_pages, index_with, pages_claimed}
use Rattle.tune_pages.specs.Chain.{IsChain}
use Rattle.tune_pages.specs.Stand.{AllFree, marked}
use Rattle.tune_parts.specs.Parts.{AreParts, IsPart, Part, trails}
use Rattle.tune_parts.proofs.Lists.{all_right}
use Rattle.tune_parts.proofs.Once.{marked_append}
use Rattle.tune_parts.proofs.PartLemmas.{free_front, its_chain}
use Rattle.tune_parts.proofs.Staying.{IsThere}
use Rattle.tune_search.specs.LoadedParts.{ClaimsParts, HasClaimed, HoldsAtMost, HoldsLoaded, index_parts, parts_loaded}
use Rattle.tune_search.specs.IndexParts.{IndexParts, IsLeafPart, entries_of_parts, parts_of_index}
use Rattle.tune_search.proofs.ClaimedParts.{are_more, claims_more, free_behind, free_join, free_there, leaves_are, leaves_stand, pages_there, stand_there}
use Rattle.tune_search.proofs.LeafParts.{entries_leaves, firsts_leaves, form_leaves, heads_leaves, leaf_parts, leaves_back, leaves_form, trails_leaves}
use Rattle.tune_search.proofs.LoadLemmas.{stored_once}

-- WHAT WAS LOADED
module _ (width most : ℕ) (pages : List (List ℕ)) (claimed after : List Bool) (first : ℕ) (shape : Shape) (entries : List Entry) (front : List Part)
    (loads : LoadsIndex width most (pages_claimed pages claimed) after first (index_with shape entries)) where
  -- the pages that it runs through
  loaded_pages : trails (parts_of_index (parts_loaded loads)) ≡ loads.trail ++ shape.pages
  loaded_pages = ap (λ (l : List ℕ). loads.trail ++ l) (ap trails (leaves_are pages shape.pages) ∙ trails_leaves (stand_of_pages pages) shape.pages)

  pub loaded_claims : ClaimsParts pages claimed front → ClaimsParts pages after (front ++ parts_of_index (parts_loaded loads))
  loaded_claims marks = loads.marks ∙ sym (marked_append true loads.trail shape.pages claimed)
      ∙ ap (λ (l : List ℕ). marked true l claimed) (sym loaded_pages)
      ∙ claims_more pages claimed front (parts_of_index (parts_loaded loads)) marks

  loaded_free : AllFree (loads.trail ++ shape.pages) claimed
  loaded_free = free_join loads.trail shape.pages claimed loads.stored.list.free loads.stored.free

  loaded_stand : ClaimsParts pages claimed front → AllByRecursion (IsPart pages) (parts_of_index (parts_loaded loads))
  loaded_stand marks =
      let there = pages_there pages claimed front (loads.trail ++ shape.pages) marks loaded_free in
      (loads.stored.list.chain, leaves_stand pages shape.pages (all_right (IsThere pages) loads.trail shape.pages there))

-- Behind parts that were claimed, those of an index that was loaded are.
pub held_loaded : (width most : ℕ) (pages : List (List ℕ)) (claimed after : List Bool) (first : ℕ) (shape : Shape) (entries : List Entry) (front : List Part)
    → HasClaimed pages claimed front → (loads : LoadsIndex width most (pages_claimed pages claimed) after first (index_with shape entries))
    → HoldsLoaded width (pages_claimed pages after) front first (parts_loaded loads) (index_with shape entries)
held_loaded width most pages claimed after first shape entries front has loads = record {
  has = record {
    are = are_more pages claimed front (parts_of_index (parts_loaded loads)) has
        (loaded_stand width most pages claimed after first shape entries front loads has.marks)
        (subst (λ (l : List ℕ). AllFree l claimed) (sym (loaded_pages width most pages claimed after first shape entries front loads))
        (loaded_free width most pages claimed after first shape entries front loads));
    marks = loaded_claims width most pages claimed after first shape entries front loads has.marks;
  };
  keeps = record {
    is_chain = refl;
    leaves = subst (λ (l : List Part). AllByRecursion (IsLeafPart width) l) (sym are) (form_leaves width (stand_of_pages pages) shape.pages loads.stored.form);
    first = loads.begins;
    pages = sym (ap (λ (l : List Part). map (λ part. part.first) l) are ∙ firsts_leaves (stand_of_pages pages) shape.pages);
    heads = loads.heads ∙ sym (ap (λ (l : List Part). map (λ part. slice_entry (leaf_in width part.bytes) 0) l) are
        ∙ heads_leaves width (stand_of_pages pages) shape.pages);
    listed = λ l. refl;
    hold = ap (entries_of_parts width) are ∙ entries_leaves width (stand_of_pages pages) shape.pages ∙ sym loads.are;
    rising = subst (λ (es : List Entry). IsRising es) (sym loads.are) loads.stored.rising;
    fit = loads.fit;
  };
  begins = refl;
}
  where
    are : (parts_loaded loads).leaves ≡ leaf_parts (stand_of_pages pages) shape.pages
    are = leaves_are pages shape.pages

-- WHAT STANDS THERE
-- the first pages of leaves
abbrev pub pages_of : IndexParts → List ℕ
pages_of parts = map (λ part. part.first) parts.leaves

module _ (width most : ℕ) (pages : List (List ℕ)) (parts : IndexParts) (entries : List Entry) (front more : List Part)
    (are : AreParts pages (front ++ (parts_of_index parts ++ more))) (holds : HoldsAtMost width most parts entries) where
  leaves_there : parts.leaves ≡ leaf_parts (stand_of_pages pages) (pages_of parts)
  leaves_there = leaves_back width (stand_of_pages pages) parts.leaves (stand_there pages front (parts_of_index parts) more are).1 holds.holds.leaves

  entries_there : entries_of width (stand_of_pages pages) (pages_of parts) ≡ entries
  entries_there = sym (entries_leaves width (stand_of_pages pages) (pages_of parts)) ∙ ap (entries_of_parts width) (sym leaves_there) ∙ holds.holds.hold

  -- the parts are those of its pages
  parts_there : parts ≡ index_parts pages parts.list.first parts.list.trail (pages_of parts)
  parts_there = λ i. record {
    list = record { kind = holds.holds.is_chain i; first = parts.list.first; trail = parts.list.trail; bytes = holds.holds.listed i };
    leaves = (leaves_there ∙ sym (leaves_are pages (pages_of parts))) i;
  }

  pages_own : trails (parts_of_index parts) ≡ parts.list.trail ++ pages_of parts
  pages_own = ap (λ (l : List ℕ). parts.list.trail ++ l) (ap trails leaves_there ∙ trails_leaves (stand_of_pages pages) (pages_of parts))

  free_own : (claimed : List Bool) → ClaimsParts pages claimed front → AllFree (parts.list.trail ++ pages_of parts) claimed
  free_own claimed marks =
      subst (λ (l : List ℕ). AllFree l claimed) pages_own (free_there pages claimed front (parts_of_index parts) more are marks)

  -- they can be loaded
  pub stored_there : (claimed : List Bool) → ClaimsParts pages claimed front
      → StoredIndex width most (pages_claimed pages claimed) parts.list.first parts.list.trail (pages_of parts)
  stored_there claimed marks = record {
    list = record {
      chain = subst (λ (bytes : List ℕ). IsChain pages parts.list.first parts.list.trail bytes) holds.holds.listed
          (its_chain pages parts.list holds.holds.is_chain (stand_there pages front (parts_of_index parts) more are).0);
      free = free_front parts.list.trail (pages_of parts) claimed (free_own claimed marks);
    };
    free = free_behind parts.list.trail (pages_of parts) claimed (free_own claimed marks);
    form = leaves_form width (stand_of_pages pages) (pages_of parts)
        (subst (λ (l : List Part). AllByRecursion (IsLeafPart width) l) leaves_there holds.holds.leaves);
    rising = subst (λ (es : List Entry). IsRising es) (sym entries_there) holds.holds.rising;
    few = subst (λ (es : List Entry). length es ≤ most) (sym entries_there) holds.few;
  }

  -- and then they are claimed
  pub claims_there : (claimed : List Bool) → ClaimsParts pages claimed front
      → ClaimsParts pages (marked true (pages_of parts) (marked true parts.list.trail claimed)) (front ++ parts_of_index parts)
  claims_there claimed marks = sym (marked_append true parts.list.trail (pages_of parts) claimed)
      ∙ ap (λ (l : List ℕ). marked true l claimed) (sym pages_own)
      ∙ claims_more pages claimed front (parts_of_index parts) marks

pub there_stored : (width most : ℕ) (pages : List (List ℕ)) (claimed : List Bool) (parts : IndexParts) (entries : List Entry) (front more : List Part)
    → AreParts pages (front ++ (parts_of_index parts ++ more)) → ClaimsParts pages claimed front → HoldsAtMost width most parts entries
    → IsStored width most pages claimed parts.list.first
there_stored width most pages claimed parts entries front more are marks holds =
    (parts.list.trail, pages_of parts, stored_there width most pages parts entries front more are holds claimed marks)

-- What is loaded is what stands there.
pub same_loaded : (width most : ℕ) (pages : List (List ℕ)) (claimed after : List Bool) (first : ℕ) (shape : Shape) (entries : List Entry)
    (loads : LoadsIndex width most (pages_claimed pages claimed) after first (index_with shape entries)) (other : IndexParts) (others : List Entry)
    (front more : List Part)
    → length claimed < 256 ^ 4 → AreParts pages (front ++ (parts_of_index other ++ more)) → ClaimsParts pages claimed front
    → HoldsAtMost width most other others → other.list.first ≡ first → (other ≡ parts_loaded loads) × (others ≡ entries)
same_loaded width most pages claimed after first shape entries loads other others front more few are marks holds begins =
    let stored = subst (λ (f : ℕ). StoredIndex width most (pages_claimed pages claimed) f other.list.trail (pages_of other)) begins
    (stored_there width most pages other others front more are holds claimed marks) in
    let once = stored_once width most pages claimed first other.list.trail (pages_of other) loads.trail shape.pages few stored loads.stored in
    let parts : index_parts pages other.list.first other.list.trail (pages_of other) ≡ parts_loaded loads
    = λ i. index_parts pages (begins i) (once.0 i) (once.1 i) in (
      parts_there width most pages other others front more are holds ∙ parts,
      sym (entries_there width most pages other others front more are holds) ∙ ap (λ (l : List ℕ). entries_of width (stand_of_pages pages) l) once.1
          ∙ sym loads.are,
    )
