-- Indexes that are claimed one after another.
use Rattle.std.proofs.Common.{◌≡◌, ℕ, ◌^◌, ◌<◌, List, Bool, true, length, sym, ap, ◌∙◌, subst, arith}
use Rattle.tune_pages.specs.Claim.{IsChainFault}
use Rattle.tune_pages.specs.Stand.{marked}
use Rattle.tune_pages.specs.declared.fault.ClaimFault.{ClaimFault}
use Rattle.tune_pages.proofs.Chains.{length-marked}
use Rattle.tune_pages.proofs.Claiming.{fault_as}
use Rattle.index_keys.specs.Entries.{Entry}
use Rattle.tune_index.specs.Indexes.{Shape}
use Rattle.tune_index.specs.ListedLeaves.{IsStored, LoadsIndex, StoredIndex, listed_bytes, numbers_in, index_with, pages_claimed}
use Rattle.tune_index.proofs.Loading.{stored_bytes}
use Rattle.tune_search.specs.Loaded.{AreStored, IsStoredThen}
use Rattle.tune_search.specs.Searches.{incipit_bytes, key_bytes}
use Rattle.tune_search.specs.declared.loading.SearchFirsts.{SearchFirsts}

-- what is stored there is one index, with one list and its leaves
pub stored_once : (width most : ℕ) (pages : List (List ℕ)) (claimed : List Bool) (first : ℕ) (trail leaves t others : List ℕ) → length claimed < 256 ^ 4
    → StoredIndex width most (pages_claimed pages claimed) first trail leaves → StoredIndex width most (pages_claimed pages claimed) first t others
    → (trail ≡ t) × (leaves ≡ others)
stored_once width most pages claimed first trail leaves t others few one other =
    let bytes = listed_bytes leaves in
    let this = stored_bytes width most pages claimed first trail bytes trail leaves few one.list one in
    let that = stored_bytes width most pages claimed first trail bytes t others few one.list other in
    (that.0, this.2 ∙ ap (λ (n : ℕ). numbers_in n bytes) (omega (arith, this.1, that.1)) ∙ sym that.2)

-- what is loaded is what is stored there
stored_then : (most : ℕ) (pages : List (List ℕ)) (claimed after : List Bool) (first : ℕ) (shape : Shape) (entries : List Entry) (Then : List Bool → Type 0)
    → length claimed < 256 ^ 4 → LoadsIndex key_bytes most (pages_claimed pages claimed) after first (index_with shape entries)
    → IsStoredThen most pages claimed first Then → Then after
stored_then most pages claimed after first shape entries Then few loads (trail, leaves, stored, then) =
    let same = stored_once key_bytes most pages claimed first loads.trail shape.pages trail leaves few loads.stored stored in
    subst Then (sym (loads.marks ∙ ap (λ (t : List ℕ). marked true shape.pages (marked true t claimed)) same.0
    ∙ ap (λ (ps : List ℕ). marked true ps (marked true trail claimed)) same.1)) then

-- there are as many marks as before
pub still_few : (width most : ℕ) (pages : List (List ℕ)) (claimed after : List Bool) (first : ℕ) (shape : Shape) (entries : List Entry)
    → LoadsIndex width most (pages_claimed pages claimed) after first (index_with shape entries) → length claimed < 256 ^ 4 → length after < 256 ^ 4
still_few width most pages claimed after first shape entries loads few =
    let marks = marked true loads.trail claimed in
    let same = ap (λ (m : List Bool). length m) loads.marks in
    omega (arith, same, length-marked true shape.pages marks, length-marked true loads.trail claimed, few)

-- REFUSALS
-- an index that is not there, whatever comes behind it
fault_first : (fault : ClaimFault) (most : ℕ) (pages : List (List ℕ)) (claimed : List Bool) (first : ℕ) (Then : List Bool → Type 0)
    → IsChainFault fault (IsStored key_bytes most pages claimed first) → IsChainFault fault (IsStoredThen most pages claimed first Then)
fault_first fault most pages claimed first Then none =
    fault_as fault (IsStored key_bytes most pages claimed first) (IsStoredThen most pages claimed first Then) (λ all. (all.0, all.1, all.2)) none

-- and what is not there behind one that was loaded
fault_behind : (fault : ClaimFault) (most : ℕ) (pages : List (List ℕ)) (claimed after : List Bool) (first : ℕ) (shape : Shape) (entries : List Entry)
    (Then : List Bool → Type 0) → length claimed < 256 ^ 4 → LoadsIndex key_bytes most (pages_claimed pages claimed) after first (index_with shape entries)
    → IsChainFault fault (Then after) → IsChainFault fault (IsStoredThen most pages claimed first Then)
fault_behind fault most pages claimed after first shape entries Then few loads none = fault_as fault (Then after) (IsStoredThen most pages claimed first Then)
    (λ all. stored_then most pages claimed after first shape entries Then few loads all) none

-- what comes behind the titles, the rhythms and the scales
abbrev Incipits : ℕ → ℕ → List (List ℕ) → SearchFirsts → List Bool → Type 0
Incipits notes most pages firsts marks = IsStored (incipit_bytes notes) most pages marks firsts.incipits

abbrev Scales : ℕ → ℕ → List (List ℕ) → SearchFirsts → List Bool → Type 0
Scales notes most pages firsts marks = IsStoredThen most pages marks firsts.scales (Incipits notes most pages firsts)

abbrev Rhythms : ℕ → ℕ → List (List ℕ) → SearchFirsts → List Bool → Type 0
Rhythms notes most pages firsts marks = IsStoredThen most pages marks firsts.rhythms (Scales notes most pages firsts)

-- calls see the pages again, the same ones
loads_here : (most : ℕ) (now pages : List (List ℕ)) (claimed after : List Bool) (first : ℕ) (shape : Shape) (entries : List Entry) → now ≡ pages
    → LoadsIndex key_bytes most (pages_claimed now claimed) after first (index_with shape entries)
    → LoadsIndex key_bytes most (pages_claimed pages claimed) after first (index_with shape entries)
loads_here most now pages claimed after first shape entries same loads =
    subst (λ (ps : List (List ℕ)). LoadsIndex key_bytes most (pages_claimed ps claimed) after first (index_with shape entries)) same loads

fault_here : (fault : ClaimFault) (width most : ℕ) (now pages : List (List ℕ)) (claimed : List Bool) (first : ℕ) → now ≡ pages
    → IsChainFault fault (IsStored width most now claimed first) → IsChainFault fault (IsStored width most pages claimed first)
fault_here fault width most now pages claimed first same none =
    subst (λ (ps : List (List ℕ)). IsChainFault fault (IsStored width most ps claimed first)) same none

-- An index was loaded: the pages that the call saw, and the marks before and after it.
pub record Loaded (most : ℕ) (pages : List (List ℕ)) (claimed after : List Bool) (first : ℕ) : Type 0 where
  pub now : List (List ℕ)
  pub same : now ≡ pages
  pub shape : Shape
  pub entries : List Entry
  pub loads : LoadsIndex key_bytes most (pages_claimed now claimed) after first (index_with shape entries)

few_behind : (most : ℕ) (pages : List (List ℕ)) (claimed after : List Bool) (first : ℕ) → Loaded most pages claimed after first
    → length claimed < 256 ^ 4 → length after < 256 ^ 4
few_behind most pages claimed after first one few = still_few key_bytes most one.now claimed after first one.shape one.entries one.loads few

loaded_fault : (fault : ClaimFault) (most : ℕ) (pages : List (List ℕ)) (claimed after : List Bool) (first : ℕ) (Then : List Bool → Type 0)
    → Loaded most pages claimed after first → length claimed < 256 ^ 4 → IsChainFault fault (Then after)
    → IsChainFault fault (IsStoredThen most pages claimed first Then)
loaded_fault fault most pages claimed after first Then one few none =
    fault_behind fault most pages claimed after first one.shape one.entries Then few
    (loads_here most one.now pages claimed after first one.shape one.entries one.same one.loads) none

module _ (fault : ClaimFault) (notes most : ℕ) (now pages : List (List ℕ)) (claimed : List Bool) (firsts : SearchFirsts) (same : now ≡ pages)
    (few : length claimed < 256 ^ 4) where
  pub no_titles : IsChainFault fault (IsStored key_bytes most now claimed firsts.titles) → IsChainFault fault (AreStored notes most pages claimed firsts)
  no_titles none = fault_first fault most pages claimed firsts.titles (Rhythms notes most pages firsts)
      (fault_here fault key_bytes most now pages claimed firsts.titles same none)

  pub no_rhythms : (with_titles : List Bool) → Loaded most pages claimed with_titles firsts.titles
      → IsChainFault fault (IsStored key_bytes most now with_titles firsts.rhythms)
      → IsChainFault fault (AreStored notes most pages claimed firsts)
  no_rhythms with_titles titles none = loaded_fault fault most pages claimed with_titles firsts.titles (Rhythms notes most pages firsts) titles few
      (fault_first fault most pages with_titles firsts.rhythms (Scales notes most pages firsts)
      (fault_here fault key_bytes most now pages with_titles firsts.rhythms same none))

  pub no_scales : (with_titles with_rhythms : List Bool) → Loaded most pages claimed with_titles firsts.titles
      → Loaded most pages with_titles with_rhythms firsts.rhythms
      → IsChainFault fault (IsStored key_bytes most now with_rhythms firsts.scales) → IsChainFault fault (AreStored notes most pages claimed firsts)
  no_scales with_titles with_rhythms titles rhythms none =
      let few_then = few_behind most pages claimed with_titles firsts.titles titles few in
      loaded_fault fault most pages claimed with_titles firsts.titles (Rhythms notes most pages firsts) titles few
      (loaded_fault fault most pages with_titles with_rhythms firsts.rhythms (Scales notes most pages firsts) rhythms few_then
      (fault_first fault most pages with_rhythms firsts.scales (Incipits notes most pages firsts)
      (fault_here fault key_bytes most now pages with_rhythms firsts.scales same none)))

  pub no_incipits : (with_titles with_rhythms with_scales : List Bool) → Loaded most pages claimed with_titles firsts.titles
      → Loaded most pages with_titles with_rhythms firsts.rhythms
      → Loaded most pages with_rhythms with_scales firsts.scales → IsChainFault fault (IsStored (incipit_bytes notes) most now with_scales firsts.incipits)
      → IsChainFault fault (AreStored notes most pages claimed firsts)
  no_incipits with_titles with_rhythms with_scales titles rhythms scales none =
      let few_then = few_behind most pages claimed with_titles firsts.titles titles few in
      let few_later = few_behind most pages with_titles with_rhythms firsts.rhythms rhythms few_then in
      loaded_fault fault most pages claimed with_titles firsts.titles (Rhythms notes most pages firsts) titles few
      (loaded_fault fault most pages with_titles with_rhythms firsts.rhythms (Scales notes most pages firsts) rhythms few_then
      (loaded_fault fault most pages with_rhythms with_scales firsts.scales (Incipits notes most pages firsts) scales few_later
      (fault_here fault (incipit_bytes notes) most now pages with_scales firsts.incipits same none)))
