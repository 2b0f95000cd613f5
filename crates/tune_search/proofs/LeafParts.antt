-- Leaves as parts: what stands on the pages of an index, read as parts and back.
use Rattle.std.proofs.Common.{◌≡◌, ℕ, ◌<◌, List, [], ◌∷◌, ◌++◌, length, map, All, suc, refl, sym, ap, subst, arith}
use Rattle.std.specs.List.{AllByRecursion}
use Rattle.tune_pages.specs.Frame.{Apart, image_at}
use Rattle.tune_pages.specs.Stand.{Stand, IsUsed}
use Rattle.index_keys.specs.Entries.{Entry}
use Rattle.tune_index.specs.Indexes.{AllLeaves, entries_of, heads_of}
use Rattle.tune_index.specs.Leaves.{leaf_in, slice_entry}
use Rattle.tune_parts.specs.Parts.{IsPart, IsPartOf, Part, PartKind, leaf_part, trails}
use Rattle.tune_parts.specs.Parts.PartKind.{chain, leaf}
use Rattle.tune_search.specs.IndexParts.{IsLeafPart, entries_of_parts}

-- the parts of leaves on these pages
abbrev pub leaf_parts : Stand → List ℕ → List Part
leaf_parts s [] = []
leaf_parts s (page ∷ pages) = leaf_part page (image_at s page) ∷ leaf_parts s pages

pub trails_leaves : (s : Stand) (pages : List ℕ) → trails (leaf_parts s pages) ≡ pages
trails_leaves s [] = refl
trails_leaves s (page ∷ pages) = ap (λ (l : List ℕ). page ∷ l) (trails_leaves s pages)

pub firsts_leaves : (s : Stand) (pages : List ℕ) → map (λ part. part.first) (leaf_parts s pages) ≡ pages
firsts_leaves s [] = refl
firsts_leaves s (page ∷ pages) = ap (λ (l : List ℕ). page ∷ l) (firsts_leaves s pages)

pub heads_leaves : (width : ℕ) (s : Stand) (pages : List ℕ)
    → map (λ part. slice_entry (leaf_in width part.bytes) 0) (leaf_parts s pages) ≡ heads_of width s pages
heads_leaves width s [] = refl
heads_leaves width s (page ∷ pages) = ap (λ (l : List Entry). slice_entry (leaf_in width (image_at s page)) 0 ∷ l) (heads_leaves width s pages)

pub entries_leaves : (width : ℕ) (s : Stand) (pages : List ℕ) → entries_of_parts width (leaf_parts s pages) ≡ entries_of width s pages
entries_leaves width s [] = refl
entries_leaves width s (page ∷ pages) = ap (λ (l : List Entry). leaf_in width (image_at s page) ++ l) (entries_leaves width s pages)

pub form_leaves : (width : ℕ) (s : Stand) (pages : List ℕ) → AllLeaves width s pages → AllByRecursion (IsLeafPart width) (leaf_parts s pages)
form_leaves width s [] form = tt
form_leaves width s (page ∷ pages) form = (record { is_leaf = refl; form = form.0 }, form_leaves width s pages form.1)

pub leaves_form : (width : ℕ) (s : Stand) (pages : List ℕ) → AllByRecursion (IsLeafPart width) (leaf_parts s pages) → AllLeaves width s pages
leaves_form width s [] form = tt
leaves_form width s (page ∷ pages) form = (form.0.form, leaves_form width s pages form.1)

-- pages in use that are not the root are parts
pub stand_leaves : (s : Stand) (pages : List ℕ) → ((page : ℕ) → IsUsed s.used page → page < length s.pages) → All (λ page. IsUsed s.used page) pages
    → Apart 0 pages
    → AllByRecursion (IsPart s.pages) (leaf_parts s pages)
stand_leaves s [] inside used apart = tt
stand_leaves s (page ∷ pages) inside used apart = (
  record { alone = refl; above = (let n = apart.0 in omega (arith, n)); there = inside page (used 0 0 (omega arith)); holds = refl },
  stand_leaves s pages inside (λ k d lt. used (suc k) d (omega (arith, lt))) apart.1,
)

-- THE OTHER WAY
abbrev IsChainKind : PartKind → Type 0
IsChainKind chain = Unit {0}
IsChainKind leaf = ⊥

pub no_chain : chain ≡ leaf → ⊥
no_chain is = subst IsChainKind is tt

one_back : (s : Stand) (kind : PartKind) (first : ℕ) (trail bytes : List ℕ) → kind ≡ leaf → IsPartOf kind s.pages first trail bytes
    → record { kind = kind; first = first; trail = trail; bytes = bytes } ≡ leaf_part first (image_at s first)
one_back s chain first trail bytes is stands = absurd (no_chain is)
one_back s leaf first trail bytes is stands = λ i. record { kind = leaf; first = first; trail = stands.alone i; bytes = sym stands.holds i }

-- Leaves are the parts of their pages.
pub leaves_back : (width : ℕ) (s : Stand) (leaves : List Part) → AllByRecursion (IsPart s.pages) leaves → AllByRecursion (IsLeafPart width) leaves
    → leaves ≡ leaf_parts s (map (λ part. part.first) leaves)
leaves_back width s [] stands form = refl
leaves_back width s (part ∷ leaves) stands form =
    let here = one_back s part.kind part.first part.trail part.bytes form.0.is_leaf stands.0 in
    let rest = leaves_back width s leaves stands.1 form.1 in
    λ i. here i ∷ rest i
