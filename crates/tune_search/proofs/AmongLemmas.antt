-- An index among other parts: what the calls of it ask for.
use Rattle.std.proofs.Common.{◌≡◌, ℕ, ◌∷◌, ◌++◌, [], List, true, false, length, map, replicate, refl, sym, ap, ◌∙◌, subst, append_assoc}
use Rattle.std.specs.List.{AllByRecursion}
use Rattle.tune_pages.specs.Frame.{Apart}
use Rattle.tune_pages.specs.Stand.{AllFree, AllUsed, IsFree, Stand, marked}
use Rattle.tune_pages.proofs.Marks.{apart_left, apart_right}
use Rattle.index_keys.specs.Entries.{AllFit, Entry, IsRising}
use Rattle.tune_index.specs.Indexes.{AllLeaves, HasPages, IsIndex, Shape, entries_of, heads_of}
use Rattle.tune_index.specs.Leaves.{IsLeaf, leaf_in, slice_entry}
use Rattle.tune_index.specs.ListedLeaves.{HasList, index_with}
use Rattle.tune_parts.specs.Parts.{HoldsParts, IsLeafPage, IsPart, IsPartOf, Part, PartKind, trails}
use Rattle.tune_parts.proofs.Lists.{all_left, all_right}
use Rattle.tune_parts.proofs.Once.{EachFree, free_once, free_past, marked_put, once_cut}
use Rattle.tune_parts.proofs.PartLemmas.{each_used, has_part}
use Rattle.tune_parts.proofs.Staying.{trails_join}
use Rattle.tune_search.specs.IndexParts.{HoldsIndexAmong, HoldsSomeIndex, IndexParts, IsLeafPart, entries_of_parts, parts_of_index}
use Rattle.tune_search.specs.Searches.{HoldsSomeTexts, HoldsTexts, SearchParts, SearchShape, incipit_bytes, key_bytes, parts_of_search}

-- LEAVES ON THEIR PAGES
-- what leaves are as parts they are on the pages of an index
pub record OnPages (width : ℕ) (s : Stand) (leaves : List Part) : Type 0 where
  pub alone : trails leaves ≡ map (λ part. part.first) leaves
  pub form : AllLeaves width s (map (λ part. part.first) leaves)
  pub heads : map (λ part. slice_entry (leaf_in width part.bytes) 0) leaves ≡ heads_of width s (map (λ part. part.first) leaves)
  pub entries : entries_of width s (map (λ part. part.first) leaves) ≡ entries_of_parts width leaves

-- a leaf stands on a page of its own
leaf_page : (width : ℕ) (pages : List (List ℕ)) (part : Part) → IsLeafPart width part → IsPart pages part
    → IsLeafPage pages part.first part.trail part.bytes
leaf_page width pages part is stands = subst (λ (kind : PartKind). IsPartOf kind pages part.first part.trail part.bytes) is.is_leaf stands

pub leaves_on_pages : (width : ℕ) (s : Stand) (leaves : List Part) → AllByRecursion (IsLeafPart width) leaves → AllByRecursion (IsPart s.pages) leaves
    → OnPages width s leaves
leaves_on_pages width s [] are stand = record { alone = refl; form = tt; heads = refl; entries = refl }
leaves_on_pages width s (part ∷ leaves) are stand =
    let here = leaf_page width s.pages part are.0 stand.0 in
    let rest = leaves_on_pages width s leaves are.1 stand.1 in
    let firsts = map (λ (leaf : Part). leaf.first) leaves in
    record {
      alone = ap (λ (trail : List ℕ). trail ++ trails leaves) here.alone ∙ ap (λ (pages : List ℕ). part.first ∷ pages) rest.alone;
      form = (subst (IsLeaf width) (sym here.holds) are.0.form, rest.form);
      heads = ap (λ (heads : List Entry). slice_entry (leaf_in width part.bytes) 0 ∷ heads) rest.heads
          ∙ ap (λ (image : List ℕ). slice_entry (leaf_in width image) 0 ∷ heads_of width s firsts) (sym here.holds);
      entries = ap (λ (image : List ℕ). leaf_in width image ++ entries_of width s firsts) here.holds
          ∙ ap (λ (entries : List Entry). leaf_in width part.bytes ++ entries) rest.entries;
    }

-- PARTS SIDE BY SIDE
-- their pages are in use, none of them twice, and none of them is the root
pub side_by_side : (s : Stand) (before mine after : List Part) → HoldsParts s (before ++ (mine ++ after))
    → AllUsed (trails mine) s.used × Apart 0 (trails mine)
side_by_side s before mine after holds =
    let none = replicate (length s.used) false in
    let front = trails before in
    let own = trails mine in
    let back = trails after in
    let whole : trails (before ++ (mine ++ after)) ≡ front ++ (own ++ back) =
    trails_join before (mine ++ after) ∙ ap (λ (pages : List ℕ). front ++ pages) (trails_join mine after) in
    let known = free_once (0 ∷ (front ++ (own ++ back))) none (subst (λ (pages : List ℕ). AllFree (0 ∷ pages) none) whole holds.apart) in
    let cut = once_cut (0 ∷ front) own back known.0 in
    let others = marked true (0 ∷ (front ++ back)) none in
    let each : EachFree none own = all_left (IsFree none) own back (all_right (IsFree none) front (own ++ back) known.1.1) in
    let free : EachFree others own = free_past (0 ∷ (front ++ back)) own none cut.2 each in
    let used : s.used ≡ marked true own others =
    subst (λ (pages : List ℕ). s.used ≡ marked true (0 ∷ pages) none) whole holds.used ∙ marked_put true (0 ∷ front) own back none in
    (subst (AllUsed own) (sym used) (each_used own others cut.1 free), apart_left 0 own back (apart_right 0 front (own ++ back) known.0.0))

-- an index with the chain that lists its leaves among the others
leaves_apart : (s : Stand) (before after : List Part) (parts : IndexParts) → HoldsParts s (before ++ (parts_of_index parts ++ after))
    → HoldsParts s ((before ++ (parts.list ∷ [])) ++ (parts.leaves ++ after))
leaves_apart s before after parts holds = subst (HoldsParts s) (sym (append_assoc before (parts.list ∷ []) (parts.leaves ++ after))) holds

-- WHAT CALLS OF AN INDEX ASK FOR
-- how its leaves stand on pages
pub among_leaves : (width : ℕ) (s : Stand) (shape : Shape) (before after : List Part) (parts : IndexParts) (entries : List Entry)
    → HoldsIndexAmong width s (index_with shape entries) before after parts → OnPages width s parts.leaves
among_leaves width s shape before after parts entries among =
    leaves_on_pages width s parts.leaves among.keeps.leaves (all_left (IsPart s.pages) parts.leaves after
    (all_right (IsPart s.pages) before (parts_of_index parts ++ after) among.holds.stand).1)

-- the pages of its leaves
pub among_pages : (width : ℕ) (s : Stand) (shape : Shape) (before after : List Part) (parts : IndexParts) (entries : List Entry)
    → HoldsIndexAmong width s (index_with shape entries) before after parts → HasPages s shape.pages
among_pages width s shape before after parts entries among =
    let leaves = among_leaves width s shape before after parts entries among in
    subst (HasPages s) (leaves.alone ∙ sym among.keeps.pages)
    (side_by_side s (before ++ (parts.list ∷ [])) parts.leaves after (leaves_apart s before after parts among.holds))

-- its entries
pub among_entries : (width : ℕ) (s : Stand) (shape : Shape) (before after : List Part) (parts : IndexParts) (entries : List Entry)
    → HoldsIndexAmong width s (index_with shape entries) before after parts → entries_of width s shape.pages ≡ entries
among_entries width s shape before after parts entries among =
    ap (entries_of width s) among.keeps.pages ∙ (among_leaves width s shape before after parts entries among).entries ∙ among.keeps.hold

-- its leaves
pub among_index : (width : ℕ) (s : Stand) (shape : Shape) (before after : List Part) (parts : IndexParts) (entries : List Entry)
    → HoldsIndexAmong width s (index_with shape entries) before after parts → IsIndex width s shape
among_index width s shape before after parts entries among =
    let leaves = among_leaves width s shape before after parts entries among in
    let are = among_entries width s shape before after parts entries among in
    record {
      form = subst (AllLeaves width s) (sym among.keeps.pages) leaves.form;
      heads = among.keeps.heads ∙ leaves.heads ∙ ap (heads_of width s) (sym among.keeps.pages);
      rising = subst (λ (list : List Entry). IsRising list) (sym are) among.keeps.rising;
      fit = subst (AllFit width) (sym are) among.keeps.fit;
    }

-- and the chain that lists them
pub among_list : (width : ℕ) (s : Stand) (shape : Shape) (before after : List Part) (parts : IndexParts) (entries : List Entry)
    → HoldsIndexAmong width s (index_with shape entries) before after parts → HasList s shape
among_list width s shape before after parts entries among =
    let its = has_part s parts.list before (parts.leaves ++ after) among.keeps.is_chain among.holds in (
      parts.list.trail,
      parts.list.bytes,
      record { chain = rw among.keeps.first its.chain; used = its.used },
      among.keeps.listed,
    )

-- EACH OF THE FOUR INDEXES
-- the parts behind it and before it
abbrev pub behind_titles : SearchParts → List Part → List Part
behind_titles parts after = parts_of_index parts.rhythms ++ (parts_of_index parts.scales ++ (parts_of_index parts.incipits ++ after))

abbrev pub behind_rhythms : SearchParts → List Part → List Part
behind_rhythms parts after = parts_of_index parts.scales ++ (parts_of_index parts.incipits ++ after)

abbrev pub behind_scales : SearchParts → List Part → List Part
behind_scales parts after = parts_of_index parts.incipits ++ after

abbrev pub before_rhythms : List Part → SearchParts → List Part
before_rhythms before parts = before ++ parts_of_index parts.titles

abbrev pub before_scales : List Part → SearchParts → List Part
before_scales before parts = before_rhythms before parts ++ parts_of_index parts.rhythms

abbrev pub before_incipits : List Part → SearchParts → List Part
before_incipits before parts = before_scales before parts ++ parts_of_index parts.scales

-- the same parts in the same order, whichever index is looked at
pub at_titles : (before after : List Part) (parts : SearchParts)
    → before ++ (parts_of_search parts ++ after) ≡ before ++ (parts_of_index parts.titles ++ behind_titles parts after)
at_titles before after parts =
    let t = parts_of_index parts.titles in
    let r = parts_of_index parts.rhythms in
    let s = parts_of_index parts.scales in
    let i = parts_of_index parts.incipits in
    ap (λ (all : List Part). before ++ all) (append_assoc t (r ++ (s ++ i)) after
    ∙ ap (λ (all : List Part). t ++ all) (append_assoc r (s ++ i) after ∙ ap (λ (all : List Part). r ++ all) (append_assoc s i after)))

pub at_rhythms : (before after : List Part) (parts : SearchParts)
    → before ++ (parts_of_search parts ++ after) ≡ before_rhythms before parts ++ (parts_of_index parts.rhythms ++ behind_rhythms parts after)
at_rhythms before after parts =
    at_titles before after parts ∙ sym (append_assoc before (parts_of_index parts.titles) (behind_titles parts after))

pub at_scales : (before after : List Part) (parts : SearchParts)
    → before ++ (parts_of_search parts ++ after) ≡ before_scales before parts ++ (parts_of_index parts.scales ++ behind_scales parts after)
at_scales before after parts =
    at_rhythms before after parts ∙ sym (append_assoc (before_rhythms before parts) (parts_of_index parts.rhythms) (behind_rhythms parts after))

pub at_incipits : (before after : List Part) (parts : SearchParts)
    → before ++ (parts_of_search parts ++ after) ≡ before_incipits before parts ++ (parts_of_index parts.incipits ++ after)
at_incipits before after parts =
    at_scales before after parts ∙ sym (append_assoc (before_scales before parts) (parts_of_index parts.scales) (behind_scales parts after))

-- each of them stands among the others
module _ (s : Stand) (shape : SearchShape) (before after : List Part) (parts : SearchParts) (tunes : List (ℕ × List ℕ))
    (texts : HoldsTexts s shape before after parts tunes) where
  pub titles_among : HoldsIndexAmong key_bytes s (index_with shape.titles texts.titles.entries) before (behind_titles parts after) parts.titles
  titles_among = record { holds = subst (HoldsParts s) (at_titles before after parts) texts.holds; keeps = texts.titles.keeps }

  pub rhythms_among : HoldsIndexAmong key_bytes s (index_with shape.rhythms texts.rhythms.entries) (before_rhythms before parts) (behind_rhythms parts after)
      parts.rhythms
  rhythms_among = record { holds = subst (HoldsParts s) (at_rhythms before after parts) texts.holds; keeps = texts.rhythms.keeps }

  pub scales_among : HoldsIndexAmong key_bytes s (index_with shape.scales texts.scales.entries) (before_scales before parts) (behind_scales parts after)
      parts.scales
  scales_among = record { holds = subst (HoldsParts s) (at_scales before after parts) texts.holds; keeps = texts.scales.keeps }

  pub incipits_among : HoldsIndexAmong (incipit_bytes shape.notes) s (index_with shape.incipits texts.incipits.entries) (before_incipits before parts) after
      parts.incipits
  incipits_among = record { holds = subst (HoldsParts s) (at_incipits before after parts) texts.holds; keeps = texts.incipits.keeps }

-- whatever tunes stand there
module _ (s : Stand) (shape : SearchShape) (some : HoldsSomeTexts s shape) where
  pub some_titles : HoldsSomeIndex key_bytes s shape.titles
  some_titles = (
    some.0,
    behind_titles some.2 some.1,
    some.2.titles,
    some.4.titles.entries,
    titles_among s shape some.0 some.1 some.2 some.3 some.4,
  )

  pub some_rhythms : HoldsSomeIndex key_bytes s shape.rhythms
  some_rhythms = (
    before_rhythms some.0 some.2,
    behind_rhythms some.2 some.1,
    some.2.rhythms,
    some.4.rhythms.entries,
    rhythms_among s shape some.0 some.1 some.2 some.3 some.4,
  )

  pub some_scales : HoldsSomeIndex key_bytes s shape.scales
  some_scales = (
    before_scales some.0 some.2,
    behind_scales some.2 some.1,
    some.2.scales,
    some.4.scales.entries,
    scales_among s shape some.0 some.1 some.2 some.3 some.4,
  )

  pub some_incipits : HoldsSomeIndex (incipit_bytes shape.notes) s shape.incipits
  some_incipits = (
    before_incipits some.0 some.2,
    some.1,
    some.2.incipits,
    some.4.incipits.entries,
    incipits_among s shape some.0 some.1 some.2 some.3 some.4,
  )
