-- An index beside other owners of pages, and as it was opened.
use Rattle.std.proofs.Common.{◌≡◌, ℕ, ◌≤◌, List, [], ◌∷◌, ◌++◌, Bool, length, refl, sym, ap, ◌∙◌, subst}
use Rattle.tune_pages.specs.Chain.{IsChain}
use Rattle.tune_pages.specs.Frame.{AllApart, InUse, TradesPages, image_at}
use Rattle.tune_pages.specs.Stand.{AllUsed, Stand}
use Rattle.index_keys.specs.Entries.{AllFit, Entry, IsRising}
use Rattle.tune_index.specs.Indexes.{AllLeaves, HasPages, IsIndex, Shape, entries_of, heads_of}
use Rattle.tune_index.specs.Inside.EachPage.{HasEachPage}
use Rattle.tune_index.specs.Leaves.{IsLeaf, leaf_in, slice_entry}
use Rattle.tune_index.specs.ListedLeaves.{ClaimedPages, HasList, IndexWithEntries, LoadsIndex, StoresList, listed_bytes, pages_claimed, stand_of_pages}
use Rattle.tune_index.proofs.EachPage.{all_of, each_of}
use Rattle.tune_index.proofs.Puts.{leaves_within}

pub few_leaves : (width : ℕ) (s : Stand) (shape : Shape) → IsIndex width s shape → length shape.pages ≤ length (entries_of width s shape.pages)
few_leaves width s shape is = leaves_within width s shape.pages is.form

-- OTHER PAGES WERE TRADED
-- what these pages were and are
record Kept (width : ℕ) (old new : Stand) (after pages : List ℕ) : Type 0 where
  has : HasEachPage new pages
  apart : AllApart pages after
  form : AllLeaves width old pages → AllLeaves width new pages
  heads : heads_of width new pages ≡ heads_of width old pages
  entries : entries_of width new pages ≡ entries_of width old pages

kept : (width : ℕ) (old new : Stand) (before after pages : List ℕ) → TradesPages before after old new → HasEachPage old pages → AllApart pages before
    → Kept width old new after pages
kept width old new before after [] trades has apart = record { has = tt; apart = tt; form = λ f. tt; heads = refl; entries = refl }
kept width old new before after (p ∷ ps) trades has apart =
    let here = trades.kept p has.0 apart.0 in
    let same = here.0 in
    let rest = kept width old new before after ps trades has.2 apart.1 in
    let used : InUse new p = record { flag = same.used ∙ has.0.flag; not_root = has.0.not_root } in
    record {
      has = (used, has.1, rest.has);
      apart = (here.1, rest.apart);
      form = λ f. (subst (λ (image : List ℕ). IsLeaf width image) (sym same.image) f.0, rest.form f.1);
      heads = ap (λ (image : List ℕ). slice_entry (leaf_in width image) 0 ∷ heads_of width new ps) same.image
          ∙ ap (λ (es : List Entry). slice_entry (leaf_in width (image_at old p)) 0 ∷ es) rest.heads;
      entries = ap (λ (image : List ℕ). leaf_in width image ++ entries_of width new ps) same.image
          ∙ ap (λ (es : List Entry). leaf_in width (image_at old p) ++ es) rest.entries;
    }

pub index_beside : (width : ℕ) (old new : Stand) (before after : List ℕ) (shape : Shape) → TradesPages before after old new → HasPages old shape.pages
    → AllApart shape.pages before → IsIndex width old shape → IsIndex width new shape × HasPages new shape.pages × AllApart shape.pages after
    × (entries_of width new shape.pages ≡ entries_of width old shape.pages)
index_beside width old new before after shape trades has apart is =
    let stays = kept width old new before after shape.pages trades (each_of old shape.pages has) apart in (
      record {
        form = stays.form is.form;
        heads = is.heads ∙ sym stays.heads;
        rising = subst (λ (es : List Entry). IsRising es) (sym stays.entries) is.rising;
        fit = subst (λ (es : List Entry). AllFit width es) (sym stays.entries) is.fit;
      },
      all_of new shape.pages stays.has,
      stays.apart,
      stays.entries,
    )

-- THE SAME PAGES
shown_form : (width : ℕ) (s : Stand) (pages : List ℕ) → AllLeaves width (stand_of_pages s.pages) pages → AllLeaves width s pages
shown_form width s [] form = tt
shown_form width s (p ∷ ps) form = (form.0, shown_form width s ps form.1)

shown_heads : (width : ℕ) (s : Stand) (pages : List ℕ) → heads_of width (stand_of_pages s.pages) pages ≡ heads_of width s pages
shown_heads width s [] = refl
shown_heads width s (p ∷ ps) = ap (λ (es : List Entry). slice_entry (leaf_in width (image_at s p)) 0 ∷ es) (shown_heads width s ps)

shown_entries : (width : ℕ) (s : Stand) (pages : List ℕ) → entries_of width (stand_of_pages s.pages) pages ≡ entries_of width s pages
shown_entries width s [] = refl
shown_entries width s (p ∷ ps) = ap (λ (es : List Entry). leaf_in width (image_at s p) ++ es) (shown_entries width s ps)

pub index_opened : (width most : ℕ) (was : ClaimedPages) (after : List Bool) (first : ℕ) (loaded : IndexWithEntries) (s : Stand)
    → LoadsIndex width most was after first loaded → s.pages ≡ was.pages
    → IsIndex width s loaded.shape × (entries_of width s loaded.shape.pages ≡ loaded.entries)
index_opened width most was after first loaded s loads same =
    let here = subst (λ (images : List (List ℕ)). LoadsIndex width most (pages_claimed images was.claimed) after first loaded) (sym same) loads in
    let are = shown_entries width s loaded.shape.pages in (
      record {
        form = shown_form width s loaded.shape.pages here.stored.form;
        heads = here.heads ∙ shown_heads width s loaded.shape.pages;
        rising = subst (λ (es : List Entry). IsRising es) are here.stored.rising;
        fit = subst (λ (es : List Entry). AllFit width es) (here.are ∙ are) here.fit;
      },
      sym (here.are ∙ are),
    )

-- THE LIST OF ITS LEAVES
pub list_opened : (width most : ℕ) (was : ClaimedPages) (after : List Bool) (first : ℕ) (loaded : IndexWithEntries) (s : Stand)
    (loads : LoadsIndex width most was after first loaded) → s.pages ≡ was.pages → AllUsed loads.trail s.used → HasList s loaded.shape
list_opened width most was after first loaded s loads same used =
    let shape = loaded.shape in
    let chain = subst (λ (images : List (List ℕ)). IsChain images shape.first loads.trail (listed_bytes shape.pages)) (sym same)
    (subst (λ (n : ℕ). IsChain was.pages n loads.trail (listed_bytes shape.pages)) (sym loads.begins) loads.stored.list.chain) in
    (loads.trail, listed_bytes shape.pages, record { chain = chain; used = used }, λ on. refl)

pub list_stored : (old new : Stand) (was is : Shape) → HasList old was → StoresList old new was.first is.first is.pages → HasList new is
list_stored old new was is (trail, all, chain, same) stores =
    let next = stores trail all chain in
    (next.0, listed_bytes is.pages, next.1, λ on. refl)
