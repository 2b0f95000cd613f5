-- An archive that may have more pages than before.
use Rattle.std.proofs.Common.{◌≡◌, ℕ, ◌+◌, ◌-◌, ◌≤◌, Bool, true, false, List, ◌++◌, length, replicate, refl, sym, ◌∙◌, ap, arith, append_assoc}
use Rattle.std.proofs.lemmas.List.{replicate-append-replicate}
use Rattle.tune_pages.specs.Stand.{Stand, marked}
use Rattle.tune_parts.specs.Parts.{HoldsParts, Part, root_and_trails}
use Rattle.tune_parts.proofs.PartLemmas.{are_parts, held_parts, open_parts}
use Rattle.tune_store.specs.Plans.{changed_layout}
use Rattle.tune_store.specs.State.{State}
use Rattle.tune_store.specs.declared.layout.Layout.{Layout}
use Rattle.tune_store.specs.declared.layout.Layout.TheVariants.{One, Two}
use Rattle.tune_store.specs.declared.plans.Change.{Change}
use Rattle.tune_store.specs.declared.plans.Change.TheVariants.{Add, Put, Take, Move, NewSet, AddPlace, CutPlace, DropSet, Upgrade}
use Rattle.tune_format.specs.RootOffsets.{most_pages_of}
use Rattle.tune_format.specs.Filed.{archive_parts}
use Rattle.tune_contents.specs.Holds.{HoldsContents}
use Rattle.tune_contents.specs.declared.contents.Contents.{Contents}

-- the layout after a change allows no fewer pages
pub no_fewer : (change : Change) (layout : Layout) → most_pages_of layout ≤ most_pages_of (changed_layout change layout)
no_fewer Upgrade One = omega arith
no_fewer Upgrade Two = omega arith
no_fewer (Add first texts) layout = omega arith
no_fewer (Put place tune) layout = omega arith
no_fewer (Take place) layout = omega arith
no_fewer (Move number to) layout = omega arith
no_fewer (NewSet name) layout = omega arith
no_fewer (AddPlace name number) layout = omega arith
no_fewer (CutPlace name place) layout = omega arith
no_fewer (DropSet name) layout = omega arith

-- marks for as many pages as there might be before a change are no more than there may be after it
pub marks_within : (change : Change) (contents : Contents) (layout : Layout) (used : List Bool) → length used ≡ most_pages_of contents.layout
    → layout ≡ changed_layout change contents.layout → length used ≤ most_pages_of layout
marks_within change contents layout used count is =
    let allowed = ap most_pages_of is in
    let more = no_fewer change contents.layout in
    omega (arith, count, allowed, more)

-- so many pages more, all of them free
abbrev pub with_more : ℕ → Stand → Stand
with_more more s = record { pages = s.pages; used = s.used ++ replicate more false }

-- the parts that stand there do so then
parts_more : (s : Stand) (more : ℕ) (parts : List Part) → length s.pages ≤ length s.used → HoldsParts s parts → HoldsParts (with_more more s) parts
parts_more s more parts few holds =
    let count = length s.pages in
    let limit = length s.used in
    let are = are_parts s parts holds in
    let claimed = marked true (root_and_trails parts) (replicate count false) in
    let now : claimed ++ replicate (limit - count) false ≡ s.used =
    open_parts s.pages claimed (claimed ++ replicate (limit - count) false) limit parts are few refl refl ∙ sym holds.used in
    let all : claimed ++ replicate (limit + more - count) false ≡ marked true (root_and_trails parts) (replicate (limit + more) false) =
    open_parts s.pages claimed (claimed ++ replicate (limit + more - count) false) (limit + more) parts are (omega (arith, few)) refl refl in
    let sum : limit - count + more ≡ limit + more - count = omega (arith, few) in
    let joined : s.used ++ replicate more false ≡ claimed ++ replicate (limit + more - count) false =
    ap (λ (used : List Bool). used ++ replicate more false) (sym now)
    ∙ append_assoc claimed (replicate (limit - count) false) (replicate more false)
    ∙ ap (λ (rest : List Bool). claimed ++ rest) (replicate-append-replicate (limit - count) more false)
    ∙ ap (λ k. claimed ++ replicate k false) sum in
    held_parts (with_more more s) (limit + more) parts are (omega (arith, few)) (joined ∙ all)

-- and so does what the archive holds
pub contents_more : (s : Stand) (more : ℕ) (contents : Contents) (state : State) → length s.pages ≤ length s.used → HoldsContents s contents state
    → HoldsContents (with_more more s) contents state
contents_more s more contents state few h = record {
  layout = h.layout;
  notes = h.notes;
  filed = h.filed;
  holds = parts_more s more (archive_parts h.filed.numbers h.filed.searches h.filed.set_lists h.filed.texts) few h.holds;
  listed = h.listed;
  numbers = h.numbers;
  numbers_listed = h.numbers_listed;
  searches = h.searches;
  searches_listed = h.searches_listed;
  sets = h.sets;
  firsts = h.firsts;
}
