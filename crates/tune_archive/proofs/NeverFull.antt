-- An archive never has too few pages for a change.
use Rattle.std.proofs.Common.{◌≡◌, ◌≢◌, ℕ, ◌+◌, ◌<◌, ◌≤◌, All, ap, length, subst, sym, arith}
use Rattle.tune_journal.specs.FileOffsets.{block_bytes}
use Rattle.tune_pages.specs.Faults.{free_pages}
use Rattle.tune_pages.specs.Stand.{Stand}
use Rattle.tune_pages.specs.declared.fault.Fault.{Fault}
use Rattle.tune_pages.specs.declared.fault.Fault.TheVariants.{FileFull}
use Rattle.tune_store.specs.Plans.{changed}
use Rattle.tune_store.specs.State.{State, IsState}
use Rattle.tune_store.specs.declared.layout.Layout.{Layout}
use Rattle.tune_store.specs.declared.layout.Layout.TheVariants.{One, Two}
use Rattle.tune_store.specs.declared.plans.Change.{Change}
use Rattle.tune_format.specs.RootOffsets.{most_pages_of}
use Rattle.tune_contents.specs.Holds.{HoldsContents}
use Rattle.tune_contents.specs.Most.{most_part_pages, most_used}
use Rattle.tune_contents.specs.declared.contents.Contents.{Contents}
use Rattle.tune_archive.specs.Inside.Changing.{StaysWithin}

-- in no layout are there so few pages
has_room : (layout : Layout) (all free other : ℕ) → all ≤ free + most_used layout → other < most_part_pages layout → other ≡ free
    → all ≡ most_pages_of layout → ⊥
has_room One all free other uses few same marks = omega (arith, uses, few, same, marks)
has_room Two all free other uses few same marks = omega (arith, uses, few, same, marks)

-- A state uses few of its pages, and laying a change takes few of the others.
pub never_full : (start before : Stand) (contents : Contents) (change : Change) (fault : Fault)
    → ((s : Stand) (contents : Contents) (state : State) → HoldsContents s contents state → IsState state
    → All (λ page. length page ≡ block_bytes) s.pages → length s.used ≤ free_pages s.used + most_used state.layout)
    → start ≡ before → StaysWithin before contents change → length before.used ≡ most_pages_of contents.layout
    → All (λ page. length page ≡ block_bytes) before.pages
    → ((state : State) → HoldsContents start contents state → IsState state → IsState (changed change state) → fault ≡ FileFull
    → free_pages start.used < most_part_pages contents.layout)
    → fault ≢ FileFull
never_full start before contents change fault law begun stays marks sized full is =
    let its = sym stays.holds.layout in
    let uses : length before.used ≤ free_pages before.used + most_used contents.layout =
    subst (λ layout. length before.used ≤ free_pages before.used + most_used layout) its (law before contents stays.state stays.holds stays.within sized) in
    let few : free_pages start.used < most_part_pages contents.layout =
    full stays.state (subst (λ (s : Stand). HoldsContents s contents stays.state) (sym begun) stays.holds) stays.within stays.next is in
    absurd (has_room contents.layout (length before.used) (free_pages before.used) (free_pages start.used) uses few
    (ap (λ (s : Stand). free_pages s.used) begun) marks)
