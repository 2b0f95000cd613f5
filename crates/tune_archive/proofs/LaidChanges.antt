-- What a change that is laid on pages makes of them.
use Rattle.std.proofs.Common.{◌≡◌, inr, ℕ, ◌≤◌, List, Bool, false, ◌++◌, length, replicate, sym, ◌∙◌, ap, subst, arith}
use Rattle.tune_disk.specs.Disk.{DiskState}
use Rattle.tune_disk.specs.Stops.{LeavesOnly, SinceThen}
use Rattle.tune_journal.specs.Image.{StandsFor, StandsForEither}
use Rattle.tune_pages.specs.Kept.{Kept, HonestAt, state_at}
use Rattle.tune_pages.specs.PageLooks.{SameKept}
use Rattle.tune_pages.specs.Stand.{Stand}
use Rattle.tune_pages.specs.Edited.{Edited, IsGoing}
use Rattle.tune_store.specs.declared.plans.Change.{Change}
use Rattle.tune_store.specs.Plans.{changed}
use Rattle.tune_contents.specs.Holds.{HoldsContents, LaysMemory, Memory, memory_of}
use Rattle.tune_contents.specs.declared.contents.Contents.{Contents}
use Rattle.tune_archive.specs.Inside.Changing.{PassesChange, HasLaid}
use Rattle.tune_pages.specs.Edited.{stand_of}
use Rattle.tune_archive.proofs.MorePages.{contents_more}

-- a work has no more pages than there may be
few_pages : {D : Type 0} (honest : D → Type 0) (old : Kept D) (mid : Edited D) → IsGoing mid → SameKept honest old mid.base
    → length old.pages ≤ length old.used → length mid.next.pages ≤ length old.used
few_pages honest old mid going same few =
    let used : length mid.base.used ≡ length old.used = ap (λ (l : List Bool). length l) same.used in
    let most = going.count (omega (arith, same.count, used, few)) in
    omega (arith, most, going.marks, used)

-- and it has a mark for each page up to the limit
pub same_marks : {D : Type 0} (honest : D → Type 0) (old : Kept D) (mid : Edited D) (new : Kept D) → IsGoing mid → SameKept honest old mid.base
    → new.used ≡ mid.next.used → length new.used ≡ length old.used
same_marks honest old mid new going same is =
    ap (λ (l : List Bool). length l) is ∙ going.marks ∙ ap (λ (l : List Bool). length l) same.used

module _ {D : Type 0} (honest : D → Type 0) (state : D → DiskState) (old : Kept D) (mid : Edited D) (contents : Contents) (memory : Memory) (change : Change)
    (start : Stand) (begun : start ≡ stand_of old) (lays : LaysMemory start mid.next contents memory change) (fits : IsGoing mid)
    (same : SameKept honest old mid.base) (few : length old.pages ≤ length old.used) where
  laid_before : LaysMemory (stand_of old) mid.next contents memory change
  laid_before = subst (λ (s : Stand). LaysMemory s mid.next contents memory change) begun lays

  pub passes_laid : (new : Kept D) → HonestAt honest mid.base.disk → state_at state mid.base.disk ≡ state_at state old.disk
      → SinceThen (state_at state mid.base.disk) (state_at state new.disk) (StandsForEither mid.base.pages mid.next.pages)
      → PassesChange (state_at state old.disk) (state_at state new.disk) (stand_of old) contents change
  passes_laid new h disk moments = inr (record {
    next = mid.next;
    memory = memory;
    lays = laid_before;
    few = few_pages honest old mid fits same few;
    moments = subst (λ (d : DiskState). SinceThen d (state_at state new.disk) (StandsForEither old.pages mid.next.pages)) disk
        (subst (λ pages. SinceThen (state_at state mid.base.disk) (state_at state new.disk) (StandsForEither pages mid.next.pages)) (same.pages h)
        moments);
  })

  pub has_laid : (left : Contents) → memory_of left ≡ memory → (new : Kept D) → new.pages ≡ mid.next.pages → new.used ≡ mid.next.used
      → LeavesOnly (state_at state new.disk).now (StandsFor mid.next.pages) → HasLaid state old new contents left change
  has_laid left is new pages used rest = record {
    lays = subst (λ (m : Memory). LaysMemory (stand_of old) (stand_of new) contents m change) (sym is)
        (subst (λ (s : Stand). LaysMemory (stand_of old) s contents memory change) (λ i. record { pages = sym pages i; used = sym used i }) laid_before);
    few = omega (arith, few_pages honest old mid fits same few, ap (λ (l : List (List ℕ)). length l) pages);
    rest = subst (λ pages. LeavesOnly (state_at state new.disk).now (StandsFor pages)) (sym pages) rest;
  }

-- A change that was laid stays so where there may be more pages then.
pub has_more : {D : Type 0} (state : D → DiskState) (old mid new : Kept D) (contents left : Contents) (change : Change) (more : ℕ)
    → new.disk ≡ mid.disk → new.pages ≡ mid.pages → new.used ≡ mid.used ++ replicate more false → length mid.used ≡ length old.used
    → HasLaid state old mid contents left change → HasLaid state old new contents left change
has_more state old mid new contents left change more disk pages used count laid = record {
  lays = λ st within held. (
      let then = contents_more (stand_of mid) more left (changed change st) (omega (arith, laid.few, count)) (laid.lays st within held) in
      subst (λ (s : Stand). HoldsContents s left (changed change st)) (λ i. record { pages = sym pages i; used = sym used i }) then);
  few = omega (arith, laid.few, ap (λ (l : List (List ℕ)). length l) pages);
  rest = subst (λ at. LeavesOnly (state_at state at).now (StandsFor new.pages)) (sym disk)
      (subst (λ all. LeavesOnly (state_at state mid.disk).now (StandsFor all)) (sym pages) laid.rest);
}
