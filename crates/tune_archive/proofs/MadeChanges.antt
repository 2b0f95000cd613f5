-- What a change that was made, or was not, is to an archive.
use Rattle.std.proofs.Common.{◌≡◌, ◌≢◌, ◌⊎◌, inl, inr, ℕ, ◌≤◌, List, Bool, true, false, length, refl, sym, ◌∙◌, ap, subst, arith, Option, Some, None, Ok, Err}
use Rattle.tune_disk.specs.Disk.{DiskState, MayLeave, CountsUp}
use Rattle.tune_disk.specs.Stops.{LeavesOnly, SinceThen}
use Rattle.tune_disk.specs.declared.disk.Disk as disk
use Rattle.tune_disk.proofs.Moments.{since_same, since_now, since_weaker}
use Rattle.tune_journal.specs.Image.{StandsFor, StandsForEither}
use Rattle.tune_pages.specs.Kept.{Kept, HonestAt, state_at}
use Rattle.tune_pages.specs.Stand.{Stand}
use Rattle.tune_pages.specs.declared.fault.Fault.{Fault}
use Rattle.tune_pages.specs.declared.fault.Fault.TheVariants.{FileFull, OutOfMemory, Device, Closed}
use Rattle.tune_store.specs.Plans.{changed}
use Rattle.tune_store.specs.State.{State, IsState}
use Rattle.tune_store.specs.StoreStops.{HasFailed}
use Rattle.tune_store.specs.declared.command.Refusal.{Refusal}
use Rattle.tune_store.specs.declared.plans.Change.{Change}
use Rattle.tune_format.specs.RootOffsets.{most_pages_of}
use Rattle.tune_format.specs.States.{IsStateOf, Holds, state_in}
use Rattle.tune_format.proofs.StateLemmas.{file_read, either_state}
use Rattle.tune_contents.specs.Claimed.{AreRows}
use Rattle.tune_contents.specs.Holds.{HoldsContents, HoldsMemory, Memory, memory_of}
use Rattle.tune_contents.specs.declared.contents.Contents.{Contents}
use Rattle.tune_archive.specs.Shelf.{Shelf, state_on, state_of, StandsForOneOf}
use Rattle.tune_archive.specs.Inside.Changing.{CallsWhere, PassesChange, PassesLaid, HasLaid, StaysKept, StaysWithin, IsPagesFault}
use Rattle.tune_archive.specs.Inside.Changing.{IsUnmadeChange, MakesChange, refusal_of_pages, closes}
use Rattle.tune_pages.specs.Edited.{stand_of}
use Rattle.tune_archive.specs.Inside.Holding.{HoldsState, IsShelf}
use Rattle.tune_archive.proofs.MorePages.{no_fewer}

-- what a disk tells, as the one value that definitions take
abbrev pub disks_of : {D : Type 0} → (D → Type 0) → (D → ℕ) → (D → DiskState) → disk.Ghosts D
disks_of honest failures state = record { state = state; failures = failures; honest = honest }

-- a count that rises tells of a failure
pub has_failed : (old new : ℕ) → CountsUp old new → HasFailed old new
has_failed old new (inl more) = inl (omega (arith, more))
has_failed old new (inr top) = inr top.0

module _ {D : Type 0} (honest : D → Type 0) (state : D → DiskState) (may_stay : (disk : D) → honest disk → MayLeave (state disk).now (state disk).seen) where
  -- a stop may leave what is seen of the disk
  seen_stays : (at : Option D) → HonestAt honest at → MayLeave (state_at state at).now (state_at state at).seen
  seen_stays (Some disk) h = may_stay disk h
  seen_stays None h = absurd h

  -- so where a stop leaves one state alone, that is the state of the disk
  state_left : (at : Option D) (s : State) → HonestAt honest at → LeavesOnly (state_at state at).now (λ file. Holds file s)
      → state_on state at ≡ s
  state_left at s h leaves = file_read (state_at state at).seen s (leaves (state_at state at).seen (seen_stays at h))

  either_left : (at : Option D) (a b : State) → HonestAt honest at → LeavesOnly (state_at state at).now (StandsForOneOf a b)
      → (state_on state at ≡ a) ⊎ (state_on state at ≡ b)
  either_left at a b h leaves = elim (leaves (state_at state at).seen (seen_stays at h)) [
    | inl one ↦ inl (file_read (state_at state at).seen a one)
    | inr other ↦ inr (file_read (state_at state at).seen b other)
  ]

  module _ (old : Kept D) (contents : Contents) (holds : HoldsState state old contents) where
    before_is : IsStateOf old.pages (state_on state old.disk)
    before_is = record { filed = holds.holds.filed; within = holds.within; few = holds.few }

    rests : LeavesOnly (state_at state old.disk).now (λ file. Holds file (state_on state old.disk))
    rests file may = record { pages = old.pages; stands = holds.rest file may; is = before_is }

    module _ (marks : length old.used ≡ most_pages_of contents.layout) where
      module _ (change : Change) (within : IsState (changed change (state_on state old.disk))) where
        after_is : (next : Stand) (memory : Memory) → HoldsMemory next memory (changed change (state_on state old.disk))
            → length next.pages ≤ length old.used → IsStateOf next.pages (changed change (state_on state old.disk))
        after_is next memory held few =
            let allowed = ap most_pages_of holds.holds.layout in
            let more = no_fewer change (state_on state old.disk).layout in
            record { filed = held.filed; within = within; few = omega (arith, few, marks, allowed, more) }

        -- a stop at any moment leaves the state before or the one after
        passes_laid_states : (new : DiskState) → PassesLaid (state_at state old.disk) new (stand_of old) contents change
            → SinceThen (state_at state old.disk) new (StandsForOneOf (state_on state old.disk) (changed change (state_on state old.disk)))
        passes_laid_states new laid =
            let before = state_on state old.disk in
            let after = after_is laid.next laid.memory (laid.lays before holds.within holds.holds) laid.few in
            since_weaker (StandsForEither old.pages laid.next.pages) (StandsForOneOf before (changed change before))
            (λ file. either_state old.pages laid.next.pages before (changed change before) file before_is after) (state_at state old.disk) new laid.moments

        pub passes_states : (new : DiskState) → PassesChange (state_at state old.disk) new (stand_of old) contents change
            → SinceThen (state_at state old.disk) new (StandsForOneOf (state_on state old.disk) (changed change (state_on state old.disk)))
        passes_states new (inl same) =
            let Either = StandsForOneOf (state_on state old.disk) (changed change (state_on state old.disk)) in
            let disk = state_at state old.disk in
            subst (λ (d : DiskState). SinceThen disk d Either) (sym same) (since_same Either disk (λ file may. inl (rests file may)))
        passes_states new (inr laid) = passes_laid_states new laid

        -- the disk has the one or the other
        pub has_either : (new : Kept D) → HonestAt honest new.disk
            → PassesChange (state_at state old.disk) (state_at state new.disk) (stand_of old) contents change
            → (state_on state new.disk ≡ state_on state old.disk) ⊎ (state_on state new.disk ≡ changed change (state_on state old.disk))
        has_either new h passes =
            let before = state_on state old.disk in
            either_left new.disk before (changed change before) h
            (since_now (StandsForOneOf before (changed change before)) (state_at state old.disk) (state_at state new.disk)
            (passes_states (state_at state new.disk) passes))

        -- a change that was laid was made
        pub made_state : (new : Kept D) (left : Contents) → HonestAt honest new.disk → HasLaid state old new contents left change
            → state_on state new.disk ≡ changed change (state_on state old.disk)
        made_state new left h laid =
            let before = state_on state old.disk in
            let after = after_is (stand_of new) (memory_of left) (laid.lays before holds.within holds.holds) laid.few in
            state_left new.disk (changed change before) h (λ file may. record { pages = new.pages; stands = laid.rest file may; is = after })

        pub made_holds : (new : Kept D) (left : Contents) → HonestAt honest new.disk → HasLaid state old new contents left change
            → HoldsState state new left
        made_holds new left h laid =
            let before = state_on state old.disk in
            let is = sym (made_state new left h laid) in
            record {
              holds = subst (λ (s : State). HoldsContents (stand_of new) left s) is (laid.lays before holds.within holds.holds);
              within = subst (λ (s : State). IsState s) is within;
              few = subst (λ (s : State). length new.pages ≤ most_pages_of s.layout) is
                  ((after_is (stand_of new) (memory_of left) (laid.lays before holds.within holds.holds) laid.few).few);
              rest = laid.rest;
            }

    -- where nothing was done, they hold what they held
    pub kept_holds : (new : Kept D) → HonestAt honest new.disk → StaysKept honest state old new → HoldsState state new contents
    kept_holds new h stays =
        let disk = sym (stays.disk h) in
        let pages = sym (stays.same.pages h) in
        let stood : stand_of old ≡ stand_of new = (λ i. record { pages = pages i; used = sym stays.same.used i }) in
        let seen : state_on state old.disk ≡ state_on state new.disk = ap (λ (d : DiskState). state_in d.seen) disk in
        record {
          holds = subst (λ (s : Stand). HoldsContents s contents (state_on state new.disk)) stood
              (subst (λ (s : State). HoldsContents (stand_of old) contents s) seen holds.holds);
          within = subst (λ (s : State). IsState s) seen holds.within;
          few = subst (λ (s : State). length new.pages ≤ most_pages_of s.layout) seen (omega (arith, holds.few, stays.same.count));
          rest = subst (λ (d : DiskState). LeavesOnly d.now (StandsFor new.pages)) disk
              (subst (λ pages. LeavesOnly (state_at state old.disk).now (StandsFor pages)) pages holds.rest);
        }

-- THE ARCHIVE
-- It holds a state within the limits, and the one after a change that is asked for is within them too.
pub stays_within : {D : Type 0} (honest : D → Type 0) (state : D → DiskState) (old whole : Shelf D) → old ≡ whole
    → IsShelf honest state old.pages old.contents old.closed → whole.closed ≡ false → (change : Change)
    → (HonestAt honest whole.pages.disk → IsState (changed change (state_of state whole)))
    → HonestAt honest old.pages.disk → StaysWithin (stand_of old.pages) old.contents change
stays_within {D} honest state old whole same shelf was_open change limits h =
    let held = shelf.holds h (ap (λ (s : Shelf D). s.closed) same ∙ was_open) in
    record {
      state = state_of state old;
      holds = held.holds;
      within = held.within;
      next = (subst (λ (s : Shelf D). HonestAt honest s.pages.disk → IsState (changed change (state_of state s))) (sym same) limits) h;
    }

-- `whole` is the archive as the call had it, `old` the same by its fields.
module _ {D : Type 0} (honest : D → Type 0) (failures : D → ℕ) (state : D → DiskState)
    (may_stay : (disk : D) → honest disk → MayLeave (state disk).now (state disk).seen) (old whole : Shelf D) (same : old ≡ whole)
    (shelf : IsShelf honest state old.pages old.contents old.closed) (was_open : whole.closed ≡ false) (change : Change)
    (limits : HonestAt honest whole.pages.disk → IsState (changed change (state_of state whole))) (new : Shelf D)
    (passes : HonestAt honest new.pages.disk
    → PassesChange (state_at state old.pages.disk) (state_at state new.pages.disk) (stand_of old.pages) old.contents change) where
  is_open : old.closed ≡ false
  is_open = ap (λ (s : Shelf D). s.closed) same ∙ was_open

  within : HonestAt honest old.pages.disk → IsState (changed change (state_of state old))
  within = subst (λ (s : Shelf D). HonestAt honest s.pages.disk → IsState (changed change (state_of state s))) (sym same) limits

  passes_now : HonestAt honest new.pages.disk → HonestAt honest old.pages.disk
      → SinceThen (state_at state old.pages.disk) (state_at state new.pages.disk) (StandsForOneOf (state_of state old) (changed change (state_of state old)))
  passes_now h was = passes_states honest state may_stay old.pages old.contents (shelf.holds was is_open) (shelf.marks is_open) change (within was)
      (state_at state new.pages.disk) (passes h)

  -- what was laid
  module _ (left : Contents) (calls : CallsWhere {T = Unit {0}} honest failures (Ok tt) old.pages.disk new.pages.disk)
      (laid : HonestAt honest new.pages.disk → HasLaid state old.pages new.pages old.contents left change) where
    pub made_shelf : AreRows left.layout left.rows.items → length new.pages.used ≡ most_pages_of left.layout → new.pages.closed ≡ false
        → IsShelf honest state new.pages left old.closed
    made_shelf rows marks opened = record {
      rows = rows;
      marks = λ _. marks;
      is_open = λ _. opened;
      holds = λ h _. (let was = calls.was_honest h in
          made_holds honest state may_stay old.pages old.contents (shelf.holds was is_open) (shelf.marks is_open) change (within was) new.pages left h
          (laid h));
    }

    made_here : new.closed ≡ false → MakesChange (disks_of honest failures state) (Ok tt) old new change
    made_here still = record {
      was_honest = calls.was_honest;
      moments = λ h. passes_now h (calls.was_honest h);
      made = (
        still,
        λ h. (let was = calls.was_honest h in
            made_state honest state may_stay old.pages old.contents (shelf.holds was is_open) (shelf.marks is_open) change (within was) new.pages left h
            (laid h)),
      );
    }

    pub made : new.closed ≡ old.closed → MakesChange (disks_of honest failures state) (Ok tt) whole new change
    made still = subst (λ (s : Shelf D). MakesChange (disks_of honest failures state) (Ok tt) s new change) same (made_here (still ∙ is_open))

  -- what was refused
  module _ (fault : Fault) (calls : CallsWhere {T = Unit {0}} honest failures (Err fault) old.pages.disk new.pages.disk)
      (shuts : new.closed ≡ closes fault) (answer : IsPagesFault fault new.pages.closed)
      (stays : fault ≢ Device → StaysKept honest state old.pages new.pages) (never : HonestAt honest new.pages.disk → fault ≢ FileFull) where
    stays_open : (fault : Fault) → new.closed ≡ closes fault → IsPagesFault fault new.pages.closed
        → (fault ≢ Device → StaysKept honest state old.pages new.pages) → new.closed ≡ false
        → StaysKept honest state old.pages new.pages × (new.pages.closed ≡ false)
    stays_open FileFull is answer stays e = absurd (let no : true ≡ false = sym is ∙ e in cc)
    stays_open OutOfMemory is answer stays e = (stays (λ same. cc), answer)
    stays_open Device is answer stays e = absurd (let no : true ≡ false = sym is ∙ e in cc)
    stays_open Closed is answer stays e = absurd answer

    kept_here : IsShelf honest state new.pages old.contents new.closed
    kept_here =
        let kept = stays_open fault shuts answer stays in
        record {
          rows = shelf.rows;
          marks = λ e. ap (λ (l : List Bool). length l) (kept e).0.same.used ∙ shelf.marks is_open;
          is_open = λ e. (kept e).1;
          holds = λ h e. kept_holds honest state may_stay old.pages old.contents (shelf.holds (calls.was_honest h) is_open) new.pages h (kept e).0;
        }

    pub kept_shelf : (contents : Contents) → contents ≡ old.contents → IsShelf honest state new.pages contents new.closed
    kept_shelf contents is = subst (λ (c : Contents). IsShelf honest state new.pages c new.closed) (sym is) kept_here

    why_unmade : (fault : Fault) → CallsWhere {T = Unit {0}} honest failures (Err fault) old.pages.disk new.pages.disk
        → new.closed ≡ closes fault → IsPagesFault fault new.pages.closed → (fault ≢ Device → StaysKept honest state old.pages new.pages)
        → (HonestAt honest new.pages.disk → fault ≢ FileFull) → IsUnmadeChange (disks_of honest failures state) (refusal_of_pages fault) old new change
    why_unmade FileFull calls is answer stays never = inr (refl, is, (λ h. absurd (never h refl)), (λ h. absurd (never h refl)))
    why_unmade OutOfMemory calls is answer stays never = inl (refl, is, (stays (λ same. cc)).disk)
    why_unmade Device calls is answer stays never = inr (
      refl,
      is,
      (λ h. (let was = calls.was_honest h in
          has_either honest state may_stay old.pages old.contents (shelf.holds was is_open) (shelf.marks is_open) change (within was) new.pages h (passes h))),
      (λ h. has_failed _ _ (calls.counted h)),
    )
    why_unmade Closed calls is answer stays never = absurd answer

    unmade_here : MakesChange (disks_of honest failures state) (Err (refusal_of_pages fault)) old new change
    unmade_here = record {
      was_honest = calls.was_honest;
      moments = λ h. passes_now h (calls.was_honest h);
      made = why_unmade fault calls shuts answer stays never;
    }

    pub unmade : (refusal : Refusal) → refusal ≡ refusal_of_pages fault → MakesChange (disks_of honest failures state) (Err refusal) whole new change
    unmade refusal is = subst (λ (s : Shelf D). MakesChange (disks_of honest failures state) (Err refusal) s new change) same
        (subst (λ (r : Refusal). MakesChange (disks_of honest failures state) (Err r) old new change) (sym is) unmade_here)
