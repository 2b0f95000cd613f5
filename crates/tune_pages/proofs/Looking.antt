-- Calls that only look, one after another.
use Rattle.std.proofs.Common.{◌≡◌, ◌≢◌, ℕ, ◌<◌, max, List, length, Bool, false, Result, Ok, Err, MatchResult, OnOk, All, refl, sym, ◌∙◌, ap, subst, arith}
use Rattle.tune_disk.specs.Disk.{DiskState}
use Rattle.tune_journal.proofs.Above.{length-pages_after}
use Rattle.tune_pages.specs.Faults.{CountsFaultWhere}
use Rattle.tune_pages.specs.Kept.{Kept, HonestAt, state_at, failures_at}
use Rattle.tune_pages.specs.PageLooks.{SameKept, LooksAt, SameStand}
use Rattle.tune_pages.specs.Stand.{Stand}
use Rattle.tune_pages.specs.Work.{front_in_use, used_in, page_count_in, stand_on, stand, FitsOn, Fits}
use Rattle.tune_pages.specs.declared.fault.Fault.{Fault}
use Rattle.tune_pages.specs.declared.fault.Fault.TheVariants.{FileFull, OutOfMemory, Device, Closed}
use Rattle.tune_pages.specs.declared.work.Work.{Work}
use Rattle.tune_pages.proofs.Chains.{length-marked}
use Rattle.tune_pages.proofs.Overlay.{length-front}
use Rattle.tune_pages.proofs.Taking.{stand_used, stand_pages}

-- WORKS OVER PAGES THAT A DISK SHOWS AGAIN
-- of the pages it matters how many there are
pub fits_same : (old new : List (List ℕ)) (used used' : List Bool) (w : Work) → length new ≡ length old → used' ≡ used → FitsOn old used w → FitsOn new used' w
fits_same old new used used' w size is fits = subst (λ (m : List Bool). FitsOn new m w) (sym is) (record {
  root = fits.root;
  inside = λ p u. (let lt = fits.inside p u in omega (arith, lt, size));
  within = fits.within;
  rising = fits.rising;
  below = subst (λ (n : ℕ). All (λ c. c.0 < n) w.changes) (sym count) fits.below;
  names = λ p ge lt. fits.names p (omega (arith, ge, size)) (omega (arith, lt, count));
  falls = fits.falls;
  freed = fits.freed;
  no_root = fits.no_root;
})
  where
    count : page_count_in new w ≡ page_count_in old w
    count = ap (λ (n : ℕ). max n w.frontier) size

pub stand_count : (pages : List (List ℕ)) (used : List Bool) (w : Work) → length (stand_on pages used w).pages ≡ page_count_in pages w
stand_count pages used w = ap (λ (l : List (List ℕ)). length l) (stand_pages pages used w)
    ∙ length-pages_after pages (page_count_in pages w) w.changes (omega arith)

-- a work has a mark for each page up to the limit
pub stand_marks : (pages : List (List ℕ)) (used : List Bool) (w : Work) → FitsOn pages used w → length (stand_on pages used w).used ≡ length used
stand_marks pages used w fits = ap (λ (l : List Bool). length l) (stand_used pages used w) ∙ length-marked false w.freed.items (front_in_use w.frontier used)
    ∙ length-front w.frontier used fits.within

module _ {D : Type 0} (honest : D → Type 0) where
  pub fits_kept : (old new : Kept D) (w : Work) → SameKept honest old new → Fits old w → Fits new w
  fits_kept old new w same fits = fits_same old.pages new.pages old.used new.used w same.count same.used fits

  pub stand_kept : (old new : Kept D) (w : Work) → SameKept honest old new → SameStand (HonestAt honest new.disk) (stand old w) (stand new w)
  stand_kept old new w same = record {
    same = λ h. ap (λ (l : List (List ℕ)). stand_on l new.used w) (same.pages h) ∙ ap (λ (m : List Bool). stand_on old.pages m w) same.used;
    count = stand_count new.pages new.used w ∙ ap (λ (n : ℕ). max n w.frontier) same.count ∙ sym (stand_count old.pages old.used w);
    used = stand_used new.pages new.used w ∙ ap (λ (m : List Bool). used_in m w) same.used ∙ sym (stand_used old.pages old.used w);
  }

  -- the same of a call's answer
  pub stand_ok : {T : Type 0} (result : Result T Fault) (Else : Fault → Type 0) (old new : Kept D) (w : Work)
      → MatchResult result (λ _. SameKept honest old new) Else
      → OnOk result (SameStand (HonestAt honest new.disk) (stand old w) (stand new w))
  stand_ok (Ok x) Else old new w same = stand_kept old new w same
  stand_ok (Err fault) Else old new w same = tt

  -- what stands for the same after two looks
  pub stands_then : (one two : Kept D) (old now new : Stand) → (HonestAt honest two.disk → HonestAt honest one.disk)
      → SameStand (HonestAt honest one.disk) old now → SameStand (HonestAt honest two.disk) now new → SameStand (HonestAt honest two.disk) old new
  stands_then one two old now new back first next = record {
    same = λ h. next.same h ∙ first.same (back h);
    count = next.count ∙ first.count;
    used = next.used ∙ first.used;
  }

  same_then : (a b c : Kept D) → (HonestAt honest c.disk → HonestAt honest b.disk) → SameKept honest a b → SameKept honest b c → SameKept honest a c
  same_then a b c back one two = record {
    pages = λ h. two.pages h ∙ one.pages (back h);
    count = two.count ∙ one.count;
    used = two.used ∙ one.used;
    limit = two.limit ∙ one.limit;
    closed = two.closed ∙ one.closed;
  }

  module _ (failures : D → ℕ) (state : D → DiskState) where
    -- calls that looked, and were all answered
    pub record Looked (old now : Kept D) : Type 0 where
      pub was_honest : HonestAt honest now.disk → HonestAt honest old.disk
      pub same_state : HonestAt honest now.disk → state_at state now.disk ≡ state_at state old.disk
      pub counted : failures_at failures now.disk ≡ failures_at failures old.disk
      pub same : SameKept honest old now
      pub still : now.closed ≡ false

    pub looked_none : (k : Kept D) → k.closed ≡ false → Looked k k
    looked_none k shut = record {
      was_honest = λ h. h;
      same_state = λ h. refl;
      counted = refl;
      same = record { pages = λ h. refl; count = refl; used = refl; limit = refl; closed = refl };
      still = shut;
    }

    -- one more
    pub looked_more : {T : Type 0} (x : T) (a b c : Kept D) → Looked a b → LooksAt honest failures state (Ok x) b c → Looked a c
    looked_more x a b c so looks = record {
      was_honest = λ h. so.was_honest (looks.was_honest h);
      same_state = λ h. looks.same_state h ∙ so.same_state (looks.was_honest h);
      counted = looks.counted ∙ so.counted;
      same = same_then a b c looks.was_honest so.same looks.same;
      still = looks.same.closed ∙ so.still;
    }

    -- are one look
    pub looks_ok : {T : Type 0} (x : T) (a b : Kept D) → Looked a b → LooksAt honest failures state (Ok x) a b
    looks_ok x a b so = record { was_honest = so.was_honest; same_state = so.same_state; counted = so.counted; same = so.same }

    fault_from : (fault : Fault) (H : Type 0) (a b c : ℕ) → b ≡ a → CountsFaultWhere H fault b c → CountsFaultWhere H fault a c
    fault_from fault H a b c is counts = subst (λ (n : ℕ). CountsFaultWhere H fault n c) is counts

    -- a refusal of no call of the disk
    quiet : (fault : Fault) (H : Type 0) (a b : ℕ) → fault ≢ Device → b ≡ a → CountsFaultWhere H fault a b
    quiet FileFull H a b ne is = is
    quiet OutOfMemory H a b ne is = is
    quiet Device H a b ne is = absurd (ne refl)
    quiet Closed H a b ne is = is

    -- ONE LOOK AND THE NEXT
    pub look_none : {T : Type 0} (x : T) (k : Kept D) → LooksAt honest failures state (Ok x) k k
    look_none x k = record {
      was_honest = λ h. h;
      same_state = λ h. refl;
      counted = refl;
      same = record { pages = λ h. refl; count = refl; used = refl; limit = refl; closed = refl };
    }

    -- the second may be refused
    look_err : {T U : Type 0} (x : T) (fault : Fault) (a b c : Kept D) → LooksAt honest failures state (Ok x) a b
        → LooksAt {T = U} honest failures state (Err fault) b c → LooksAt {T = U} honest failures state (Err fault) a c
    look_err x fault a b c one two = record {
      was_honest = λ h. one.was_honest (two.was_honest h);
      same_state = λ h. two.same_state h ∙ one.same_state (two.was_honest h);
      counted = fault_from fault (HonestAt honest c.disk) (failures_at failures a.disk) (failures_at failures b.disk)
          (failures_at failures c.disk) one.counted two.counted;
      same = λ ne. same_then a b c two.was_honest one.same (two.same ne);
    }

    pub look_next : {T U : Type 0} (x : T) (result : Result U Fault) (a b c : Kept D) → LooksAt honest failures state (Ok x) a b
        → LooksAt honest failures state result b c → LooksAt honest failures state result a c
    look_next x (Ok y) a b c one two = record {
      was_honest = λ h. one.was_honest (two.was_honest h);
      same_state = λ h. two.same_state h ∙ one.same_state (two.was_honest h);
      counted = two.counted ∙ one.counted;
      same = same_then a b c two.was_honest one.same two.same;
    }
    look_next x (Err fault) a b c one two = look_err x fault a b c one two

    -- or its caller refuses
    pub look_refused : {T U : Type 0} (x : T) (fault : Fault) (a b : Kept D) → fault ≢ Device → LooksAt honest failures state (Ok x) a b
        → LooksAt {T = U} honest failures state (Err fault) a b
    look_refused x fault a b ne one = record {
      was_honest = one.was_honest;
      same_state = one.same_state;
      counted = quiet fault (HonestAt honest b.disk) (failures_at failures a.disk) (failures_at failures b.disk) ne one.counted;
      same = λ other. one.same;
    }

    -- a disk that showed what cannot be is not honest
    pub look_lost : {T U : Type 0} (x : T) (a b c : Kept D) → LooksAt honest failures state (Ok x) a b → c.disk ≡ b.disk
        → (HonestAt honest b.disk → ⊥) → LooksAt {T = U} honest failures state (Err Device) a c
    look_lost x a b c one is lies = record {
      was_honest = λ h. absurd (none h);
      same_state = λ h. absurd (none h);
      counted = λ h. absurd (none h);
      same = λ ne. absurd (ne refl);
    }
      where
        none : HonestAt honest c.disk → ⊥
        none h = lies (subst (HonestAt honest) is h)
