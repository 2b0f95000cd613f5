-- Calls of a change in progress, one after another.
use Rattle.std.proofs.Common.{◌≡◌, ◌≢◌, Bool, true, not, Result, Ok, Err, OnOk, refl, sym, ◌∙◌, ap, subst}
use Rattle.tune_disk.specs.declared.disk.Disk as disk
use Rattle.tune_pages.specs.Edited.{Edited}
use Rattle.tune_pages.specs.Editing.{IsEditFault, AnswersEdit, AltersEdit, Consults, Edits}
use Rattle.tune_pages.specs.Faults.{AnswersWork}
use Rattle.tune_pages.specs.Kept.{Kept, HonestAt}
use Rattle.tune_pages.specs.PageLooks.{LooksAt, SameStand}
use Rattle.tune_pages.specs.declared.fault.Fault.{Fault}
use Rattle.tune_pages.specs.declared.fault.Fault.TheVariants.{FileFull, OutOfMemory, Device, Closed}
use Rattle.tune_pages.proofs.Looking.{look_none, look_next, look_refused, stands_then}

-- the same fault of a call that more may fill, and that more may fail
pub fault_for : (fault : Fault) (F G A B : Type 0) (old new : Bool) → (F → G) → (A → B) → IsEditFault fault F A old new → IsEditFault fault G B old new
fault_for FileFull F G A B old new full fails is = (full is.0, is.1, is.2)
fault_for OutOfMemory F G A B old new full fails is = is
fault_for Device F G A B old new full fails is = (fails is.0, is.1, is.2)
fault_for Closed F G A B old new full fails is = is

-- a call that failed behind one that went well
pub fault_behind : (fault : Fault) (F G A B : Type 0) (old mid new : Bool) → (old ≡ true) × (mid ≡ true) → (F → G) → (A → B)
    → IsEditFault fault F A mid new → IsEditFault fault G B old new
fault_behind fault F G A B old mid new lives full fails is =
    fault_for fault F G A B old new full fails (subst (λ (b : Bool). IsEditFault fault F A b new) (lives.1 ∙ sym lives.0) is)

module _ {D : Type 0} (disks : disk.Ghosts D) where
  -- NO CALL
  pub consults_none : {T : Type 0} (x : T) (a : Edited D) → a.live ≡ true → Consults disks (Ok x) a a
  consults_none x a goes = record {
    looks = look_none disks.honest disks.failures disks.state x a.base;
    stand = record { same = λ h. refl; count = refl; used = refl };
    answer = (goes, goes);
  }

  pub edits_none : {T : Type 0} (x : T) (F : Type 0) (a : Edited D) → a.live ≡ true → Edits disks (Ok x) F a a
  edits_none x F a goes = record { looks = look_none disks.honest disks.failures disks.state x a.base; answer = (goes, goes) }

  -- A CALL AND THE NEXT
  next_answer : {T U : Type 0} (x : T) (result : Result U Fault) (F G A B : Type 0) (old mid new : Bool) → AnswersEdit {T = T} (Ok x) F A old mid
      → AnswersEdit result G B mid new → AnswersEdit result G B old new
  next_answer x (Ok y) F G A B old mid new one two = (one.0, two.1)
  next_answer x (Err fault) F G A B old mid new one two = fault_behind fault G G B B old mid new one (λ f. f) (λ b. b) two

  pub consults_next : {T U : Type 0} (x : T) (result : Result U Fault) (a b c : Edited D) → Consults disks (Ok x) a b → Consults disks result b c
      → Consults disks result a c
  consults_next x result a b c one two = record {
    looks = look_next disks.honest disks.failures disks.state x result a.base b.base c.base one.looks two.looks;
    stand = both result two.stand;
    answer = next_answer x result ⊥ ⊥ (b.base.closed ≡ true) (c.base.closed ≡ true) a.live b.live c.live one.answer two.answer;
  }
    where
      both : {U : Type 0} (result : Result U Fault) → OnOk result (SameStand (HonestAt disks.honest c.base.disk) b.next c.next)
          → OnOk result (SameStand (HonestAt disks.honest c.base.disk) a.next c.next)
      both (Ok y) same = stands_then disks.honest b.base c.base a.next b.next c.next two.looks.was_honest one.stand same
      both (Err fault) same = tt

  pub edits_next : {T U : Type 0} (x : T) (result : Result U Fault) (F G : Type 0) (a b c : Edited D) → Edits disks (Ok x) F a b → Edits disks result G b c
      → Edits disks result G a c
  edits_next x result F G a b c one two = record {
    looks = look_next disks.honest disks.failures disks.state x result a.base b.base c.base one.looks two.looks;
    answer = next_answer x result F G (b.base.closed ≡ true) (c.base.closed ≡ true) a.live b.live c.live one.answer two.answer;
  }

  -- a refusal of another type
  pub consults_failed : {T U : Type 0} (fault : Fault) (a b : Edited D) → Consults {T = T} disks (Err fault) a b → Consults {T = U} disks (Err fault) a b
  consults_failed fault a b is = record {
    looks = record { was_honest = is.looks.was_honest; same_state = is.looks.same_state; counted = is.looks.counted; same = is.looks.same };
    stand = tt;
    answer = is.answer;
  }

  pub edits_failed : {T U : Type 0} (fault : Fault) (F : Type 0) (a b : Edited D) → Edits {T = T} disks (Err fault) F a b
      → Edits {T = U} disks (Err fault) F a b
  edits_failed fault F a b is = record {
    looks = record { was_honest = is.looks.was_honest; same_state = is.looks.same_state; counted = is.looks.counted; same = is.looks.same };
    answer = is.answer;
  }

  -- more may fill the file
  full_answer : {T : Type 0} (result : Result T Fault) (F G A : Type 0) (old new : Bool) → (F → G) → AnswersEdit result F A old new
      → AnswersEdit result G A old new
  full_answer (Ok x) F G A old new full is = is
  full_answer (Err fault) F G A old new full is = fault_for fault F G A A old new full (λ a. a) is

  pub edits_fuller : {T : Type 0} (result : Result T Fault) (F G : Type 0) (a b : Edited D) → (F → G) → Edits disks result F a b → Edits disks result G a b
  edits_fuller result F G a b full is = record {
    looks = is.looks;
    answer = full_answer result F G (b.base.closed ≡ true) a.live b.live full is.answer;
  }

  -- EACH CALL IS ONE THAT LOOKS AND ALTERS
  pub consults_edits : {T : Type 0} (result : Result T Fault) (F : Type 0) (a b : Edited D) → Consults disks result a b → Edits disks result F a b
  consults_edits result F a b is = record {
    looks = is.looks;
    answer = full_answer result ⊥ F (b.base.closed ≡ true) a.live b.live (λ z. absurd z) is.answer;
  }

  not_device : (fault : Fault) (F : Type 0) (old new : Bool) → IsEditFault fault F ⊥ old new → fault ≢ Device
  not_device FileFull F old new is = λ e. cc
  not_device OutOfMemory F old new is = λ e. cc
  not_device Device F old new is = absurd is.0
  not_device Closed F old new is = λ e. cc

  still : {T : Type 0} (result : Result T Fault) (F : Type 0) (old new : Bool) (k : Kept D) → AnswersEdit result F ⊥ old new
      → LooksAt disks.honest disks.failures disks.state result k k
  still (Ok x) F old new k is = look_none disks.honest disks.failures disks.state x k
  still (Err fault) F old new k is = look_refused disks.honest disks.failures disks.state fault fault k k (not_device fault F old new is)
      (look_none disks.honest disks.failures disks.state fault k)

  may_fail : {T : Type 0} (result : Result T Fault) (F A : Type 0) (old new : Bool) → AnswersEdit result F ⊥ old new → AnswersEdit result F A old new
  may_fail (Ok x) F A old new is = is
  may_fail (Err fault) F A old new is = fault_for fault F F ⊥ A old new (λ f. f) (λ z. absurd z) is

  pub alters_edits : {T : Type 0} (result : Result T Fault) (F : Type 0) (a b : Edited D) → AltersEdit result F a b → Edits disks result F a b
  alters_edits result F a b is = record {
    looks = subst (λ (k : Kept D). LooksAt disks.honest disks.failures disks.state result a.base k) (sym is.base)
        (still result F a.live b.live a.base is.answer);
    answer = may_fail result F (b.base.closed ≡ true) a.live b.live is.answer;
  }

  -- ANSWERS OF ANOTHER TYPE
  pub consulted : {T U : Type 0} (x : T) (y : U) (a b : Edited D) → Consults disks (Ok x) a b → Consults disks (Ok y) a b
  consulted x y a b is = record {
    looks = record { was_honest = is.looks.was_honest; same_state = is.looks.same_state; counted = is.looks.counted; same = is.looks.same };
    stand = is.stand;
    answer = is.answer;
  }

  -- an answer that went well tells of no fault
  pub went : {T U : Type 0} (x : T) (y : U) (F G : Type 0) (a b : Edited D) → Edits disks (Ok x) F a b → Edits disks (Ok y) G a b
  went x y F G a b is = record {
    looks = record { was_honest = is.looks.was_honest; same_state = is.looks.same_state; counted = is.looks.counted; same = is.looks.same };
    answer = is.answer;
  }

  -- A CALLER THAT REFUSES
  pub refused_edits : {T U : Type 0} (fault : Fault) (F : Type 0) (a b : Edited D) → AltersEdit {T = U} (Err fault) ⊥ a b → Edits {T = T} disks
      (Err fault) F a b
  refused_edits fault F a b is = edits_failed fault F a b (edits_fuller (Err fault) ⊥ F a b (λ z. absurd z) (alters_edits (Err fault) ⊥ a b is))

  pub lost_edits : {T U : Type 0} (fault : Fault) (F : Type 0) (a b : Edited D) → Consults {T = U} disks (Err fault) a b → Edits {T = T} disks (Err fault) F a b
  lost_edits fault F a b is = edits_failed fault F a b (consults_edits (Err fault) F a b is)

  pub refused_consults : {T U : Type 0} (fault : Fault) (a b : Edited D) → AltersEdit {T = U} (Err fault) ⊥ a b → Consults {T = T} disks (Err fault) a b
  refused_consults fault a b is = let edits = refused_edits fault ⊥ a b is in record { looks = edits.looks; stand = tt; answer = edits.answer }

pub alters_fuller : {D T : Type 0} (result : Result T Fault) (F G : Type 0) (a b : Edited D) → (F → G) → AltersEdit result F a b → AltersEdit result G a b
alters_fuller (Ok x) F G a b full is = record { base = is.base; answer = is.answer }
alters_fuller (Err fault) F G a b full is = record { base = is.base; answer = fault_for fault F G ⊥ ⊥ a.live b.live full (λ z. z) is.answer }

pub alters_failed : {D T U : Type 0} (fault : Fault) (F : Type 0) (a b : Edited D) → AltersEdit {T = T} (Err fault) F a b → AltersEdit {T = U} (Err fault) F a b
alters_failed fault F a b is = record { base = is.base; answer = is.answer }

pub alters_next : {D T U : Type 0} (x : T) (result : Result U Fault) (F G : Type 0) (a b c : Edited D) → AltersEdit (Ok x) F a b → AltersEdit result G b c
    → AltersEdit result G a c
alters_next x (Ok y) F G a b c one two = record { base = two.base ∙ one.base; answer = (one.answer.0, two.answer.1) }
alters_next x (Err fault) F G a b c one two = record {
  base = two.base ∙ one.base;
  answer = fault_behind fault G G ⊥ ⊥ a.live b.live c.live one.answer (λ f. f) (λ z. z) two.answer;
}

-- a disk that is honest behind a call that leaves the pages was so before it
pub honest_before : {D : Type 0} (honest : D → Type 0) (a b : Edited D) → b.base ≡ a.base → HonestAt honest b.base.disk → HonestAt honest a.base.disk
honest_before honest a b same h = subst (λ (k : Kept _). HonestAt honest k.disk) same h

-- a call that is answered so found the file full
pub full_fault : (fault : Fault) (F A : Type 0) (old new : Bool) → fault ≡ FileFull → IsEditFault fault F A old new → F
full_fault fault F A old new is answer = (subst (λ (x : Fault). IsEditFault x F A old new) is answer).0

-- the answer as of a work on pages
pub work_answer : {T : Type 0} (result : Result T Fault) (F : Type 0) (old new : Bool) → AnswersEdit result F ⊥ old new → AnswersWork result (not old) F
work_answer (Ok x) F old new is = ap not is.0
work_answer (Err FileFull) F old new is = (is.0, ap not is.1)
work_answer (Err OutOfMemory) F old new is = ap not is.0
work_answer (Err Device) F old new is = is.0
work_answer (Err Closed) F old new is = ap not is.0
