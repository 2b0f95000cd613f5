-- Which faults come when.
use Rattle.std.specs.Prelude.{◌≡◌, ℕ, Bool, true, false, not, List, count_by}
use Rattle.std.specs.Prelude.{Option, Result, MatchResult}
use Rattle.std.specs.Int.{div_ceil}
use Rattle.tune_disk.specs.Disk.{CountsUp}
use Rattle.tune_pages.specs.Kept.{Kept, HonestAt, failures_at}
use Rattle.tune_pages.specs.LinkOffsets.{piece_room}
use Rattle.tune_pages.specs.declared.fault.Fault.{Fault}
use Rattle.tune_pages.specs.declared.fault.Fault.TheVariants.{FileFull, OutOfMemory, Device}
use Rattle.tune_pages.specs.declared.fault.Fault.TheVariants.{Closed}

-- A call that asks nothing of the disk: `FileFull` where the file is full for it, `Closed` where
-- the pages are closed.
abbrev pub IsWorkFault : Fault → Bool → Type 0 → Type 0
IsWorkFault FileFull closed Full = Full × (closed ≡ false)
IsWorkFault OutOfMemory closed Full = closed ≡ false
IsWorkFault Device closed Full = ⊥
IsWorkFault Closed closed Full = closed ≡ true

-- Of its answer: on closed pages it is always `Closed`.
abbrev pub AnswersWork : {T : Type 0} → Result T Fault → Bool → Type 0 → Type 0
AnswersWork result closed Full =
    MatchResult result (λ _. closed ≡ false) (λ fault. IsWorkFault fault closed Full)

-- The answer of `begin`: on closed pages it is `Closed`, and on no others.
abbrev pub AnswersBegin : {T : Type 0} → Result T Fault → Bool → Type 0
AnswersBegin result closed =
    MatchResult result (λ _. closed ≡ false) (λ fault. (fault ≡ Closed) × (closed ≡ true))

-- Only a call that answers `Device` closes the pages, and each such call does.
abbrev pub IsReadFault : Fault → Bool → Bool → Type 0
IsReadFault FileFull old new = ⊥
IsReadFault OutOfMemory old new = (old ≡ false) × (new ≡ false)
IsReadFault Device old new = (old ≡ false) × (new ≡ true)
IsReadFault Closed old new = (old ≡ true) × (new ≡ true)

abbrev pub AnswersRead : {T : Type 0} → Result T Fault → Bool → Bool → Type 0
AnswersRead result old new =
    MatchResult result (λ _. (old ≡ false) × (new ≡ false)) (λ fault. IsReadFault fault old new)

-- A disk that failed closes the pages. On closed pages nothing is done.
abbrev pub IsFinishFault : {D : Type 0} → Fault → Kept D → Kept D → Type 0
IsFinishFault FileFull old new = ⊥
IsFinishFault OutOfMemory old new = ⊥
IsFinishFault Device old new = (old.closed ≡ false) × (new.closed ≡ true)
IsFinishFault Closed old new = (old.closed ≡ true) × (new ≡ old)

abbrev pub AnswersFinish : {D T : Type 0} → Result T Fault → Kept D → Kept D → Type 0
AnswersFinish result old new =
    MatchResult result (λ _. (old.closed ≡ false) × (new.closed ≡ false))
    (λ fault. IsFinishFault fault old new)

-- `Device` alone is answered where the disk failed, and wherever it did.
abbrev pub CountsFault : Fault → ℕ → ℕ → Type 0
CountsFault Device old new = CountsUp old new
CountsFault FileFull old new = new ≡ old
CountsFault OutOfMemory old new = new ≡ old
CountsFault Closed old new = new ≡ old

-- The same, but that `Device` is answered without a failure too where the disk is not honest.
abbrev pub CountsFaultWhere : Type 0 → Fault → ℕ → ℕ → Type 0
CountsFaultWhere Honest Device old new = Honest → CountsUp old new
CountsFaultWhere Honest FileFull old new = new ≡ old
CountsFaultWhere Honest OutOfMemory old new = new ≡ old
CountsFaultWhere Honest Closed old new = new ≡ old

-- What `finish` keeps of the disk, whatever it answers: honesty is kept backwards, and each failure
-- is counted.
pub record CallsDisk {D T : Type 0} (honest : D → Type 0) (failures : D → ℕ)
    (result : Result T Fault) (old new : Option D) : Type 0 where
  pub was_honest : HonestAt honest new → HonestAt honest old
  pub counted : MatchResult result
      (λ _. failures_at failures new ≡ failures_at failures old)
      (λ fault. CountsFault fault (failures_at failures old) (failures_at failures new))

-- how many pages are free
abbrev pub free_pages : List Bool → ℕ
free_pages used = count_by not used

-- how many pages the chain of n bytes has
abbrev pub pages_for : ℕ → ℕ
pages_for n = div_ceil n piece_room
