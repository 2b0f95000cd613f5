-- A disk of which stops leave marks, and a store over it.
use Rattle.std.proofs.Common.{◌≡◌, inl, inr, ℕ, ◌≤◌, List, [], ◌∷◌, length, refl, sym, subst, arith, Bool, true, false, Result, Ok, Err}
use Rattle.tune_disk.specs.Disk.{Medium, MayLeave, DiskState, GoesTo, Writes, Syncs, touched}
use Rattle.tune_disk.proofs.Moments.{since_same, since_now, since_sync}
use Rattle.tune_store.specs.State.{State, IsState}
use Rattle.tune_store.specs.Answers.{Answers, open_at, closed_at}
use Rattle.tune_store.specs.declared.command.Command.{Command}
use Rattle.tune_store.specs.declared.command.Reply.{Reply}
use Rattle.tune_store.specs.declared.command.Refusal.TheVariants.{Device}
use Rattle.tune_store.specs.StoreStops.{Among, Passes}
use Rattle.tune_store.proofs.StepLemmas.{answers_reach}
use Rattle.tune_archive.specs.Media.{moment_of, LeftAt, LeftFrom}
use Rattle.tune_archive.proofs.Called.{failed}
use Rattle.tune_archive.proofs.DiskMoments.{passes_on_disk}
use Rattle.test_stores.specs.Marks.{IsMarkFile, IsMarked}
use Rattle.test_stores.specs.Inside.Marks.{StaysMark, LeavesMarks}

-- THE DISK
small : (m : Medium) (file : List ℕ) → MayLeave m file → m.reach ≤ 1 → length file ≤ 1
small m file may one = (let long = may.no_longer in omega arith)

-- a write of one byte at the beginning, whole or not, reaches no further
touched_one : (m : Medium) → m.reach ≤ 1 → (touched 0 1 m).reach ≤ 1
touched_one m one = omega arith

written : (old new : DiskState) → GoesTo (touched 0 1 old.now) old new → LeavesMarks old new
written old new goes = record {
  since = record {
    since = touched 0 1 old.now ∷ [];
    history = λ i. goes.now i ∷ goes.past i;
    each = ((λ file may one. small _ file may (touched_one old.now one)), tt);
    first = small old.now;
  };
  now = λ one. subst (λ (m : Medium). m.reach ≤ 1) (sym goes.now) (touched_one old.now one);
}

-- whatever it answered
pub marks_write : {T E : Type 0} (result : Result T E) (old new : DiskState) → Writes 0 (1 ∷ []) result old new → LeavesMarks old new
marks_write (Ok value) old new writes = written old new writes.1
marks_write (Err fault) old new (inl same) =
    subst (LeavesMarks old) (sym same) (record { since = since_same _ old (small old.now); now = λ one. one })
marks_write (Err fault) old new (inr torn) = written old new torn.1

-- and then a sync
pub marks_sync : {T E : Type 0} (result : Result T E) (old mid new : DiskState) → LeavesMarks old mid → MayLeave mid.now mid.seen
    → Syncs result mid new → LeavesMarks old new
marks_sync result old mid new marks may syncs = record {
  since = since_sync _ result old mid new marks.since may syncs;
  now = reach result syncs;
}
  where
    reach : {T E : Type 0} (result : Result T E) → Syncs result mid new → old.now.reach ≤ 1 → new.now.reach ≤ 1
    reach (Ok value) syncs one =
        subst (λ (m : Medium). m.reach ≤ 1) (sym syncs.1.now) (since_now (StaysMark old) old mid marks.since mid.seen may one)
    reach (Err fault) same one = subst (λ (d : DiskState). d.now.reach ≤ 1) (sym same) (marks.now one)

-- A STORE OVER IT
-- it passes these states, which are within the limits
pub passes_marks : {S : Type 0} (honest : S → Type 0) (disk : S → DiskState) (state : S → State) (old new : S) (states : List State)
    → (honest new → honest old) → (honest new → LeavesMarks (disk old) (disk new)) → (honest new → Among (state new) (state old ∷ states))
    → (IsState (state old) → IsState (state new))
    → Passes
    (record {
      honest = honest;
      sound = λ s. IsMarked (honest s) (disk s) (state s);
      state = state;
      moment = λ s. moment_of (disk s);
      left_at = λ s. LeftAt (disk s);
      left_since = λ s. LeftFrom (disk s);
      stands_for = IsMarkFile;
    }) old new states
passes_marks honest disk state old new states was marks among limits =
    passes_on_disk honest (λ s. IsMarked (honest s) (disk s) (state s)) state disk IsMarkFile old new states (StaysMark (disk old)) among was
    (λ sound. record { mark = λ h. (marks h).now (sound.mark (was h)); within = limits sound.within })
    (λ h. inr (marks h).since) (λ sound h file stays. inl (stays (sound.mark (was h))))

-- its disk failed after the command was accepted in memory
pub fails_after : (old new : State) (closed : Bool) (command : Command) (reply : Reply) → closed ≡ false
    → Answers (open_at old) command (Ok reply) (open_at new)
    → Answers (record { state = old; closed = closed }) command (Err Device) (closed_at new)
fails_after old new closed command reply e answers = failed old new closed true command e refl (elim (answers_reach _ _ _ _ answers) [
  | inl same ↦ inl same
  | inr (inl done) ↦ inr done
  | inr (inr none) ↦ elim none [ ]
])
