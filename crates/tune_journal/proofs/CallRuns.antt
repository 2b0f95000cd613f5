-- Runs of writes that end with a sync.
use Rattle.std.proofs.Common.{◌≡◌, ℕ, List, [], ◌∷◌, length, get_or, sym, ◌∙◌, ap, subst, arith, Result, Ok, Err, OnOk}
use Rattle.tune_disk.specs.Disk.{DiskState, Written, Writes, Syncs, settled}
use Rattle.tune_disk.specs.Inside.Spares.{SparesOffsets, Agrees}
use Rattle.tune_disk.specs.Stops.{SinceThen}
use Rattle.tune_disk.proofs.Moments.{since_now, spares_then, spares_fewer, spares_write, spares_since, since_then, settled_leaves}
use Rattle.tune_journal.specs.Inside.Phases.{Settles, WritesAndSyncs, IsOutside}

-- Fewer bytes are kept, or more writes were made.
pub writes_fewer : {T E : Type 0} (Kept Fewer : ℕ → Type 0) (r : Result T E) (a b : DiskState) → ((i : ℕ) → Fewer i → Kept i) → WritesAndSyncs Kept r a b
    → WritesAndSyncs Fewer r a b
writes_fewer Kept Fewer (Ok t) a b f w = record { mid = w.mid; spares = spares_fewer Kept Fewer a w.mid f w.spares; seen = w.seen; goes = w.goes }
writes_fewer Kept Fewer (Err e) a b f w = spares_fewer Kept Fewer a b f w

pub writes_after : {T E : Type 0} (Kept : ℕ → Type 0) (r : Result T E) (a b c : DiskState) → SparesOffsets Kept a b → WritesAndSyncs Kept r b c
    → WritesAndSyncs Kept r a c
writes_after Kept (Ok t) a b c s w = record { mid = w.mid; spares = spares_then Kept a b w.mid s w.spares; seen = w.seen; goes = w.goes }
writes_after Kept (Err e) a b c s w = spares_then Kept a b c s w

-- one write that was made, and a sync
pub write_then_sync : {T E T' E' : Type 0} (at : ℕ) (bytes : List ℕ) (w : Result T' E') (r : Result T E) (t : T') (a b c : DiskState) → w ≡ Ok t
    → Writes at bytes w a b → Syncs r b c → WritesAndSyncs (IsOutside at (length bytes)) r a c
write_then_sync {T' = T'} {E' = E'} at bytes (Ok u) (Ok t) v a b c is w s =
    record {
      mid = b;
      spares = spares_write (IsOutside at (length bytes)) at bytes (let r : Result T' E' = Ok u in r) a b w
          (λ i out. out);
      seen = s.0;
      goes = s.1;
    }
write_then_sync {T' = T'} {E' = E'} at bytes (Ok u) (Err e) v a b c is w s =
    subst (λ (x : DiskState). SparesOffsets (IsOutside at (length bytes)) a x) (sym s)
    (spares_write (IsOutside at (length bytes)) at bytes (let r : Result T' E' = Ok u in r) a b w (λ i out. out))
write_then_sync {T' = T'} {E' = E'} at bytes (Err e) r v a b c is w s = cc

-- After such a run the disk is settled.
pub settles_settled : (Kept : ℕ → Type 0) (a b : DiskState) → Settles Kept a b → b.now ≡ settled b.seen
settles_settled Kept a b s = s.goes.now ∙ ap settled (sym s.seen)

pub settles_agrees : (Kept : ℕ → Type 0) (a b : DiskState) → Settles Kept a b → Agrees Kept a.seen b.seen
settles_agrees Kept a b s = record {
  longer = omega (arith, s.spares.longer, ap length s.seen);
  same = λ i lt kept. ap (λ (l : List ℕ). get_or l i 0) s.seen ∙ s.spares.seen i kept;
}

-- A stop in such a run over a settled disk leaves files that agree with what was there.
pub run_since : {T E : Type 0} (P : List ℕ → Type 0) (Kept : ℕ → Type 0) (r : Result T E) (a b : DiskState) → a.now ≡ settled a.seen → WritesAndSyncs Kept r a b
    → ((c : List ℕ) → Agrees Kept a.seen c → P c) → SinceThen a b P
run_since P Kept (Err e) a b rest w so = spares_since P Kept a b rest w so
run_since P Kept (Ok t) a b rest w so =
    let here : P w.mid.seen = so w.mid.seen (record { longer = w.spares.longer; same = λ i lt kept. w.spares.seen i kept }) in
    let upto = spares_since P Kept a w.mid rest w.spares so in
    since_then P a w.mid b upto (record {
      since = settled w.mid.seen ∷ [];
      history = λ i. w.goes.now i ∷ w.goes.past i;
      each = ((λ file left. subst P (sym (settled_leaves w.mid.seen file left)) here), tt);
      first = since_now P a w.mid upto;
    })

-- Answers of calls.
pub writes_ok : {T E : Type 0} (at : ℕ) (bytes : List ℕ) (r : Result T E) (t : T) (a b : DiskState) → r ≡ Ok t → Writes at bytes r a b
    → Written at bytes a.seen b.seen
writes_ok at bytes (Ok u) t a b is w = w.0
writes_ok {T = T} {E = E} at bytes (Err e) t a b is w = cc

-- what the answer of a run says at `Ok`, with a clause on that answer
pub ok_pair : {T E H : Type 0} (r : Result T E) (Kept : ℕ → Type 0) (a b : DiskState) {Q R : Type 0} → (H → WritesAndSyncs Kept r a b) → OnOk r Q
    → ((H → Settles Kept a b) → Q → R) → OnOk r R
ok_pair (Ok t) Kept a b w q so = so w q
ok_pair (Err e) Kept a b w q so = tt
