-- What a disk in memory stands for after a write or a sync.
use Rattle.std.proofs.Common.{◌≡◌, inl, ℕ, List, [], ◌∷◌, ◌++◌, length, take, get_or, refl, sym, ◌∙◌, ap, subst, Result, Ok, Err, is_ok, IfOk, OnOk, OnErr, Vec}
use Rattle.std.proofs.Common.{Global, ◌<◌, ◌+◌, arith}
use Rattle.std.proofs.lemmas.List.{take_more}
use Rattle.tune_disk.specs.ByteWrites.{put}
use Rattle.tune_disk.specs.Disk.{Medium, DiskState, MayLeave, Written, GoesTo, Writes, Syncs, fresh, touched}
use Rattle.tune_disk.proofs.Overwrites.{put_written}
use Rattle.tune_disk.specs.Records.{record_to, replayed, state_of_records}
use Rattle.tune_disk.specs.declared.memory.Record.{Record}
use Rattle.tune_disk.specs.declared.memory.Record.TheVariants.{Write, Sync}
use Rattle.tune_disk.proofs.Writes.{written_once}

replayed_more : (records : List Record) (one : Record) (s : DiskState) → replayed (records ++ one ∷ []) s ≡ record_to one (replayed records s)
replayed_more [] one s = refl
replayed_more (first ∷ more) one s = replayed_more more one (record_to first s)

-- one more record of those that are replayed
pub one_more : (records : List Record) (i : ℕ) (one : Record) (s : DiskState) → i < length records → one ≡ get_or records i one
    → replayed (take (i + 1) records) s ≡ record_to one (replayed (take i records) s)
one_more records i one s lt is =
    ap (λ (l : List Record). replayed l s) (take_more records i one lt ∙ ap (λ (x : Record). take i records ++ x ∷ []) (sym is))
    ∙ replayed_more (take i records) one s

module _ (first content : List ℕ) (old new : List Record) (kept : content ≡ (state_of_records first old).seen) where
  unchanged_seen : new ≡ old → content ≡ (state_of_records first new).seen
  unchanged_seen is = kept ∙ sym (ap (λ (l : List Record). (state_of_records first l).seen) is)

  -- A sync.
  after_sync_is : new ≡ old ++ Sync ∷ [] → state_of_records first new ≡ record_to Sync (state_of_records first old)
  after_sync_is is = ap (state_of_records first) is ∙ replayed_more old Sync (fresh first)

  pub sync_kept : {T E : Type 0} (r : Result T E) → OnOk r (new ≡ old ++ Sync ∷ []) → OnErr r (new ≡ old) → content ≡ (state_of_records first new).seen
  sync_kept (Ok t) ok err = kept ∙ sym (ap (λ (s : DiskState). s.seen) (after_sync_is ok))
  sync_kept (Err e) ok err = unchanged_seen err

  pub sync_done : {T E T' E' : Type 0} (r : Result T E) (r' : Result T' E') → is_ok r' ≡ is_ok r → OnOk r (new ≡ old ++ Sync ∷ [])
      → OnErr r (new ≡ old) → Syncs r' (state_of_records first old) (state_of_records first new)
  sync_done (Ok t) (Ok t') same ok err =
      let is = after_sync_is ok in
      (ap (λ (s : DiskState). s.seen) is, record { now = ap (λ (s : DiskState). s.now) is; past = ap (λ (s : DiskState). s.past) is })
  sync_done (Err e) (Err e') same ok err = ap (state_of_records first) err
  sync_done (Ok t) (Err e') same ok err = cc
  sync_done (Err e) (Ok t') same ok err = cc

  -- A write, which left this content.
  module _ (at : ℕ) (bytes content' : List ℕ) where
    abbrev IsRecorded : Type 0
    IsRecorded = (v : Vec ℕ Global) × (v.items ≡ bytes) × (new ≡ old ++ Write at v ∷ [])

    is_put : (recorded : IsRecorded) → state_of_records first new ≡ record_to (Write at recorded.0) (state_of_records first old)
    is_put recorded = ap (state_of_records first) recorded.2 ∙ replayed_more old (Write at recorded.0) (fresh first)

    seen_is : IsRecorded → (state_of_records first new).seen ≡ put at bytes (state_of_records first old).seen
    seen_is recorded = ap (λ (s : DiskState). s.seen) (is_put recorded) ∙ ap (λ (b : List ℕ). put at b (state_of_records first old).seen) recorded.1

    pub write_kept : {T E : Type 0} (r : Result T E) → OnOk r (Written at bytes content content') → OnErr r (content' ≡ content)
        → OnOk r IsRecorded → OnErr r (new ≡ old) → content' ≡ (state_of_records first new).seen
    write_kept (Ok t) w same recorded unchanged =
        let put_is : put at bytes content ≡ (state_of_records first new).seen = ap (put at bytes) kept ∙ sym (seen_is recorded) in
        written_once at bytes content content' _ w (subst (Written at bytes content) put_is (put_written at bytes content))
    write_kept (Err e) w same recorded unchanged = same ∙ unchanged_seen unchanged

    pub write_done : {T E T' E' : Type 0} (r : Result T E) (r' : Result T' E') → is_ok r' ≡ is_ok r → OnOk r IsRecorded → OnErr r (new ≡ old)
        → Writes at bytes r' (state_of_records first old) (state_of_records first new)
    write_done (Ok t) (Ok t') same recorded unchanged =
        let s = state_of_records first old in
        let is = is_put recorded in
        let goes : GoesTo (touched at (length recorded.0.items) s.now) s (state_of_records first new) = record {
          now = ap (λ (t : DiskState). t.now) is;
          past = ap (λ (t : DiskState). t.past) is;
        } in (
          subst (Written at bytes s.seen) (sym (seen_is recorded)) (put_written at bytes s.seen),
          subst (λ (b : List ℕ). GoesTo (touched at (length b) s.now) s (state_of_records first new)) recorded.1 goes,
        )
    write_done (Err e) (Err e') same recorded unchanged = inl (ap (state_of_records first) unchanged)
    write_done (Ok t) (Err e') same recorded unchanged = cc
    write_done (Err e) (Ok t') same recorded unchanged = cc

-- nor need a stop leave more than the last sync did
pub stable_stays : (m : Medium) (seen : List ℕ) → MayLeave m seen → MayLeave m m.stable
stable_stays m seen stays = record {
  no_shorter = omega arith;
  no_longer = omega (arith, stays.no_shorter, stays.no_longer);
  same = λ i lt _. refl;
}

pub holds_then : {T E : Type 0} (r : Result T E) (P Q : T → Type 0) → IfOk r P → ((x : T) → P x → Q x) → IfOk r Q
holds_then (Ok x) P Q p then = then x p
holds_then (Err e) P Q p then = tt
