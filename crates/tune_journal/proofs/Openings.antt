-- A stop while a file is opened.
use Rattle.std.proofs.Common.{◌≡◌, inl, inr, ℕ, ◌≤◌, List, length, sym, ◌∙◌, ap, subst, arith, Result, Ok}
use Rattle.tune_disk.specs.Disk.{DiskState, MayLeave, settled}
use Rattle.tune_disk.specs.Stops.{LeavesOnly, SinceThen}
use Rattle.tune_disk.proofs.Moments.{since_same, since_sync, since_then, since_weaker}
use Rattle.tune_journal.specs.Image.{StandsFor, StandsForEither, IsHeaded, HasPageCount, entry_offset, gate_of, count_of, log_of, pages_of, entry_count_of}
use Rattle.tune_journal.specs.Image.{new_count_of}
use Rattle.tune_journal.specs.Inside.Looking.{HasEntries, Climbs, Sees, IsBounded}
use Rattle.tune_journal.specs.Inside.Rest.{IsAtRest, IsOpened}
use Rattle.tune_journal.specs.FileOffsets.{gate_open}
use Rattle.tune_journal.specs.Moments.{KeepsEither, LeftOrSame}
use Rattle.tune_journal.specs.Pages.{changed_pages}
use Rattle.tune_journal.specs.Refusal.{IsSynced, IsUnwritten}
use Rattle.tune_journal.specs.declared.look.Found.{Found}
use Rattle.tune_journal.specs.declared.look.Found.TheVariants.{Damaged, Closed, Open}
use Rattle.tune_journal.proofs.Recovery.{log_climbs}
use Rattle.tune_journal.proofs.Agreeing.{length-entries, length-pages_of}
use Rattle.tune_journal.proofs.Above.{stands_once}
use Rattle.tune_journal.proofs.Changed.{length-changed}

pub synced_since : (P : List ℕ → Type 0) (old new : DiskState) → LeavesOnly old.now P → MayLeave old.now old.seen → IsUnwritten old new → SinceThen old new P
synced_since P old new leaves stays (inl same) = subst (λ (s : DiskState). SinceThen old s P) (sym same) (since_same P old leaves)
synced_since P old new leaves stays (inr synced) =
    let r : Result (Unit {0}) (Unit {0}) = Ok tt in since_sync P r old old new (since_same P old leaves) stays (synced.seen, synced.goes)

pub synced_leaves : (old new : DiskState) → MayLeave old.now old.seen → IsUnwritten old new → SinceThen old new (LeftOrSame old)
synced_leaves old new stays synced = synced_since (LeftOrSame old) old new (λ c left. inl left) stays synced

pub recovered_leaves : (old mid new : DiskState) (pages : List (List ℕ)) → MayLeave old.now old.seen → IsSynced old mid → MayLeave mid.now mid.seen
    → SinceThen mid new (StandsFor pages) → SinceThen old new (LeftOrSame old)
recovered_leaves old mid new pages stays synced mid_stays since =
    since_then (LeftOrSame old) old mid new (synced_leaves old mid stays (inr synced))
    (since_weaker (StandsFor pages) (LeftOrSame old)
    (λ c s. inr (pages, subst (StandsFor pages) synced.seen (since.first mid.seen mid_stays), s)) mid new since)

-- what was read at first stands for the pages that a recovery leaves
pub recovered_stands : (old mid new : DiskState) (pages left : List (List ℕ)) → IsSynced old mid → MayLeave mid.now mid.seen
    → SinceThen mid new (StandsFor pages) → left ≡ pages → StandsFor left old.seen
recovered_stands old mid new pages left synced mid_stays since is =
    subst (λ (p : List (List ℕ)). StandsFor p old.seen) (sym is) (subst (StandsFor pages) synced.seen (since.first mid.seen mid_stays))

pub keeps_either : (old new : DiskState) → MayLeave old.now old.seen → SinceThen old new (LeftOrSame old) → KeepsEither old new
keeps_either old new stays since = λ a b leaves. since_weaker (LeftOrSame old) (StandsForEither a b) (either a b leaves) old new since
  where
    same : (a b pages : List (List ℕ)) (c : List ℕ) → StandsFor pages old.seen → StandsFor pages c → StandsForEither a b old.seen → StandsForEither a b c
    same a b pages c here s (inl at_a) = inl (subst (λ (p : List (List ℕ)). StandsFor p c) (stands_once pages a old.seen here at_a) s)
    same a b pages c here s (inr at_b) = inr (subst (λ (p : List (List ℕ)). StandsFor p c) (stands_once pages b old.seen here at_b) s)

    either : (a b : List (List ℕ)) → LeavesOnly old.now (StandsForEither a b) → (c : List ℕ) → LeftOrSame old c → StandsForEither a b c
    either a b leaves c (inl left) = leaves c left
    either a b leaves c (inr it) = same a b it.0 c it.1 it.2 (leaves old.seen stays)

-- The calls of an opening over one disk: a look, and where it found an open gate the rest of the commit.
module _ {D : Type 0} (honest : D → Type 0) (state : D → DiskState) (stays : (disk : D) → honest disk → MayLeave (state disk).now (state disk).seen)
    (old mid : D) (back : honest mid → honest old) where
  module _ (looked : honest mid → IsUnwritten (state old) (state mid)) where
    pub looked_leaves : honest mid → SinceThen (state old) (state mid) (LeftOrSame (state old))
    looked_leaves h = synced_leaves (state old) (state mid) (stays old (back h)) (looked h)

    pub looked_keeps : honest mid → KeepsEither (state old) (state mid)
    looked_keeps h = keeps_either (state old) (state mid) (stays old (back h)) (looked_leaves h)

  module _ (synced : honest mid → IsSynced (state old) (state mid)) (new : D) (later : honest new → honest mid) (pages : List (List ℕ))
      (since : honest new → SinceThen (state mid) (state new) (StandsFor pages)) where
    pub ended_leaves : honest new → SinceThen (state old) (state new) (LeftOrSame (state old))
    ended_leaves h =
        let h' = later h in recovered_leaves (state old) (state mid) (state new) pages (stays old (back h')) (synced h') (stays mid h') (since h)

    pub ended_keeps : honest new → KeepsEither (state old) (state new)
    ended_keeps h = keeps_either (state old) (state new) (stays old (back (later h))) (ended_leaves h)

pub opened_entries : (m k : ℕ) (s : DiskState) → IsOpened m s → entry_count_of s.seen ≡ k → HasEntries m k s.seen
opened_entries m k s opened is = record {
  long = subst (λ (j : ℕ). entry_offset m j ≤ length s.seen) is opened.log.long;
  climbs = subst (λ (j : ℕ). Climbs m j s.seen) is (log_climbs m (entry_count_of s.seen) s.seen opened.log.log);
}

pub sees_damaged : (found : Found) (file : List ℕ) → found ≡ Damaged → Sees found file → Sees Damaged file
sees_damaged found file is sees = subst (λ (f : Found). Sees f file) is sees

-- a synced disk whose gate is closed is at rest
pub closed_rest : (n : ℕ) (found : Found) (old new : DiskState) → found ≡ Closed n → IsSynced old new → Sees found old.seen → IsAtRest n new
closed_rest n found old new is synced sees =
    let closed : Sees (Closed n) old.seen = subst (λ (f : Found). Sees f old.seen) is sees in
    let back : old.seen ≡ new.seen = sym synced.seen in
    record {
      settled = synced.goes.now ∙ ap settled back;
      headed = subst IsHeaded back closed.0;
      gate = λ is_open. closed.1 (ap gate_of back ∙ is_open);
      count = ap count_of synced.seen ∙ closed.2;
      pages = subst (HasPageCount n) back closed.3;
    }

-- an open gate is no closed one
pub sees_open_gate : (m k : ℕ) (found : Found) (file : List ℕ) → found ≡ Open m k → Sees found file → gate_of file ≡ gate_open
sees_open_gate m k found file is sees =
    let seen : Sees (Open m k) file = subst (λ (f : Found). Sees f file) is sees in
    seen.1

-- and its log has as many entries as were found
pub open_entries : (m k : ℕ) (found : Found) (old new : DiskState) → found ≡ Open m k → IsSynced old new → Sees found old.seen → length (log_of new.seen) ≡ k
open_entries m k found old new is synced sees =
    let seen : Sees (Open m k) old.seen = subst (λ (f : Found). Sees f old.seen) is sees in
    length-entries (new_count_of new.seen) (entry_count_of new.seen) new.seen ∙ ap entry_count_of synced.seen ∙ seen.3

pub open_bounds : (m k : ℕ) (found : Found) (s : DiskState) → found ≡ Open m k → IsBounded found → k
    ≤ length (changed_pages (pages_of m s.seen) (log_of s.seen))
open_bounds m k found s is bounded =
    let seen : IsBounded (Open m k) = subst IsBounded is bounded in
    omega (arith, seen.2, length-changed (pages_of m s.seen) (log_of s.seen), length-pages_of m s.seen)
