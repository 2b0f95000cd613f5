-- Results that are begun as a disk: what may be done until they are named.
use Rattle.std.proofs.Common.{◌≡◌, ◌≢◌, ℕ, List, [], ◌∷◌, ◌++◌, Bool, refl, ap, ◌∙◌, inl, inr, Ok, Err, arith}
use Rattle.std.proofs.lemmas.List.{append_assoc}
use Rattle.std.specs.List.{AllByRecursion, Contains}
use Rattle.tune_disk.specs.declared.file.Access.TheVariants.{Read, Change}
use Rattle.tune_desk.specs.BegunResults.{IsBegun, NamesNew, AfterNaming, PutOutcome, naming_of}
use Rattle.tune_desk.specs.DeskDeeds.{DeskDeed, Answer, ChangesNothing, looked, compared, tested, followed, read, listed, made, named, named_over, removed}
use Rattle.tune_desk.specs.DeskDeeds.{opened, closed, grown, created, linked, shared}
use Rattle.tune_desk.specs.Results.{Places, KeepsTo, ComesInOrder, SparesFiles, IsOwn, LeavesFile, new_of}
use Rattle.tune_desk.specs.declared.desk.DeskFault.{DeskFault}
use Rattle.tune_desk.specs.declared.desk.DeskFault.TheVariants as desk
use Rattle.tune_desk.proofs.DeedLists.{covers_front, All-append, leads-more, archive-more, replaced-more}
use Rattle.tune_desk.proofs.ResultLemmas.{Cleared, naming_keeps, naming_comes, naming_leaves}
use Rattle.tune_desk.proofs.SpareLemmas.{each_append, quiet_reads, reading_keeps, reading_comes}

pub none_there : (path : List ℕ) → ¬ Contains [] path
none_there path h = absurd (let lt = h.1 in omega (arith, lt))

-- what changes nothing leaves each file
pub quiet_leaves : {D : Type 0} (path : List ℕ) (deed : DeskDeed D) → ChangesNothing deed → LeavesFile path deed
quiet_leaves path (looked other answer) h = none_there path
quiet_leaves path (compared one other answer) h = none_there path
quiet_leaves path (tested other bytes answer) h = none_there path
quiet_leaves path (followed other answer) h = none_there path
quiet_leaves path (read other answer) h = none_there path
quiet_leaves path (listed other answer) h = none_there path
quiet_leaves path (made other bytes answer) h = absurd (cc)
quiet_leaves path (named from to answer) h = absurd (cc)
quiet_leaves path (named_over from to answer) h = absurd (cc)
quiet_leaves path (removed other answer) h = absurd (cc)
quiet_leaves path (opened other Read answer) h = none_there path
quiet_leaves path (opened other Change answer) h = absurd (cc)
quiet_leaves path (closed other disk) h = none_there path
quiet_leaves path (grown other bytes answer) h = absurd (cc)
quiet_leaves path (created other answer) h = absurd (cc)
quiet_leaves path (linked from to answer) h = absurd (cc)
quiet_leaves path (shared other like answer) h = absurd (cc)

-- a file of the order's own stays so while it is left
pub own_more : {D : Type 0} (path : List ℕ) (before more : List (DeskDeed D)) → IsOwn path before → AllByRecursion (LeavesFile path) more
    → IsOwn path (before ++ more)
own_more path before more h left = record {
  making = h.making;
  earlier = h.earlier;
  since = h.since ++ more;
  makes = h.makes;
  history = ap (λ l. l ++ more) h.history ∙ append_assoc h.earlier (h.making ∷ h.since) more;
  left = All-append (LeavesFile path) h.since more h.left left;
}

module _ {D : Type 0} (places : Places) (target : List ℕ) (over : Bool) (was mid : List (DeskDeed D)) (h : IsBegun places target over was mid) where
  cleared : Cleared places target over h.since
  cleared = record { leads = h.leads; may = record { spares = h.spares; replaces = h.replaces } }

  more_history : (now more : List (DeskDeed D)) → now ≡ mid ++ more → now ≡ was ++ (h.since ++ more)
  more_history now more e = e ∙ ap (λ l. l ++ more) h.history ∙ append_assoc was h.since more

  -- one deed more
  pub begun_spares : (now : List (DeskDeed D)) (deed : DeskDeed D) → now ≡ mid ++ deed ∷ [] → KeepsTo places h.since deed → ComesInOrder places h.since deed
      → SparesFiles places was now
  begun_spares now deed e keeps comes = record {
    since = h.since ++ deed ∷ [];
    history = more_history now (deed ∷ []) e;
    keeps = each_append (KeepsTo places) [] h.since (deed ∷ []) h.keeps (keeps, tt);
    in_order = each_append (ComesInOrder places) [] h.since (deed ∷ []) h.in_order (comes, tt);
  }

  pub begun_then : (now : List (DeskDeed D)) (deed : DeskDeed D) → now ≡ mid ++ deed ∷ [] → KeepsTo places h.since deed → ComesInOrder places h.since deed
      → LeavesFile (new_of target) deed → IsBegun places target over was now
  begun_then now deed e keeps comes leaves = record {
    since = h.since ++ deed ∷ [];
    history = more_history now (deed ∷ []) e;
    keeps = each_append (KeepsTo places) [] h.since (deed ∷ []) h.keeps (keeps, tt);
    in_order = each_append (ComesInOrder places) [] h.since (deed ∷ []) h.in_order (comes, tt);
    leads = leads-more (covers_front h.since (deed ∷ [])) places target h.leads;
    spares = archive-more (covers_front h.since (deed ∷ [])) places target h.spares;
    replaces = λ is. replaced-more (covers_front h.since (deed ∷ [])) places target (h.replaces is);
    own = own_more (new_of target) h.since (deed ∷ []) h.own (leaves, tt);
  }

  -- a question, or the closing of a disk
  pub begun_quiet : (now : List (DeskDeed D)) (deed : DeskDeed D) → now ≡ mid ++ deed ∷ [] → ChangesNothing deed → IsBegun places target over was now
  begun_quiet now deed e quiet =
      let reads = quiet_reads places deed quiet in
      begun_then now deed e (reading_keeps places h.since deed reads) (reading_comes places h.since deed reads) (quiet_leaves (new_of target) deed quiet)

  pub begun_shared : (now : List (DeskDeed D)) (like : List ℕ) (answer : Answer) → now ≡ mid ++ shared (new_of target) like answer ∷ []
      → IsBegun places target over was now
  begun_shared now like answer e = begun_then now (shared (new_of target) like answer) e (target, h.leads, refl) h.own tt

  -- TARGET.new is taken away
  pub begun_removed : (now : List (DeskDeed D)) (answer : Answer) → now ≡ mid ++ removed (new_of target) answer ∷ [] → SparesFiles places was now
  begun_removed now answer e = begun_spares now (removed (new_of target) answer) e (target, h.leads, refl) h.own

  named_spares : (now : List (DeskDeed D)) (answer : Answer) → now ≡ mid ++ naming_of target over answer ∷ [] → SparesFiles places was now
  named_spares now answer e =
      begun_spares now (naming_of target over answer) e (naming_keeps places target over answer h.since cleared)
      (naming_comes places target over answer h.since cleared h.own)

  unnamed_begun : (now : List (DeskDeed D)) (fault : DeskFault) → fault ≢ desk.Unkept → now ≡ mid ++ naming_of target over (Err fault) ∷ []
      → IsBegun places target over was now
  unnamed_begun now fault other e =
      begun_then now (naming_of target over (Err fault)) e (naming_keeps places target over (Err fault) h.since cleared)
      (naming_comes places target over (Err fault) h.since cleared h.own) (naming_leaves D target over fault other)

-- TARGET.new is named, or taken away
pub finished_spares : {D : Type 0} (places : Places) (target : List ℕ) (over : Bool) (was mid now : List (DeskDeed D)) (outcome : PutOutcome)
    → IsBegun places target over was mid → NamesNew target over outcome mid now → SparesFiles places was now
finished_spares places target over was mid now outcome h names = by names.answer names.after
  where
    by : (answer : Answer) → AfterNaming target answer outcome (mid ++ naming_of target over answer ∷ []) now → SparesFiles places was now
    by (Ok done) after = named_spares places target over was mid h now (Ok done) after.1
    by (Err fault) (inl after) = named_spares places target over was mid h now (Err fault) after.2
    by (Err fault) (inr after) = begun_removed places target over was (mid ++ naming_of target over (Err fault) ∷ [])
        (unnamed_begun places target over was mid h _ fault after.0 refl) now after.1.answer after.1.history
