-- Orders that make an archive: one deed after another.
use Rattle.std.proofs.Common.{◌≡◌, ℕ, List, [], ◌∷◌, ◌++◌, Bool, true, false, refl, ap, sym, ◌∙◌, subst, inl, inr, None, Ok, Err, MatchResult}
use Rattle.std.proofs.lemmas.List.{append_assoc, append-nil}
use Rattle.std.specs.List.{AllByRecursion}
use Rattle.tune_disk.specs.declared.file.Access.TheVariants.{Read, Change}
use Rattle.tune_desk.specs.ArchiveFiles.{Keeping, KeepsNone, KeepsEntry, MayKeep, MakesArchiveBy, MakesIt, MakesItBy, FileLeads, IsHeld, IsPutAside}
use Rattle.tune_desk.specs.ArchiveFiles.{IsBegunArchiveBy, MakesNoneBy, NamesNone}
use Rattle.tune_desk.specs.BegunResults.{NamesNew, AfterNaming, PutOutcome, naming_of, refusal_of_removal}
use Rattle.tune_desk.specs.DeskDeeds.{DeskDeed, Answer, ChangesNothing, looked, compared, tested, followed, read, listed, made, named, named_over}
use Rattle.tune_desk.specs.DeskDeeds.{removed, opened}
use Rattle.tune_desk.specs.DeskDeeds.{closed, grown, created, linked, shared}
use Rattle.tune_desk.specs.Results.{EachAfter, LeavesFile, new_of, result_places}
use Rattle.tune_desk.specs.declared.desk.DeskFault.{DeskFault}
use Rattle.tune_desk.proofs.BegunLemmas.{own_more, quiet_leaves}
use Rattle.tune_desk.proofs.DeedLists.{covers_front, covers_rest, grows-more, All-append, All-map}
use Rattle.tune_desk.proofs.ResultLemmas.{naming_leaves}
use Rattle.tune_desk.proofs.SpareLemmas.{each_append, each_after, each_of_all, own_after}

-- what changes nothing makes no archive
pub quiet_by : {D : Type 0} (keeping : Keeping) (file : List ℕ) (before : List (DeskDeed D)) (deed : DeskDeed D) → ChangesNothing deed
    → MakesItBy keeping file before deed
quiet_by keeping file before (looked path answer) h = tt
quiet_by keeping file before (compared path other answer) h = tt
quiet_by keeping file before (tested path bytes answer) h = tt
quiet_by keeping file before (followed path answer) h = tt
quiet_by keeping file before (read path answer) h = tt
quiet_by keeping file before (listed path answer) h = tt
quiet_by keeping file before (made path bytes answer) h = absurd (cc)
quiet_by keeping file before (named from to answer) h = absurd (cc)
quiet_by keeping file before (named_over from to answer) h = absurd (cc)
quiet_by keeping file before (removed path answer) h = absurd (cc)
quiet_by keeping file before (opened path Read answer) h = tt
quiet_by keeping file before (opened path Change answer) h = absurd (cc)
quiet_by keeping file before (closed path disk) h = tt
quiet_by keeping file before (grown path bytes answer) h = absurd (cc)
quiet_by keeping file before (created path answer) h = absurd (cc)
quiet_by keeping file before (linked from to answer) h = absurd (cc)
quiet_by keeping file before (shared path like answer) h = absurd (cc)

pub quiet_makes : {D : Type 0} (file : List ℕ) (before : List (DeskDeed D)) (deed : DeskDeed D) → ChangesNothing deed → MakesIt file before deed
quiet_makes file before deed h = quiet_by KeepsNone file before deed h

module _ {D : Type 0} (front : List (DeskDeed D)) where
  leads_after : (file target : List ℕ) (before : List (DeskDeed D)) → FileLeads file target before → FileLeads file target (front ++ before)
  leads_after file target before h = (covers_rest front before).each (followed file (Ok target)) h

  held_after : (path : List ℕ) (before : List (DeskDeed D)) → IsHeld path before → IsHeld path (front ++ before)
  held_after path before h = record {
    disk = h.disk;
    earlier = front ++ h.earlier;
    since = h.since;
    history = ap (λ l. front ++ l) h.history ∙ sym (append_assoc front h.earlier (opened path Change (Ok h.disk) ∷ h.since));
    kept = h.kept;
  }

  aside_after : (target : List ℕ) (before : List (DeskDeed D)) → IsPutAside target before → IsPutAside target (front ++ before)
  aside_after target before h = record {
    aside = h.aside;
    earlier = front ++ h.earlier;
    since = h.since;
    is_aside = h.is_aside;
    history = ap (λ l. front ++ l) h.history ∙ sym (append_assoc front h.earlier (linked target h.aside (Ok tt) ∷ h.since));
    left = h.left;
  }

  kept_after : (keeping : Keeping) (file : List ℕ) (before : List (DeskDeed D)) (path : List ℕ) → MayKeep keeping file before path
      → MayKeep keeping file (front ++ before) path
  kept_after KeepsNone file before path h = absurd h
  kept_after KeepsEntry file before path h = (h.0, grows-more (covers_rest front before) (result_places file None false) path h.1)

  pub makes_after : (keeping : Keeping) (file : List ℕ) (before : List (DeskDeed D)) (deed : DeskDeed D) → MakesItBy keeping file before deed
      → MakesItBy keeping file (front ++ before) deed
  makes_after keeping file before (looked path answer) h = tt
  makes_after keeping file before (compared path other answer) h = tt
  makes_after keeping file before (tested path bytes answer) h = tt
  makes_after keeping file before (followed path answer) h = tt
  makes_after keeping file before (read path answer) h = tt
  makes_after keeping file before (listed path answer) h = tt
  makes_after keeping file before (made path bytes answer) h = h
  makes_after keeping file before (named from to answer) h = (leads_after file to before h.0, h.1, own_after front from before h.2)
  makes_after keeping file before (named_over from to answer) h =
      (leads_after file to before h.0, h.1, own_after front from before h.2, held_after to before h.3, aside_after to before h.4)
  makes_after keeping file before (removed path answer) h = (h.0, leads_after file h.0 before h.1, h.2, own_after front path before h.3)
  makes_after keeping file before (opened path Read answer) h = tt
  makes_after keeping file before (opened path Change answer) h = leads_after file path before h
  makes_after keeping file before (closed path disk) h = tt
  makes_after keeping file before (grown path bytes answer) h = kept_after keeping file before path h
  makes_after keeping file before (created path answer) h = (h.0, leads_after file h.0 before h.1, h.2)
  makes_after keeping file before (linked from to answer) h = (leads_after file from before h.0, h.1, held_after from before h.2)
  makes_after keeping file before (shared path like answer) h = (h.0, leads_after file h.0 before h.1, h.2, own_after front path before h.3)

-- Nothing was done.
pub makes_none : {D : Type 0} {keeping : Keeping} (file : List ℕ) (was : List (DeskDeed D)) → MakesArchiveBy keeping file was was
makes_none file was = record { since = []; history = sym (append-nil was); each = tt }

-- What was done since changes nothing.
pub makes_quiet : {D : Type 0} {keeping : Keeping} (file : List ℕ) (was more : List (DeskDeed D)) → AllByRecursion ChangesNothing more
    → MakesArchiveBy keeping file was (was ++ more)
makes_quiet {D} {keeping} file was more h =
    record { since = more; history = refl; each = each_of_all ChangesNothing (MakesItBy keeping file) (quiet_by keeping file) [] more h }

-- one order after another
pub makes_both : {D : Type 0} {keeping : Keeping} (file : List ℕ) (was mid now : List (DeskDeed D)) → MakesArchiveBy keeping file was mid
    → MakesArchiveBy keeping file mid now → MakesArchiveBy keeping file was now
makes_both {D} {keeping} file was mid now h k = record {
  since = h.since ++ k.since;
  history = k.history ∙ ap (λ l. l ++ k.since) h.history ∙ append_assoc was h.since k.since;
  each = each_append (MakesItBy keeping file) [] h.since k.since h.each
      (subst (λ l. EachAfter (MakesItBy keeping file) l k.since) (append-nil h.since)
      (each_after (MakesItBy keeping file) h.since (makes_after h.since keeping file) [] k.since k.each));
}

-- one deed more, by what was done before it
pub makes_one_more : {D : Type 0} {keeping : Keeping} (file : List ℕ) (was mid now : List (DeskDeed D)) (deed : DeskDeed D)
    (h : MakesArchiveBy keeping file was mid) → now ≡ mid ++ deed ∷ [] → MakesItBy keeping file h.since deed → MakesArchiveBy keeping file was now
makes_one_more {D} {keeping} file was mid now deed h e fits = record {
  since = h.since ++ deed ∷ [];
  history = e ∙ ap (λ l. l ++ deed ∷ []) h.history ∙ append_assoc was h.since (deed ∷ []);
  each = each_append (MakesItBy keeping file) [] h.since (deed ∷ []) h.each (fits, tt);
}

-- AN ARCHIVE THAT IS BEGUN
pub quiet_unnamed : {D : Type 0} (deed : DeskDeed D) → ChangesNothing deed → NamesNone deed
quiet_unnamed (looked path answer) h = tt
quiet_unnamed (compared path other answer) h = tt
quiet_unnamed (tested path bytes answer) h = tt
quiet_unnamed (followed path answer) h = tt
quiet_unnamed (read path answer) h = tt
quiet_unnamed (listed path answer) h = tt
quiet_unnamed (made path bytes answer) h = tt
quiet_unnamed (named from to answer) h = absurd (cc)
quiet_unnamed (named_over from to answer) h = absurd (cc)
quiet_unnamed (removed path answer) h = tt
quiet_unnamed (opened path access answer) h = tt
quiet_unnamed (closed path disk) h = tt
quiet_unnamed (grown path bytes answer) h = tt
quiet_unnamed (created path answer) h = tt
quiet_unnamed (linked from to answer) h = tt
quiet_unnamed (shared path like answer) h = tt

module _ {D : Type 0} {keeping : Keeping} (file target : List ℕ) (was mid : List (DeskDeed D)) (h : IsBegunArchiveBy keeping file target was mid) where
  pub far : (now more : List (DeskDeed D)) → now ≡ mid ++ more → now ≡ was ++ (h.since ++ more)
  far now more e = e ∙ ap (λ l. l ++ more) h.history ∙ append_assoc was h.since more

  begun_makes : (now : List (DeskDeed D)) (deed : DeskDeed D) → now ≡ mid ++ deed ∷ [] → MakesItBy keeping file h.since deed
      → MakesArchiveBy keeping file was now
  begun_makes now deed e fits = record {
    since = h.since ++ deed ∷ [];
    history = far now (deed ∷ []) e;
    each = each_append (MakesItBy keeping file) [] h.since (deed ∷ []) h.each (fits, tt);
  }

  begun_none : (now : List (DeskDeed D)) (deed : DeskDeed D) → now ≡ mid ++ deed ∷ [] → MakesItBy keeping file h.since deed
      → NamesNone deed → MakesNoneBy keeping file was now
  begun_none now deed e fits none = record {
    since = h.since ++ deed ∷ [];
    history = far now (deed ∷ []) e;
    each = each_append (MakesItBy keeping file) [] h.since (deed ∷ []) h.each (fits, tt);
    unnamed = All-append NamesNone h.since (deed ∷ []) h.unnamed (none, tt);
  }

  pub archive_then : (now : List (DeskDeed D)) (deed : DeskDeed D) → now ≡ mid ++ deed ∷ [] → MakesItBy keeping file h.since deed → NamesNone deed
      → LeavesFile (new_of target) deed → IsBegunArchiveBy keeping file target was now
  archive_then now deed e fits none leaves = record {
    since = h.since ++ deed ∷ [];
    history = far now (deed ∷ []) e;
    each = each_append (MakesItBy keeping file) [] h.since (deed ∷ []) h.each (fits, tt);
    unnamed = All-append NamesNone h.since (deed ∷ []) h.unnamed (none, tt);
    leads = (covers_front h.since (deed ∷ [])).each (followed file (Ok target)) h.leads;
    own = own_more (new_of target) h.since (deed ∷ []) h.own (leaves, tt);
  }

  -- a question, or the closing of a disk
  pub archive_quiet : (now : List (DeskDeed D)) (deed : DeskDeed D) → now ≡ mid ++ deed ∷ []
      → ChangesNothing deed → IsBegunArchiveBy keeping file target was now
  archive_quiet now deed e quiet =
      archive_then now deed e (quiet_by keeping file h.since deed quiet) (quiet_unnamed deed quiet) (quiet_leaves (new_of target) deed quiet)

  -- some questions
  abbrev pub archive_asked : (now asked : List (DeskDeed D)) → now ≡ mid ++ asked → AllByRecursion ChangesNothing asked
      → IsBegunArchiveBy keeping file target was now
  archive_asked now asked e quiet = record {
    since = h.since ++ asked;
    history = far now asked e;
    each = each_append (MakesItBy keeping file) [] h.since asked h.each
        (each_of_all ChangesNothing (MakesItBy keeping file) (quiet_by keeping file) h.since asked quiet);
    unnamed = All-append NamesNone h.since asked h.unnamed (All-map ChangesNothing NamesNone quiet_unnamed asked quiet);
    leads = (covers_front h.since asked).each (followed file (Ok target)) h.leads;
    own = own_more (new_of target) h.since asked h.own
        (All-map ChangesNothing (LeavesFile (new_of target)) (quiet_leaves (new_of target)) asked quiet);
  }

  pub archive_shared : (now : List (DeskDeed D)) (like : List ℕ) (answer : Answer) → now ≡ mid ++ shared (new_of target) like answer ∷ []
      → IsBegunArchiveBy keeping file target was now
  archive_shared now like answer e = archive_then now (shared (new_of target) like answer) e (target, h.leads, refl, h.own) tt tt

  pub archive_removed : (now : List (DeskDeed D)) (answer : Answer) → now ≡ mid ++ removed (new_of target) answer ∷ [] → MakesNoneBy keeping file was now
  archive_removed now answer e = begun_none now (removed (new_of target) answer) e (target, h.leads, refl, h.own) tt

  naming_makes : (over : Bool) (answer : Answer) → (over ≡ true → IsHeld target h.since × IsPutAside target h.since)
      → MakesItBy keeping file h.since (naming_of target over answer)
  naming_makes true answer may = let m = may refl in (h.leads, refl, h.own, m.0, m.1)
  naming_makes false answer may = (h.leads, refl, h.own)

naming_none : (D : Type 0) (target : List ℕ) (over : Bool) (fault : DeskFault) → NamesNone {D = D} (naming_of target over (Err fault))
naming_none D target true fault = refl
naming_none D target false fault = refl

-- TARGET.new is named, or taken away
pub finished_archive : {D : Type 0} {keeping : Keeping} (file target : List ℕ) (over : Bool) (was mid now : List (DeskDeed D)) (outcome : PutOutcome)
    (h : IsBegunArchiveBy keeping file target was mid) → (over ≡ true → IsHeld target h.since × IsPutAside target h.since)
    → NamesNew target over outcome mid now
    → MatchResult outcome (λ _. MakesArchiveBy keeping file was now × (now ≡ mid ++ naming_of target over (Ok tt) ∷ [])) (λ _. MakesNoneBy keeping file was now)
finished_archive {D} {keeping} file target over was mid now outcome h may names = by names.answer names.after
  where
    Comes : PutOutcome → Type 0
    Comes out = MatchResult out (λ _. MakesArchiveBy keeping file was now × (now ≡ mid ++ naming_of target over (Ok tt) ∷ []))
        (λ _. MakesNoneBy keeping file was now)

    removed_by : (fault : DeskFault) (answer : Answer) → MakesNoneBy keeping file was now → Comes (refusal_of_removal fault answer)
    removed_by fault (Ok done) none = none
    removed_by fault (Err left) none = none

    by : (answer : Answer) → AfterNaming target answer outcome (mid ++ naming_of target over answer ∷ []) now → Comes outcome
    by (Ok done) after = subst Comes (sym after.0)
        (begun_makes file target was mid h now (naming_of target over (Ok done)) after.1 (naming_makes file target was mid h over (Ok done) may), after.1)
    by (Err fault) (inl after) = subst Comes (sym after.1)
        (begun_none file target was mid h now (naming_of target over (Err fault)) after.2 (naming_makes file target was mid h over (Err fault) may)
        (naming_none D target over fault))
    by (Err fault) (inr after) =
        subst Comes (sym after.1.told) (removed_by fault after.1.answer
        (archive_removed file target was (mid ++ naming_of target over (Err fault) ∷ [])
        (archive_then file target was mid h (mid ++ naming_of target over (Err fault) ∷ []) (naming_of target over (Err fault)) refl
        (naming_makes file target was mid h over (Err fault) may) (naming_none D target over fault) (naming_leaves D target over fault after.0)) now
        after.1.answer after.1.history))
