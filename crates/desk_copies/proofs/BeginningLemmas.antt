-- How an archive is begun where FILE leads, by the deeds.
use Rattle.std.proofs.Common.{◌≡◌, ℕ, List, [], ◌∷◌, ◌++◌, Bool, true, false, refl, ap, ◌∙◌, inr, Result, Ok, Err, MatchResult}
use Rattle.std.proofs.lemmas.List.{append_assoc}
use Rattle.std.specs.List.{AllByRecursion}
use Rattle.tune_desk.specs.ArchiveFiles.{IsBegunArchive, IsBegunArchiveBy, Keeping, MakesArchiveBy, MakesIt, MakesNone, MakesNoneBy, NamesNone}
use Rattle.tune_desk.specs.ArchiveFiles.{PutsArchiveAfter}
use Rattle.tune_desk.specs.BegunResults.{NamesNew, PutOutcome, naming_of}
use Rattle.tune_desk.specs.DeskDeeds.{DeskDeed, Answer, ChangesNothing, followed, created, closed, removed}
use Rattle.tune_desk.specs.Results.{EachAfter, new_of}
use Rattle.tune_desk.specs.declared.desk.DeskFault.{DeskFault}
use Rattle.tune_desk.proofs.ArchiveLemmas.{quiet_makes, quiet_unnamed, archive_quiet, archive_removed, finished_archive}
use Rattle.tune_desk.proofs.DeedLists.{covers_front, first_of_one, All-append, All-map}
use Rattle.tune_desk.proofs.SpareLemmas.{each_append, each_of_all}
use Rattle.desk_copies.specs.Inside.Beginnings.{IsFollowed}

-- FILE was followed
pub followed_first : {D : Type 0} (file target : List ℕ) (was now : List (DeskDeed D)) → now ≡ was ++ followed file (Ok target) ∷ []
    → IsFollowed file target was now
followed_first file target was now e =
    record { since = followed file (Ok target) ∷ []; history = e; quiet = (refl, tt); leads = first_of_one (followed file (Ok target)) [] }

-- or could not be
pub unfollowed_none : {D : Type 0} (file : List ℕ) (fault : DeskFault) (was now : List (DeskDeed D)) → now ≡ was ++ followed file (Err fault) ∷ []
    → MakesNone file was now
unfollowed_none file fault was now e =
    record { since = followed file (Err fault) ∷ []; history = e; each = (tt, tt); unnamed = (tt, tt) }

module _ {D : Type 0} (file target : List ℕ) (was mid : List (DeskDeed D)) (h : IsFollowed file target was mid) where
  far : (now more : List (DeskDeed D)) → now ≡ mid ++ more → now ≡ was ++ (h.since ++ more)
  far now more e = e ∙ ap (λ l. l ++ more) h.history ∙ append_assoc was h.since more

  so_far : EachAfter (MakesIt file) [] h.since
  so_far = each_of_all ChangesNothing (MakesIt file) (quiet_makes file) [] h.since h.quiet

  unnamed : AllByRecursion NamesNone h.since
  unnamed = All-map ChangesNothing NamesNone quiet_unnamed h.since h.quiet

  -- a question more
  pub followed_asked : (now : List (DeskDeed D)) (deed : DeskDeed D) → now ≡ mid ++ deed ∷ [] → ChangesNothing deed → IsFollowed file target was now
  followed_asked now deed e quiet = record {
    since = h.since ++ deed ∷ [];
    history = far now (deed ∷ []) e;
    quiet = All-append ChangesNothing h.since (deed ∷ []) h.quiet (quiet, tt);
    leads = (covers_front h.since (deed ∷ [])).each (followed file (Ok target)) h.leads;
  }

  pub followed_none : MakesNone file was mid
  followed_none = record { since = h.since; history = h.history; each = so_far; unnamed = unnamed }

  -- TARGET.new is made, or not
  pub followed_created : (now : List (DeskDeed D)) (disk : D) → now ≡ mid ++ created (new_of target) (Ok disk) ∷ [] → IsBegunArchive file target was now
  followed_created now disk e = record {
    since = h.since ++ created (new_of target) (Ok disk) ∷ [];
    history = far now (created (new_of target) (Ok disk) ∷ []) e;
    each = each_append (MakesIt file) [] h.since (created (new_of target) (Ok disk) ∷ []) so_far ((target, h.leads, refl), tt);
    unnamed = All-append NamesNone h.since (created (new_of target) (Ok disk) ∷ []) unnamed (tt, tt);
    leads = (covers_front h.since (created (new_of target) (Ok disk) ∷ [])).each (followed file (Ok target)) h.leads;
    own = record {
      making = created (new_of target) (Ok disk);
      earlier = h.since;
      since = [];
      makes = inr (disk, refl);
      history = refl;
      left = tt;
    };
  }

  pub followed_uncreated : (now : List (DeskDeed D)) (fault : DeskFault) → now ≡ mid ++ created (new_of target) (Err fault) ∷ [] → MakesNone file was now
  followed_uncreated now fault e = record {
    since = h.since ++ created (new_of target) (Err fault) ∷ [];
    history = far now (created (new_of target) (Err fault) ∷ []) e;
    each = each_append (MakesIt file) [] h.since (created (new_of target) (Err fault) ∷ []) so_far ((target, h.leads, refl), tt);
    unnamed = All-append NamesNone h.since (created (new_of target) (Err fault) ∷ []) unnamed (tt, tt);
  }

-- THE END
-- the deed of a path that is that of another
pub closed_at : {D : Type 0} (path other : List ℕ) (disk : D) (mid now : List (DeskDeed D)) → path ≡ other → now ≡ mid ++ closed path disk ∷ []
    → now ≡ mid ++ closed other disk ∷ []
closed_at path other disk mid now same e = e ∙ ap (λ p. mid ++ closed p disk ∷ []) same

pub created_at : {D : Type 0} (path other : List ℕ) (answer : Result D DeskFault) (mid now : List (DeskDeed D)) → path ≡ other
    → now ≡ mid ++ created path answer ∷ [] → now ≡ mid ++ created other answer ∷ []
created_at path other answer mid now same e = e ∙ ap (λ p. mid ++ created p answer ∷ []) same

-- TARGET.new is closed, and named TARGET
pub puts_archive : {D : Type 0} (keeping : Keeping) (file target path : List ℕ) (over : Bool) (disk : D) (was old mid now : List (DeskDeed D))
    (outcome : PutOutcome)
    → path ≡ new_of target → mid ≡ old ++ closed path disk ∷ [] → NamesNew target over outcome mid now
    → IsBegunArchiveBy keeping file target was old → over ≡ false
    → MatchResult outcome (λ _. MakesArchiveBy keeping file was now × PutsArchiveAfter keeping file disk was old now) (λ _. MakesNoneBy keeping file was now)
puts_archive {D} keeping file target path over disk was old mid now outcome same e names begun none =
    by outcome (finished_archive file target over was mid now outcome begun-closed (λ is. absurd (no over none is)) names)
  where
    no : (b : Bool) → b ≡ false → b ≡ true → ⊥
    no true h k = cc
    no false h k = cc

    here : mid ≡ old ++ closed (new_of target) disk ∷ []
    here = closed_at path (new_of target) disk old mid same e

    begun-closed : IsBegunArchiveBy keeping file target was mid
    begun-closed = archive_quiet file target was old begun mid (closed path disk) e refl

    by : (out : PutOutcome) → MatchResult out (λ _. MakesArchiveBy keeping file was now × (now ≡ mid ++ naming_of target over (Ok tt) ∷ []))
        (λ _. MakesNoneBy keeping file was now)
        → MatchResult out (λ _. MakesArchiveBy keeping file was now × PutsArchiveAfter keeping file disk was old now) (λ _. MakesNoneBy keeping file was now)
    by (Ok done) h = (
      h.0,
      (
        record {
          target = target;
          over = over;
          mid = old;
          rest = [];
          begun = begun;
          history = h.1 ∙ ap (λ l. l ++ naming_of target over (Ok tt) ∷ []) here
              ∙ append_assoc old (closed (new_of target) disk ∷ []) (naming_of target over (Ok tt) ∷ []);
          quiet = tt;
        },
        refl,
      ),
    )
    by (Err why) h = h

-- or taken away
pub leaves_archive : {D : Type 0} (keeping : Keeping) (file target path : List ℕ) (disk : D) (was old mid now : List (DeskDeed D)) (answer : Answer)
    → path ≡ new_of target → mid ≡ old ++ closed path disk ∷ [] → now ≡ mid ++ removed path answer ∷ [] → IsBegunArchiveBy keeping file target was old
    → MakesNoneBy keeping file was now
leaves_archive keeping file target path disk was old mid now answer same e k begun =
    archive_removed file target was mid (archive_quiet file target was old begun mid (closed path disk) e refl) now answer
    (k ∙ ap (λ p. mid ++ removed p answer ∷ []) same)
