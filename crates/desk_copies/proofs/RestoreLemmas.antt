-- Copies that are put where FILE leads, by the deeds.
use Rattle.std.proofs.Common.{◌≡◌, ◌≢◌, ℕ, ◌+◌, ◌^◌, ◌%◌, ◌<◌, List, [], ◌∷◌, ◌++◌, length, Bool, true, codes, refl, ap, sym, ◌∙◌, subst, inl, inr}
use Rattle.std.proofs.Common.{Result, Ok, Err, MatchResult, arith}
use Rattle.std.proofs.Common.{length-append, append-nil}
use Rattle.std.specs.Prelude.{decimal}
use Rattle.std.proofs.lemmas.List.{append_assoc, append_cancel_left}
use Rattle.std.proofs.lemmas.List.Elements.{Contains-push_cases}
use Rattle.std.specs.Char.{IsAsciiDigit}
use Rattle.std.specs.List.{AllByRecursion, Contains}
use Rattle.std.proofs.lemmas.List.Elements.{All-from_recursion}
use Rattle.std.proofs.lemmas.Fmt.{decimal_by_steps}
use Rattle.tune_disk.specs.declared.file.Access.TheVariants.{Change}
use Rattle.tune_desk.specs.ArchiveFiles.{IsAside, IsBegunArchive, IsHeld, IsPutAside, Keeping, KeepsOpen, MakesArchive, MakesArchiveBy, MakesIt, MakesItBy}
use Rattle.tune_desk.specs.ArchiveFiles.{MakesNone, MakesNoneBy, NamesNone}
use Rattle.tune_desk.specs.BegunResults.{NamesNew, PutOutcome, naming_of}
use Rattle.tune_desk.specs.DeskDeeds.{DeskDeed, Answer, ChangesNothing, followed, opened, closed, linked, shared}
use Rattle.tune_desk.specs.Results.{EachAfter, LeavesFile, new_of}
use Rattle.tune_desk.specs.declared.desk.DeskFault.{DeskFault}
use Rattle.tune_desk.proofs.ArchiveLemmas.{finished_archive, makes_after, makes_both, makes_one_more, makes_quiet, quiet_by, quiet_makes, quiet_unnamed}
use Rattle.tune_desk.proofs.BegunLemmas.{own_more, quiet_leaves}
use Rattle.tune_desk.proofs.SpareLemmas.{each_after, each_append, each_of_all}
use Rattle.tune_desk.proofs.DeedLists.{All-append, All-map, covers_front}
use Rattle.desk_copies.specs.Inside.HeldFiles.{Ends, HoldsArchive, HasPutAside, aside_of}

-- one path is not another
pub not_there : (path other : List ℕ) → path ≢ other → ¬ Contains (other ∷ []) path
not_there path other differ h = elim (Contains-push_cases [] other path h) [
  | inl none ↦ absurd (let lt = none.1 in omega (arith, lt))
  | inr same ↦ differ (sym same)
]

pub new_is_other : (target : List ℕ) → new_of target ≢ target
new_is_other target e =
    let size : length (target ++ codes ".new") ≡ length target = ap (λ (l : List ℕ). length l) e in
    omega (arith, size, length-append target (codes ".new"))

pub new_is_not_aside : (target : List ℕ) (number : ℕ) → new_of target ≢ aside_of target number
new_is_not_aside target number e =
    let rest : codes ".new" ≡ codes "." ++ decimal number ++ codes ".old" = append_cancel_left target (codes ".new") _ e in
    let size : length (codes ".new") ≡ length (codes "." ++ decimal number ++ codes ".old") = ap (λ (l : List ℕ). length l) rest in
    omega (arith, size, length-append (decimal number) (codes ".old"))

pub aside_is_other : (target : List ℕ) (number : ℕ) → target ≢ aside_of target number
aside_is_other target number e =
    let size : length target ≡ length (target ++ (codes "." ++ decimal number ++ codes ".old")) = ap (λ (l : List ℕ). length l) e in
    omega (arith, size, length-append target (codes "." ++ decimal number ++ codes ".old"), length-append (decimal number) (codes ".old"))

digit_in : (k : ℕ) → k < 10 → IsAsciiDigit (48 + k)
digit_in k lt = (omega arith, omega (arith, lt))

-- a number is written in digits
pub digits_of : (n : ℕ) → n < 2 ^ 64 → (0 < length (decimal n)) × AllByRecursion IsAsciiDigit (decimal n)
digits_of = decimal_by_steps (λ n ds. (0 < length ds) × AllByRecursion IsAsciiDigit ds) (λ n lt. (omega arith, (digit_in n lt, tt))) (λ n ds ge h. (
  omega (arith, length-append ds ((48 + n % 10) ∷ [])),
  All-append IsAsciiDigit ds ((48 + n % 10) ∷ []) h.1 (digit_in (n % 10) (omega arith), tt),
))

pub is_aside : (target : List ℕ) (number : ℕ) → number < 2 ^ 64 → IsAside target (aside_of target number)
is_aside target number lt = (
  codes "." ++ decimal number ++ codes ".old",
  record {
    digits = decimal number;
    some = (digits_of number lt).0;
    each = All-from_recursion IsAsciiDigit (decimal number) (digits_of number lt).1;
    written = refl;
  },
  refl,
)

-- FILE IS HELD
module _ {D : Type 0} (file target : List ℕ) (was mid now : List (DeskDeed D)) where
  -- one deed more, of which all is known
  abbrev pub begun_more : (deed : DeskDeed D) (h : IsBegunArchive file target was mid) → now ≡ mid ++ deed ∷ [] → MakesIt file h.since deed → NamesNone deed
      → LeavesFile (new_of target) deed → IsBegunArchive file target was now
  begun_more deed h e fits none leaves = record {
    since = h.since ++ deed ∷ [];
    history = e ∙ ap (λ l. l ++ deed ∷ []) h.history ∙ append_assoc was h.since (deed ∷ []);
    each = each_append (MakesIt file) [] h.since (deed ∷ []) h.each (fits, tt);
    unnamed = All-append NamesNone h.since (deed ∷ []) h.unnamed (none, tt);
    leads = (covers_front h.since (deed ∷ [])).each (followed file (Ok target)) h.leads;
    own = own_more (new_of target) h.since (deed ∷ []) h.own (leaves, tt);
  }

  pub archive_opened : (disk : D) → IsBegunArchive file target was mid → now ≡ mid ++ opened target Change (Ok disk) ∷ [] → HoldsArchive file target was now
  archive_opened disk h e = record {
    begun = begun_more (opened target Change (Ok disk)) h e h.leads tt (not_there (new_of target) target (new_is_other target));
    held = record { disk = disk; earlier = h.since; since = []; history = refl; kept = tt };
  }

  pub archive_unopened : (fault : DeskFault) → IsBegunArchive file target was mid → now ≡ mid ++ opened target Change (Err fault) ∷ []
      → IsBegunArchive file target was now
  archive_unopened fault h e = begun_more (opened target Change (Err fault)) h e h.leads tt (not_there (new_of target) target (new_is_other target))

  abbrev held_more : (deed : DeskDeed D) (since : List (DeskDeed D)) → IsHeld target since → KeepsOpen target deed → IsHeld target (since ++ deed ∷ [])
  held_more deed since h keeps = record {
    disk = h.disk;
    earlier = h.earlier;
    since = h.since ++ deed ∷ [];
    history = ap (λ l. l ++ deed ∷ []) h.history ∙ append_assoc h.earlier (opened target Change (Ok h.disk) ∷ h.since) (deed ∷ []);
    kept = All-append (KeepsOpen target) h.since (deed ∷ []) h.kept (keeps, tt);
  }

  pub holds_quiet : (deed : DeskDeed D) → HoldsArchive file target was mid → now ≡ mid ++ deed ∷ [] → ChangesNothing deed → KeepsOpen target deed
      → HoldsArchive file target was now
  holds_quiet deed h e quiet keeps = record {
    begun = begun_more deed h.begun e (quiet_makes file h.begun.since deed quiet) (quiet_unnamed deed quiet) (quiet_leaves (new_of target) deed quiet);
    held = held_more deed h.begun.since h.held keeps;
  }

  module _ (number : ℕ) (lt : number < 2 ^ 64) where
    abbrev linked_then : (answer : Answer) (h : HoldsArchive file target was mid) → now ≡ mid ++ linked target (aside_of target number) answer ∷ []
        → HoldsArchive file target was now
    linked_then answer h e = record {
      begun = begun_more (linked target (aside_of target number) answer) h.begun e (h.begun.leads, is_aside target number lt, h.held) tt
          (not_there (new_of target) (aside_of target number) (new_is_not_aside target number));
      held = held_more (linked target (aside_of target number) answer) h.begun.since h.held tt;
    }

    pub holds_unlinked : (fault : DeskFault) → HoldsArchive file target was mid → now ≡ mid ++ linked target (aside_of target number) (Err fault) ∷ []
        → HoldsArchive file target was now
    holds_unlinked fault h e = linked_then (Err fault) h e

    pub puts_aside : HoldsArchive file target was mid → now ≡ mid ++ linked target (aside_of target number) (Ok tt) ∷ []
        → HasPutAside file target number was now
    puts_aside h e = record {
      holds = linked_then (Ok tt) h e;
      aside = record {
        aside = aside_of target number;
        earlier = h.begun.since;
        since = [];
        is_aside = is_aside target number lt;
        history = refl;
        left = tt;
      };
      numbered = refl;
    }

  -- TARGET.new is closed, while FILE is held, and was put aside
  pub aside_closed : (number : ℕ) (disk : D) → HasPutAside file target number was mid → now ≡ mid ++ closed (new_of target) disk ∷ []
      → (h : IsBegunArchive file target was now) × IsHeld target h.since × IsPutAside target h.since
  aside_closed number disk h e = (
    begun_more (closed (new_of target) disk) h.holds.begun e tt tt
        (quiet_leaves (new_of target) (closed (new_of target) disk) refl),
    held_more (closed (new_of target) disk) h.holds.begun.since h.holds.held (new_is_other target),
    record {
      aside = h.aside.aside;
      earlier = h.aside.earlier;
      since = h.aside.since ++ closed (new_of target) disk ∷ [];
      is_aside = h.aside.is_aside;
      history = ap (λ l. l ++ closed (new_of target) disk ∷ []) h.aside.history
          ∙ append_assoc h.aside.earlier (linked target h.aside.aside (Ok tt) ∷ h.aside.since) (closed (new_of target) disk ∷ []);
      left = All-append (λ deed. LeavesFile target deed × LeavesFile h.aside.aside deed) h.aside.since (closed (new_of target) disk ∷ []) h.aside.left
          ((quiet_leaves target (closed (new_of target) disk) refl, quiet_leaves h.aside.aside (closed (new_of target) disk) refl), tt);
    },
  )

-- and named over what stands there
pub puts_over : {D : Type 0} (file target path : List ℕ) (over : Bool) (number : ℕ) (disk : D) (was old mid now : List (DeskDeed D)) (outcome : PutOutcome)
    → path ≡ new_of target → over ≡ true → HasPutAside file target number was old → mid ≡ old ++ closed path disk ∷ []
    → NamesNew target over outcome mid now → Ends file disk outcome was now
puts_over {D} file target path over number disk was old mid now outcome same is h closes named_as =
    let e : mid ≡ old ++ closed (new_of target) disk ∷ [] = closes ∙ ap (λ p. old ++ closed p disk ∷ []) same in
    let names : NamesNew target true outcome mid now = subst (λ o. NamesNew target o outcome mid now) is named_as in
    let ready = aside_closed file target was old mid number disk h e in
    by e outcome (finished_archive file target true was mid now outcome ready.0 (λ _. (ready.1, ready.2)) names)
  where
    by : mid ≡ old ++ closed (new_of target) disk ∷ [] → (out : PutOutcome)
        → MatchResult out (λ _. MakesArchive file was now × (now ≡ mid ++ naming_of target true (Ok tt) ∷ [])) (λ _. MakesNone file was now)
        → Ends file disk out was now
    by e (Ok done) r = (
      r.0,
      record {
        target = target;
        over = true;
        mid = old;
        rest = [];
        begun = h.holds.begun;
        history = r.1 ∙ ap (λ l. l ++ naming_of target true (Ok tt) ∷ []) e
            ∙ append_assoc old (closed (new_of target) disk ∷ []) (naming_of target true (Ok tt) ∷ []);
        quiet = tt;
      },
    )
    by e (Err why) r = r

-- WHAT CHANGES NOTHING, BEFORE AND AFTER
pub none_more : {D : Type 0} (file : List ℕ) (was mid now : List (DeskDeed D)) (deed : DeskDeed D) → MakesNone file was mid → now ≡ mid ++ deed ∷ []
    → ChangesNothing deed → MakesNone file was now
none_more file was mid now deed h e quiet = record {
  since = h.since ++ deed ∷ [];
  history = e ∙ ap (λ l. l ++ deed ∷ []) h.history ∙ append_assoc was h.since (deed ∷ []);
  each = each_append (MakesIt file) [] h.since (deed ∷ []) h.each (quiet_makes file h.since deed quiet, tt);
  unnamed = All-append NamesNone h.since (deed ∷ []) h.unnamed (quiet_unnamed deed quiet, tt);
}

pub ends_more : {D T E : Type 0} (file : List ℕ) (disk : D) (outcome : Result T E) (was mid now : List (DeskDeed D)) (deed : DeskDeed D)
    → Ends file disk outcome was mid → now ≡ mid ++ deed ∷ [] → ChangesNothing deed → Ends file disk outcome was now
ends_more file disk (Ok done) was mid now deed h e quiet = (
  makes_one_more file was mid now deed h.0 e (quiet_makes file h.0.since deed quiet),
  record {
    target = h.1.target;
    over = h.1.over;
    mid = h.1.mid;
    rest = h.1.rest ++ deed ∷ [];
    begun = h.1.begun;
    history = e ∙ ap (λ l. l ++ deed ∷ []) h.1.history
        ∙ append_assoc h.1.mid (closed (new_of h.1.target) disk ∷ naming_of h.1.target h.1.over (Ok tt) ∷ h.1.rest) (deed ∷ []);
    quiet = All-append ChangesNothing h.1.rest (deed ∷ []) h.1.quiet (quiet, tt);
  },
)
ends_more file disk (Err why) was mid now deed h e quiet = none_more file was mid now deed h e quiet

-- a second name was given, or not
pub linked_by : {D : Type 0} (file target path : List ℕ) (number : ℕ) (was mid now : List (DeskDeed D)) (outcome : Answer) → number < 2 ^ 64
    → path ≡ aside_of target number → now ≡ mid ++ linked target path outcome ∷ [] → HoldsArchive file target was mid
    → MatchResult outcome (λ _. HasPutAside file target number was now) (λ _. HoldsArchive file target was now)
linked_by file target path number was mid now (Ok done) lt same e h =
    puts_aside file target was mid now number lt h (e ∙ ap (λ p. mid ++ linked target p (Ok tt) ∷ []) same)
linked_by file target path number was mid now (Err fault) lt same e h =
    holds_unlinked file target was mid now number lt fault h (e ∙ ap (λ p. mid ++ linked target p (Err fault) ∷ []) same)

-- the deed of a path that is that of another
pub shared_at : {D : Type 0} (path other like : List ℕ) (answer : Answer) (mid now : List (DeskDeed D)) → path ≡ other
    → now ≡ mid ++ shared path like answer ∷ [] → now ≡ mid ++ shared other like answer ∷ []
shared_at path other like answer mid now same e = e ∙ ap (λ p. mid ++ shared p like answer ∷ []) same

-- questions come before
pub none_before : {D : Type 0} {keeping : Keeping} (file : List ℕ) (was mid now asked : List (DeskDeed D)) → mid ≡ was ++ asked
    → AllByRecursion ChangesNothing asked → MakesNoneBy keeping file mid now → MakesNoneBy keeping file was now
none_before {D} {keeping} file was mid now asked e quiet h = record {
  since = asked ++ h.since;
  history = h.history ∙ ap (λ l. l ++ h.since) e ∙ append_assoc was asked h.since;
  each = each_append (MakesItBy keeping file) [] asked h.since
      (each_of_all ChangesNothing (MakesItBy keeping file) (quiet_by keeping file) [] asked quiet)
      (subst (λ l. EachAfter (MakesItBy keeping file) l h.since) (append-nil asked)
      (each_after (MakesItBy keeping file) asked (makes_after asked keeping file) [] h.since h.each));
  unnamed = All-append NamesNone asked h.since (All-map ChangesNothing NamesNone quiet_unnamed asked quiet) h.unnamed;
}

pub makes_before : {D : Type 0} {keeping : Keeping} (file : List ℕ) (was mid now asked : List (DeskDeed D)) → mid ≡ was ++ asked
    → AllByRecursion ChangesNothing asked → MakesArchiveBy keeping file mid now → MakesArchiveBy keeping file was now
makes_before {D} {keeping} file was mid now asked e quiet h =
    makes_both file was mid now (subst (MakesArchiveBy keeping file was) (sym e) (makes_quiet file was asked quiet)) h
