-- FILE is spared where it is opened, asked and closed.
use Rattle.std.proofs.Common.{◌≡◌, ◌⊎◌, inl, inr, ℕ, ◌≤◌, suc, ◌+◌, List, [], ◌∷◌, ◌++◌, Some, Ok, Err, length, refl, sym, ◌∙◌, ap, subst, arith}
use Rattle.std.proofs.Common.{length-append, append-nil, true, false}
use Rattle.std.specs.Prelude.{Result, MatchResult, Option, None, IfOk}
use Rattle.std.proofs.lemmas.List.{append_assoc}
use Rattle.tune_disk.specs.Disk.{Medium, DiskState}
use Rattle.tune_disk.specs.Stops.{SinceThen}
use Rattle.tune_disk.specs.declared.disk.Disk as disk
use Rattle.tune_disk.specs.declared.file.Access.{Access}
use Rattle.tune_disk.specs.declared.file.Access.TheVariants.{Read, Change}
use Rattle.tune_journal.specs.Moments.{LeftOrSame}
use Rattle.tune_pages.specs.Kept.{HonestAt, state_at}
use Rattle.tune_archive.specs.AsStore.{store_on}
use Rattle.tune_archive.specs.Media.{moment_of, LeftAt}
use Rattle.tune_archive.specs.Shelf.{Shelf, state_of}
use Rattle.tune_store.specs.Answers.{Answers, asks, may_write, passed}
use Rattle.tune_store.specs.Stores.{StorePasses, standing_of}
use Rattle.tune_store.specs.declared.command.Command.{Command}
use Rattle.tune_store.specs.declared.command.Reply.{Reply}
use Rattle.tune_store.specs.declared.command.Refusal.{Refusal}
use Rattle.tune_store.specs.declared.tune_store.TuneStore.{Ghosts}
use Rattle.tune_store.specs.Questions.{shown}
use Rattle.tune_store.specs.State.{State, Standing, tune_at}
use Rattle.tune_store.specs.Step.{step}
use Rattle.tune_store.specs.declared.command.Command.TheVariants.{Show}
use Rattle.tune_store.specs.declared.command.Reply.TheVariants as reply
use Rattle.tune_store.specs.declared.tune.Tune.{Tune}
use Rattle.tune_scripts.proofs.CarriedLemmas.{passes_all}
use Rattle.tune_cli.proofs.HeadlineLemmas.{since_each, as_before_each}
use Rattle.tune_desk.specs.DeskDeeds.{DeskDeed, opened, closed}
use Rattle.tune_asking.specs.Asking as asking
use Rattle.tune_asking.proofs.AskLemmas.{asked_stays, asked_quiet, asked_answer}
use Rattle.desk_scenes.specs.FileAnswers.{Did, IsVisited, IsAsked, HeldState}
use Rattle.desk_scenes.specs.Visits.{SparesDisk, Visits, Comes, ComesToNothing, visit}
use Rattle.desk_scenes.specs.OpenedFile.{IsArchiveOf, Opens, OpensToRead}

-- what a stop may have left at a moment is of a moment that has come
has_come : (disk : DiskState) (moment : ℕ) (left : List ℕ) → LeftAt disk moment left → moment ≤ moment_of disk
has_come disk moment left at =
    let size : length (disk.now ∷ disk.past) ≡ length (at.newer ++ at.medium ∷ at.older) = ap (λ (l : List Medium). length l) at.history in
    let is_then = at.is_then in
    omega (arith, size, is_then, length-append at.newer (at.medium ∷ at.older))

-- one deed, and then one more
pub two_deeds : {X : Type 0} (was mid now : List X) (first second : X) → mid ≡ was ++ first ∷ [] → now ≡ mid ++ second ∷ []
    → now ≡ was ++ first ∷ second ∷ []
two_deeds was mid now first second h k = k ∙ ap (λ l. l ++ second ∷ []) h ∙ append_assoc was (first ∷ []) (second ∷ [])

-- deeds, and then more
pub more_deeds : {X : Type 0} (was mid now first second : List X) → mid ≡ was ++ first → now ≡ mid ++ second → now ≡ was ++ (first ++ second)
more_deeds was mid now first second h k = k ∙ ap (λ l. l ++ second) h ∙ append_assoc was first second

module _ {D : Type 0} (disks : disk.Ghosts D) where
  -- a disk since which each file that a stop leaves might have been left before, or has the same pages
  pub spares_since : (old new : D) → (disks.honest new → SinceThen (disks.state old) (disks.state new) (LeftOrSame (disks.state old)))
      → SparesDisk disks old new
  spares_since old new since honest moment left late at =
      as_before_each (disks.state old) left (since_each (disks.state old) (disks.state new) _ (since honest) moment left late at)

  -- an archive that was opened, and closed
  pub spares_closed : (old new : D) (archive : Shelf D) → IsArchiveOf disks old archive → archive.pages.disk ≡ Some new → SparesDisk disks old new
  spares_closed old new archive is held =
      spares_since old new (λ honest. subst (λ at. SinceThen (disks.state old) (state_at disks.state at) (LeftOrSame (disks.state old))) held
      (is.leaves (subst (HonestAt disks.honest) (sym held) honest)))

  -- one that was opened, asked, and closed
  pub spares_asked : (old new : D) (archive after : Shelf D) → IsArchiveOf disks old archive → asking.IsOnlyAsked (store_on disks) archive after
      → after.pages.disk ≡ Some new → SparesDisk disks old new
  spares_asked old new archive after is asked held honest moment left late at =
      let met : HonestAt disks.honest after.pages.disk = subst (HonestAt disks.honest) (sym held) honest in
      let there : LeftAt (state_at disks.state after.pages.disk) moment left = subst (λ d. LeftAt (state_at disks.state d) moment left) (sym held) at in
      let came = has_come (state_at disks.state after.pages.disk) moment left there in
      let same = asked.same_moment met in
      let by = asked.carried met in
      let passes = passes_all (store_on disks) by.carried archive after by.carries_out in
      let earlier = passes.recalls met moment left (subst (λ n. moment ≤ n) same came) there in
      as_before_each (disks.state old) left
      (since_each (disks.state old) (state_at disks.state archive.pages.disk) _ (is.leaves (asked.was_honest met)) moment left late earlier)

  -- a visit to FILE, from its opening to read to its closing
  pub is_visited : (file : List ℕ) (archive : Shelf D) (was mid now : List (DeskDeed D)) (new : D) (opening : OpensToRead disks file archive was mid)
      → SparesDisk disks opening.opens.old new → now ≡ mid ++ closed file new ∷ []
      → (since : List (DeskDeed D)) × (now ≡ was ++ since) × IsVisited disks file since
  is_visited file archive was mid now new opening spares close =
      let all = two_deeds opening.mid mid now _ _ opening.opens.deeds close in (
        opening.before ++ visit file Read opening.opens.old new,
        more_deeds was opening.mid now opening.before (visit file Read opening.opens.old new) opening.came all,
        record {
          before = opening.before;
          old = opening.opens.old;
          new = new;
          are = refl;
          comes = opening.comes;
          spares = spares;
        },
      )

  -- and what it told of the state that it held
  pub is_asked : (file : List ℕ) (archive : Shelf D) (was mid now : List (DeskDeed D)) (new : D) (Told : State → Type 0)
      (opening : OpensToRead disks file archive was mid) → SparesDisk disks opening.opens.old new → now ≡ mid ++ closed file new ∷ []
      → HeldState disks Told opening.opens.old new
      → (since : List (DeskDeed D)) × (now ≡ was ++ since) × IsAsked disks file Told since
  is_asked file archive was mid now new Told opening spares close told =
      let all = two_deeds opening.mid mid now _ _ opening.opens.deeds close in (
        opening.before ++ visit file Read opening.opens.old new,
        more_deeds was opening.mid now opening.before (visit file Read opening.opens.old new) opening.came all,
        record {
          visited = record {
            before = opening.before;
            old = opening.opens.old;
            new = new;
            are = refl;
            comes = opening.comes;
            spares = spares;
          };
          told = told;
        },
      )

  -- what an archive tells that was not changed since it was opened
  pub held_closed : (old new : D) (archive : Shelf D) (Told : State → Type 0) → IsArchiveOf disks old archive → archive.pages.disk ≡ Some new
      → (HonestAt disks.honest archive.pages.disk → Told (state_of disks.state archive)) → HeldState disks Told old new
  held_closed old new archive Told is held told honest =
      let met = subst (HonestAt disks.honest) (sym held) honest in (state_of disks.state archive, is.held met, told met)

  -- and one that was asked
  pub held_asked : (old new : D) (archive after : Shelf D) (Told : State → Type 0) → IsArchiveOf disks old archive
      → asking.IsOnlyAsked (store_on disks) archive after → after.pages.disk ≡ Some new
      → (HonestAt disks.honest archive.pages.disk → HonestAt disks.honest after.pages.disk → Told (state_of disks.state archive))
      → HeldState disks Told old new
  held_asked old new archive after Told is asked held told honest =
      let met = subst (HonestAt disks.honest) (sym held) honest in
      let was = asked.was_honest met in (state_of disks.state archive, is.held was, told was met)

  -- FILE opened to read, at once
  pub reads_once : {E : Type 0} (file : List ℕ) (result : Result (Shelf D) E) (was now : List (DeskDeed D))
      → MatchResult result (λ archive. Opens disks file Read archive was now) (λ _. Did was now (Visits disks file Read))
      → MatchResult result (λ archive. OpensToRead disks file archive was now) (λ _. Did was now (ComesToNothing disks file))
  reads_once file (Ok archive) was now opens =
      record { before = []; mid = was; comes = inl refl; came = sym (append-nil was); opens = opens }
  reads_once file (Err e) was now tried = (tried.0, tried.1, inr ([], tried.0, inl refl, tried.2, refl))

  -- and once it was brought to rest
  pub reads_mended : {E : Type 0} (file : List ℕ) (result : Result (Shelf D) E) (was one two now : List (DeskDeed D))
      → Did was one (Visits disks file Read) → Did one two (Visits disks file Change)
      → MatchResult result (λ archive. Opens disks file Read archive two now) (λ _. Did two now (Visits disks file Read))
      → MatchResult result (λ archive. OpensToRead disks file archive was now) (λ _. Did was now (ComesToNothing disks file))
  reads_mended file (Ok archive) was one two now tried mended opens = record {
    before = tried.0 ++ mended.0;
    mid = two;
    comes = inr (tried.0, mended.0, tried.2, mended.2, refl);
    came = more_deeds was one two tried.0 mended.0 tried.1 mended.1;
    opens = opens;
  }
  reads_mended file (Err e) was one two now tried mended again = (
    (tried.0 ++ mended.0) ++ again.0,
    more_deeds was two now (tried.0 ++ mended.0) again.0 (more_deeds was one two tried.0 mended.0 tried.1 mended.1) again.1,
    inr (tried.0 ++ mended.0, again.0, inr (tried.0, mended.0, tried.2, mended.2, refl), again.2, refl),
  )

  -- it was not brought to rest
  pub not_mended : (file : List ℕ) (was one two : List (DeskDeed D)) → Did was one (Visits disks file Read)
      → Did one two (Visits disks file Change) → Did was two (ComesToNothing disks file)
  not_mended file was one two tried mended = (
    tried.0 ++ mended.0,
    more_deeds was one two tried.0 mended.0 tried.1 mended.1,
    inl (tried.0, mended.0, tried.2, mended.2, refl),
  )

-- a tune that is shown is that of its number
shown_some : (number : ℕ) (there : Option Tune) (tune : Tune) → shown number there ≡ Ok (reply.Shown tune) → there ≡ Some tune
shown_some number None tune e = absurd cc
shown_some number (Some other) tune e = (let same : other ≡ tune = cc in ap Some same)

pub shown_is : (state : State) (number : ℕ) (tune : Tune) → (step state (Show number)).1 ≡ Ok (reply.Shown tune)
    → tune_at number state.tunes ≡ Some tune
shown_is state number tune e = shown_some number (tune_at number state.tunes) tune e

-- a store that was asked one question by one call
pub only_asked : {S : Type 0} (kept : Ghosts S) (old new : S) (command : Command) (answer : Result Reply Refusal) → asks command ≡ true
    → (kept.honest new → Answers (standing_of kept old) command answer (standing_of kept new))
    → StorePasses kept old new (passed (kept.state old) command answer)
    → (may_write command answer ≡ false → kept.honest new → kept.moment new ≡ kept.moment old) → asking.IsOnlyAsked kept old new
only_asked kept old new command answer is answers passes quiet = record {
  was_honest = passes.was_honest;
  same_state = λ h. asked_stays _ _ _ _ (answers h) is;
  same_moment = λ h. quiet (asked_quiet command answer is) h;
  stays_sound = passes.stays_sound;
  carried = λ h. record {
    carried = record { command = command; answer = answer; after = new } ∷ [];
    carries_out = (record { answers = answers h; passes = passes }, refl);
    questions = (is, tt);
  };
}

-- what an open store answered
pub answered_ok : (old new : Standing) (command : Command) (answer : Result Reply Refusal) → Answers old command answer new → old.closed ≡ false
    → IfOk answer (λ reply. (step old.state command).1 ≡ Ok reply)
answered_ok old new command (Ok reply) answers is_open = asked_answer old new command (Ok reply) answers is_open
answered_ok old new command (Err refusal) answers is_open = tt

pub answered_if : {S : Type 0} (old new : S) (kept : Ghosts S) (command : Command) (answer : Result Reply Refusal)
    → (kept.honest new → Answers (standing_of kept old) command answer (standing_of kept new))
    → IfOk answer (λ reply. kept.closed old ≡ false → kept.honest new → (step (kept.state old) command).1 ≡ Ok reply)
answered_if old new kept command (Ok reply) answers =
    λ is_open honest. answered_ok (standing_of kept old) (standing_of kept new) command (Ok reply) (answers honest) is_open
answered_if old new kept command (Err refusal) answers = tt
