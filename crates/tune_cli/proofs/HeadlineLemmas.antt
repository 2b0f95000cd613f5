-- That the headline follows from what the actions on a file promise.
use Rattle.std.proofs.Common.{◌≡◌, ◌⊎◌, inl, inr, ℕ, ◌≤◌, false, List, [], ◌∷◌, ◌++◌, Some, Ok, Err, refl, sym, subst, arith}
use Rattle.std.specs.Prelude.{Result, MatchResult}
use Rattle.std.proofs.lemmas.Bool.Decides.{leb_tells}
use Rattle.tune_disk.specs.Deeds.{Deed, closed}
use Rattle.tune_disk.specs.Disk.{DiskState, MayLeave}
use Rattle.tune_disk.specs.Stops.{SinceThen}
use Rattle.tune_disk.specs.declared.disk.DeviceFault.{DeviceFault}
use Rattle.tune_disk.specs.declared.disk.Disk as disk
use Rattle.tune_journal.specs.Image.{StandsFor}
use Rattle.tune_journal.specs.Moments.{LeftOrSame}
use Rattle.tune_journal.specs.declared.open_fault.OpenFault.{OpenFault}
use Rattle.tune_journal.specs.declared.open_fault.OpenFault.TheVariants as fault
use Rattle.tune_journal.specs.declared.open_fault.OpenFault.TheVariants.{Device}
use Rattle.tune_journal.proofs.Above.{stands_once}
use Rattle.tune_pages.specs.Kept.{HonestAt, state_at}
use Rattle.tune_pages.specs.OpenedPages.{IsUnmadePagesFor}
use Rattle.tune_store.specs.Runs.{Answered}
use Rattle.tune_store.specs.State.{State, empty_of, empty_state}
use Rattle.tune_store.specs.declared.tune_store.TuneStore.{Ghosts}
use Rattle.tune_store.specs.declared.layout.Layout.TheVariants.{Two}
use Rattle.tune_format.specs.States.{Holds, IsStateOf}
use Rattle.tune_format.proofs.StateLemmas.{state_once}
use Rattle.tune_archive.specs.AsStore.{store_on}
use Rattle.tune_archive.proofs.Media.{left_now, left_then, left_before}
use Rattle.tune_archive.specs.Media.{moment_of, LeftAt}
use Rattle.tune_archive.specs.OpenedArchive.{IsUnopenedArchiveFor, StandsForNoneOrEmpty}
use Rattle.tune_archive.specs.Shelf.{Shelf, state_of}
use Rattle.tune_archive.proofs.DiskMoments.{left_of_kind, moment_rises}
use Rattle.tune_scripts.specs.Carried.{Carried, CarriesAllOut, LeftByRun, run_of, timed_of, timeline_of}
use Rattle.tune_scripts.specs.Timelines.{Timeline, RisesTo, AreAnswered, StandsForFirst}
use Rattle.tune_scripts.specs.Limits.{most_lines}
use Rattle.tune_scripts.specs.Prefixes.{FailsLast}
use Rattle.tune_scripts.specs.Looks.{TellsFaults}
use Rattle.tune_scripts.specs.ScriptRuns.{EndsAfter, TellsScript, work_by}
use Rattle.tune_scripts.specs.declared.script_runs.RunEnd.{RunEnd}
use Rattle.tune_scripts.specs.Streams.{Streams}
use Rattle.tune_scripts.proofs.CarriedLemmas.{ends_by_last, passes_all}
use Rattle.tune_scripts.proofs.TimelineLemmas.{are_answered, answers_timed, rises_run, none_before, none_then, one_fails_last}
use Rattle.tune_scripts.proofs.TimelineLemmas.{left_by_run}
use Rattle.tune_cli.specs.Acts.{Deeds, OnFile}
use Rattle.tune_cli.specs.FileActs.{Makes as MakesOn, Checks, RunsOn, UpgradesOrNot, HasNotOpened, HasChecked, HasRun, HasUpgraded}
use Rattle.tune_cli.specs.FileActs.{HasMade, HasNotMade}
use Rattle.tune_cli.specs.Headline.{File, HoldsThroughout, IsDone, IsRefused, DoesOn}
use Rattle.tune_cli.specs.Headline.{IsMade, IsNotMade, RunsInMemory}
use Rattle.tune_cli.specs.ProgramLines.{WritesLine, reason_bytes, status_of}
use Rattle.tune_cli.specs.declared.command_line.Action.TheVariants as action
use Rattle.tune_cli.specs.declared.file_actions.Done.{Done}

-- WHAT AN OPENING LEAVES
-- each file that a stop leaves since then is of the kind
pub since_each : (old new : DiskState) (P : List ℕ → Type 0) → SinceThen old new P → (moment : ℕ) (left : List ℕ) → moment_of old ≤ moment
    → LeftAt new moment left → P left
since_each old new P since moment left late at = left_of_kind old new P since left (left_then new moment (moment_of old) left late at)

-- a file of the same pages as another holds its states
same_holds : (seen left : List ℕ) (pages : List (List ℕ)) (state : State) → StandsFor pages seen → StandsFor pages left → Holds seen state
    → Holds left state
same_holds seen left pages state stood stands holds = record {
  pages = pages;
  stands = stands;
  is = subst (λ p. IsStateOf p state) (stands_once holds.pages pages seen holds.stands stood) holds.is;
}

as_before : (old : DiskState) (left : List ℕ) (state : State) → LeftOrSame old left → Holds old.seen state
    → MayLeave old.now left ⊎ Holds left state
as_before old left state (inl may) holds = inl may
as_before old left state (inr same) holds = inr (same_holds old.seen left same.0 state same.1 same.2 holds)

-- the same, of each state
pub as_before_each : (old : DiskState) (left : List ℕ) → LeftOrSame old left
    → MayLeave old.now left ⊎ ((state : State) → Holds old.seen state → Holds left state)
as_before_each old left (inl may) = inl may
as_before_each old left (inr same) = inr (λ state holds. same_holds old.seen left same.0 state same.1 same.2 holds)

-- A FILE THAT IS NOT OPENED
cause_of : (why : OpenFault) (old new : DiskState) (state : State) → IsUnopenedArchiveFor why old new → Holds old.seen state
    → (why ≡ fault.OutOfMemory) ⊎ (why ≡ fault.Device)
cause_of fault.NotArchive old new state refused holds =
    let long = holds.stands.headed.long in absurd (refused.1 (omega (arith, long)) holds.stands.headed.magic)
cause_of fault.Damaged old new state refused holds = absurd (refused.stateless state holds)
cause_of fault.NotEmpty old new state refused holds = absurd refused
cause_of fault.OutOfMemory old new state refused holds = inl refl
cause_of fault.Device old new state refused holds = inr refl

module _ {D : Type 0} (disks : disk.Ghosts D) where
  -- a disk before an action and after it
  abbrev file_on : D → D → File
  file_on old new = record { was = disks.state old; now = disks.state new }

  has_refused : (streams : Streams) (old : D) (done : Done D) → HasNotOpened disks streams old done → disks.honest done.disk
      → IsRefused streams (file_on old done.disk) done.status
  has_refused streams old done h honest = record {
    why = h.why;
    line = h.line;
    cause = λ state holds. cause_of h.why (disks.state old) (disks.state done.disk) state (h.refused honest) holds;
    unwritten = λ is. (subst (λ why. IsUnopenedArchiveFor why (disks.state old) (disks.state done.disk)) is (h.refused honest)).0.seen;
    stops = λ moment left late at.
        as_before_each (disks.state old) left (since_each (disks.state old) (disks.state done.disk) _ (h.leaves honest) moment left late at);
  }

  -- AN ARCHIVE THAT IS OPENED
  -- what is left since an archive was opened is left of a store
  settled_on : (store : Shelf D) (file : List ℕ) → (store_on disks).sound store → (store_on disks).honest store
      → (store_on disks).closed store ≡ false → (store_on disks).left_since store ((store_on disks).moment store) file
      → (store_on disks).stands_for file ((store_on disks).state store)
  settled_on store file sound honest is_open left = sound.rest honest is_open file (left_now (state_at disks.state store.pages.disk) file left)

  pub left_on : (carried : List (Carried (Shelf D))) (old new : Shelf D) → CarriesAllOut (store_on disks) old carried new → FailsLast (run_of carried)
      → (store_on disks).honest new → (store_on disks).sound old → (store_on disks).closed old ≡ false
      → LeftByRun (store_on disks) old carried new
  left_on carried old new h fails honest sound is_open =
      left_by_run (store_on disks) settled_on (λ store at since file le left. left_then (state_at disks.state store.pages.disk) at since file le left)
      carried old new h fails honest (λ since earlier file le left. left_before (state_at disks.state new.pages.disk) since earlier file le left) sound
      is_open

  -- an archive that was opened, and commands that it carried out then
  keeps_run : (carried : List (Carried (Shelf D))) (before after : Shelf D) (old new : D) → CarriesAllOut (store_on disks) before carried after
      → FailsLast (run_of carried) → LeftByRun (store_on disks) before carried after → Holds (disks.state old).seen (state_of disks.state before)
      → SinceThen (disks.state old) (state_at disks.state before.pages.disk) (LeftOrSame (disks.state old)) → before.closed ≡ false
      → after.pages.disk ≡ Some new → disks.honest new → HoldsThroughout (file_on old new) (timeline_of (store_on disks) before carried)
  keeps_run carried before after old new carries_out fails stops opened opening is_open held honest =
      let kept = store_on disks in
      let at_end = subst (HonestAt disks.honest) (sym held) honest in
      let began = moment_of (state_at disks.state before.pages.disk) in
      record {
        held = opened;
        opened = moment_rises (disks.state old) (state_at disks.state before.pages.disk) _ opening;
        rises = subst (λ at. RisesTo began (timed_of kept carried) (moment_of (state_at disks.state at))) held
            (rises_run kept carried before after carries_out at_end);
        answered = are_answered kept carried before after carries_out fails is_open;
        stops = λ moment left late at.
            let there = subst (λ at. LeftAt (state_at disks.state at) moment left) (sym held) at in
            elim (leb_tells began moment) [
              | inl reached ↦ inl (stops.at_each_moment moment left reached.1 there)
              | inr ahead ↦
                  let early = ahead.1 in
                  let earlier = (passes_all kept carried before after carries_out).recalls at_end moment left (omega arith) there in
                  let kind = since_each (disks.state old) (state_at disks.state before.pages.disk) _ opening moment left late earlier in
                  let none = none_before kept carried before after moment carries_out at_end early in
                  elim (as_before (disks.state old) left (state_of disks.state before) kind opened) [
                    | inl may ↦ inr (early, may)
                    | inr holds ↦ inl (record {
                      count = 0;
                      least = omega (arith, none);
                      most = omega arith;
                      between = λ is. elim is [
                        | inl here ↦ absurd (omega (arith, here, early))
                        | inr there ↦ absurd (none_then kept carried before after moment carries_out at_end early there)
                      ];
                      stands = holds;
                    })
                  ]
            ];
      }

  -- RUN
  done_run : (path : _) (streams : Streams) (old : D) (done : Done D) → HasRun disks streams old done → disks.honest done.disk
      → IsDone (action.Run path) streams (file_on old done.disk) done.status
  done_run path streams old done h honest =
      let ran = h.ran honest in
      let kept = store_on disks in
      let carried = ran.runs.carried in
      let Tells : List Answered → Type 0 = λ run. TellsScript most_lines streams.input.was.left streams.input.now.left
      (work_by streams.output.was.bytes streams.output.now.bytes run) h.end in
      record {
        timeline = timeline_of kept ran.before carried;
        holds = keeps_run carried ran.before ran.after old done.disk ran.runs.carries_out (ends_by_last h.end (run_of carried) ran.runs.ends) ran.stops
            ran.opened ran.opening ran.is_open ran.held honest;
        says = (h.end, h.ends, h.faults, subst Tells (sym (answers_timed kept carried)) ran.runs.script);
      }

  pub runs_done : (path : _) (streams : Streams) (old : D) (done : Done D) → RunsOn disks streams old done
      → DoesOn disks (action.Run path) streams old done
  runs_done path streams old done (inl run) = λ honest. inl (done_run path streams old done run honest)
  runs_done path streams old done (inr not) = λ honest. inr (has_refused streams old done not honest)

  -- UPGRADE
  done_upgrade : (path : _) (streams : Streams) (old : D) (done : Done D) → HasUpgraded disks streams old done → disks.honest done.disk
      → IsDone (action.Upgrade path) streams (file_on old done.disk) done.status
  done_upgrade path streams old done h honest =
      let one = h.upgraded honest in
      let kept = store_on disks in
      record {
        timeline = timeline_of kept one.before (one.carried ∷ []);
        holds = keeps_run (one.carried ∷ []) one.before one.carried.after old done.disk (one.carries_out, refl) (one_fails_last _) one.stops
            one.opened one.opening one.is_open one.held honest;
        says = (_, refl, one.asked, one.line);
      }

  pub upgrades_done : (path : _) (streams : Streams) (old : D) (done : Done D) → UpgradesOrNot disks streams old done
      → DoesOn disks (action.Upgrade path) streams old done
  upgrades_done path streams old done (inl upgraded) = λ honest. inl (done_upgrade path streams old done upgraded honest)
  upgrades_done path streams old done (inr not) = λ honest. inr (has_refused streams old done not honest)

  -- CHECK
  done_check : (path : _) (streams : Streams) (old : D) (done : Done D) → HasChecked disks streams old done → disks.honest done.disk
      → IsDone (action.Check path) streams (file_on old done.disk) done.status
  done_check path streams old done h honest =
      let was = disks.state old in
      let now = disks.state done.disk in
      let tells = h.tells honest in
      let timeline : Timeline = record { start = tells.held; began = moment_of now; run = [] } in
      let first : (moment : ℕ) (left : List ℕ) → Holds left tells.held → StandsForFirst Holds timeline moment left =
      λ moment left holds. record { count = 0; least = omega arith; most = omega arith; between = λ is. refl; stands = holds } in
      record {
        timeline = timeline;
        holds = record {
          held = tells.stands;
          opened = moment_rises was now _ (h.leaves honest);
          rises = omega arith;
          answered = tt;
          stops = λ moment left late at. elim (leb_tells (moment_of now) moment) [
            | inl reached ↦ inl (first moment left (tells.rest left (left_now now left (left_then now moment (moment_of now) left reached.1 at))))
            | inr ahead ↦ elim (as_before was left tells.held (since_each was now _ (h.leaves honest) moment left late at) tells.stands) [
              | inl may ↦ inr (ahead.1, may)
              | inr holds ↦ inl (first moment left holds)
            ]
          ];
        };
        says = (refl, tells.line);
      }

  pub checks_done : (path : _) (streams : Streams) (old : D) (done : Done D) → Checks disks streams old done
      → DoesOn disks (action.Check path) streams old done
  checks_done path streams old done (inl checked) = λ honest. inl (done_check path streams old done checked honest)
  checks_done path streams old done (inr not) = λ honest. inr (has_refused streams old done not honest)

  -- MAKE
  is_empty : (left : List ℕ) (state : State) → StandsForNoneOrEmpty left → Holds left state → state ≡ empty_of Two
  is_empty left state (inl none) holds = absurd (none holds.pages holds.stands)
  is_empty left state (inr empty) holds = state_once left state (empty_of Two) holds empty

  pub makes_done : (path : _) (streams : Streams) (old : D) (done : Done D) → MakesOn disks streams old done
      → DoesOn disks (action.Make path) streams old done
  makes_done path streams old done h = λ honest. (
    made h.made honest,
    λ none moment left late at state holds.
        is_empty left state (since_each (disks.state old) (disks.state done.disk) _ (h.moments honest none) moment left late at) holds,
  )
    where
      made : HasMade disks streams old done ⊎ HasNotMade disks streams old done → disks.honest done.disk
          → IsMade streams (file_on old done.disk) done.status ⊎ IsNotMade streams (file_on old done.disk) done.status
      made (inl is) honest = inl (record { line = is.line; empty = is.empty honest; holds = is.rest honest })
      made (inr not) honest = inr (record {
        why = not.why;
        line = not.line;
        unwritten = λ is. (subst (λ why. IsUnmadePagesFor why (disks.state old) (disks.state done.disk)) is (not.refused honest)).0.seen;
      })

-- MEMORY
pub runs_in_memory : {S : Type 0} (s : Ghosts S) (streams : Streams) (carried : List (Carried S)) (old new : S) (end : RunEnd) (status : ℕ)
    → CarriesAllOut s old carried new → EndsAfter end (run_of carried) → s.closed old ≡ false → s.state old ≡ empty_state → status ≡ status_of end
    → TellsFaults streams (Some end) → TellsScript most_lines streams.input.was.left streams.input.now.left
    (work_by streams.output.was.bytes streams.output.now.bytes (run_of carried)) end → RunsInMemory streams status
runs_in_memory s streams carried old new end status h ends is_open empty is faults tells =
    let Tells : List Answered → Type 0 = λ run. TellsScript most_lines streams.input.was.left streams.input.now.left
    (work_by streams.output.was.bytes streams.output.now.bytes run) end in
    let Answers : State → Type 0 = λ start. AreAnswered start (timed_of s carried) in
    record {
      timeline = record { start = empty_state; began = 0; run = timed_of s carried };
      starts = refl;
      answered = subst Answers empty (are_answered s carried old new h (ends_by_last end (run_of carried) ends) is_open);
      says = (end, is, faults, subst Tells (sym (answers_timed s carried)) tells);
    }

-- THE DRIVE
-- what is done with a disk that a drive gave
pub on_file : {D : Type 0} (asking : List ℕ → Result D DeviceFault → Deed D) (path : List ℕ) (Did More : D → Done D → Type 0) (streams : Streams)
    (deeds : Deeds D) (status : ℕ) → ((old : D) (done : Done D) → Did old done → More old done)
    → OnFile asking path Did streams deeds status → OnFile asking path More streams deeds status
on_file {D} asking path Did More streams deeds status more on = (on.0, given on.0 on.1)
  where
    given : (answer : Result D DeviceFault)
        → MatchResult answer
        (λ old. (done : Done D) × deeds.IsNew old × Did old done × (status ≡ done.status)
        × (deeds.now ≡ deeds.was ++ asking path answer ∷ closed path done.disk ∷ []))
        (λ _. WritesLine streams (reason_bytes Device) 1 status × (deeds.now ≡ deeds.was ++ asking path answer ∷ []))
        → MatchResult answer
        (λ old. (done : Done D) × deeds.IsNew old × More old done × (status ≡ done.status)
        × (deeds.now ≡ deeds.was ++ asking path answer ∷ closed path done.disk ∷ []))
        (λ _. WritesLine streams (reason_bytes Device) 1 status × (deeds.now ≡ deeds.was ++ asking path answer ∷ []))
    given (Ok old) was = (was.0, was.1, more old was.0 was.2, was.3, was.4)
    given (Err fault) was = was
