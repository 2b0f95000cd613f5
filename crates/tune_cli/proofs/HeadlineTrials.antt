-- The headline against wrong programs, each by what it would leave behind: no timeline fits it.
use Rattle.std.proofs.Common.{◌≡◌, ◌≢◌, inl, inr, ℕ, zero, suc, ◌≤◌, true, List, [], ◌∷◌, ◌++◌, Ok, Err, sym, ap, ◌∙◌, subst, arith}
use Rattle.std.specs.Prelude.{Result, MatchResult, string_bytes, take, map, if◌then◌else◌, ◌&&◌}
use Rattle.std.proofs.lemmas.Bool.Decides.{leb_tells}
use Rattle.tune_disk.specs.Deeds.{Deed, opened, closed}
use Rattle.tune_disk.specs.declared.disk.DeviceFault.{DeviceFault}
use Rattle.tune_disk.specs.declared.disk.Disk as disk
use Rattle.tune_journal.specs.declared.open_fault.OpenFault.TheVariants.{Device}
use Rattle.tune_store.specs.State.{State, empty_of}
use Rattle.tune_store.specs.Answers.{stays_open}
use Rattle.tune_store.specs.declared.layout.Layout.TheVariants.{Two}
use Rattle.tune_format.specs.States.{Holds}
use Rattle.tune_format.proofs.StateLemmas.{state_once}
use Rattle.tune_archive.specs.Media.{moment_of, LeftAt}
use Rattle.tune_scripts.specs.Prefixes.{state_by, state_after}
use Rattle.tune_scripts.specs.Timelines.{Timed, Timeline, RisesTo, answered_by, answered_of, state_after_first}
use Rattle.tune_scripts.specs.Streams.{Streams}
use Rattle.tune_cli.specs.Acts.{Deeds}
use Rattle.tune_cli.specs.Headline.{File, HoldsThroughout, DoesOn, Headline}
use Rattle.tune_cli.specs.ProgramLines.{WritesLine, reason_bytes}
use Rattle.tune_cli.specs.declared.command_line.Action.TheVariants as action
use Rattle.tune_cli.specs.declared.file_actions.Done.{Done}

-- THE GATE BEFORE THE LOG'S SYNC
-- A stop in the work of a command leaves an open gate before a log that is not whole: a file that holds no state.
gate_before_log_sync : (file : File) (timeline : Timeline) (moment : ℕ) (left : List ℕ) → HoldsThroughout file timeline
    → timeline.began ≤ moment → LeftAt file.now moment left → ((state : State) → Holds left state → ⊥) → ⊥
gate_before_log_sync file timeline moment left h late at none =
    let opened = h.opened in
    elim (h.stops moment left (omega arith) at) [
      | inl first ↦ none (state_after_first first.count timeline) first.stands
      | inr early ↦ (let before = early.0 in omega (arith, before, late))
    ]

-- ANSWERS BEFORE THE WORK IS FINISHED
-- the state after the first commands of a run of one: that before it or that after it
one_state : (timeline : Timeline) (next : Timed) → timeline.run ≡ next ∷ [] → (count : ℕ) → 1 ≤ count
    → state_after_first count timeline ≡ state_by timeline.start next.command next.answer
one_state timeline next run zero some = absurd (omega (arith, some))
one_state timeline next run (suc zero) some = ap (λ r. state_after timeline.start (map answered_of (take 1 r))) run
one_state timeline next run (suc (suc count)) some = ap (λ r. state_after timeline.start (map answered_of (take (suc (suc count)) r))) run

one_answered : (next : Timed) (moment : ℕ) → next.moment ≤ moment → stays_open next.answer ≡ true → answered_by moment (next ∷ []) ≡ 1
one_answered next moment early go = elim (leb_tells next.moment moment) [
  | inl reached ↦ ap (λ b. if b && stays_open next.answer then 1 else 0) reached.0 ∙ ap (λ b. if b then 1 else 0) go
  | inr ahead ↦ (let late = ahead.1 in absurd (omega (arith, late, early)))
]

-- A command that changes the state was answered, and a stop since then, now or for a while, leaves the state before it.
answers_before_the_work_is_finished : (file : File) (timeline : Timeline) (next : Timed) (moment : ℕ) (left : List ℕ)
    → HoldsThroughout file timeline → timeline.run ≡ next ∷ [] → stays_open next.answer ≡ true
    → state_by timeline.start next.command next.answer ≢ timeline.start → next.moment ≤ moment → LeftAt file.now moment left
    → Holds left timeline.start → ⊥
answers_before_the_work_is_finished file timeline next moment left h run go other late at holds =
    let opened = h.opened in
    let rises = (subst (λ r. RisesTo timeline.began r (moment_of file.now)) run h.rises).0 in
    elim (h.stops moment left (omega arith) at) [
      | inl first ↦
          let count = ap (answered_by moment) run ∙ one_answered next moment late go in
          let least = first.least in
          let after = one_state timeline next run first.count (omega (arith, count, least)) in
          other (sym after ∙ state_once left (state_after_first first.count timeline) timeline.start first.stands holds)
      | inr early ↦ (let before = early.0 in omega (arith, before, late, rises))
    ]

-- TAKES ACKNOWLEDGED AWAY
-- What earlier runs were answered is in the state that FILE held. A stop in the work of a command leaves a state that has less: neither that one nor
-- the one after the command.
takes_acknowledged_away : (file : File) (timeline : Timeline) (next : Timed) (moment : ℕ) (left : List ℕ) (less : State)
    → HoldsThroughout file timeline → timeline.run ≡ next ∷ [] → less ≢ timeline.start
    → less ≢ state_by timeline.start next.command next.answer → timeline.began ≤ moment → LeftAt file.now moment left → Holds left less → ⊥
takes_acknowledged_away file timeline next moment left less h run not_before not_after late at holds =
    let opened = h.opened in
    elim (h.stops moment left (omega arith) at) [
      | inl first ↦ by_count first.count (state_once left (state_after_first first.count timeline) less first.stands holds)
      | inr early ↦ (let before = early.0 in omega (arith, before, late))
    ]
  where
    by_count : (count : ℕ) → state_after_first count timeline ≡ less → ⊥
    by_count zero same = not_before (sym same)
    by_count (suc count) same = not_after (sym same ∙ one_state timeline next run (suc count) (omega arith))

-- OPENS AN ARCHIVE AS AN EMPTY ONE
-- FILE holds a state that is not empty, and what is answered is answered of the empty one.
opens_an_archive_as_an_empty_one : (file : File) (timeline : Timeline) (state : State) → HoldsThroughout file timeline → Holds file.was.seen state
    → state ≢ empty_of Two → timeline.start ≡ empty_of Two → ⊥
opens_an_archive_as_an_empty_one file timeline state h holds other empty =
    other (state_once file.was.seen state timeline.start holds h.held ∙ empty)

-- RUNS ON ANOTHER PATH
same_front : {X : Type 0} (front a b : List X) → front ++ a ≡ front ++ b → a ≡ b
same_front [] a b same = same
same_front (x ∷ front) a b same = (let rest : front ++ a ≡ front ++ b = cc in same_front front a b rest)

-- The drive was asked for another file than FILE.
runs_on_another_path : {D : Type 0} (disks : disk.Ghosts D) (path : _) (other : List ℕ) (streams : Streams) (deeds : Deeds D) (status : ℕ)
    (answer : Result D DeviceFault) (more : List (Deed D)) → Headline disks (action.Run path) streams deeds status
    → deeds.now ≡ deeds.was ++ opened other answer ∷ more → other ≢ string_bytes path → ⊥
runs_on_another_path {D} disks path other streams deeds status answer more h asked apart = given h.0 h.1
  where
    not_same : (rest : List (Deed D)) (one : Result D DeviceFault) → deeds.now ≡ deeds.was ++ opened (string_bytes path) one ∷ rest → ⊥
    not_same rest one was =
        let same = same_front deeds.was (opened other answer ∷ more) (opened (string_bytes path) one ∷ rest) (sym asked ∙ was) in
        apart cc

    given : (one : Result D DeviceFault) → MatchResult one
        (λ old. (done : Done D) × deeds.IsNew old × DoesOn disks (action.Run path) streams old done × (status ≡ done.status)
        × (deeds.now ≡ deeds.was ++ opened (string_bytes path) one ∷ closed (string_bytes path) done.disk ∷ []))
        (λ _. WritesLine streams (reason_bytes Device) 1 status × (deeds.now ≡ deeds.was ++ opened (string_bytes path) one ∷ []))
        → ⊥
    given (Ok old) was = not_same _ (Ok old) was.4
    given (Err fault) was = not_same _ (Err fault) was.1
