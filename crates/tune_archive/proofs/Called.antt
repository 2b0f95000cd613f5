-- How a call of an archive in a file ends: what it answers, and which states it passes.
use Rattle.std.proofs.Common.{◌≡◌, ◌⊎◌, inl, inr, ℕ, List, [], ◌∷◌, Bool, false, true, not, refl, sym, ◌∙◌, ap, subst, ◌≢◌}
use Rattle.std.proofs.Common.{Option, None, Some, Result, Ok, Err}
use Rattle.tune_disk.specs.Disk.{DiskState}
use Rattle.tune_disk.specs.Stops.{LeavesOnly, SinceThen}
use Rattle.tune_disk.proofs.Moments.{since_weaker}
use Rattle.tune_pages.specs.Kept.{HonestAt, state_at}
use Rattle.tune_format.specs.States.{Holds, state_in}
use Rattle.tune_store.specs.State.{State, IsState}
use Rattle.tune_store.specs.Step.{step}
use Rattle.tune_store.specs.TuneSteps.{Outcome}
use Rattle.tune_store.specs.Plans.{changed, after, Decides, EndsFetch}
use Rattle.tune_store.specs.Answers.{Answers, open_at, closed_at, stepped, no_memory, failed_before, failed_after, is_closed, passed}
use Rattle.tune_store.specs.Answers.{asks, may_write}
use Rattle.tune_store.specs.StoreStops.{Passes, StandsForOne}
use Rattle.tune_store.specs.declared.plans.Change.{Change}
use Rattle.tune_store.specs.declared.plans.Plan.{Plan}
use Rattle.tune_store.specs.declared.command.Command.{Command}
use Rattle.tune_store.specs.declared.command.Reply.{Reply}
use Rattle.tune_store.specs.declared.command.Refusal.{Refusal}
use Rattle.tune_store.specs.declared.command.Refusal.TheVariants.{OutOfMemory, Device, Closed}
use Rattle.tune_store.proofs.StepLemmas.{answers_reach}
use Rattle.tune_store.proofs.ListLemmas.{list_refused, answers_within}
use Rattle.tune_store.proofs.LimitLemmas.{step_keeps_limits}
use Rattle.tune_archive.specs.Media.{moment_of, LeftAt, LeftFrom}
use Rattle.tune_archive.specs.Shelf.{Shelf, state_of, IsSound, StandsForOneOf}
use Rattle.tune_archive.specs.Inside.Changing.{MakesChange}
use Rattle.tune_archive.specs.Inside.Fetching.{KnowsState, Fetches, FailsFetch}
use Rattle.tune_archive.specs.Inside.Holding.{IsShelf}
use Rattle.tune_archive.proofs.FetchLemmas.{labels_held}
use Rattle.tune_archive.proofs.DiskMoments.{passes_on_disk}
use Rattle.tune_archive.proofs.MadeChanges.{disks_of}

-- ANSWERS
-- a closed store answers so
pub answers_closed : (state : State) (closed : Bool) (command : Command) → closed ≡ true
    → Answers (record { state = state; closed = closed }) command (Err Closed) (record { state = state; closed = closed })
answers_closed state true command e = is_closed state command
answers_closed state false command e = cc

-- an answer of a store that was open, and is
stays : (old new : State) (was is : Bool) (command : Command) (answer : Result Reply Refusal) → was ≡ false → is ≡ false
    → Answers (open_at old) command answer (open_at new)
    → Answers (record { state = old; closed = was }) command answer (record { state = new; closed = is })
stays old new false false command answer e f answers = answers
stays old new true is command answer e f answers = cc
stays old new false true command answer e f answers = cc

-- one of a store that was open, and is closed
closes : (old new : State) (was is : Bool) (command : Command) (answer : Result Reply Refusal) → was ≡ false → is ≡ true
    → Answers (open_at old) command answer (closed_at new)
    → Answers (record { state = old; closed = was }) command answer (record { state = new; closed = is })
closes old new false true command answer e f answers = answers
closes old new true is command answer e f answers = cc
closes old new false false command answer e f answers = cc

-- the device failed, and the command took place or did not
pub failed : (old new : State) (was is : Bool) (command : Command) → was ≡ false → is ≡ true → (new ≡ old) ⊎ (new ≡ (step old command).0)
    → Answers (record { state = old; closed = was }) command (Err Device) (record { state = new; closed = is })
failed old new was is command e f (inl same) =
    closes old new was is command (Err Device) e f
    (subst (λ state. Answers (open_at old) command (Err Device) (closed_at state)) (sym same) (failed_before old command))
failed old new was is command e f (inr done) =
    closes old new was is command (Err Device) e f
    (subst (λ state. Answers (open_at old) command (Err Device) (closed_at state)) (sym done) (failed_after old command))

-- there was no memory for a change
spared : (old new : State) (command : Command) (why : Refusal) → why ≡ OutOfMemory → new ≡ old → Answers (open_at old) command (Err why) (open_at new)
spared old new command why memory same = rw (memory, same) (no_memory old command)

-- WRITES
-- a command that asks for a change is no question
pub no_question : (asks : Bool) (asked : Option Change) (change : Change) → (asks ≡ true → asked ≡ None) → asked ≡ Some change → asks ≡ false
no_question true asked change none some = (let other = none refl in cc)
no_question false asked change none some = refl

-- it may have written where the device failed
may_fail : (command : Command) (why : Refusal) → asks command ≡ false → why ≡ Device → may_write command (Err why) ≡ true
may_fail command why changes failed = rw (failed, changes) refl

-- AN ARCHIVE
module _ {D : Type 0} (honest : D → Type 0) (failures : D → ℕ) (state : D → DiskState) where
  -- what always holds of an archive
  abbrev pub KeepsShelf : Shelf D → Type 0
  KeepsShelf archive = IsShelf honest state archive.pages archive.contents archive.closed

  -- a stop now leaves the state of an open archive
  pub at_rest : (archive : Shelf D) → KeepsShelf archive → HonestAt honest archive.pages.disk → archive.closed ≡ false
      → LeavesOnly (state_at state archive.pages.disk).now (λ file. Holds file (state_of state archive))
  at_rest archive holds h is_open = λ file may. (let held = holds.holds h is_open in
      record {
        pages = archive.pages.pages;
        stands = held.rest file may;
        is = record { filed = held.holds.filed; within = held.within; few = held.few };
      })

  -- what an open archive knows in memory is that of its state
  pub tells : (archive : Shelf D) → KeepsShelf archive → archive.closed ≡ false → HonestAt honest archive.pages.disk → KnowsState honest state archive
  tells archive holds is_open h = (let held = holds.holds h is_open in
      record { was_honest = h; labels = labels_held _ archive.contents _ held.holds; layout = held.holds.layout; sets = held.holds.sets })

  pub within : (archive : Shelf D) → KeepsShelf archive → archive.closed ≡ false → HonestAt honest archive.pages.disk → IsState (state_of state archive)
  within archive holds is_open h = (holds.holds h is_open).within

  -- A call was answered, and the disk is as it was; or the call may write, and a stop since then leaves states that it passed.
  pub record Ended (old new : Shelf D) (command : Command) (answer : Result Reply Refusal) : Type 0 where
    pub was_honest : HonestAt honest new.pages.disk → HonestAt honest old.pages.disk
    pub answers : HonestAt honest new.pages.disk
        → Answers (record { state = state_of state old; closed = old.closed }) command answer (record { state = state_of state new; closed = new.closed })
    pub moves : HonestAt honest new.pages.disk → (state_at state new.pages.disk ≡ state_at state old.pages.disk)
        ⊎ ((may_write command answer ≡ true) × ((step (state_of state old) command).0 ≢ state_of state old)
        × SinceThen (state_at state old.pages.disk) (state_at state new.pages.disk)
        (StandsForOne Holds (state_of state old ∷ passed (state_of state old) command answer)))

  -- what may not have written left the disk at its moment
  pub stays_at : (old new : Shelf D) (command : Command) (answer : Result Reply Refusal) → Ended old new command answer
      → may_write command answer ≡ false → HonestAt honest new.pages.disk
      → moment_of (state_at state new.pages.disk) ≡ moment_of (state_at state old.pages.disk)
  stays_at old new command answer ended quiet h = elim (ended.moves h) [
    | inl same ↦ ap moment_of same
    | inr wrote ↦ (let may = wrote.0 in cc)
  ]

  -- nor did a command that leaves the state as it is move it
  pub stays_where : (old new : Shelf D) (command : Command) (answer : Result Reply Refusal) → Ended old new command answer
      → (step (state_of state old) command).0 ≡ state_of state old → HonestAt honest new.pages.disk
      → moment_of (state_at state new.pages.disk) ≡ moment_of (state_at state old.pages.disk)
  stays_where old new command answer ended same h = elim (ended.moves h) [
    | inl stays ↦ ap moment_of stays
    | inr wrote ↦ absurd (wrote.1 same)
  ]

  -- it passes the states of its answer
  pub passes : (old new : Shelf D) (command : Command) (answer : Result Reply Refusal) → Ended old new command answer → KeepsShelf new
      → Passes {S = Shelf D}
      (record {
        honest = λ archive. HonestAt honest archive.pages.disk;
        sound = IsSound honest state;
        state = state_of state;
        moment = λ archive. moment_of (state_at state archive.pages.disk);
        left_at = λ archive. LeftAt (state_at state archive.pages.disk);
        left_since = λ archive. LeftFrom (state_at state archive.pages.disk);
        stands_for = Holds;
      }) old new
      (passed (state_of state old) command answer)
  passes old new command answer ended holds =
      passes_on_disk _ _ _ _ _ _ _ _ _ (λ h. answers_reach _ _ _ _ (ended.answers h)) ended.was_honest
      (λ sound. record {
        within = λ h. answers_within _ _ _ _ (ended.answers h) (sound.within (ended.was_honest h));
        rest = at_rest new holds;
      })
      (λ h. elim (ended.moves h) [ inl same ↦ inl same | inr wrote ↦ inr wrote.2 ]) (λ sound h file stands. stands)

  -- a call on a closed archive
  pub ended_closed : (archive : Shelf D) (command : Command) → archive.closed ≡ true → Ended archive archive command (Err Closed)
  ended_closed archive command e = record {
    was_honest = λ h. h;
    answers = λ h. answers_closed (state_of state archive) archive.closed command e;
    moves = λ h. inl refl;
  }

  -- a command that was refused as it was decided
  pub ended_refused : (old new : Shelf D) (command : Command) (why : Refusal) → KeepsShelf old → KeepsShelf new → old.closed ≡ false
      → (KnowsState honest state new → IsState (state_of state old) → Decides (state_of state old) command (Err why))
      → EndsFetch (Fetches honest failures state) (FailsFetch honest failures state) old why new → Ended old new command (Err why)
  ended_refused old new command why was is e decides (inl ends) =
      let fetches = ends.1 in
      let f : new.closed ≡ false = fetches.closed ∙ e in
      record {
        was_honest = fetches.was_honest;
        answers = λ h.
            (let same : state_of state new ≡ state_of state old = ap (λ disk. state_in disk.seen) (fetches.same_state h) in
            let decided = decides (tells new is f h) (within old was e (fetches.was_honest h)) in
            stays _ _ old.closed new.closed command (Err why) e f
            (list_refused (state_of state old) (state_of state new) command why decided (inl (ends.0, same))));
        moves = λ h. inl (fetches.same_state h);
      }
  ended_refused old new command why was is e decides (inr ends) =
      let fails = ends.1 in
      record {
        was_honest = fails.was_honest;
        answers = λ h.
            (let same : state_of state new ≡ state_of state old = ap (λ disk. state_in disk.seen) (fails.same_state h) in
            subst (λ one. Answers (record { state = state_of state old; closed = old.closed }) command (Err one)
            (record { state = state_of state new; closed = new.closed })) (sym ends.0) (failed _ _ old.closed new.closed command e fails.closed (inl same)));
        moves = λ h. inl (fails.same_state h);
      }

  -- what was decided, of an archive from which texts were read
  pub decided : (old mid : Shelf D) (command : Command) (plan : Plan) → KeepsShelf old → KeepsShelf mid → old.closed ≡ false
      → Fetches honest failures state old mid
      → (KnowsState honest state mid → IsState (state_of state old) → Decides (state_of state old) command (Ok plan)) → HonestAt honest mid.pages.disk
      → step (state_of state old) command ≡ (after plan.change (state_of state old), Ok plan.reply)
  decided old mid command plan was is e fetches decides h =
      decides (tells mid is (fetches.closed ∙ e) h) (within old was e (fetches.was_honest h))

  -- a question that was answered
  -- a change that was decided alters the state
  pub alters : (old mid : Shelf D) (command : Command) (asked : Option Change) (change : Change) → KeepsShelf old → KeepsShelf mid → old.closed ≡ false
      → Fetches honest failures state old mid
      → (KnowsState honest state mid → IsState (state_of state old) → (step (state_of state old) command).0 ≡ state_of state old → asked ≡ None)
      → asked ≡ Some change → HonestAt honest mid.pages.disk → (step (state_of state old) command).0 ≢ state_of state old
  alters old mid command asked change was is e fetches none some h same =
      (let told = tells mid is (fetches.closed ∙ e) h in
      let both : None ≡ Some change = sym (none told (within old was e (fetches.was_honest h)) same) ∙ some in cc)

  pub ended_answered : (old new : Shelf D) (command : Command) (reply : Reply) → old.closed ≡ false → Fetches honest failures state old new
      → (HonestAt honest new.pages.disk → step (state_of state old) command ≡ (state_of state old, Ok reply)) → Ended old new command (Ok reply)
  ended_answered old new command reply e fetches steps = record {
    was_honest = fetches.was_honest;
    answers = λ h.
        (let same : state_of state new ≡ state_of state old = ap (λ disk. state_in disk.seen) (fetches.same_state h) in
        stays _ _ old.closed new.closed command (Ok reply) e (fetches.closed ∙ e)
        (stepped (state_of state old) (state_of state new) command (Ok reply) (rw same (steps h))));
    moves = λ h. inl (fetches.same_state h);
  }

  -- A CHANGE
  -- a change that is asked for keeps the limits
  pub stays_within : (old mid : Shelf D) (command : Command) (change : Change) (reply : Reply) → KeepsShelf old → old.closed ≡ false
      → Fetches honest failures state old mid
      → (HonestAt honest mid.pages.disk → step (state_of state old) command ≡ (changed change (state_of state old), Ok reply))
      → HonestAt honest mid.pages.disk → IsState (changed change (state_of state mid))
  stays_within old mid command change reply was e fetches steps h =
      let same : state_of state mid ≡ state_of state old = ap (λ disk. state_in disk.seen) (fetches.same_state h) in
      let next : (step (state_of state old) command).0 ≡ changed change (state_of state mid) =
      ap (λ (o : Outcome). o.0) (steps h) ∙ ap (changed change) (sym same) in
      subst IsState next (step_keeps_limits _ command (within old was e (fetches.was_honest h)))

  -- how the disk goes on, where the states that it passed are those before and after it
  moved : (old mid new : Shelf D) (command : Command) (change : Change) (reply : Reply) → Fetches honest failures state old mid
      → step (state_of state old) command ≡ (changed change (state_of state old), Ok reply) → HonestAt honest mid.pages.disk
      → SinceThen (state_at state mid.pages.disk) (state_at state new.pages.disk) (StandsForOneOf (state_of state mid) (changed change (state_of state mid)))
      → SinceThen (state_at state old.pages.disk) (state_at state new.pages.disk)
      (StandsForOne Holds (state_of state old ∷ (step (state_of state old) command).0 ∷ []))
  moved old mid new command change reply fetches steps h since =
      let disk = fetches.same_state h in
      let same : state_of state mid ≡ state_of state old = ap (λ disk. state_in disk.seen) disk in
      let next : changed change (state_of state mid) ≡ (step (state_of state old) command).0 =
      ap (changed change) same ∙ sym (ap (λ (o : Outcome). o.0) steps) in
      let P : List ℕ → Type 0 = StandsForOneOf (state_of state mid) (changed change (state_of state mid)) in
      let Q : List ℕ → Type 0 = StandsForOne Holds (state_of state old ∷ (step (state_of state old) command).0 ∷ []) in
      let weaker : (file : List ℕ) → P file → Q file = λ file stands. elim stands [
        | inl before ↦ inl (subst (Holds file) same before)
        | inr behind ↦ inr (inl (subst (Holds file) next behind))
      ] in
      subst (λ from. SinceThen from (state_at state new.pages.disk) Q) disk
      (since_weaker P Q weaker (state_at state mid.pages.disk) (state_at state new.pages.disk) since)

  -- a change that was made
  pub ended_changed : (old mid new : Shelf D) (command : Command) (change : Change) (reply : Reply) → old.closed ≡ false
      → asks command ≡ false → (HonestAt honest mid.pages.disk → (step (state_of state old) command).0 ≢ state_of state old)
      → Fetches honest failures state old mid
      → (HonestAt honest mid.pages.disk → step (state_of state old) command ≡ (changed change (state_of state old), Ok reply))
      → MakesChange (disks_of honest failures state) (Ok tt) mid new change → Ended old new command (Ok reply)
  ended_changed old mid new command change reply e changes differs fetches steps makes = record {
    was_honest = λ h. fetches.was_honest (makes.was_honest h);
    answers = λ h.
        (let before = makes.was_honest h in
        let same : state_of state mid ≡ state_of state old = ap (λ disk. state_in disk.seen) (fetches.same_state before) in
        let next : changed change (state_of state old) ≡ state_of state new = sym (makes.made.1 h ∙ ap (changed change) same) in
        let P : State → Type 0 = λ one. step (state_of state old) command ≡ (one, Ok reply) in
        stays _ _ old.closed new.closed command (Ok reply) e makes.made.0 (stepped _ _ command (Ok reply) (subst P next (steps before))));
    moves = λ h. inr (
      ap not changes,
      differs (makes.was_honest h),
      moved old mid new command change reply fetches (steps (makes.was_honest h)) (makes.was_honest h) (makes.moments h),
    );
  }

  -- a change that was not made, or of which that is not known
  pub ended_unmade : (old mid new : Shelf D) (command : Command) (change : Change) (reply : Reply) (why : Refusal) → old.closed ≡ false
      → asks command ≡ false → (HonestAt honest mid.pages.disk → (step (state_of state old) command).0 ≢ state_of state old)
      → Fetches honest failures state old mid
      → (HonestAt honest mid.pages.disk → step (state_of state old) command ≡ (changed change (state_of state old), Ok reply))
      → MakesChange (disks_of honest failures state) (Err why) mid new change → Ended old new command (Err why)
  ended_unmade old mid new command change reply why e changes differs fetches steps makes = elim makes.made [
    | inl spares ↦
        (let disk : HonestAt honest new.pages.disk → state_at state new.pages.disk ≡ state_at state old.pages.disk =
        λ h. spares.2 h ∙ fetches.same_state (makes.was_honest h) in
        record {
          was_honest = λ h. fetches.was_honest (makes.was_honest h);
          answers = λ h. stays _ _ old.closed new.closed command (Err why) e spares.1
              (spared _ _ command why spares.0 (ap (λ at. state_in at.seen) (disk h)));
          moves = λ h. inl (disk h);
        })
    | inr fails ↦ record {
      was_honest = λ h. fetches.was_honest (makes.was_honest h);
      answers = λ h.
          (let before = makes.was_honest h in
          let same : state_of state mid ≡ state_of state old = ap (λ disk. state_in disk.seen) (fetches.same_state before) in
          let next : changed change (state_of state mid) ≡ (step (state_of state old) command).0 =
          ap (changed change) same ∙ sym (ap (λ (o : Outcome). o.0) (steps before)) in
          let way : (state_of state new ≡ state_of state old) ⊎ (state_of state new ≡ (step (state_of state old) command).0) = elim (fails.2 h) [
            | inl here ↦ inl (here ∙ same)
            | inr there ↦ inr (there ∙ next)
          ] in
          subst (λ one. Answers (record { state = state_of state old; closed = old.closed }) command (Err one)
          (record { state = state_of state new; closed = new.closed })) (sym fails.0) (failed _ _ old.closed new.closed command e fails.1 way));
      moves = λ h.
          (let before = makes.was_honest h in
          let Q : Refusal → Type 0 = λ one. SinceThen (state_at state old.pages.disk) (state_at state new.pages.disk)
          (StandsForOne Holds (state_of state old ∷ passed (state_of state old) command (Err one))) in
          inr (
            may_fail command why changes fails.0,
            differs before,
            subst Q (sym fails.0) (moved old mid new command change reply fetches (steps before) before (makes.moments h)),
          ));
    }
  ]
