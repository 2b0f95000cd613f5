-- What a store carries out, one command after another, and what stops leave of it then.
use Rattle.std.proofs.Common.{◌≡◌, ℕ, ◌≤◌, Bool, true, false, not, List, [], ◌∷◌, ◌++◌, ◌⊎◌, Result, Ok, Err, refl, sym, ap, ◌∙◌, subst, inl, inr, arith}
use Rattle.std.specs.Prelude.{IfOk}
use Rattle.std.proofs.lemmas.List.{append_assoc, append-nil}
use Rattle.tune_store.specs.State.{State, Standing}
use Rattle.tune_store.specs.Step.{step}
use Rattle.tune_store.specs.TuneSteps.{Outcome}
use Rattle.tune_store.specs.Answers.{Answers, passed, stays_open, stepped, no_memory, failed_before, failed_after, is_closed}
use Rattle.tune_store.specs.Runs.{Answered, Runs}
use Rattle.tune_store.specs.StoreStops.{StandsForOne}
use Rattle.tune_store.specs.Stores.{StorePasses, standing_of}
use Rattle.tune_store.specs.declared.command.Command.{Command}
use Rattle.tune_store.specs.declared.command.Reply.{Reply}
use Rattle.tune_store.specs.declared.command.Refusal.{Refusal}
use Rattle.tune_store.specs.declared.command.Refusal.TheVariants.{Device, Closed}
use Rattle.tune_store.specs.declared.tune_store.TuneStore.{Ghosts}
use Rattle.tune_store.proofs.StepLemmas.{refused_stays, answers_close, closed_answers}
use Rattle.tune_store.proofs.StopLemmas.{passes_none, passes_more}
use Rattle.tune_scripts.specs.declared.script_runs.RunEnd.{RunEnd}
use Rattle.tune_scripts.specs.Carried.{Carried, CarriesAllOut, LeftByRun, run_of, timeline_of, moment_after}
use Rattle.tune_scripts.specs.Timelines.{StandsForFirst}
use Rattle.tune_scripts.specs.Prefixes.{FailsLast, never_fails, fails_last, state_by, state_after, AreAcknowledged, StandsForPrefix, StandsForEnd}
use Rattle.tune_scripts.specs.ScriptRuns.{EndsAfter, IsOtherEnd, at_other_end, at_device_fault}

-- ONE ANSWER
-- an accepted command steps
ok_steps : (old new : Standing) (command : Command) (answer : Result Reply Refusal) → Answers old command answer new
    → IfOk answer (λ _. new.state ≡ (step old.state command).0)
ok_steps _ _ _ _ (stepped old new command (Ok reply) e) = sym (ap (λ (o : Outcome). o.0) e)
ok_steps _ _ _ _ (stepped old new command (Err refusal) e) = tt
ok_steps _ _ _ _ (no_memory old command) = tt
ok_steps _ _ _ _ (failed_before old command) = tt
ok_steps _ _ _ _ (failed_after old command) = tt
ok_steps _ _ _ _ (is_closed old command) = tt

-- a refusal that lets the run go on leaves the state
state_stays : (state : State) (command : Command) (refusal : Refusal) → stays_open (Err refusal) ≡ true → state_by state command (Err refusal) ≡ state
state_stays state command Device go = cc
state_stays state command refusal go = refl

-- an answer that lets the run go on tells the state
pub state_told : (old new : Standing) (command : Command) (answer : Result Reply Refusal) → Answers old command answer new → stays_open answer ≡ true
    → new.state ≡ state_by old.state command answer
state_told old new command (Ok reply) answers go = ok_steps old new command (Ok reply) answers
state_told old new command (Err refusal) answers go =
    let other : refusal ≡ Device → ⊥ = λ e. (let shut : stays_open (Err refusal) ≡ false = ap (λ r. stays_open (Err r)) e in cc) in
    ap (λ (s : Standing). s.state) (refused_stays old new command (Err refusal) answers other) ∙ sym (state_stays old.state command refusal go)

-- and that the store stays open
pub open_still : (old new : Standing) (command : Command) (answer : Result Reply Refusal) → Answers old command answer new → stays_open answer ≡ true
    → new.closed ≡ false
open_still old new command answer answers go = answers_close old new command answer answers ∙ ap not go

-- an open store that a command closes was answered that its device failed
pub device_answer : (old new : Standing) (command : Command) (answer : Result Reply Refusal) → Answers old command answer new → old.closed ≡ false
    → stays_open answer ≡ false → answer ≡ Err Device
device_answer old new command (Ok reply) answers is_open shut = cc
device_answer old new command (Err Device) answers is_open shut = refl
device_answer old new command (Err Closed) answers is_open shut =
    let closed = (closed_answers old new command (Err Closed) answers).0 refl in cc
device_answer old new command (Err refusal) answers is_open shut = cc

-- what leaves a store open lets the run go on
goes_on : (answer : Result Reply Refusal) → not (stays_open answer) ≡ false → stays_open answer ≡ true
goes_on answer h = true_by (stays_open answer) h
  where
    true_by : (b : Bool) → not b ≡ false → b ≡ true
    true_by true e = refl
    true_by false e = sym e

-- a file that stands for a state that a command went on to stands for the state by its answer
pub stands_passed : (stands_for : List ℕ → State → Type 0) (state : State) (command : Command) (answer : Result Reply Refusal) (file : List ℕ)
    → StandsForOne stands_for (passed state command answer) file → stands_for file (state_by state command answer)
stands_passed stands_for state command (Ok reply) file (inl stands) = stands
stands_passed stands_for state command (Ok reply) file (inr none) = absurd none
stands_passed stands_for state command (Err Device) file (inl stands) = stands
stands_passed stands_for state command (Err Device) file (inr none) = absurd none
stands_passed stands_for state command (Err refusal) file none = absurd none

-- one of some states or of some more
stands_split : (stands_for : List ℕ → State → Type 0) (a b : List State) (file : List ℕ) → StandsForOne stands_for (a ++ b) file
    → StandsForOne stands_for a file ⊎ StandsForOne stands_for b file
stands_split stands_for [] b file one = inr one
stands_split stands_for (state ∷ a) b file (inl stands) = inl (inl stands)
stands_split stands_for (state ∷ a) b file (inr one) = elim (stands_split stands_for a b file one) [
  | inl left ↦ inl (inr left)
  | inr right ↦ inr right
]

-- LISTS OF ANSWERS
pub acknowledged_more : (a b : List Answered) → AreAcknowledged a → AreAcknowledged b → AreAcknowledged (a ++ b)
acknowledged_more [] b h k = k
acknowledged_more (next ∷ a) b h k = (h.0, acknowledged_more a b h.1 k)

-- a run after answers that let it go on ends as it does alone
pub ends_more : (end : RunEnd) (a b : List Answered) → AreAcknowledged a → EndsAfter end b → EndsAfter end (a ++ b)
ends_more _ a _ h (at_other_end end b other all) = at_other_end end (a ++ b) other (acknowledged_more a b h all)
ends_more _ a _ h (at_device_fault end b before last divides all shut by) =
    let whole = ap (λ r. a ++ r) divides ∙ sym (append_assoc a before (last ∷ [])) in
    at_device_fault end (a ++ b) (a ++ before) last whole (acknowledged_more a before h all) shut by

-- where each answer lets the run go on, none tells that the device failed
acknowledged_last : (before : List Answered) (last : Answered) → AreAcknowledged (before ++ last ∷ []) → stays_open last.answer ≡ true
acknowledged_last [] last h = h.0
acknowledged_last (next ∷ before) last h = acknowledged_last before last h.1

pub ends_otherwise : (end : RunEnd) (run : List Answered) → EndsAfter end run → AreAcknowledged run → IsOtherEnd end
ends_otherwise _ _ (at_other_end end run other all) h = other
ends_otherwise _ _ (at_device_fault end run before last divides all shut by) h =
    let go = acknowledged_last before last (subst AreAcknowledged divides h) in absurd cc

-- however a run ends, no answer but the last tells that the device failed
pub ends_by_last : (end : RunEnd) (run : List Answered) → EndsAfter end run → FailsLast run
ends_by_last _ _ (at_other_end end run other all) = never_fails run all
ends_by_last _ _ (at_device_fault end run before last divides all shut by) = fails_last run before last divides all shut

-- a file stands for a prefix, seen from one command earlier
prefix_held : (stands_for : List ℕ → State → Type 0) (state : State) (next : Answered) (done rest : List Answered) (file : List ℕ)
    → StandsForPrefix stands_for (state_by state next.command next.answer) done rest file → StandsForPrefix stands_for state (next ∷ done) rest file
prefix_held stands_for state next done rest file h =
    record { more = h.more; later = h.later; divides = h.divides; stands = h.stands }

-- the same of a command that it need not hold
prefix_longer : (stands_for : List ℕ → State → Type 0) (state : State) (next : Answered) (rest : List Answered) (file : List ℕ)
    → StandsForPrefix stands_for (state_by state next.command next.answer) [] rest file → StandsForPrefix stands_for state [] (next ∷ rest) file
prefix_longer stands_for state next rest file h =
    record { more = next ∷ h.more; later = h.later; divides = ap (λ r. next ∷ r) h.divides; stands = h.stands }

-- where nothing is left, the prefix is the whole
prefix_whole : (stands_for : List ℕ → State → Type 0) (state : State) (done more later : List Answered) (file : List ℕ) → [] ≡ more ++ later
    → stands_for file (state_after state (done ++ more)) → stands_for file (state_after state done)
prefix_whole stands_for state done [] later file e stands = subst (λ run. stands_for file (state_after state run)) (append-nil done) stands
prefix_whole stands_for state done (next ∷ more) later file e stands = absurd cc

-- where one command is left, the prefix has it or not
prefix_or_one : (stands_for : List ℕ → State → Type 0) (state : State) (done more later : List Answered) (last : Answered) (file : List ℕ)
    → last ∷ [] ≡ more ++ later → stands_for file (state_after state (done ++ more))
    → stands_for file (state_after state (done ++ last ∷ [])) ⊎ stands_for file (state_after state done)
prefix_or_one stands_for state done [] later last file e stands =
    inr (subst (λ run. stands_for file (state_after state run)) (append-nil done) stands)
prefix_or_one stands_for state done (next ∷ []) later last file e stands =
    let same : next ≡ last = cc in
    inl (subst (λ one. stands_for file (state_after state (done ++ one ∷ []))) same stands)
prefix_or_one stands_for state done (next ∷ another ∷ more) later last file e stands = absurd cc

-- WHAT A STORE CARRIES OUT
-- the last command is the last that was carried out
pub split_last : {S : Type 0} (carried : List (Carried S)) (before : List Answered) (last : Answered) → run_of carried ≡ before ++ last ∷ []
    → (done : List (Carried S)) × (one : Carried S) × (carried ≡ done ++ one ∷ []) × (run_of done ≡ before)
    × (record { command = one.command; answer = one.answer } ≡ last)
split_last [] [] last e = absurd cc
split_last [] (first ∷ before) last e = absurd cc
split_last (one ∷ []) [] last e = ([], one, refl, refl, cc)
split_last (one ∷ next ∷ carried) [] last e = absurd cc
split_last (one ∷ carried) (first ∷ before) last e =
    let rest : run_of carried ≡ before ++ last ∷ [] = cc in
    let first_same : record { command = one.command; answer = one.answer } ≡ first = cc in
    let h = split_last carried before last rest in
    (one ∷ h.0, h.1, ap (λ l. one ∷ l) h.2, cc, h.4)

pub run_more : {S : Type 0} (a b : List (Carried S)) → run_of (a ++ b) ≡ run_of a ++ run_of b
run_more [] b = refl
run_more (next ∷ a) b = ap (λ r. record { command = next.command; answer = next.answer } ∷ r) (run_more a b)

module _ {S : Type 0} (s : Ghosts S) where
  -- one part after another
  pub carries_more : (a b : List (Carried S)) (old mid new : S) → CarriesAllOut s old a mid → CarriesAllOut s mid b new → CarriesAllOut s old (a ++ b) new
  carries_more [] b old mid new h k = subst (λ from. CarriesAllOut s from b new) h k
  carries_more (next ∷ a) b old mid new h k = (h.0, carries_more a b next.after mid new h.1 k)

  -- where its device is honest after all, it was honest before
  pub honest_before : (carried : List (Carried S)) (old new : S) → CarriesAllOut s old carried new → s.honest new → s.honest old
  honest_before [] old new h honest = subst s.honest h honest
  honest_before (next ∷ carried) old new h honest = h.0.passes.was_honest (honest_before carried next.after new h.1 honest)

  -- it is a run
  pub runs_carried : (carried : List (Carried S)) (old new : S) → CarriesAllOut s old carried new
      → Runs (standing_of s old) (run_of carried) (standing_of s new)
  runs_carried [] old new h = ap (standing_of s) h
  runs_carried (next ∷ carried) old new h = (standing_of s next.after, h.0.answers, runs_carried carried next.after new h.1)

  -- a store that is never closed is not answered that its device failed
  pub acknowledged_open : ((store : S) → s.closed store ≡ false) → (carried : List (Carried S)) (old new : S) → CarriesAllOut s old carried new
      → AreAcknowledged (run_of carried)
  acknowledged_open is_open [] old new h = tt
  acknowledged_open is_open (next ∷ carried) old new h =
      let closes = answers_close (standing_of s old) (standing_of s next.after) next.command next.answer h.0.answers in
      (goes_on next.answer (sym closes ∙ is_open next.after), acknowledged_open is_open carried next.after new h.1)

  -- the states that it went on to
  abbrev states_of : S → List (Carried S) → List State
  states_of old [] = []
  states_of old (next ∷ carried) = passed (s.state old) next.command next.answer ++ states_of next.after carried

  pub passes_all : (carried : List (Carried S)) (old new : S) → CarriesAllOut s old carried new → StorePasses s old new (states_of old carried)
  passes_all [] old new h = subst (λ there. StorePasses s old there []) (sym h) (passes_none s old)
  passes_all (next ∷ carried) old new h =
      passes_more s old next.after new (passed (s.state old) next.command next.answer) (states_of next.after carried) h.0.passes
      (passes_all carried next.after new h.1)

  -- its moments rise
  pub moments_rise : (carried : List (Carried S)) (old new : S) → CarriesAllOut s old carried new → s.honest new → s.moment old ≤ s.moment new
  moments_rise carried old new h honest = (passes_all carried old new h).later honest

  -- a closed store passes no state
  none_closed : (carried : List (Carried S)) (old new : S) → CarriesAllOut s old carried new → s.closed old ≡ true → states_of old carried ≡ []
  none_closed [] old new h closed = refl
  none_closed (next ∷ carried) old new h closed =
      let told = (closed_answers (standing_of s old) (standing_of s next.after) next.command next.answer h.0.answers).1 closed in
      let shut = answers_close (standing_of s old) (standing_of s next.after) next.command next.answer h.0.answers
      ∙ ap (λ answer. not (stays_open answer)) told in
      ap (λ answer. passed (s.state old) next.command answer ++ states_of next.after carried) told
      ∙ none_closed carried next.after new h.1 shut

  -- a file that stands for a state after a command stands for one after a prefix that holds it, by what is known from there on
  stands_later : (next : Carried S) (carried : List (Carried S)) (old new : S) (file : List ℕ) → CarriesAllOut s old (next ∷ carried) new
      → (s.closed next.after ≡ false → StandsForOne s.stands_for (s.state next.after ∷ states_of next.after carried) file
      → StandsForPrefix s.stands_for (s.state next.after) [] (run_of carried) file)
      → (b : Bool) → stays_open next.answer ≡ b → StandsForOne s.stands_for (states_of next.after carried) file
      → StandsForPrefix s.stands_for (s.state old) [] (run_of (next ∷ carried)) file
  stands_later next carried old new file h found true go later =
      let told = state_told (standing_of s old) (standing_of s next.after) next.command next.answer h.0.answers go in
      let still = open_still (standing_of s old) (standing_of s next.after) next.command next.answer h.0.answers go in
      let P : State → Type 0 = λ state. StandsForPrefix s.stands_for state [] (run_of carried) file in
      prefix_longer s.stands_for (s.state old) (record { command = next.command; answer = next.answer }) (run_of carried) file
      (subst P told (found still (inr later)))
  stands_later next carried old new file h found false shut later =
      let closed = answers_close (standing_of s old) (standing_of s next.after) next.command next.answer h.0.answers ∙ ap not shut in
      let P : List State → Type 0 = λ states. StandsForOne s.stands_for states file in
      absurd (subst P (none_closed carried next.after new h.1 closed) later)

  -- a file that stands for one of the states stands for the state after a prefix of the commands
  stands_for_prefix : (carried : List (Carried S)) (old new : S) (file : List ℕ) → CarriesAllOut s old carried new → s.closed old ≡ false
      → StandsForOne s.stands_for (s.state old ∷ states_of old carried) file → StandsForPrefix s.stands_for (s.state old) [] (run_of carried) file
  stands_for_prefix carried old new file h is_open (inl stands) = record { more = []; later = run_of carried; divides = refl; stands = stands }
  stands_for_prefix [] old new file h is_open (inr none) = absurd none
  stands_for_prefix (next ∷ carried) old new file h is_open (inr one) =
      elim (stands_split s.stands_for (passed (s.state old) next.command next.answer) (states_of next.after carried) file one) [
        | inl here ↦ record {
          more = record { command = next.command; answer = next.answer } ∷ [];
          later = run_of carried;
          divides = refl;
          stands = stands_passed s.stands_for (s.state old) next.command next.answer file here;
        }
        | inr later ↦ stands_later next carried old new file h (λ still k. stands_for_prefix carried next.after new file h.1 still k)
            (stays_open next.answer) refl later
      ]

  -- what stops leave since a moment before the run, by what they left of the store before it
  pub left_since_earlier : (carried : List (Carried S)) (old new : S) (since : ℕ) (file : List ℕ) → CarriesAllOut s old carried new → s.sound old
      → s.honest new → s.closed old ≡ false → since ≤ s.moment old → (s.left_since old since file → s.stands_for file (s.state old))
      → s.left_since new since file → StandsForPrefix s.stands_for (s.state old) [] (run_of carried) file
  left_since_earlier carried old new since file h sound honest is_open early before left =
      stands_for_prefix carried old new file h is_open (elim ((passes_all carried old new h).leaves sound honest since file early left) [
        | inl was_left ↦ inl (before was_left)
        | inr one ↦ one
      ])

  -- after a front of the commands
  pub carries_split : (a b : List (Carried S)) (old new : S) → CarriesAllOut s old (a ++ b) new
      → (mid : S) × CarriesAllOut s old a mid × CarriesAllOut s mid b new
  carries_split [] b old new h = (old, refl, h)
  carries_split (next ∷ a) b old new h =
      let rest = carries_split a b next.after new h.1 in (rest.0, (h.0, rest.1), rest.2)

  moment_at : (carried : List (Carried S)) (old new : S) → CarriesAllOut s old carried new → moment_after s old carried ≡ s.moment new
  moment_at [] old new h = ap s.moment (sym h)
  moment_at (next ∷ carried) old new h = moment_at carried next.after new h.1

  still_open : (carried : List (Carried S)) (old new : S) → CarriesAllOut s old carried new → s.closed old ≡ false → AreAcknowledged (run_of carried)
      → s.closed new ≡ false
  still_open [] old new h is_open all = ap s.closed h ∙ is_open
  still_open (next ∷ carried) old new h is_open all =
      let still = open_still (standing_of s old) (standing_of s next.after) next.command next.answer h.0.answers all.0 in
      still_open carried next.after new h.1 still all.1

  -- WHAT STOPS LEAVE, BY THE LAWS OF THE STORE
  module _ (settled : (store : S) (file : List ℕ) → s.sound store → s.honest store → s.closed store ≡ false
      → s.left_since store (s.moment store) file → s.stands_for file (s.state store)) where
    -- since the run began
    left_since_start : (carried : List (Carried S)) (old new : S) (file : List ℕ) → CarriesAllOut s old carried new → s.sound old → s.honest new
        → s.closed old ≡ false → s.left_since new (s.moment old) file → StandsForPrefix s.stands_for (s.state old) [] (run_of carried) file
    left_since_start carried old new file h sound honest is_open left =
        let early : s.moment old ≤ s.moment old = omega arith in
        let honest_old = honest_before carried old new h honest in
        left_since_earlier carried old new (s.moment old) file h sound honest is_open early
        (λ was_left. settled old file sound honest_old is_open was_left) left

    -- since some of its commands were answered
    left_since_answer : (done rest : List (Carried S)) (old new : S) (file : List ℕ) → CarriesAllOut s old (done ++ rest) new → s.sound old → s.honest new
        → s.closed old ≡ false → AreAcknowledged (run_of done) → s.left_since new (moment_after s old done) file
        → StandsForPrefix s.stands_for (s.state old) (run_of done) (run_of rest) file
    left_since_answer [] rest old new file h sound honest is_open all left = left_since_start rest old new file h sound honest is_open left
    left_since_answer (next ∷ done) rest old new file h sound honest is_open all left =
        let told = state_told (standing_of s old) (standing_of s next.after) next.command next.answer h.0.answers all.0 in
        let still = open_still (standing_of s old) (standing_of s next.after) next.command next.answer h.0.answers all.0 in
        let found = left_since_answer done rest next.after new file h.1 (h.0.passes.stays_sound sound) honest still all.1 left in
        let P : State → Type 0 = λ state. StandsForPrefix s.stands_for state (run_of done) (run_of rest) file in
        prefix_held s.stands_for (s.state old) (record { command = next.command; answer = next.answer }) (run_of done) (run_of rest) file
        (subst P told found)

    -- at its end
    left_at_end : (carried : List (Carried S)) (old new : S) (run : List Answered) (file : List ℕ) → CarriesAllOut s old carried new
        → s.sound old → s.honest new → s.closed old ≡ false → run_of carried ≡ run → FailsLast run
        → ((since earlier : ℕ) (other : List ℕ) → earlier ≤ since → s.left_since new since other → s.left_since new earlier other)
        → s.left_since new (s.moment new) file → StandsForEnd s.stands_for (s.state old) run file
    left_at_end carried old new _ file h sound honest is_open same (never_fails run all) earlier left =
        let whole : CarriesAllOut s old (carried ++ []) new = subst (λ c. CarriesAllOut s old c new) (sym (append-nil carried)) h in
        let known = subst (λ since. s.left_since new since file) (sym (moment_at carried old new h)) left in
        let all_here = subst AreAcknowledged (sym same) all in
        let found = left_since_answer carried [] old new file whole sound honest is_open all_here known in
        let stands = prefix_whole s.stands_for (s.state old) (run_of carried) found.more found.later file found.divides found.stands in
        inl (subst (λ r. s.stands_for file (state_after (s.state old) r)) same stands)
    left_at_end carried old new _ file h sound honest is_open same (fails_last run before last divides all shut) earlier left =
        let parts = split_last carried before last (same ∙ divides) in
        let done = parts.0 in
        let one = parts.1 in
        let whole = subst (λ c. CarriesAllOut s old c new) parts.2 h in
        let split = carries_split done (one ∷ []) old new whole in
        let all_here = subst AreAcknowledged (sym parts.3) all in
        let open_here = still_open done old split.0 split.1 is_open all_here in
        let shut_here : stays_open one.answer ≡ false = ap (λ (a : Answered). stays_open a.answer) parts.4 ∙ shut in
        let failed = device_answer (standing_of s split.0) (standing_of s one.after) one.command one.answer split.2.0.answers open_here shut_here in
        let rise = moments_rise (one ∷ []) split.0 new split.2 honest in
        let at = moment_at done old split.0 split.1 in
        let early : moment_after s old done ≤ s.moment new = omega arith in
        let known = earlier (s.moment new) (moment_after s old done) file early left in
        let found = left_since_answer done (one ∷ []) old new file whole sound honest is_open all_here known in
        let answered : Answered = record { command = one.command; answer = one.answer } in
        let front = parts.3 in
        let final : answered ≡ last = parts.4 in
        let all_but : run ≡ run_of done ++ answered ∷ [] =
        divides ∙ ap (λ r. r ++ last ∷ []) (sym front) ∙ ap (λ (a : Answered). run_of done ++ a ∷ []) (sym final) in
        let told : answered ≡ record { command = one.command; answer = Err Device } =
        ap (λ a. record { command = one.command; answer = a }) failed in
        elim (prefix_or_one s.stands_for (s.state old) (run_of done) found.more found.later answered file found.divides found.stands) [
          | inl stands ↦ inl (subst (λ (r : List Answered). s.stands_for file (state_after (s.state old) r)) (sym all_but) stands)
          | inr stands ↦ inr (record {
            before = run_of done;
            last = one.command;
            divides = all_but ∙ ap (λ (a : Answered). run_of done ++ a ∷ []) told;
            stands = stands;
          })
        ]

    -- all of it
    pub left_by : (carried : List (Carried S)) (old new : S) → CarriesAllOut s old carried new → FailsLast (run_of carried) → s.honest new
        → ((since earlier : ℕ) (other : List ℕ) → earlier ≤ since → s.left_since new since other → s.left_since new earlier other)
        → s.sound old → s.closed old ≡ false
        → ((moment : ℕ) (file : List ℕ) → s.moment old ≤ moment → s.left_at new moment file
        → StandsForFirst s.stands_for (timeline_of s old carried) moment file)
        → LeftByRun s old carried new
    left_by carried old new h fails honest earlier sound is_open each = record {
      since_start = λ file left. left_since_start carried old new file h sound honest is_open left;
      acknowledged = λ done rest file same all left.
          let whole = subst (λ c. CarriesAllOut s old c new) same h in
          left_since_answer done rest old new file whole sound honest is_open all left;
      at_each_moment = each;
      at_end = λ file left. left_at_end carried old new (run_of carried) file h sound honest is_open refl fails earlier left;
    }
