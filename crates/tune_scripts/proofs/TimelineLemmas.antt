-- What a store that carries out commands lets a stop leave, moment by moment.
use Rattle.std.proofs.Common.{◌≡◌, ℕ, suc, ◌≤◌, ◌<◌, Bool, true, false, ◌&&◌, List, [], ◌∷◌, ◌++◌, ◌⊎◌, map, take, refl}
use Rattle.std.proofs.Common.{sym, ap, ◌∙◌, subst, inl, inr, arith}
use Rattle.std.specs.Prelude.{if◌then◌else◌}
use Rattle.std.proofs.lemmas.Bool.Decides.{leb_tells}
use Rattle.std.specs.Prelude.{Result, Err}
use Rattle.tune_store.specs.State.{State, Standing}
use Rattle.tune_store.specs.TuneSteps.{Outcome}
use Rattle.tune_store.specs.Answers.{Answers, stays_open, stepped, no_memory, failed_before, failed_after, is_closed}
use Rattle.tune_store.specs.declared.command.Command.{Command}
use Rattle.tune_store.specs.declared.command.Reply.{Reply}
use Rattle.tune_store.specs.declared.command.Refusal.{Refusal}
use Rattle.tune_store.specs.declared.command.Refusal.TheVariants.{Device}
use Rattle.tune_store.specs.Runs.{Answered}
use Rattle.tune_store.specs.Stores.{standing_of}
use Rattle.tune_store.specs.declared.tune_store.TuneStore.{Ghosts}
use Rattle.tune_scripts.specs.Carried.{Carried, IsCarried, CarriesAllOut, LeftByRun, run_of, timed_of, timeline_of}
use Rattle.tune_scripts.specs.Timelines.{Timed, StandsForFirst, IsAnsweredAt, IsByRules, AreAnswered, RisesTo}
use Rattle.tune_scripts.specs.Timelines.{is_answered_by, answered_by, answered_of}
use Rattle.tune_scripts.specs.Prefixes.{FailsLast, never_fails, fails_last, state_by, state_after, AreAcknowledged}
use Rattle.tune_scripts.proofs.CarriedLemmas.{honest_before, passes_all, state_told, open_still, device_answer, stands_passed, left_by}

-- ANSWERS BEFORE THE LAST
-- behind an answer that lets the run go on
fails_later : (next : Answered) (run whole : List Answered) → FailsLast whole → whole ≡ next ∷ run → stays_open next.answer ≡ true → FailsLast run
fails_later next run _ (never_fails whole all) same go = never_fails run (subst AreAcknowledged same all).1
fails_later next run _ (fails_last whole [] last divides all shut) same go =
    let first : next ≡ last = cc in
    absurd (let h : stays_open next.answer ≡ false = ap (λ (a : Answered). stays_open a.answer) first ∙ shut in cc)
fails_later next run _ (fails_last whole (other ∷ before) last divides all shut) same go =
    let rest : run ≡ before ++ last ∷ [] = cc in fails_last run before last rest all.1 shut

-- and behind one that does not there is none
none_later : (next : Answered) (run whole : List Answered) → FailsLast whole → whole ≡ next ∷ run → stays_open next.answer ≡ false → run ≡ []
none_later next run _ (never_fails whole all) same shut = (let h = (subst AreAcknowledged same all).0 in absurd cc)
none_later next run _ (fails_last whole [] last divides all other) same shut = cc
none_later next run _ (fails_last whole (first ∷ before) last divides all other) same shut =
    let one : next ≡ first = cc in
    absurd (let h : stays_open next.answer ≡ true = ap (λ (a : Answered). stays_open a.answer) one ∙ all.0 in cc)

no_run : {S : Type 0} (carried : List (Carried S)) → run_of carried ≡ [] → carried ≡ []
no_run [] e = refl
no_run (next ∷ carried) e = absurd cc

-- COUNTS
counts_one : (at : ℕ) (next : Timed) (run : List Timed) → is_answered_by at next ≡ true → answered_by at (next ∷ run) ≡ suc (answered_by at run)
counts_one at next run h = ap (λ b. if b then suc (answered_by at run) else answered_by at run) h

counts_none : (at : ℕ) (next : Timed) (run : List Timed) → is_answered_by at next ≡ false → answered_by at (next ∷ run) ≡ answered_by at run
counts_none at next run h = ap (λ b. if b then suc (answered_by at run) else answered_by at run) h

-- a command that is answered later is not answered yet
not_yet : (at : ℕ) (next : Timed) → at < next.moment → is_answered_by at next ≡ false
not_yet at next late = elim (leb_tells next.moment at) [
  | inl reached ↦ (let le = reached.1 in absurd (omega (arith, le, late)))
  | inr ahead ↦ ap (λ b. b && stays_open next.answer) ahead.0
]

-- one that was answered by then is
by_then : (at : ℕ) (next : Timed) → next.moment ≤ at → stays_open next.answer ≡ true → is_answered_by at next ≡ true
by_then at next early go = elim (leb_tells next.moment at) [
  | inl reached ↦ ap (λ b. b && stays_open next.answer) reached.0 ∙ go
  | inr ahead ↦ (let lt = ahead.1 in absurd (omega (arith, lt, early)))
]

-- and a failure of the device is no answer
no_answer : (at : ℕ) (next : Timed) → stays_open next.answer ≡ false → is_answered_by at next ≡ false
no_answer at next shut = elim (leb_tells next.moment at) [
  | inl reached ↦ ap (λ b. b && stays_open next.answer) reached.0 ∙ shut
  | inr ahead ↦ ap (λ b. b && stays_open next.answer) ahead.0
]

-- BEFORE THE FIRST
module _ {S : Type 0} (s : Ghosts S) where
  -- no command is answered before the first begins
  pub none_before : (carried : List (Carried S)) (old new : S) (at : ℕ) → CarriesAllOut s old carried new → s.honest new → at < s.moment old
      → answered_by at (timed_of s carried) ≡ 0
  none_before [] old new at h honest early = refl
  none_before (next ∷ carried) old new at h honest early =
      let next_timed : Timed = record { command = next.command; answer = next.answer; moment = s.moment next.after } in
      let rise = h.0.passes.later (honest_before s carried next.after new h.1 honest) in
      let later : at < s.moment next.after = omega arith in
      counts_none at next_timed (timed_of s carried) (not_yet at next_timed later) ∙ none_before carried next.after new at h.1 honest later

  pub none_then : (carried : List (Carried S)) (old new : S) (at : ℕ) → CarriesAllOut s old carried new → s.honest new → at < s.moment old
      → IsAnsweredAt at (timed_of s carried) → ⊥
  none_then [] old new at h honest early is = is
  none_then (next ∷ carried) old new at h honest early is =
      let rise = h.0.passes.later (honest_before s carried next.after new h.1 honest) in
      let later : at < s.moment next.after = omega arith in
      elim is [
        | inl here ↦ (let same = here.0 in absurd (omega (arith, same, later)))
        | inr rest ↦ none_then carried next.after new at h.1 honest later rest
      ]

-- MOMENT BY MOMENT
-- Of a store that is open and at rest a stop leaves its state, and what is left at a moment is left since it.
module _ {S : Type 0} (s : Ghosts S) (settled : (store : S) (file : List ℕ) → s.sound store → s.honest store → s.closed store ≡ false
    → s.left_since store (s.moment store) file → s.stands_for file (s.state store))
    (since_at : (store : S) (at since : ℕ) (file : List ℕ) → since ≤ at → s.left_at store at file → s.left_since store since file) where
  -- what a stop leaves at the moment of the store
  rests : (store : S) (at : ℕ) (file : List ℕ) → s.sound store → s.honest store → s.closed store ≡ false → s.moment store ≤ at
      → s.left_at store at file → s.stands_for file (s.state store)
  rests store at file sound honest is_open here left = settled store file sound honest is_open (since_at store at (s.moment store) file here left)

  -- while a command is in progress, or after one in which the device failed: its state or the one before it
  at_one : (next : Carried S) (run : List Timed) (old : S) (at : ℕ) (file : List ℕ) → IsCarried s old next → s.sound old → s.honest next.after
      → s.closed old ≡ false → s.moment old ≤ at → s.left_at next.after at file
      → answered_by at (record { command = next.command; answer = next.answer; moment = s.moment next.after } ∷ run) ≡ 0
      → (IsAnsweredAt at (record { command = next.command; answer = next.answer; moment = s.moment next.after } ∷ run) → ⊥)
      → StandsForFirst s.stands_for (record {
        start = s.state old;
        began = s.moment old;
        run = record { command = next.command; answer = next.answer; moment = s.moment next.after } ∷ run;
      }) at file
  at_one next run old at file one sound honest is_open late left none not_then =
      let was_honest = one.passes.was_honest honest in
      elim (leb_tells at (s.moment old)) [
        | inl reached ↦
            let early = reached.1 in
            record {
              count = 0;
              least = omega (arith, none);
              most = omega arith;
              between = λ is. sym none;
              stands = rests old at file sound was_honest is_open late (one.passes.recalls honest at file early left);
            }
        | inr ahead ↦
            let after = ahead.1 in
            let next_timed : Timed = record { command = next.command; answer = next.answer; moment = s.moment next.after } in
            let not_between : (s.moment old ≡ at) ⊎ IsAnsweredAt at (next_timed ∷ run) → ⊥ = λ is. elim is [
              | inl here ↦ omega (arith, here, after)
              | inr there ↦ not_then there
            ] in
            elim (one.passes.leaves sound honest (s.moment old) file (omega arith) (since_at next.after at (s.moment old) file late left)) [
              | inl before ↦ record {
                count = 0;
                least = omega (arith, none);
                most = omega arith;
                between = λ is. sym none;
                stands = settled old file sound was_honest is_open before;
              }
              | inr (inl stands) ↦ record {
                count = 0;
                least = omega (arith, none);
                most = omega arith;
                between = λ is. sym none;
                stands = stands;
              }
              | inr (inr stands) ↦ record {
                count = 1;
                least = omega (arith, none);
                most = omega arith;
                between = λ is. absurd (not_between is);
                stands = stands_passed s.stands_for (s.state old) next.command next.answer file stands;
              }
            ]
      ]

  -- after an answer that lets the run go on: by what is known from there on
  after_answer : (next : Carried S) (carried : List (Carried S)) (old : S) (at : ℕ) (file : List ℕ) → IsCarried s old next → s.honest next.after
      → s.moment next.after ≤ at → stays_open next.answer ≡ true → StandsForFirst s.stands_for (timeline_of s next.after carried) at file
      → StandsForFirst s.stands_for (timeline_of s old (next ∷ carried)) at file
  after_answer next carried old at file one honest late go found =
      let next_timed : Timed = record { command = next.command; answer = next.answer; moment = s.moment next.after } in
      let rise = one.passes.later honest in
      let more = counts_one at next_timed (timed_of s carried) (by_then at next_timed late go) in
      let told = state_told (standing_of s old) (standing_of s next.after) next.command next.answer one.answers go in
      let least = found.least in
      let most = found.most in
      let P : State → Type 0 = λ state. s.stands_for file (state_after state (map answered_of (take found.count (timed_of s carried)))) in
      record {
        count = suc found.count;
        least = omega (arith, more, least);
        most = omega (arith, more, most);
        between = λ is. elim is [
          | inl start ↦
              let here : s.moment next.after ≡ at = omega (arith, start, rise, late) in
              ap suc (found.between (inl here)) ∙ sym more
          | inr (inl here) ↦ ap suc (found.between (inl here.0)) ∙ sym more
          | inr (inr there) ↦ ap suc (found.between (inr there)) ∙ sym more
        ];
        stands = subst P told found.stands;
      }

  by_answer : (next : Carried S) (carried : List (Carried S)) (old new : S) (at : ℕ) (file : List ℕ) → CarriesAllOut s old (next ∷ carried) new
      → FailsLast (run_of (next ∷ carried)) → s.sound old → s.honest new → s.closed old ≡ false → s.moment old ≤ at
      → s.moment next.after ≤ at → s.left_at new at file
      → (s.closed next.after ≡ false → FailsLast (run_of carried) → StandsForFirst s.stands_for (timeline_of s next.after carried) at file)
      → (b : Bool) → stays_open next.answer ≡ b → StandsForFirst s.stands_for (timeline_of s old (next ∷ carried)) at file
  by_answer next carried old new at file h fails sound honest is_open late later left found true go =
      let answered : Answered = record { command = next.command; answer = next.answer } in
      let still = open_still (standing_of s old) (standing_of s next.after) next.command next.answer h.0.answers go in
      after_answer next carried old at file h.0 (honest_before s carried next.after new h.1 honest) later go
      (found still (fails_later answered (run_of carried) _ fails refl go))
  by_answer next carried old new at file h fails sound honest is_open late later left found false shut =
      let answered : Answered = record { command = next.command; answer = next.answer } in
      let next_timed : Timed = record { command = next.command; answer = next.answer; moment = s.moment next.after } in
      let none = no_run carried (none_later answered (run_of carried) _ fails refl shut) in
      let mid = honest_before s carried next.after new h.1 honest in
      let left_mid = subst (λ store. s.left_at store at file) (subst (λ rest. CarriesAllOut s next.after rest new) none h.1) left in
      let one = at_one next [] old at file h.0 sound mid is_open late left_mid (counts_none at next_timed [] (no_answer at next_timed shut))
      (λ is. elim is [ inl here ↦ (let go = here.1 in cc) | inr there ↦ there ]) in
      subst (λ rest. StandsForFirst s.stands_for (timeline_of s old (next ∷ rest)) at file) (sym none) one

  -- each file that a stop leaves at a moment stands for the state after the commands that were answered by then, and the next one or not
  pub stands_for_first : (carried : List (Carried S)) (old new : S) (at : ℕ) (file : List ℕ) → CarriesAllOut s old carried new
      → FailsLast (run_of carried) → s.sound old → s.honest new → s.closed old ≡ false → s.moment old ≤ at → s.left_at new at file
      → StandsForFirst s.stands_for (timeline_of s old carried) at file
  stands_for_first [] old new at file h fails sound honest is_open late left =
      record {
        count = 0;
        least = omega arith;
        most = omega arith;
        between = λ is. refl;
        stands = rests old at file sound (subst s.honest h honest) is_open late (subst (λ store. s.left_at store at file) h left);
      }
  stands_for_first (next ∷ carried) old new at file h fails sound honest is_open late left =
      let mid = honest_before s carried next.after new h.1 honest in
      let next_timed : Timed = record { command = next.command; answer = next.answer; moment = s.moment next.after } in
      elim (leb_tells (s.moment next.after) at) [
        | inl reached ↦ by_answer next carried old new at file h fails sound honest is_open late reached.1 left
            (λ still fails_rest. stands_for_first carried next.after new at file h.1 fails_rest (h.0.passes.stays_sound sound) honest still reached.1 left)
            (stays_open next.answer) refl
        | inr ahead ↦
            let early = ahead.1 in
            at_one next (timed_of s carried) old at file h.0 sound mid is_open late
            ((passes_all s carried next.after new h.1).recalls honest at file (omega arith) left)
            (counts_none at next_timed (timed_of s carried) (not_yet at next_timed early) ∙ none_before s carried next.after new at h.1 honest early)
            (λ is. elim is [
              | inl here ↦ (let same = here.0 in omega (arith, same, early))
              | inr there ↦ none_then s carried next.after new at h.1 honest early there
            ])
      ]

  -- and all that stops leave since the run began
  pub left_by_run : (carried : List (Carried S)) (old new : S) → CarriesAllOut s old carried new → FailsLast (run_of carried) → s.honest new
      → ((since earlier : ℕ) (other : List ℕ) → earlier ≤ since → s.left_since new since other → s.left_since new earlier other)
      → s.sound old → s.closed old ≡ false → LeftByRun s old carried new
  left_by_run carried old new h fails honest earlier sound is_open =
      left_by s settled carried old new h fails honest earlier sound is_open
      (λ at file late left. stands_for_first carried old new at file h fails sound honest is_open late left)

-- ANSWERS
-- an answer of an open store is one by the rules, or tells that the device failed
by_rules : (old new : Standing) (command : Command) (answer : Result Reply Refusal) (moment : ℕ) → Answers old command answer new
    → old.closed ≡ false
    → IsByRules old.state (record { command = command; answer = answer; moment = moment }) ⊎ (answer ≡ Err Device)
by_rules _ _ _ _ moment (stepped old new command answer e) is_open = inl (inl (sym (ap (λ (o : Outcome). o.1) e)))
by_rules _ _ _ _ moment (no_memory old command) is_open = inl (inr refl)
by_rules _ _ _ _ moment (failed_before old command) is_open = inr refl
by_rules _ _ _ _ moment (failed_after old command) is_open = inr refl
by_rules _ _ _ _ moment (is_closed old command) is_open = absurd cc

shuts : (answer : Result Reply Refusal) → answer ≡ Err Device → stays_open answer ≡ false
shuts answer e = ap stays_open e

-- an open store goes on, or its device failed
goes_or_failed : (old new : Standing) (command : Command) (answer : Result Reply Refusal) → Answers old command answer new → old.closed ≡ false
    → (stays_open answer ≡ true) ⊎ (answer ≡ Err Device)
goes_or_failed old new command answer answers is_open = go (stays_open answer) refl
  where
    go : (b : Bool) → stays_open answer ≡ b → (stays_open answer ≡ true) ⊎ (answer ≡ Err Device)
    go true e = inl e
    go false e = inr (device_answer old new command answer answers is_open e)

-- a list of one command fails last, if it fails at all
pub one_fails_last : (next : Answered) → FailsLast (next ∷ [])
one_fails_last next = go (stays_open next.answer) refl
  where
    go : (b : Bool) → stays_open next.answer ≡ b → FailsLast (next ∷ [])
    go true e = never_fails (next ∷ []) (e, tt)
    go false e = fails_last (next ∷ []) [] next refl tt e

module _ {S : Type 0} (s : Ghosts S) where
  -- the commands that a store carried out are answered so
  pub are_answered : (carried : List (Carried S)) (old new : S) → CarriesAllOut s old carried new → FailsLast (run_of carried) → s.closed old ≡ false
      → AreAnswered (s.state old) (timed_of s carried)
  are_answered [] old new h fails is_open = tt
  are_answered (next ∷ carried) old new h fails is_open =
      let answered : Answered = record { command = next.command; answer = next.answer } in
      let rest : stays_open next.answer ≡ true → AreAnswered (state_by (s.state old) next.command next.answer) (timed_of s carried) = λ go.
      (let told = state_told (standing_of s old) (standing_of s next.after) next.command next.answer h.0.answers go in
      let still = open_still (standing_of s old) (standing_of s next.after) next.command next.answer h.0.answers go in
      subst (λ state. AreAnswered state (timed_of s carried)) told
      (are_answered carried next.after new h.1 (fails_later answered (run_of carried) _ fails refl go) still)) in
      elim (by_rules (standing_of s old) (standing_of s next.after) next.command next.answer (s.moment next.after) h.0.answers is_open) [
        | inl rules ↦ elim (goes_or_failed (standing_of s old) (standing_of s next.after) next.command next.answer h.0.answers is_open) [
          | inl go ↦ inl (rules, rest go)
          | inr failed ↦
              inr (failed, ap (timed_of s) (no_run carried (none_later answered (run_of carried) _ fails refl (shuts next.answer failed))))
        ]
        | inr failed ↦ inr (failed, ap (timed_of s) (no_run carried (none_later answered (run_of carried) _ fails refl (shuts next.answer failed))))
      ]

  -- without the moments they are the commands with their answers
  pub answers_timed : (carried : List (Carried S)) → map answered_of (timed_of s carried) ≡ run_of carried
  answers_timed [] = refl
  answers_timed (next ∷ carried) = ap (λ run. record { command = next.command; answer = next.answer } ∷ run) (answers_timed carried)

  -- and the moments rise
  pub rises_run : (carried : List (Carried S)) (old new : S) → CarriesAllOut s old carried new → s.honest new
      → RisesTo (s.moment old) (timed_of s carried) (s.moment new)
  rises_run [] old new h honest = (let same = ap s.moment h in omega (arith, same))
  rises_run (next ∷ carried) old new h honest =
      (h.0.passes.later (honest_before s carried next.after new h.1 honest), rises_run carried next.after new h.1 honest)
