-- One command after another.
use Rattle.std.proofs.Common.{◌≡◌, ℕ, Bool, true, false, not, cond, List, [], ◌∷◌, ◌++◌, Result, Ok, Err, refl, sym, ap, ◌∙◌, subst, inl, inr}
use Rattle.std.proofs.lemmas.List.{append_assoc, append-nil}
use Rattle.std.specs.Prelude.{filter, IfOk, IsErrOf, IsTrue, MatchResult, is_ok}
use Rattle.std.specs.List.{AllByRecursion}
use Rattle.tune_store.specs.State.{State, Standing}
use Rattle.tune_store.specs.Step.{step}
use Rattle.tune_store.specs.TuneSteps.{Outcome}
use Rattle.tune_store.specs.Answers.{Answers, asks, open_at, passed, stepped, no_memory, failed_before, failed_after, is_closed}
use Rattle.tune_store.specs.Runs.{Answered}
use Rattle.tune_store.specs.Stores.{StorePasses, standing_of}
use Rattle.tune_store.specs.declared.command.Command.{Command}
use Rattle.tune_store.specs.declared.command.Reply.{Reply}
use Rattle.tune_store.specs.declared.command.Refusal.{Refusal}
use Rattle.tune_store.specs.declared.command.Refusal.TheVariants.{OutOfMemory, Device}
use Rattle.tune_store.specs.declared.tune_store.TuneStore.{Ghosts}
use Rattle.tune_scripts.specs.Carried.{Carried, CarriesAllOut, IsCarried, run_of}
use Rattle.tune_scripts.proofs.CarriedLemmas.{carries_more}
use Rattle.tune_asking.specs.Asking.{IsOnlyAsked, IsFault}
use Rattle.tune_asking.specs.AskingCalls.{Call, Meaning}
use Rattle.tune_asking.proofs.CallLemmas.{asked_none}
use Rattle.tune_changes.specs.Carrying.{Carries, CarriesOutSome, CarriesAll, CarriesFront, EndsAtRefusal, answered, changes_of}
use Rattle.tune_changes.specs.CommandRuns.{AreAccepted, LeadsAccepted, after_commands}

-- LISTS OF COMMANDS
pub after_more : (a b : List Command) (state : State) → after_commands (a ++ b) state ≡ after_commands b (after_commands a state)
after_more [] b state = refl
after_more (command ∷ a) b state = after_more a b (step state command).0

accepted_more : (a b : List Command) (state : State) → AreAccepted a state → AreAccepted b (after_commands a state) → AreAccepted (a ++ b) state
accepted_more [] b state h k = k
accepted_more (command ∷ a) b state h k = (h.0, accepted_more a b (step state command).0 h.1 k)

pub leads_more : (a b : List Command) (old mid new : State) → LeadsAccepted old a mid → LeadsAccepted mid b new → LeadsAccepted old (a ++ b) new
leads_more a b old mid new h k =
    (accepted_more a b old h.0 (subst (λ (state : State). AreAccepted b state) (sym h.1) k.0), after_more a b old ∙ ap (after_commands b) h.1 ∙ k.1)

answered_split : (a b : List Command) (state : State) → answered (a ++ b) state ≡ answered a state ++ answered b (after_commands a state)
answered_split [] b state = refl
answered_split (command ∷ a) b state =
    ap (λ (run : List Answered). record { command = command; answer = (step state command).1 } ∷ run) (answered_split a b (step state command).0)

pub answered_more : (a b : List Command) (old mid : State) → LeadsAccepted old a mid → answered (a ++ b) old ≡ answered a old ++ answered b mid
answered_more a b old mid h = answered_split a b old ∙ ap (λ (state : State). answered a old ++ answered b state) h.1

-- RUNS
filter_one : {A : Type 0} (test : Bool) (x : A) (whole front back : List A) → whole ≡ front ++ back
    → cond test (x ∷ whole) whole ≡ cond test (x ∷ front) front ++ back
filter_one true x whole front back e = ap (λ rest. x ∷ rest) e
filter_one false x whole front back e = e

filter_append : {A : Type 0} (test : A → Bool) (a b : List A) → filter test (a ++ b) ≡ filter test a ++ filter test b
filter_append test [] b = refl
filter_append test (x ∷ a) b = filter_one (test x) x (filter test (a ++ b)) (filter test a) (filter test b) (filter_append test a b)

run_append : {S : Type 0} (a b : List (Carried S)) → run_of (a ++ b) ≡ run_of a ++ run_of b
run_append [] b = refl
run_append (next ∷ a) b = ap (λ (run : List Answered). record { command = next.command; answer = next.answer } ∷ run) (run_append a b)

pub changes_append : {S : Type 0} (a b : List (Carried S)) → changes_of (run_of (a ++ b)) ≡ changes_of (run_of a) ++ changes_of (run_of b)
changes_append a b = ap changes_of (run_append a b) ∙ filter_append (λ (next : Answered). not (asks next.command)) (run_of a) (run_of b)

-- questions are no changes
pub no_changes : {S : Type 0} (carried : List (Carried S)) → AllByRecursion (λ (next : Carried S). asks next.command ≡ true) carried
    → changes_of (run_of carried) ≡ []
no_changes [] all = refl
no_changes (next ∷ carried) all =
    ap (λ (b : Bool). cond (not b) (record { command = next.command; answer = next.answer } ∷ changes_of (run_of carried)) (changes_of (run_of carried))) all.0
    ∙ no_changes carried all.1

-- a command that is none
pub one_change : (command : Command) (answer : Result Reply Refusal) → asks command ≡ false
    → changes_of (record { command = command; answer = answer } ∷ []) ≡ record { command = command; answer = answer } ∷ []
one_change command answer is = ap (λ (b : Bool). cond (not b) (record { command = command; answer = answer } ∷ []) []) is

-- what ended at a command ended there whatever was left behind it
ends_more : (state : State) (left more : List Command) (run : List Answered) (refusal : Refusal) (new : Standing) → EndsAtRefusal state left run refusal new
    → EndsAtRefusal state (left ++ more) run refusal new
ends_more state left more [] refusal new h = h
ends_more state (command ∷ left) more (last ∷ []) refusal new h = h
ends_more state [] more (last ∷ []) refusal new h = absurd h
ends_more state [] more (last ∷ next ∷ run) refusal new h = absurd h
ends_more state (command ∷ left) more (last ∷ next ∷ run) refusal new h = absurd h

-- ANSWERS
pub ok_answer : (old new : Standing) (command : Command) (answer : Result Reply Refusal) → Answers old command answer new
    → IfOk answer (λ reply. ((step old.state command).1 ≡ Ok reply) × ((step old.state command).0 ≡ new.state))
ok_answer _ _ _ _ (stepped old new command (Ok reply) e) = (ap (λ (o : Outcome). o.1) e, ap (λ (o : Outcome). o.0) e)
ok_answer _ _ _ _ (stepped old new command (Err refusal) e) = tt
ok_answer _ _ _ _ (no_memory old command) = tt
ok_answer _ _ _ _ (failed_before old command) = tt
ok_answer _ _ _ _ (failed_after old command) = tt
ok_answer _ _ _ _ (is_closed old command) = tt

pub accepted_answer : (old new : Standing) (command : Command) (answer : Result Reply Refusal) → Answers old command answer new
    → IfOk answer (λ reply. (step old.state command).1 ≡ Ok reply)
accepted_answer old new command (Ok reply) answers = (ok_answer old new command (Ok reply) answers).0
accepted_answer old new command (Err refusal) answers = tt

-- FRONTS
-- a front of the commands was carried out, each accepted
pub record IsFirst (old here : Standing) (whole left : List Command) (run : List Answered) : Type 0 where
  pub done : List Command
  pub front : whole ≡ done ++ left
  pub just : changes_of run ≡ answered done old.state
  pub leads : LeadsAccepted old.state done here.state

module _ {S : Type 0} (k : Ghosts S) where
  pub record CarriesFirst (old here : S) (whole left : List Command) : Type 0 where
    pub carried : List (Carried S)
    pub carries_out : CarriesAllOut k old carried here
    pub so_far : k.closed old ≡ false → IsFirst (standing_of k old) (standing_of k here) whole left (run_of carried)

  -- so far a front of the commands was carried out, and these are left
  pub record Partly (old here : S) (whole left : List Command) : Type 0 where
    pub was_honest : k.honest here → k.honest old
    pub stays_sound : k.sound old → k.sound here
    pub stays : k.closed old ≡ false → k.closed here ≡ false
    pub carried : k.honest here → CarriesFirst old here whole left

  -- none yet
  pub partly_none : (here : S) (whole left : List Command) → (k.closed here ≡ false → k.honest here → whole ≡ left) → Partly here here whole left
  partly_none here whole left e = record {
    was_honest = λ h. h;
    stays_sound = λ h. h;
    stays = λ h. h;
    carried = λ h. record {
      carried = [];
      carries_out = refl;
      so_far = λ is_open. record { done = []; front = e is_open h; just = refl; leads = (tt, refl) };
    };
  }

  -- some more
  pub partly_on : {T : Type 0} (old mid new : S) (whole left commands rest : List Command) (value : T) → Partly old mid whole left
      → Carries k mid new commands (Ok value)
      → (k.closed old ≡ false → k.honest mid → k.state new ≡ after_commands commands (k.state mid) → left ≡ commands ++ rest) → Partly old new whole rest
  partly_on old mid new whole left commands rest value p q e = record {
    was_honest = λ h. p.was_honest (q.was_honest h);
    stays_sound = λ h. q.stays_sound (p.stays_sound h);
    stays = λ is_open. q.stays (p.stays is_open);
    carried = λ h.
        let first = p.carried (q.was_honest h) in
        let more = q.carried h in
        record {
          carried = first.carried ++ more.carried;
          carries_out = carries_more k first.carried more.carried old mid new first.carries_out more.carries_out;
          so_far = λ is_open.
              let f = first.so_far is_open in
              let g = more.ends (p.stays is_open) in
              let same = e is_open (q.was_honest h) (sym g.leads.1) in
              record {
                done = f.done ++ commands;
                front = f.front ∙ ap (λ (c : List Command). f.done ++ c) same ∙ sym (append_assoc f.done commands rest);
                just = changes_append first.carried more.carried
                    ∙ ap (λ (run : List Answered). run ++ changes_of (run_of more.carried)) f.just
                    ∙ ap (λ (run : List Answered). answered f.done (k.state old) ++ run) g.just
                    ∙ sym (answered_more f.done commands (k.state old) (k.state mid) f.leads);
                leads = leads_more f.done commands (k.state old) (k.state mid) (k.state new) f.leads g.leads;
              };
        };
  }

  -- and questions
  pub partly_goes : (old mid new : S) (whole left : List Command) → Partly old mid whole left → IsOnlyAsked k mid new
      → (k.closed mid ≡ false → k.closed new ≡ false) → Partly old new whole left
  partly_goes old mid new whole left p asked open_still = record {
    was_honest = λ h. p.was_honest (asked.was_honest h);
    stays_sound = λ h. asked.stays_sound (p.stays_sound h);
    stays = λ is_open. open_still (p.stays is_open);
    carried = λ h.
        let first = p.carried (asked.was_honest h) in
        let more = asked.carried h in
        record {
          carried = first.carried ++ more.carried;
          carries_out = carries_more k first.carried more.carried old mid new first.carries_out more.carries_out;
          so_far = λ is_open.
              let f = first.so_far is_open in
              record {
                done = f.done;
                front = f.front;
                just = changes_append first.carried more.carried
                    ∙ ap (λ (run : List Answered). changes_of (run_of first.carried) ++ run) (no_changes more.carried more.questions)
                    ∙ append-nil (changes_of (run_of first.carried)) ∙ f.just;
                leads = subst (λ (state : State). LeadsAccepted (k.state old) f.done state) (sym (asked.same_state h)) f.leads;
              };
        };
  }

  pub partly_asked : {T : Type 0} (old mid new : S) (whole left : List Command) (meaning : Meaning T) (value : T) → Partly old mid whole left
      → Call k mid new meaning (Ok value) → Partly old new whole left
  partly_asked old mid new whole left meaning value p call = partly_goes old mid new whole left p call.asked call.stays

  -- WHOLE CALLS
  -- all was done
  pub carries_done : {T : Type 0} (old new : S) (whole left : List Command) (value : T) (result : Result T Refusal) → Partly old new whole left
      → (k.closed old ≡ false → k.honest new → left ≡ []) → result ≡ Ok value → Carries k old new whole result
  carries_done old new whole left value result p e is = subst (λ (answer : Result _ Refusal). Carries k old new whole answer) (sym is) (record {
    was_honest = p.was_honest;
    stays_sound = p.stays_sound;
    stays = p.stays;
    carried = λ h.
        let first = p.carried h in
        record {
          carried = first.carried;
          carries_out = first.carries_out;
          ends = λ is_open.
              let f = first.so_far is_open in
              let all : whole ≡ f.done = f.front ∙ ap (λ (c : List Command). f.done ++ c) (e is_open h) ∙ append-nil f.done in
              record {
                just = f.just ∙ ap (λ (c : List Command). answered c (k.state old)) (sym all);
                leads = subst (λ (c : List Command). LeadsAccepted (k.state old) c (k.state new)) (sym all) f.leads;
              };
        };
  })

  -- a refused command ended them
  ends_err : {T U : Type 0} (old mid new : S) (whole left commands more : List Command) (refusal : Refusal) → Partly old mid whole left
      → Carries {T = T} k mid new commands (Err refusal) → (k.closed old ≡ false → k.honest mid → left ≡ commands ++ more)
      → Carries {T = U} k old new whole (Err refusal)
  ends_err old mid new whole left commands more refusal p q e = record {
    was_honest = λ h. p.was_honest (q.was_honest h);
    stays_sound = λ h. q.stays_sound (p.stays_sound h);
    stays = λ is_open. q.stays (p.stays is_open);
    carried = λ h.
        let first = p.carried (q.was_honest h) in
        let then_ = q.carried h in
        record {
          carried = first.carried ++ then_.carried;
          carries_out = carries_more k first.carried then_.carried old mid new first.carries_out then_.carries_out;
          ends = λ is_open.
              let f = first.so_far is_open in
              let g = then_.ends (p.stays is_open) in
              record {
                done = f.done ++ g.done;
                left = g.left ++ more;
                front = f.front
                    ∙ ap (λ (c : List Command). f.done ++ c)
                    (e is_open (q.was_honest h) ∙ ap (λ (c : List Command). c ++ more) g.front ∙ append_assoc g.done g.left more)
                    ∙ sym (append_assoc f.done g.done (g.left ++ more));
                mid = g.mid;
                leads = leads_more f.done g.done (k.state old) (k.state mid) g.mid f.leads g.leads;
                last = g.last;
                just = changes_append first.carried then_.carried
                    ∙ ap (λ (run : List Answered). run ++ changes_of (run_of then_.carried)) f.just
                    ∙ ap (λ (run : List Answered). answered f.done (k.state old) ++ run) g.just
                    ∙ sym (append_assoc (answered f.done (k.state old)) (answered g.done (k.state mid)) g.last)
                    ∙ ap (λ (run : List Answered). run ++ g.last) (sym (answered_more f.done g.done (k.state old) (k.state mid) f.leads));
                ends = ends_more g.mid g.left more g.last refusal (standing_of k new) g.ends;
              };
        };
  }

  pub carries_err : {T U : Type 0} (old mid new : S) (whole left commands more : List Command) (refusal : Refusal) (result : Result U Refusal)
      → Partly old mid whole left → Carries {T = T} k mid new commands (Err refusal)
      → (k.closed old ≡ false → k.honest mid → left ≡ commands ++ more) → result ≡ Err refusal → Carries k old new whole result
  carries_err old mid new whole left commands more refusal result p q e is =
      subst (λ (answer : Result _ Refusal). Carries k old new whole answer) (sym is) (ends_err old mid new whole left commands more refusal p q e)

  -- the last call gave the answer
  pub carries_last : {T : Type 0} (old mid new : S) (whole left commands : List Command) (result : Result T Refusal) → Partly old mid whole left
      → Carries k mid new commands result → (k.closed old ≡ false → k.honest mid → left ≡ commands) → Carries k old new whole result
  carries_last old mid new whole left commands (Ok value) p q e =
      carries_done old new whole [] value (Ok value)
      (partly_on old mid new whole left commands [] value p q (λ is_open h same. e is_open h ∙ sym (append-nil commands)))
      (λ is_open h. refl) refl
  carries_last old mid new whole left commands (Err refusal) p q e =
      ends_err old mid new whole left commands [] refusal p q (λ is_open h. e is_open h ∙ sym (append-nil commands))

  -- they were ended by no command
  ends_so : {T : Type 0} (old mid new : S) (whole left : List Command) (refusal : Refusal) → Partly old mid whole left → IsOnlyAsked k mid new
      → (k.closed mid ≡ false → k.closed new ≡ true → refusal ≡ Device) → (k.closed old ≡ false → k.honest new → IsFault refusal)
      → Carries {T = T} k old new whole (Err refusal)
  ends_so old mid new whole left refusal p asked shut fault = record {
    was_honest = λ h. p.was_honest (asked.was_honest h);
    stays_sound = λ h. asked.stays_sound (p.stays_sound h);
    stays = λ is_open. shut (p.stays is_open);
    carried = λ h.
        let first = p.carried (asked.was_honest h) in
        let more = asked.carried h in
        record {
          carried = first.carried ++ more.carried;
          carries_out = carries_more k first.carried more.carried old mid new first.carries_out more.carries_out;
          ends = λ is_open.
              let f = first.so_far is_open in
              record {
                done = f.done;
                left = left;
                front = f.front;
                mid = k.state mid;
                leads = f.leads;
                last = [];
                just = changes_append first.carried more.carried
                    ∙ ap (λ (run : List Answered). changes_of (run_of first.carried) ++ run) (no_changes more.carried more.questions)
                    ∙ append-nil (changes_of (run_of first.carried)) ∙ f.just ∙ sym (append-nil (answered f.done (k.state old)));
                ends = (fault is_open h, asked.same_state h);
              };
        };
  }

  -- a question met a fault
  pub carries_asked_err : {T U : Type 0} (old mid new : S) (whole left : List Command) (meaning : Meaning T) (refusal : Refusal)
      (result : Result U Refusal) → Partly old mid whole left → Call k mid new meaning (Err refusal)
      → (k.closed old ≡ false → k.honest new → meaning.refused (k.state mid) refusal → ⊥) → result ≡ Err refusal → Carries k old new whole result
  carries_asked_err old mid new whole left meaning refusal result p call never is =
      subst (λ (answer : Result _ Refusal). Carries k old new whole answer) (sym is)
      (ends_so old mid new whole left refusal p call.asked call.stays
      (λ is_open h. elim (call.answer (p.stays is_open) h) [ inl refused ↦ absurd (never is_open h refused) | inr fault ↦ fault ]))

  -- memory ran out
  pub carries_no_memory : {T : Type 0} (old new : S) (whole left : List Command) (result : Result T Refusal) → Partly old new whole left
      → result ≡ Err OutOfMemory → Carries k old new whole result
  carries_no_memory old new whole left result p is =
      subst (λ (answer : Result _ Refusal). Carries k old new whole answer) (sym is)
      (ends_so old new new whole left OutOfMemory p (asked_none k new) (λ is_open shut. absurd cc) (λ is_open h. inl refl))

  -- ONE COMMAND
  pub carried_one : (old new : S) (command : Command) (answer : Result Reply Refusal) → asks command ≡ false
      → (k.honest new → Answers (standing_of k old) command answer (standing_of k new))
      → StorePasses k old new (passed (k.state old) command answer)
      → (k.closed old ≡ false → MatchResult answer (λ _. k.closed new ≡ false) (λ refusal. k.closed new ≡ true → refusal ≡ Device))
      → Carries k old new (command ∷ []) answer
  carried_one old new command (Ok reply) is answers passes stays = record {
    was_honest = passes.was_honest;
    stays_sound = passes.stays_sound;
    stays = stays;
    carried = λ h.
        let answered_ = ok_answer (standing_of k old) (standing_of k new) command (Ok reply) (answers h) in
        record {
          carried = record { command = command; answer = Ok reply; after = new } ∷ [];
          carries_out = (record { answers = answers h; passes = passes }, refl);
          ends = λ is_open. record {
            just = one_change command (Ok reply) is
                ∙ ap (λ (a : Result Reply Refusal). record { command = command; answer = a } ∷ []) (sym answered_.0);
            leads = ((subst (λ (a : Result Reply Refusal). IsTrue (is_ok a)) (sym answered_.0) refl, tt), answered_.1);
          };
        };
  }
  carried_one old new command (Err refusal) is answers passes stays = record {
    was_honest = passes.was_honest;
    stays_sound = passes.stays_sound;
    stays = stays;
    carried = λ h. record {
      carried = record { command = command; answer = Err refusal; after = new } ∷ [];
      carries_out = (record { answers = answers h; passes = passes }, refl);
      ends = λ is_open. record {
        done = [];
        left = command ∷ [];
        front = refl;
        mid = k.state old;
        leads = (tt, refl);
        last = record { command = command; answer = Err refusal } ∷ [];
        just = one_change command (Err refusal) is;
        ends = (
          refl,
          subst (λ (shut : Bool). Answers (record { state = k.state old; closed = shut }) command (Err refusal) (standing_of k new)) is_open
              (answers h),
        );
      };
    };
  }
