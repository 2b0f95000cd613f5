-- One asking call after another.
use Rattle.std.proofs.Common.{◌≡◌, ℕ, Bool, true, false, List, [], ◌∷◌, ◌++◌, Result, Ok, Err, refl, sym, ap, ◌∙◌, subst, inl, inr}
use Rattle.std.specs.List.{AllByRecursion}
use Rattle.tune_store.specs.State.{State}
use Rattle.tune_store.specs.Answers.{asks}
use Rattle.tune_store.specs.Labels.{labels_of}
use Rattle.tune_store.specs.declared.catalog.Label.{Label}
use Rattle.tune_store.specs.declared.command.Refusal.{Refusal}
use Rattle.tune_store.specs.declared.command.Refusal.TheVariants.{OutOfMemory, Device}
use Rattle.tune_store.specs.declared.tune_store.TuneStore.{Ghosts}
use Rattle.tune_scripts.specs.Carried.{Carried, CarriesAllOut}
use Rattle.tune_scripts.proofs.CarriedLemmas.{carries_more}
use Rattle.tune_asking.specs.Asking.{IsOnlyAsked, CarriesOutQuestions, IsFault, IsToldOrFault}
use Rattle.tune_asking.specs.AskingCalls.{Call, Meaning, told_where, told_by}

all-append : {A : Type 0} (P : A → Type 0) (xs ys : List A) → AllByRecursion P xs → AllByRecursion P ys → AllByRecursion P (xs ++ ys)
all-append P [] ys h k = k
all-append P (x ∷ xs) ys h k = (h.0, all-append P xs ys h.1 k)

module _ {S : Type 0} (k : Ghosts S) where
  -- QUESTIONS
  -- none
  pub asked_none : (here : S) → IsOnlyAsked k here here
  asked_none here = record {
    was_honest = λ h. h;
    same_state = λ h. refl;
    same_moment = λ h. refl;
    stays_sound = λ h. h;
    carried = λ h. record { carried = []; carries_out = refl; questions = tt };
  }

  -- some and more
  pub asked_more : (old mid new : S) → IsOnlyAsked k old mid → IsOnlyAsked k mid new → IsOnlyAsked k old new
  asked_more old mid new first then_ = record {
    was_honest = λ h. first.was_honest (then_.was_honest h);
    same_state = λ h. then_.same_state h ∙ first.same_state (then_.was_honest h);
    same_moment = λ h. then_.same_moment h ∙ first.same_moment (then_.was_honest h);
    stays_sound = λ h. then_.stays_sound (first.stays_sound h);
    carried = λ h.
        let one = first.carried (then_.was_honest h) in
        let more = then_.carried h in
        record {
          carried = one.carried ++ more.carried;
          carries_out = carries_more k one.carried more.carried old mid new one.carries_out more.carries_out;
          questions = all-append _ one.carried more.carried one.questions more.questions;
        };
  }

  -- CALLS
  -- questions were asked, and each was accepted
  pub record Goes (old now : S) : Type 0 where
    pub asked : IsOnlyAsked k old now
    pub stays : k.closed old ≡ false → k.closed now ≡ false

  pub goes_none : (here : S) → Goes here here
  goes_none here = record { asked = asked_none here; stays = λ h. h }

  -- a call more that was accepted
  pub goes_on : {T : Type 0} (old mid new : S) (meaning : Meaning T) (value : T) → Goes old mid → Call k mid new meaning (Ok value) → Goes old new
  goes_on old mid new meaning value goes call = record {
    asked = asked_more old mid new goes.asked call.asked;
    stays = λ is_open. call.stays (goes.stays is_open);
  }

  -- what its answer means, of the state at the start
  pub good_of : {T : Type 0} (old mid new : S) (meaning : Meaning T) (value : T) → Goes old mid → Call k mid new meaning (Ok value)
      → k.closed old ≡ false → k.honest new → meaning.good (k.state old) value
  good_of old mid new meaning value goes call is_open honest =
      let same = goes.asked.same_state (call.asked.was_honest honest) in
      subst (λ (state : State). meaning.good state value) same (call.answer (goes.stays is_open) honest)

  -- an answer at the end
  pub call_ok : {T : Type 0} (old new : S) (meaning : Meaning T) (value : T) → Goes old new
      → (k.closed old ≡ false → k.honest new → meaning.good (k.state old) value) → Call k old new meaning (Ok value)
  call_ok old new meaning value goes good = record { asked = goes.asked; stays = goes.stays; answer = good }

  -- a refusal that no call gave
  pub call_refused : {T : Type 0} (old new : S) (meaning : Meaning T) (refusal : Refusal) → Goes old new
      → (k.closed old ≡ false → k.honest new → meaning.refused (k.state old) refusal) → Call k old new meaning (Err refusal)
  call_refused old new meaning refusal goes refused = record {
    asked = goes.asked;
    stays = λ is_open shut. let no = goes.stays is_open in absurd cc;
    answer = λ is_open honest. inl (refused is_open honest);
  }

  pub call_refused_by : {T : Type 0} (old new : S) (meaning : Meaning T) (refusal : Refusal) (result : Result T Refusal) → Goes old new
      → (k.closed old ≡ false → k.honest new → meaning.refused (k.state old) refusal) → result ≡ Err refusal → Call k old new meaning result
  call_refused_by old new meaning refusal result goes refused is =
      subst (λ (answer : Result _ Refusal). Call k old new meaning answer) (sym is) (call_refused old new meaning refusal goes refused)

  -- out of memory
  pub call_no_memory : {T : Type 0} (old new : S) (meaning : Meaning T) (result : Result T Refusal) → Goes old new → result ≡ Err OutOfMemory
      → Call k old new meaning result
  call_no_memory old new meaning result goes is = subst (λ (answer : Result _ Refusal). Call k old new meaning answer) (sym is) (record {
    asked = goes.asked;
    stays = λ is_open shut. let no = goes.stays is_open in absurd cc;
    answer = λ is_open honest. inr (inl refl);
  })

  -- a call that was refused ends the whole
  refused_call : {T U : Type 0} (old mid new : S) (inner : Meaning T) (meaning : Meaning U) (refusal : Refusal) → Goes old mid
      → Call k mid new inner (Err refusal)
      → (k.closed old ≡ false → k.honest new → inner.refused (k.state old) refusal → meaning.refused (k.state old) refusal)
      → Call k old new meaning (Err refusal)
  refused_call old mid new inner meaning refusal goes call means = record {
    asked = asked_more old mid new goes.asked call.asked;
    stays = λ is_open. call.stays (goes.stays is_open);
    answer = λ is_open honest.
        let same = goes.asked.same_state (call.asked.was_honest honest) in
        elim (call.answer (goes.stays is_open) honest) [
          | inl refused ↦ inl (means is_open honest (subst (λ (state : State). inner.refused state refusal) same refused))
          | inr fault ↦ inr fault
        ];
  }

  pub call_err : {T U : Type 0} (old mid new : S) (inner : Meaning T) (meaning : Meaning U) (refusal : Refusal) (result : Result U Refusal) → Goes old mid
      → Call k mid new inner (Err refusal)
      → (k.closed old ≡ false → k.honest new → inner.refused (k.state old) refusal → meaning.refused (k.state old) refusal)
      → result ≡ Err refusal → Call k old new meaning result
  call_err old mid new inner meaning refusal result goes call means is =
      subst (λ (answer : Result _ Refusal). Call k old new meaning answer) (sym is) (refused_call old mid new inner meaning refusal goes call means)

  -- the whole is one call
  pub call_same : {T : Type 0} (old mid new : S) (inner meaning : Meaning T) (result : Result T Refusal) → Goes old mid
      → Call k mid new inner result
      → (k.closed old ≡ false → k.honest new → (value : T) → inner.good (k.state old) value → meaning.good (k.state old) value)
      → (k.closed old ≡ false → k.honest new → (refusal : Refusal) → inner.refused (k.state old) refusal → meaning.refused (k.state old) refusal)
      → Call k old new meaning result
  call_same old mid new inner meaning (Ok value) goes call good refused =
      call_ok old new meaning value (goes_on old mid new inner value goes call)
      (λ is_open honest. good is_open honest value (good_of old mid new inner value goes call is_open honest))
  call_same old mid new inner meaning (Err refusal) goes call good refused =
      refused_call old mid new inner meaning refusal goes call (λ is_open honest. refused is_open honest refusal)

  -- what is told, of a store whose labels are those of its tunes
  pub told_at : (old new : S) (labels : List Label) (told : State → Result (List ℕ) Refusal) (result : Result (List ℕ) Refusal)
      → Call k old new (told_where labels told) result → k.closed old ≡ false → k.honest new → labels ≡ labels_of (k.state old).tunes
      → IsToldOrFault (told (k.state old)) result
  told_at old new labels told (Ok bytes) call is_open honest same = call.answer is_open honest same
  told_at old new labels told (Err refusal) call is_open honest same = elim (call.answer is_open honest) [
    | inl refused ↦ inl (refused same)
    | inr fault ↦ inr fault
  ]

  -- what is told of every store is told of these
  pub told_wherever : (old mid new : S) (labels : List Label) (told : State → Result (List ℕ) Refusal) (result : Result (List ℕ) Refusal) → Goes old mid
      → Call k mid new (told_by told) result → Call k old new (told_where labels told) result
  told_wherever old mid new labels told result goes call =
      call_same old mid new _ _ result goes call (λ is_open honest value good same. good) (λ is_open honest refusal refused same. refused)
