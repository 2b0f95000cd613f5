-- Entries that are looked at, one after another.
use Rattle.std.proofs.Common.{◌≡◌, ◌≢◌, ◌∙◌, ℕ, List, [], ◌∷◌, drop, Ok, sym, subst}
use Rattle.tune_store.specs.State.{State}
use Rattle.tune_store.specs.declared.tune_store.TuneStore.{Ghosts}
use Rattle.tune_asking.specs.Asking.{IsOnlyAsked}
use Rattle.tune_asking.specs.AskingCalls.{Call, told_by}
use Rattle.tune_asking.proofs.CallLemmas.{asked_none}
use Rattle.tune_changes.specs.Judging.{verdict_on}
use Rattle.tune_changes.specs.declared.judging.Verdict.{Verdict}
use Rattle.tune_changes.specs.declared.judging.Verdict.TheVariants.{Before, Begun, Changed}
use Rattle.tune_changes.proofs.LookLemmas.{same_told}
use Rattle.tune_undo.specs.declared.old_entries.Part.{Part}
use Rattle.tune_undo.specs.declared.old_entries.Step.{Step}
use Rattle.desk_changes.specs.Inside.TriedUndoings.{steps_of}
use Rattle.desk_changes.specs.TakenBack.{AreUnchanged, IsUnchanged, Stood}

module _ {S : Type 0} (k : Ghosts S) where
  -- so far all stood, and so do all where the rest does
  pub record Standing (old here : S) (changes left : List Step) : Type 0 where
    pub asked : IsOnlyAsked k old here
    pub stood : Stood k old here (λ state. AreUnchanged (steps_of left) state → AreUnchanged (steps_of changes) state)

  pub one_more : (old mid new : S) (changes left rest : List Step) (change : Step) → Standing old mid changes left → IsOnlyAsked k mid new
      → Stood k mid new (IsUnchanged change.entry.parts.items) → left ≡ change ∷ rest
      → Stood k old new (λ state. AreUnchanged (steps_of rest) state → AreUnchanged (steps_of changes) state)
  one_more old mid new changes left rest change first asked stood e = record {
    stays = λ is_open. stood.stays (first.stood.stays is_open);
    was = λ is_open h others.
        let honest = asked.was_honest h in
        let same = first.asked.same_state honest in
        let this = subst (λ (state : State). IsUnchanged change.entry.parts.items state) same (stood.was (first.stood.stays is_open) h) in
        first.stood.was is_open honest (subst (λ (some : List Step). AreUnchanged (steps_of some) (k.state old)) (sym e) (this, others));
  }

  pub standing_none : (here : S) (changes : List Step) → Standing here here changes (drop 0 changes)
  standing_none here changes = record {
    asked = asked_none k here;
    stood = record { stays = λ is_open. is_open; was = λ is_open h all. all };
  }

  pub standing_done : (old new : S) (changes left : List Step) → Standing old new changes left → left ≡ [] → Stood k old new (AreUnchanged (steps_of changes))
  standing_done old new changes left standing e = record {
    stays = standing.stood.stays;
    was = λ is_open h. standing.stood.was is_open h (subst (λ (some : List Step). AreUnchanged (steps_of some) (k.state old)) (sym e) tt);
  }

  -- a verdict that is no other
  stood_by : (old new : S) (parts : List Part) (verdict : Verdict) → Call k old new (told_by (λ state. Ok (verdict_on parts state))) (Ok verdict)
      → ((place : ℕ) → verdict ≢ Changed place) → Stood k old new (IsUnchanged parts)
  stood_by old new parts verdict call other = record {
    stays = call.stays;
    was = λ is_open h place is. other place (sym (same_told _ _ (call.answer is_open h)) ∙ is);
  }

  pub stood_before : (old new : S) (parts : List Part) (verdict : Verdict) → Call k old new (told_by (λ state. Ok (verdict_on parts state))) (Ok verdict)
      → verdict ≡ Before → Stood k old new (IsUnchanged parts)
  stood_before old new parts verdict call e =
      stood_by old new parts verdict call (λ place is. let no : Before ≡ Changed place = sym e ∙ is in absurd cc)

  pub stood_begun : (old new : S) (parts : List Part) (verdict : Verdict) → Call k old new (told_by (λ state. Ok (verdict_on parts state))) (Ok verdict)
      → verdict ≡ Begun → Stood k old new (IsUnchanged parts)
  stood_begun old new parts verdict call e =
      stood_by old new parts verdict call (λ place is. let no : Begun ≡ Changed place = sym e ∙ is in absurd cc)

-- a part that was told
