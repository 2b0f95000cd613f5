-- What it is to put a result in its place, by the deeds.
use Rattle.std.proofs.Common.{◌≡◌, ◌≢◌, ℕ, List, [], ◌∷◌, ◌++◌, Bool, refl, ap, ◌∙◌, inl, inr, Ok, Err}
use Rattle.std.proofs.lemmas.List.{append_assoc}
use Rattle.tune_desk.specs.DeskDeeds.{DeskDeed, Answer, made, removed}
use Rattle.tune_desk.specs.BegunResults.{AfterNaming, PutOutcome, naming_of, refusal_of_removal}
use Rattle.tune_desk.specs.Inside.Puts.{PutsIt, AfterMaking, refusal_of_making}
use Rattle.tune_desk.specs.Results.{new_of}
use Rattle.tune_desk.specs.declared.desk.DeskFault.{DeskFault}
use Rattle.tune_desk.specs.declared.desk.DeskFault.TheVariants as desk
use Rattle.tune_desk.specs.declared.refusals.ResultRefusal.TheVariants.{Unkept}

-- the deeds of a result, after questions
pub data Done {D : Type 0} (target : List ℕ) (over : Bool) (bytes : List ℕ) (outcome : PutOutcome) (deeds : List (DeskDeed D)) : Type 0 where
  not_made : (fault : DeskFault) → deeds ≡ made (new_of target) bytes (Err fault) ∷ [] → outcome ≡ Err (refusal_of_making fault)
      → Done target over bytes outcome deeds
  put : deeds ≡ made (new_of target) bytes (Ok tt) ∷ naming_of target over (Ok tt) ∷ [] → outcome ≡ Ok tt → Done target over bytes outcome deeds
  unkept : deeds ≡ made (new_of target) bytes (Ok tt) ∷ naming_of target over (Err desk.Unkept) ∷ [] → outcome ≡ Err Unkept
      → Done target over bytes outcome deeds
  taken_away : (fault : DeskFault) (answer : Answer) → fault ≢ desk.Unkept
      → deeds ≡ made (new_of target) bytes (Ok tt) ∷ naming_of target over (Err fault) ∷ removed (new_of target) answer ∷ []
      → outcome ≡ refusal_of_removal fault answer → Done target over bytes outcome deeds

pub two_more : {D : Type 0} (was now : List (DeskDeed D)) (a b : DeskDeed D) → now ≡ (was ++ a ∷ []) ++ b ∷ [] → now ≡ was ++ a ∷ b ∷ []
two_more was now a b e = e ∙ append_assoc was (a ∷ []) (b ∷ [])

pub three_more : {D : Type 0} (was now : List (DeskDeed D)) (a b c : DeskDeed D) → now ≡ ((was ++ a ∷ []) ++ b ∷ []) ++ c ∷ [] → now ≡ was ++ a ∷ b ∷ c ∷ []
three_more was now a b c e = e ∙ append_assoc (was ++ a ∷ []) (b ∷ []) (c ∷ []) ∙ append_assoc was (a ∷ []) (b ∷ c ∷ [])

module _ {D : Type 0} (target : List ℕ) (over : Bool) (bytes : List ℕ) (outcome : PutOutcome) (was now : List (DeskDeed D)) where
  done_named : (answer : Answer)
      → AfterNaming target answer outcome ((was ++ made (new_of target) bytes (Ok tt) ∷ []) ++ naming_of target over answer ∷ []) now
      → (deeds : List (DeskDeed D)) × (now ≡ was ++ deeds) × Done target over bytes outcome deeds
  done_named (Ok t) h = (_, two_more was now (made (new_of target) bytes (Ok tt)) (naming_of target over (Ok tt)) h.1, put refl h.0)
  done_named (Err fault) (inl h) =
      let e : now ≡ (was ++ made (new_of target) bytes (Ok tt) ∷ []) ++ naming_of target over (Err desk.Unkept) ∷ [] =
      h.2 ∙ ap (λ f. (was ++ made (new_of target) bytes (Ok tt) ∷ []) ++ naming_of target over (Err f) ∷ []) h.0 in
      (_, two_more was now (made (new_of target) bytes (Ok tt)) (naming_of target over (Err desk.Unkept)) e, unkept refl h.1)
  done_named (Err fault) (inr h) =
      let t = h.1 in (
        _,
        three_more was now (made (new_of target) bytes (Ok tt)) (naming_of target over (Err fault)) (removed (new_of target) t.answer) t.history,
        taken_away fault t.answer h.0 refl t.told,
      )

  done_made : (answer : Answer) → AfterMaking (record { target = target; over = over; bytes = bytes }) answer outcome
      (was ++ made (new_of target) bytes answer ∷ []) now
      → (deeds : List (DeskDeed D)) × (now ≡ was ++ deeds) × Done target over bytes outcome deeds
  done_made (Ok t) h = done_named h.answer h.after
  done_made (Err fault) h = (_, h.1, not_made fault refl h.0)

  pub done_of : PutsIt (record { target = target; over = over; bytes = bytes }) outcome was now
      → (deeds : List (DeskDeed D)) × (now ≡ was ++ deeds) × Done target over bytes outcome deeds
  done_of h = done_made h.answer h.after
