-- Deeds that change nothing, one after another.
use Rattle.std.proofs.Common.{◌≡◌, ◌≢◌, ◌⊎◌, inl, inr, ℕ, List, [], ◌∷◌, ◌++◌, refl, sym, ◌∙◌, ap, append-nil, append_assoc}
use Rattle.std.specs.List.{AllByRecursion}
use Rattle.tune_desk.specs.DeskDeeds.{DeskDeed, ChangesNothing}
use Rattle.desk_scenes.specs.Scenes.{IsQuiet}

-- DEEDS THAT CHANGE NOTHING
pub quiet_none : {D : Type 0} (was : List (DeskDeed D)) → IsQuiet was was
quiet_none was = ([], sym (append-nil was), tt)

pub quiet_one : {D : Type 0} (was now : List (DeskDeed D)) (deed : DeskDeed D) → now ≡ was ++ deed ∷ [] → ChangesNothing deed → IsQuiet was now
quiet_one was now deed h quiet = (deed ∷ [], h, (quiet, tt))

pub all_both : {X : Type 0} (P : X → Type 0) (xs ys : List X) → AllByRecursion P xs → AllByRecursion P ys → AllByRecursion P (xs ++ ys)
all_both P [] ys a b = b
all_both P (x ∷ xs) ys a b = (a.0, all_both P xs ys a.1 b)

pub quiet_both : {D : Type 0} (was mid now : List (DeskDeed D)) → IsQuiet was mid → IsQuiet mid now → IsQuiet was now
quiet_both was mid now first second = (
  first.0 ++ second.0,
  second.1 ∙ ap (λ l. l ++ second.0) first.1 ∙ append_assoc was first.0 second.0,
  all_both ChangesNothing first.0 second.0 first.2 second.2,
)
