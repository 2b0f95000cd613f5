-- A result that is begun as a disk, which its order fills, and then gets its name.
use Rattle.std.specs.Prelude.{◌≡◌, ◌≢◌, ◌⊎◌, ℕ, Bool, true, false, List, [], ◌∷◌, ◌++◌}
use Rattle.std.specs.Prelude.{Result, Ok, Err}
use Rattle.tune_desk.specs.DeskDeeds.{DeskDeed, Answer, named, named_over, removed, closed}
use Rattle.tune_desk.specs.Results.{Places, LeadsTo, KeepsTo, ComesInOrder, EachAfter}
use Rattle.tune_desk.specs.Results.{SparesArchive, MayBeReplaced, IsOwn, new_of}
use Rattle.tune_desk.specs.declared.desk.DeskFault.{DeskFault}
use Rattle.tune_desk.specs.declared.desk.DeskFault.TheVariants as desk
use Rattle.tune_desk.specs.declared.refusals.ResultRefusal.{ResultRefusal}
use Rattle.tune_desk.specs.declared.refusals.ResultRefusal.TheVariants.{NotNamed, Left, Unkept}

-- BEGUN
-- TARGET.new was made, and is the order's own; and TARGET may get the result, over what stands
-- there or where nothing does. What was done so far keeps to the files of the order, and came in
-- order.
pub record IsBegun {D : Type 0} (places : Places) (target : List ℕ) (over : Bool)
    (was now : List (DeskDeed D)) : Type 0 where
  pub since : List (DeskDeed D)
  pub history : now ≡ was ++ since
  pub keeps : EachAfter (KeepsTo places) [] since
  pub in_order : EachAfter (ComesInOrder places) [] since
  pub leads : LeadsTo places target since
  pub spares : SparesArchive places target since
  pub replaces : over ≡ true → MayBeReplaced places target since
  pub own : IsOwn (new_of target) since

-- FINISHED
abbrev pub naming_of : {D : Type 0} → List ℕ → Bool → Answer → DeskDeed D
naming_of target true answer = named_over (new_of target) target answer
naming_of target false answer = named (new_of target) target answer

abbrev pub PutOutcome : Type 0
PutOutcome = Result (Unit {0}) ResultRefusal

-- TARGET.new was not named, and is taken away
abbrev pub refusal_of_removal : DeskFault → Answer → PutOutcome
refusal_of_removal fault (Ok done) = Err (NotNamed fault)
refusal_of_removal fault (Err left) = Err (Left left)

pub record TakesAway {D : Type 0} (path : List ℕ) (fault : DeskFault) (outcome : PutOutcome)
    (was now : List (DeskDeed D)) : Type 0 where
  pub answer : Answer
  pub history : now ≡ was ++ removed path answer ∷ []
  pub told : outcome ≡ refusal_of_removal fault answer

-- TARGET.new is named: with this answer, and what comes of it
abbrev pub AfterNaming : {D : Type 0} → List ℕ → Answer → PutOutcome → List (DeskDeed D)
    → List (DeskDeed D) → Type 0
AfterNaming target (Ok done) outcome was now = (outcome ≡ Ok tt) × (now ≡ was)
AfterNaming target (Err fault) outcome was now =
    ((fault ≡ desk.Unkept) × (outcome ≡ Err Unkept) × (now ≡ was))
    ⊎ ((fault ≢ desk.Unkept) × TakesAway (new_of target) fault outcome was now)

pub record NamesNew {D : Type 0} (target : List ℕ) (over : Bool) (outcome : PutOutcome)
    (was now : List (DeskDeed D)) : Type 0 where
  pub answer : Answer
  pub after : AfterNaming target answer outcome (was ++ naming_of target over answer ∷ []) now

-- A result was begun, its disk was closed, of which this holds, and it got the name TARGET.
pub record WritesDisk {D : Type 0} (places : Places) (Is : D → Type 0) (was now : List (DeskDeed D))
    : Type 0 where
  pub target : List ℕ
  pub over : Bool
  pub mid : List (DeskDeed D)
  pub disk : D
  pub begun : IsBegun places target over was mid
  pub history : now ≡ mid ++ closed (new_of target) disk ∷ naming_of target over (Ok tt) ∷ []
  pub is : Is disk
