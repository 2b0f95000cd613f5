-- What is done to put a result in its place.
use Rattle.std.specs.Prelude.{◌≡◌, ◌⊎◌, ℕ, Bool, List, [], ◌∷◌, ◌++◌, Ok, Err}
use Rattle.tune_desk.specs.BegunResults.{NamesNew, PutOutcome}
use Rattle.tune_desk.specs.DeskDeeds.{DeskDeed, Answer, made}
use Rattle.tune_desk.specs.Inside.Asks.{Asks, MayBeWritten}
use Rattle.tune_desk.specs.Refusals.{HasCause}
use Rattle.tune_desk.specs.Results.{Places, new_of}
use Rattle.tune_desk.specs.declared.desk.DeskFault.{DeskFault}
use Rattle.tune_desk.specs.declared.desk.DeskFault.TheVariants as desk
use Rattle.tune_desk.specs.declared.refusals.ResultRefusal.{ResultRefusal}
use Rattle.tune_desk.specs.declared.refusals.ResultRefusal.TheVariants.{NewStands, NotMade}

-- what is to be put: where, whether over what stands there, and which bytes
pub record Putting : Type 0 where
  pub target : List ℕ
  pub over : Bool
  pub bytes : List ℕ

-- TARGET.new is made, and then named
abbrev pub refusal_of_making : DeskFault → ResultRefusal
refusal_of_making desk.Taken = NewStands
refusal_of_making fault = NotMade fault

abbrev pub AfterMaking : {D : Type 0} → Putting → Answer → PutOutcome → List (DeskDeed D)
    → List (DeskDeed D) → Type 0
AfterMaking put (Ok done) outcome was now = NamesNew put.target put.over outcome was now
AfterMaking put (Err fault) outcome was now =
    (outcome ≡ Err (refusal_of_making fault)) × (now ≡ was)

pub record PutsIt {D : Type 0} (put : Putting) (outcome : PutOutcome) (was now : List (DeskDeed D))
    : Type 0 where
  pub answer : Answer
  pub after : AfterMaking put answer outcome
      (was ++ made (new_of put.target) put.bytes answer ∷ []) now

-- A result is written to TARGET: after questions alone it is refused, or put in its place.
pub record AsksAndPuts {D : Type 0} (places : Places) (target bytes : List ℕ) (outcome : PutOutcome)
    (was now : List (DeskDeed D)) : Type 0 where
  pub over : Bool
  pub mid : List (DeskDeed D)
  pub asks : Asks (MayBeWritten places target over) was mid
  pub puts : PutsIt (record { target = target; over = over; bytes = bytes }) outcome mid now

abbrev pub IsPutRefused : {D : Type 0} → Places → List ℕ → PutOutcome → List (DeskDeed D)
    → List (DeskDeed D) → Type 0
IsPutRefused places target outcome was now = (why : ResultRefusal) × (outcome ≡ Err why)
    × Asks (HasCause places target why) was now

abbrev pub WritesTo : {D : Type 0} → Places → List ℕ → List ℕ → PutOutcome → List (DeskDeed D)
    → List (DeskDeed D) → Type 0
WritesTo places target bytes outcome was now = IsPutRefused places target outcome was now
    ⊎ AsksAndPuts places target bytes outcome was now
