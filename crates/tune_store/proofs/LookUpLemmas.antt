-- What a look-up of a number in the labels of tunes tells of the tunes.
use Rattle.std.proofs.Common.{◌≡◌, ℕ, ◌<◌, true, false, List, length, get_or, Option, Some, None, IfSome, IfNone, refl, ap, sym, ◌∙◌, arith}
use Rattle.std.proofs.Common.{is_some, ◌≤◌, Ok, Err}
use Rattle.std.specs.List.{Contains}
use Rattle.std.proofs.lemmas.Bool.{eq-eqb, ne_eqb, lt-ltb, le-leb}
use Rattle.std.proofs.lemmas.List.{get_or-map, length-map}
use Rattle.tune_store.specs.State.{State, NumbersRiseFrom, tune_at}
use Rattle.tune_store.specs.Limits.{greatest_number}
use Rattle.tune_store.specs.TuneSteps.{is_number, renumber, renumber_found, renumber_unless}
use Rattle.tune_store.specs.Plans.{changed}
use Rattle.tune_store.specs.declared.plans.Change.TheVariants.{Move}
use Rattle.tune_store.specs.declared.command.Reply.TheVariants.{Renumbered}
use Rattle.tune_store.specs.declared.command.Refusal.TheVariants.{Unknown, Taken}
use Rattle.tune_store.specs.Labels.{labels_of, numbers_of}
use Rattle.tune_store.specs.declared.tune.Tune.{Tune}
use Rattle.tune_store.specs.declared.catalog.Label.{Label}
use Rattle.tune_store.proofs.PlanLemmas.{no_tune, no_label, place_found, place_none}

-- what a look-up of a number in these labels answered
pub record IsLookUp (number : ℕ) (labels : List Label) (answer : Option ℕ) : Type 0 where
  pub within : IfSome answer (λ place. place < length labels)
  pub found : IfSome answer (λ place. (e : Label) → (get_or labels place e).number ≡ number)
  pub none : IfNone answer ((place : ℕ) (e : Label) → place < length labels → (get_or labels place e).number ≡ number → ⊥)

-- the tunes of a state are those of the labels, by rising number
pub record AreLabelled (tunes : List Tune) (labels : List Label) : Type 0 where
  pub rises : NumbersRiseFrom 0 tunes
  pub same : labels_of tunes ≡ labels

-- where none was found no tune has the number
pub missing : (number : ℕ) (tunes : List Tune) (labels : List Label) (answer : Option ℕ) → IsLookUp number labels answer → AreLabelled tunes labels
    → is_some answer ≡ false → tune_at number tunes ≡ None
missing number tunes labels None look are e = place_none number tunes labels are.same look.none
missing number tunes labels (Some place) look are e = cc

-- where one was found a tune has it
pub there : (number : ℕ) (tunes : List Tune) (labels : List Label) (answer : Option ℕ) → IsLookUp number labels answer → AreLabelled tunes labels
    → is_some answer ≡ true → (tune : Tune) × (tune_at number tunes ≡ Some tune)
there number tunes labels None look are e = cc
there number tunes labels (Some place) look are e = (
  get_or tunes place no_tune,
  place_found number tunes labels place (record { rises = are.rises; same = are.same; within = look.within; found = look.found }),
)

-- the number at a place
number_at : (labels : List Label) (place n : ℕ) → place < length labels → get_or (numbers_of labels) place n ≡ (get_or labels place no_label).number
number_at labels place n l = get_or-map (λ (label : Label). label.number) labels place no_label n l

-- so the number is among those of the labels, or is not
pub among : (number : ℕ) (labels : List Label) (answer : Option ℕ) → IsLookUp number labels answer → is_some answer ≡ true
    → Contains (numbers_of labels) number
among number labels None look e = cc
among number labels (Some place) look e =
    let within = look.within in
    let many = length-map labels (λ (label : Label). label.number) in
    (place, omega arith, number_at labels place number within ∙ look.found no_label)

pub not_among : (number : ℕ) (labels : List Label) (answer : Option ℕ) → IsLookUp number labels answer → is_some answer ≡ false
    → Contains (numbers_of labels) number → ⊥
not_among number labels (Some place) look e has = cc
not_among number labels None look e has =
    let many = length-map labels (λ (label : Label). label.number) in
    let within : has.0 < length labels = omega (arith, has.1) in
    look.none has.0 no_label within (sym (number_at labels has.0 number within) ∙ has.2)

-- RENUMBER
-- a number within the limits
may_have : (to : ℕ) → 0 < to → to ≤ greatest_number → is_number to ≡ true
may_have to some few = rw (lt-ltb 0 to some, le-leb to greatest_number few) refl

-- no tune has the number
pub renumber_unknown : (state : State) (number to : ℕ) → 0 < to → to ≤ greatest_number → tune_at number state.tunes ≡ None
    → renumber state number to ≡ (state, Err (Unknown number))
renumber_unknown state number to some few none = rw (may_have to some few, none) refl

-- another tune has the new one
pub renumber_taken : (state : State) (number to : ℕ) (tune other : Tune) → 0 < to → to ≤ greatest_number → tune_at number state.tunes ≡ Some tune
    → tune_at to state.tunes ≡ Some other → (number ≡ to → ⊥) → renumber state number to ≡ (state, Err (Taken to))
renumber_taken state number to tune other some few has taken apart = rw (may_have to some few, has, taken, ne_eqb number to apart) refl

-- it is the tune's own
pub renumber_same : (state : State) (number to : ℕ) (tune : Tune) → 0 < to → to ≤ greatest_number → tune_at number state.tunes ≡ Some tune
    → number ≡ to → renumber state number to ≡ (state, Ok (Renumbered number to))
renumber_same state number to tune some few has same =
    let own = sym (ap (λ n. tune_at n state.tunes) same) ∙ has in
    rw (may_have to some few, has, own, eq-eqb number to same) refl

-- the tune moves
pub renumber_moves : (state : State) (number to : ℕ) (tune : Tune) → 0 < to → to ≤ greatest_number → tune_at number state.tunes ≡ Some tune
    → tune_at to state.tunes ≡ None → renumber state number to ≡ (changed (Move number to) state, Ok (Renumbered number to))
renumber_moves state number to tune some few has free =
    let asked : renumber state number to ≡ renumber_found state number to (tune_at number state.tunes) = rw (may_have to some few) refl in
    asked ∙ ap (renumber_found state number to) has ∙ ap (renumber_unless state number to) free
