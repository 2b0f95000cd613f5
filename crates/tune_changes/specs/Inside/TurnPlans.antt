-- What the calls that make a plan come to.
use Rattle.std.specs.Prelude.{◌≡◌, ℕ, List, [], ◌∷◌, ◌++◌, Option, None, Some, Result, Ok, Err}
use Rattle.std.specs.Prelude.{take}
use Rattle.std.specs.Prelude.{slice_index, slice_index_or, ◌⊎◌, MatchResult}
use Rattle.std.specs.Global.{Vec}
use Rattle.std.specs.Prelude.{if◌then◌else◌}
use Rattle.std.specs.Option.{option_map}
use Rattle.tune_sets.specs.Numbers.{is_among}
use Rattle.tune_sets.specs.Sets.{set_at}
use Rattle.tune_sets.specs.declared.set_lists.TuneSet.{TuneSet}
use Rattle.tune_store.specs.State.{State, tune_at}
use Rattle.tune_store.specs.declared.command.Refusal.{Refusal}
use Rattle.tune_store.specs.declared.command.Refusal.TheVariants.{Unknown}
use Rattle.tune_asking.specs.Asking.{IsFault}
use Rattle.tune_asking.specs.AskingCalls.{Meaning}
use Rattle.tune_changes.specs.Planning.{first_unknown, tune_gone, turn_with_more}
use Rattle.tune_changes.specs.declared.turns.Turn.{Turn}

-- the numbers at the places of the set of a name
abbrev pub numbers_of_set : List ℕ → List TuneSet → Option (List ℕ)
numbers_of_set name sets = option_map (λ set. set.numbers) (set_at name sets)

-- turns are those of a plan
abbrev pub turns_told : (State → Result (List Turn) Refusal) → Meaning (Vec Turn)
turns_told plan = record {
  good = λ state turns. plan state ≡ Ok turns.items;
  refused = λ state refusal. plan state ≡ Err refusal;
}

-- turns are those of this plan, or a fault
abbrev pub IsPlannedOrFault : Result (List Turn) Refusal → Result (Vec Turn) Refusal → Type 0
IsPlannedOrFault plan result = MatchResult result (λ turns. plan ≡ Ok turns.items)
    (λ refusal. (plan ≡ Err refusal) ⊎ IsFault refusal)

-- each of these numbers is that of a tune
abbrev pub are_known : List ℕ → Meaning (Unit {0})
are_known numbers = record {
  good = λ state value. first_unknown numbers state.tunes ≡ None;
  refused = λ state refusal. (number : ℕ) × (first_unknown numbers state.tunes ≡ Some number)
      × (refusal ≡ Unknown number);
}

-- the tunes of these numbers go, beside each of which stands what set list has it
abbrev pub all_gone : List ℕ → List (Option (List ℕ)) → List ℕ → State
    → Result (List Turn) Refusal
all_gone gone held [] state = Ok []
all_gone gone [] (number ∷ numbers) state = Ok []
all_gone gone (name ∷ held) (number ∷ numbers) state =
    if is_among number gone then Err (Unknown number)
    else turn_with_more (tune_gone number name (tune_at number state.tunes))
    (all_gone (gone ++ number ∷ []) held numbers state)

-- the tune at a place of these numbers goes, unless it went before
abbrev pub gone_at : List ℕ → List (Option (List ℕ)) → ℕ → State → Result Turn Refusal
gone_at numbers held place state =
    let number = slice_index numbers place in
    if is_among number (take place numbers) then Err (Unknown number)
    else tune_gone number (slice_index_or held place None) (tune_at number state.tunes)
