-- What the calls that write a dump come to.
use Rattle.std.specs.Prelude.{◌≡◌, ℕ, List, [], ◌∷◌, ◌++◌, Result, Ok, Err}
use Rattle.tune_sets.specs.Calls.{places_of, set_rows_of}
use Rattle.tune_sets.specs.declared.set_rows.SetRow.{SetRow}
use Rattle.tune_sets.specs.declared.faults.SetFault.{SetFault}
use Rattle.tune_sets.specs.declared.faults.SetFault.TheVariants.{NoSuchSet}
use Rattle.tune_store.specs.Questions.{rows_at}
use Rattle.tune_store.specs.SetSteps.{refusal_of_sets}
use Rattle.tune_store.specs.State.{State}
use Rattle.tune_store.specs.declared.tune.Tune.{Tune}
use Rattle.tune_store.specs.declared.index_rows.IndexRow.{IndexRow}
use Rattle.tune_store.specs.declared.command.Refusal.{Refusal}
use Rattle.desk_questions.specs.Dumps.{book_of, tune_dump_commands, set_dump_commands}
use Rattle.desk_questions.specs.Dumps.{sets_commands}
use Rattle.desk_questions.specs.Dumps.{script_bytes}
use Rattle.desk_questions.specs.Told.{tunes_at}
use Rattle.tune_asking.specs.AskingCalls.{Meaning}

-- TUNES
-- A script, and a piece of these bytes, whose last number is `last`, came to others by a tune more:
-- what both are to become is the same.
pub record Brings (last : ℕ) (tune : Tune) (piece : List Tune) (held : List ℕ)
    (old new : List ℕ) : Type 0 where
  pub next : List Tune
  pub holds : held ≡ book_of next
  pub same : (rest : List Tune) → old ++ script_bytes (tune_dump_commands last piece (tune ∷ rest))
      ≡ new ++ script_bytes (tune_dump_commands tune.number next rest)

-- so of each piece that these bytes are the book of
abbrev pub BringsEach : ℕ → Tune → List ℕ → List ℕ → List ℕ → List ℕ → Type 0
BringsEach last tune old_piece new_piece old new = (piece : List Tune) → old_piece ≡ book_of piece
    → Brings last tune piece new_piece old new

-- the commands for the tunes of these numbers, written behind some bytes
pub record AreDumped (numbers old new : List ℕ) (state : State) : Type 0 where
  pub tunes : List Tune
  pub at : tunes_at numbers state.tunes ≡ Ok tunes
  pub are : new ≡ old ++ script_bytes (tune_dump_commands 0 [] tunes)

abbrev pub tunes_dumped : List ℕ → List ℕ → List ℕ → Meaning (Unit {0})
tunes_dumped numbers old new = record {
  good = λ state value. AreDumped numbers old new state;
  refused = λ state refusal. tunes_at numbers state.tunes ≡ Err refusal;
}

-- SET LISTS
-- the rows of the tunes at the places of a set list that was found
abbrev pub rows_of_set : List Tune → Result (List ℕ) SetFault → Result (List IndexRow) Refusal
rows_of_set tunes (Ok numbers) = Ok (rows_at tunes numbers)
rows_of_set tunes (Err why) = Err (refusal_of_sets why)

-- those of the set list of a name
abbrev pub places_told : List ℕ → State → Result (List IndexRow) Refusal
places_told name state = rows_of_set state.tunes (places_of name state.sets)

-- the commands for the set list of a name, written behind some bytes
abbrev pub set_dumped : List ℕ → List ℕ → List ℕ → Meaning (Unit {0})
set_dumped name old new = record {
  good = λ state value. new ≡ old
      ++ script_bytes (set_dump_commands name (places_of name state.sets));
  refused = λ state refusal. places_of name state.sets ≡ Err NoSuchSet;
}

-- those for the set lists of these rows, where these are all
abbrev pub each_dumped : List SetRow → List ℕ → List ℕ → Meaning (Unit {0})
each_dumped rows old new = record {
  good = λ state value. rows ≡ set_rows_of state.sets
      → new ≡ old ++ script_bytes (sets_commands state.sets);
  refused = λ state refusal. rows ≡ set_rows_of state.sets → ⊥;
}

-- those for all set lists
abbrev pub sets_dumped : List ℕ → List ℕ → Meaning (Unit {0})
sets_dumped old new = record {
  good = λ state value. new ≡ old ++ script_bytes (sets_commands state.sets);
  refused = λ state refusal. ⊥;
}
