-- What the calls that make the entry of a load come to.
use Rattle.std.specs.Prelude.{◌≡◌, ℕ, List, [], ◌∷◌, ◌++◌, Some, ⊤}
use Rattle.tune_store.specs.State.{State, tune_at}
use Rattle.tune_store.specs.declared.tune.Tune.{Tune}
use Rattle.tune_asking.specs.AskingCalls.{Meaning}
use Rattle.tune_undo.specs.declared.old_entries.Part.{Part}
use Rattle.tune_changes.specs.BroughtParts.{tune_comes}

-- The tunes of these numbers came to the end of parts, and these are the parts then.
abbrev pub TunesCome : List ℕ → List Part → State → List Part → Type 0
TunesCome [] was state now = now ≡ was
TunesCome (number ∷ numbers) was state now = (tune : Tune)
    × (tune_at number state.tunes ≡ Some tune)
    × TunesCome numbers (was ++ tune_comes tune ∷ []) state now

abbrev pub tunes_put : List ℕ → List Part → List Part → Meaning ⊤
tunes_put numbers was now = record {
  good = λ state done. TunesCome numbers was state now;
  refused = λ state refusal. ⊤;
}
