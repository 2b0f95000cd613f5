-- What is read from standard input, and what is written to standard output.
use Rattle.std.specs.Prelude.{◌≡◌, ◌≢◌, ◌⊎◌, ℕ, suc, List, IfSome}
use Rattle.tune_scripts.specs.Streams.{Streams}
use Rattle.tune_cli.specs.ProgramLines.{IsWritten}

-- These bytes were written and flushed, and the status is 0; or the writer failed.
abbrev pub WritesOrFails : Streams → List ℕ → ℕ → Type 0
WritesOrFails streams bytes status = (IsWritten streams.output bytes × (status ≡ 0))
    ⊎ (streams.output.now.faults ≡ suc streams.output.was.faults)

-- And the input is left as it was.
abbrev pub Prints : Streams → List ℕ → ℕ → Type 0
Prints streams bytes status =
    (streams.input.now ≡ streams.input.was) × WritesOrFails streams bytes status

-- Nothing was written.
abbrev pub WritesNothing : Streams → Type 0
WritesNothing streams = streams.output.now ≡ streams.output.was

-- Nothing was read or written.
abbrev pub IsSilent : Streams → Type 0
IsSilent streams = (streams.input.now ≡ streams.input.was) × WritesNothing streams

-- The input was read to its end: these bytes are all that was left of it, where that is known.
abbrev pub ReadsAll : Streams → List ℕ → Type 0
ReadsAll streams bytes = IfSome streams.input.was.left (λ left. bytes ≡ left)

-- These bytes were printed; or nothing was, and the status says so.
abbrev pub PrintsOrNot : Streams → List ℕ → ℕ → Type 0
PrintsOrNot streams bytes status =
    Prints streams bytes status ⊎ (IsSilent streams × (status ≢ 0))
