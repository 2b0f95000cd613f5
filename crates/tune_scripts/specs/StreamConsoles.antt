-- What a console over a reader and a writer tells.
use Rattle.std.specs.Prelude.{◌≡◌, ℕ, List, [], length, map, Option, true}
use Rattle.tune_scripts.specs.Consoles.{InputTold, OutputTold, Look}
use Rattle.tune_scripts.specs.declared.stream_console.StreamConsole.{StreamConsole}
use Rattle.tune_scripts.specs.declared.stream_console.CountedWriter.{CountedWriter}

abbrev pub output_told : {W : Type 0} → (W → Option (List ℕ)) → CountedWriter W → OutputTold
output_told contents writer = record {
  bytes = contents writer.stream;
  faults = length writer.faults.items;
  flushed = writer.is_flushed;
}

abbrev pub look_told : {R W : Type 0} → (R → Option (List ℕ)) → (W → Option (List ℕ))
    → (R × CountedWriter W) → Look
look_told remaining contents look =
    record { left = remaining look.0; output = output_told contents look.1 }

abbrev pub input_told : {R W : Type 0} → (R → Option (List ℕ)) → (W → Option (List ℕ))
    → StreamConsole R W → InputTold
input_told remaining contents console = record {
  left = remaining console.reader;
  faults = length console.reader_faults.items;
  looks = map (look_told remaining contents) console.looks.items;
}

-- It tells the bytes of this reader and this writer. Nothing has failed yet, nothing was looked at,
-- and nothing waits to be flushed.
pub record HasJustBegun {R W : Type 0} (remaining : R → Option (List ℕ))
    (contents : W → Option (List ℕ)) (reader : R) (writer : W) (console : StreamConsole R W)
    : Type 0 where
  pub input : input_told remaining contents console
      ≡ record { left = remaining reader; faults = 0; looks = [] }
  pub output : output_told contents console.writer
      ≡ record { bytes = contents writer; faults = 0; flushed = true }
