-- What a console tells of its input and its output, before a call and after it.
use Rattle.std.specs.Prelude.{◌≡◌, Result}
use Rattle.tune_scripts.specs.Consoles.{InputTold, OutputTold, Counts}
use Rattle.tune_scripts.specs.declared.console.Console as console

pub record Input : Type 0 where
  pub was : InputTold
  pub now : InputTold

pub record Output : Type 0 where
  pub was : OutputTold
  pub now : OutputTold

pub record Streams : Type 0 where
  pub input : Input
  pub output : Output

-- those of a console
abbrev pub streams_in : {C : Type 0} → console.Ghosts C → C → C → Streams
streams_in kept old new = record {
  input = record { was = kept.input old; now = kept.input new };
  output = record { was = kept.output old; now = kept.output new };
}

-- A write leaves the input as it was, and a fault of it is counted.
pub record IsWrite {T E : Type 0} (streams : Streams) (result : Result T E) : Type 0 where
  pub input : streams.input.now ≡ streams.input.was
  pub faults : Counts result streams.output.was.faults streams.output.now.faults
