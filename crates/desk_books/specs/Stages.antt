-- How far a call has come, and what is done one after another.
use Rattle.std.specs.Prelude.{◌≡◌, ℕ, List, [], ◌∷◌, ◌++◌, max}
use Rattle.tune_scripts.specs.Consoles.{InputTold, OutputTold}
use Rattle.tune_scripts.specs.Streams.{Streams}
use Rattle.tune_scripts.specs.declared.console.Console as console
use Rattle.tune_desk.specs.DeskDeeds.{DeskDeed}

-- what was done with files, and what is told of its input and output
pub record Stage (D : Type 0) : Type 0 where
  pub deeds : List (DeskDeed D)
  pub input : InputTold
  pub output : OutputTold

-- what was read and written from one stage to another
abbrev pub streams_between : {D : Type 0} → Stage D → Stage D → Streams
streams_between old new = record {
  input = record { was = old.input; now = new.input };
  output = record { was = old.output; now = new.output };
}

-- those of a console, and what was done
abbrev pub stage_of : {C D : Type 0} → console.Ghosts C → C → List (DeskDeed D) → Stage D
stage_of kept at deeds =
    record { deeds = deeds; input = kept.input at; output = kept.output at }

-- nothing was read or written, and this was done
abbrev pub after_deed : {D : Type 0} → Stage D → DeskDeed D → Stage D
after_deed stage deed = record stage { deeds = stage.deeds ++ deed ∷ [] }

-- each of these, one after another, from one stage to another; and the greatest of their statuses
abbrev pub EachInTurn : {G X : Type 0} → (X → G → G → ℕ → Type 0) → List X → G → G → ℕ → Type 0
EachInTurn Does [] old new status = (new ≡ old) × (status ≡ 0)
EachInTurn {G} Does (x ∷ xs) old new status = (mid : G) × (first : ℕ) × (later : ℕ)
    × Does x old mid first × EachInTurn Does xs mid new later × (status ≡ max first later)
