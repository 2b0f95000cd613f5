-- One line of a script, with its book: a turn of the run.
use Rattle.std.specs.Prelude.{◌≡◌, ℕ, suc, List, ◌++◌, ◌⊎◌, Option, None, Some, IfSome}
use Rattle.std.specs.Prelude.{Result, if◌then◌else◌}
use Rattle.std.specs.Io.KnownBytes.{Appends}
use Rattle.tune_store.specs.Answers.{stays_open}
use Rattle.tune_store.specs.Runs.{Answered}
use Rattle.tune_store.specs.declared.command.Command.{Command}
use Rattle.tune_store.specs.declared.command.Reply.{Reply}
use Rattle.tune_store.specs.declared.command.Refusal.{Refusal}
use Rattle.tune_store.specs.declared.tune_store.TuneStore as store
use Rattle.tune_scripts.specs.declared.script_lines.BookUse.{BookUse}
use Rattle.tune_scripts.specs.declared.script_runs.RunEnd.{RunEnd}
use Rattle.tune_scripts.specs.declared.script_runs.RunEnd.TheVariants.{WriterFault, DeviceFault}
use Rattle.tune_scripts.specs.Carried.{Carried, IsCarried, CarriesAllOut, run_of}
use Rattle.tune_scripts.specs.Prefixes.{AreAcknowledged}
use Rattle.tune_scripts.specs.Replies.{answer_bytes}
use Rattle.tune_scripts.specs.Scripts.{reading_of, reading_of_book, Script}
use Rattle.tune_scripts.specs.ScriptRuns.{RunWork, work_by, WritesScript, EndsAfter}
use Rattle.tune_scripts.specs.declared.console.Console as console

-- the bytes of an output before a call and after it, where they are known
pub record OutputBytes : Type 0 where
  pub was : Option (List ℕ)
  pub now : Option (List ℕ)

abbrev pub output_of : Option (List ℕ) → Option (List ℕ) → OutputBytes
output_of was now = record { was = was; now = now }

abbrev pub bytes_in : {C : Type 0} → console.Ghosts C → C → C → OutputBytes
bytes_in kept old new = output_of (kept.output old).bytes (kept.output new).bytes

-- A part of a run, with at most so many lines at its beginning and so many at its end: whatever the
-- rest of the input comes to, the whole comes to this part and then that.
pub record GoesOn (lines more : ℕ) (input : List ℕ) (left : Option (List ℕ)) (work : RunWork)
    : Type 0 where
  pub rest : List ℕ
  pub out : List ℕ
  pub leaves : left ≡ Some rest
  pub written : Appends work.was work.now out
  pub onward : (tail unread : List ℕ) (later : List Answered) (end : RunEnd)
      → Script more rest tail later end unread
      → Script lines input (out ++ tail) (work.run ++ later) end unread

-- a turn: the run goes on with a line less, or ends here
abbrev pub TurnOf : List ℕ → Option (List ℕ) → RunWork → Option RunEnd → Type 0
TurnOf input left work None = (n : ℕ) → GoesOn (suc n) n input left work
TurnOf input left work (Some end) = (n : ℕ) → WritesScript (suc n) input left work end

-- the same of a reader that tells its bytes
abbrev pub Turns : Option (List ℕ) → Option (List ℕ) → RunWork → Option RunEnd → Type 0
Turns old new work result = IfSome old (λ input. TurnOf input new work result)

-- the same after a line that asks for a book of this use and length
abbrev pub TurnsBook : BookUse → ℕ → Option (List ℕ) → Option (List ℕ) → RunWork → Option RunEnd
    → Type 0
TurnsBook book_use len old new work result = IfSome old (λ rest. (input : List ℕ)
    → reading_of input ≡ reading_of_book book_use len rest → TurnOf input new work result)

-- the answers of a turn let the run go on, or it ends here as they ask
abbrev pub GoesBy : Option RunEnd → List Answered → Type 0
GoesBy None run = AreAcknowledged run
GoesBy (Some end) run = EndsAfter end run

-- A turn over any reader: what the store carried out, how the run goes on, and what of it is said
-- of a reader that tells its bytes.
pub record TurnsOver {S : Type 0} (kept : store.Ghosts S) (output : OutputBytes) (old new : S)
    (result : Option RunEnd) (Tells : RunWork → Type 0) : Type 0 where
  pub carried : List (Carried S)
  pub carries_out : CarriesAllOut kept old carried new
  pub goes : GoesBy result (run_of carried)
  pub tells : Tells (work_by output.was output.now (run_of carried))

-- the writer failed, or these bytes were written and the run goes on so
abbrev pub WritesOut : Option (List ℕ) → Option (List ℕ) → List ℕ → Option RunEnd → Option RunEnd
    → Type 0
WritesOut was now bytes next result =
    (result ≡ Some WriterFault) ⊎ ((result ≡ next) × Appends was now bytes)

-- how a run goes on after an answer
abbrev pub next_of : Result Reply Refusal → Option RunEnd
next_of answer = if stays_open answer then None else Some DeviceFault

-- a command was answered once, and its answer was written, or the writer failed
pub record IsCarriedOut {S : Type 0} (kept : store.Ghosts S) (output : OutputBytes) (old new : S)
    (command : Command) (result : Option RunEnd) : Type 0 where
  pub answer : Result Reply Refusal
  pub carried : IsCarried kept old
      (record { command = command; answer = answer; after = new })
  pub written : WritesOut output.was output.now (answer_bytes answer) (next_of answer) result
