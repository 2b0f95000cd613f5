-- When a run looks at its input, and what failed in it.
use Rattle.std.specs.Prelude.{◌≡◌, ◌⊎◌, ℕ, ◌+◌, ◌<◌, List, ◌∷◌, ◌++◌, length, true}
use Rattle.std.specs.Prelude.{Option, Some, IfSome}
use Rattle.std.specs.List.{list_all, AllByRecursion}
use Rattle.std.specs.Io.KnownBytes.{Appends, Consumes}
use Rattle.abc_fields.specs.Bytes.{line_feed}
use Rattle.tune_store.specs.State.{Standing}
use Rattle.tune_store.specs.Runs.{Answered, Runs}
use Rattle.tune_scripts.specs.declared.script_lines.BookUse.{BookUse}
use Rattle.tune_scripts.specs.declared.script_lines.ScriptLine.TheVariants.{Book}
use Rattle.tune_scripts.specs.declared.script_runs.RunEnd.{RunEnd}
use Rattle.tune_scripts.specs.declared.script_runs.RunEnd.TheVariants.{LineBound}
use Rattle.tune_scripts.specs.declared.script_runs.RunEnd.TheVariants.{ReaderFault, WriterFault}
use Rattle.tune_scripts.specs.Consoles.{Look, is_inside}
use Rattle.tune_scripts.specs.ScriptLines.{meaning_of_line}
use Rattle.tune_scripts.specs.Scripts.{Script, line_text}
use Rattle.tune_scripts.specs.Streams.{Input, Streams}

-- FAULTS
-- how many faults of the reader an end tells of, and how many of the writer
abbrev pub reader_faults_of : Option RunEnd → ℕ
reader_faults_of (Some ReaderFault) = 1
reader_faults_of _ = 0

abbrev pub writer_faults_of : Option RunEnd → ℕ
writer_faults_of (Some WriterFault) = 1
writer_faults_of _ = 0

-- A run, or a part of it that goes on: it ends by a fault just where one was counted, and where the
-- writer did not fail, all that was written has been flushed, if it was so before.
pub record TellsFaults (streams : Streams) (end : Option RunEnd) : Type 0 where
  pub reader : streams.input.now.faults ≡ streams.input.was.faults + reader_faults_of end
  pub writer : streams.output.now.faults ≡ streams.output.was.faults + writer_faults_of end
  pub flushed : writer_faults_of end ≡ 0 → streams.output.was.flushed ≡ true
      → streams.output.now.flushed ≡ true

-- LOOKS
-- The input was looked at some times more, and this holds of each look.
abbrev pub LooksMore : Input → (Look → Type 0) → Type 0
LooksMore input Each = (more : List Look) × (input.now.looks ≡ input.was.looks ++ more)
    × AllByRecursion Each more

-- bytes that were taken of a book of some length, which is not whole yet, behind its line
pub record IsPartOfBook (taken : List ℕ) : Type 0 where
  pub line : List ℕ
  pub book : List ℕ
  pub book_use : BookUse
  pub len : ℕ
  pub is : taken ≡ line ++ line_feed ∷ book
  pub asks : meaning_of_line (line_text true line) ≡ Book book_use len
  pub short : length book < len

-- bytes that were taken of a line which is not whole yet, or of its book
abbrev pub IsPartOfTurn : List ℕ → Type 0
IsPartOfTurn taken = (list_all is_inside taken ≡ true) ⊎ IsPartOfBook taken

-- The input was looked at behind such bytes of it, at the output at which it was before.
abbrev pub LooksBehind : Streams → (List ℕ → Type 0) → Type 0
LooksBehind streams IsPart = LooksMore streams.input (λ look.
    (look.output ≡ streams.output.was) × (taken : List ℕ)
    × Consumes streams.input.was.left look.left taken × IsPart taken)

-- When a run looked at its input, the lines that it had taken whole were answered by the rules, and
-- no others, and all of that was flushed: what is left stands behind a part of the next line or its
-- book.
pub record IsPrompt (before : Standing) (input : List ℕ) (was : Option (List ℕ)) (look : Look)
    : Type 0 where
  pub lines : ℕ
  pub out : List ℕ
  pub run : List Answered
  pub after : Standing
  pub rest : List ℕ
  pub so_far : Script lines input out run LineBound rest
  -- each answer is one by the rules
  pub answers : Runs before run after
  -- and was written
  pub answered : Appends was look.output.bytes out
  pub flushed : look.output.flushed ≡ true
  pub taken : List ℕ
  pub leaves : Consumes (Some rest) look.left taken
  pub part : IsPartOfTurn taken

-- So it was at each look, where the bytes of the input are known.
abbrev pub LooksPromptly : Standing → Streams → Type 0
LooksPromptly before streams = IfSome streams.input.was.left (λ input.
    LooksMore streams.input (IsPrompt before input streams.output.was.bytes))

-- and that all was flushed, of every input
abbrev pub LooksFlushed : Streams → Type 0
LooksFlushed streams = LooksMore streams.input (λ look. look.output.flushed ≡ true)
