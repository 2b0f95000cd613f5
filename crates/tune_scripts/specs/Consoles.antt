-- What a console tells of its input and its output.
use Rattle.std.specs.Prelude.{◌≡◌, ℕ, suc, ◌<◌, ◌≤◌, List, [], ◌∷◌, ◌++◌, Bool, true, not, ◌==◌}
use Rattle.std.specs.Prelude.{length, take, Option, Result, MatchResult, ⊤}
use Rattle.std.specs.List.{list_all}
use Rattle.std.specs.Io.KnownBytes.{Consumes, IsAtEnd}
use Rattle.abc_fields.specs.Bytes.{line_feed}
use Rattle.tune_scripts.specs.declared.console.PieceRead.{PieceRead}
use Rattle.tune_scripts.specs.declared.console.PieceRead.TheVariants as piece
use Rattle.tune_scripts.specs.declared.console.PartRead.{PartRead}
use Rattle.tune_scripts.specs.declared.console.PartRead.TheVariants as part

-- An output: the bytes that it holds, where they are known, how often a write or a flush failed,
-- and whether all that was written has been flushed.
pub record OutputTold : Type 0 where
  pub bytes : Option (List ℕ)
  pub faults : ℕ
  pub flushed : Bool

-- A look at an input: the bytes that were left of it, where they are known, and the output then.
pub record Look : Type 0 where
  pub left : Option (List ℕ)
  pub output : OutputTold

-- An input: the bytes that are left of it, where they are known, how often a look failed, and each
-- look so far, the first first.
pub record InputTold : Type 0 where
  pub left : Option (List ℕ)
  pub faults : ℕ
  pub looks : List Look

-- A fault is counted where the answer is one, and nowhere else.
abbrev pub Counts : {T E : Type 0} → Result T E → ℕ → ℕ → Type 0
Counts result old new = MatchResult result (λ _. new ≡ old) (λ _. new ≡ suc old)

-- The input was looked at once, at this output.
abbrev pub LooksOnce : InputTold → InputTold → OutputTold → Type 0
LooksOnce old new output =
    new.looks ≡ old.looks ++ record { left = old.left; output = output } ∷ []

-- bytes of a line: none is a line feed
abbrev pub is_inside : ℕ → Bool
is_inside b = not (b == line_feed)

-- Bytes of a line were taken into the front of `got`, with the line feed behind them or without; or
-- the input is at its end.
abbrev pub ReadsPiece : Option (List ℕ) → Option (List ℕ) → List ℕ → PieceRead → Type 0
ReadsPiece old new got (piece.Fed n) =
    (n < length got) × (list_all is_inside (take n got) ≡ true)
    × Consumes old new (take n got ++ line_feed ∷ [])
ReadsPiece old new got (piece.Open n) =
    (0 < n) × (n ≤ length got) × (list_all is_inside (take n got) ≡ true)
    × Consumes old new (take n got)
ReadsPiece old new got piece.End = IsAtEnd old × Consumes old new []
ReadsPiece old new got piece.Fault = ⊤

-- how many faults that is
abbrev pub faults_of_piece : PieceRead → ℕ
faults_of_piece piece.Fault = 1
faults_of_piece _ = 0

-- bytes that are wanted now stand behind a book
abbrev pub StandsBehind : Bool → List ℕ → List ℕ → List ℕ → Type 0
StandsBehind wanted was now bytes = (wanted ≡ true) × (now ≡ was ++ bytes)

-- Bytes of a book were taken, at least one and at most so many, and where they are kept this holds
-- of them; or the input is at its end.
abbrev pub ReadsPart : Option (List ℕ) → Option (List ℕ) → ℕ → (List ℕ → Type 0) → PartRead
    → Type 0
ReadsPart old new most Keeps (part.Taken n kept) =
    (0 < n) × (n ≤ most) × (bytes : List ℕ) × (length bytes ≡ n) × Consumes old new bytes
    × (kept ≡ true → Keeps bytes)
ReadsPart old new most Keeps part.End = IsAtEnd old × Consumes old new []
ReadsPart old new most Keeps part.Fault = ⊤

-- how many faults that is
abbrev pub faults_of_part : PartRead → ℕ
faults_of_part part.Fault = 1
faults_of_part _ = 0
