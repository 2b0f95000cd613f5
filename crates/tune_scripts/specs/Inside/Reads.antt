-- What a read of a line or a book takes of the known bytes of a reader.
use Rattle.std.specs.Prelude.{◌≡◌, ℕ, ◌+◌, ◌<◌, ◌≤◌, List, [], Bool, true}
use Rattle.std.specs.Prelude.{length, take, drop, Option, IfSome, ⊤, Some}
use Rattle.std.specs.Io.KnownBytes.{Consumes, IsAtEnd}
use Rattle.tune_scripts.specs.Limits.{longest_line}
use Rattle.tune_scripts.specs.InputLines.{before_feed, after_feed, has_feed}
use Rattle.tune_scripts.specs.declared.script_reading.LineRead.{LineRead}
use Rattle.tune_scripts.specs.declared.script_reading.LineRead.TheVariants as line
use Rattle.tune_scripts.specs.declared.script_reading.BookRead.{BookRead}
use Rattle.tune_scripts.specs.declared.script_reading.BookRead.TheVariants as book

-- An input that is not at its end begins with this line, whose line feed is there or not, and goes
-- on with `rest`.
pub record IsLineRead (input line rest : List ℕ) (fed : Bool) : Type 0 where
  pub some : 0 < length input
  pub bytes : before_feed input ≡ line
  pub after : after_feed input ≡ rest
  pub feed : has_feed input ≡ fed

-- the known bytes lose this line
abbrev pub TakesLine : Option (List ℕ) → Option (List ℕ) → List ℕ → Bool → Type 0
TakesLine old new line fed =
    IfSome old (λ input. (rest : List ℕ) × (new ≡ Some rest) × IsLineRead input line rest fed)

-- the known bytes begin with a line that is too long, and lose one byte more than a line may have
abbrev pub LosesLongLine : Option (List ℕ) → Option (List ℕ) → Type 0
LosesLongLine old new = IfSome old (λ input.
    (longest_line < length (before_feed input)) × (new ≡ Some (drop (longest_line + 1) input)))

-- a line was read into `got`, or it is too long, or there is none and nothing was read
abbrev pub ReadsLine : Option (List ℕ) → Option (List ℕ) → List ℕ → LineRead → Type 0
ReadsLine old new got (line.Line n fed) = (n ≤ longest_line) × TakesLine old new (take n got) fed
ReadsLine old new got line.Long = LosesLongLine old new
ReadsLine old new got line.End = IsAtEnd old × Consumes old new []
ReadsLine old new got line.Fault = ⊤

-- the known bytes are fewer than these, and are all lost
abbrev pub IsCut : Option (List ℕ) → Option (List ℕ) → ℕ → Type 0
IsCut old new len = IfSome old (λ input. (length input < len) × (new ≡ Some []))

-- A book of this length was read and kept, or read and dropped, or the input ends within it and was
-- read to its end.
abbrev pub ReadsBook : Option (List ℕ) → Option (List ℕ) → ℕ → Bool → BookRead → Type 0
ReadsBook old new len wanted (book.Whole bytes) =
    (wanted ≡ true) × (length bytes ≡ len) × Consumes old new bytes
ReadsBook old new len wanted book.Dropped =
    (bytes : List ℕ) × (length bytes ≡ len) × Consumes old new bytes
ReadsBook old new len wanted book.Cut = IsCut old new len
ReadsBook old new len wanted book.Fault = ⊤

-- how many faults of the reader these are
abbrev pub faults_of_line : LineRead → ℕ
faults_of_line line.Fault = 1
faults_of_line _ = 0

abbrev pub faults_of_book : BookRead → ℕ
faults_of_book book.Fault = 1
faults_of_book _ = 0
