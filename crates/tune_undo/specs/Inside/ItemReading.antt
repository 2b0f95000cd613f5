-- How the fields of a line are read. Laws beside the proofs say that what is written is read, and
-- that what is read was written so.
use Rattle.std.specs.Prelude.{◌≡◌, ℕ, ◌^◌, List, [], ◌∷◌, length, drop, codes, decimal, nat_lt}
use Rattle.std.specs.Prelude.{◌&&◌, ◌==◌, nat_eq, if◌then◌else◌, Option, None, Some}
use Rattle.std.specs.List.{starts_with}
use Rattle.std.specs.Str.{bytes_eq}
use Rattle.std.specs.Str.Parse.{digits_value}
use Rattle.tune_undo.specs.Inside.SumWords.{sum_of}
use Rattle.tune_undo.specs.declared.old_entries.EntryKind.{EntryKind}
use Rattle.tune_undo.specs.declared.old_entries.EntryKind.TheVariants as kind
use Rattle.tune_undo.specs.declared.old_entries.After.{After}
use Rattle.tune_undo.specs.declared.old_entries.After.TheVariants.{Nothing, Text, Revision}
use Rattle.tune_undo.specs.declared.old_entries.Mark.{Mark}
use Rattle.tune_undo.specs.declared.old_entries.Mark.TheVariants.{NotDone, Undone, Undoing}

-- the second step, if the first one gave a value
infixl 10 ◌>>=◌
abbrev pub ◌>>=◌ : {A B : Type 0} → Option A → (A → Option B) → Option B
None >>= f = None
(Some x) >>= f = f x

-- what a function returned, seen by a view, is what reading gives
abbrev pub IsReadAs : {X Y : Type 0} → (X → Y) → Option X → Option Y → Type 0
IsReadAs view None read = read ≡ None
IsReadAs view (Some x) read = read ≡ Some (view x)

-- what follows these bytes, where others begin with them
abbrev pub bytes_after : List ℕ → List ℕ → Option (List ℕ)
bytes_after front bytes =
    if starts_with nat_eq bytes front then Some (drop (length front) bytes) else None

-- a byte more before the end
abbrev pub onto : ℕ → Option (List ℕ × List ℕ) → Option (List ℕ × List ℕ)
onto byte None = None
onto byte (Some f) = Some (byte ∷ f.0, f.1)

-- the bytes before the first of this one, and those after it
abbrev pub field_at : ℕ → List ℕ → Option (List ℕ × List ℕ)
field_at end [] = None
field_at end (byte ∷ bytes) =
    if byte == end then Some ([], bytes) else onto byte (field_at end bytes)

-- the number of 32 bits that these digits are, in decimal without leading zeros
abbrev pub number_read : List ℕ → Option ℕ
number_read word = let n = digits_value 10 word in
    if nat_lt n (2 ^ 32) && bytes_eq (decimal n) word then Some n else None

-- the number before the first of these bytes, and what follows it
abbrev pub number_read_at : ℕ → List ℕ → Option (ℕ × List ℕ)
number_read_at end bytes = do
  field ← field_at end bytes
  number ← number_read field.0
  Some (number, field.1)

-- how long a text is, or that there is none
abbrev pub length_of : List ℕ → Option (Option ℕ)
length_of word =
    if bytes_eq word (codes "none") then Some None
    else (number_read word >>= λ len. Some (Some len))

-- what a tune is after a change
abbrev pub after_of_word : List ℕ → Option After
after_of_word word =
    if length word == 64 then (sum_of word >>= λ sum. Some (Text sum))
    else if bytes_eq word (codes "none") then Some Nothing
    else (bytes_after (codes "revision ") word >>= λ rest. number_read rest >>= λ n. Some
    (Revision n))

-- the kind of an entry
abbrev pub kind_read : List ℕ → Option EntryKind
kind_read word =
    if bytes_eq word (codes "delete") then Some kind.Delete
    else if bytes_eq word (codes "replace") then Some kind.Replace
    else if bytes_eq word (codes "put") then Some kind.Put
    else if bytes_eq word (codes "cut") then Some kind.Cut
    else if bytes_eq word (codes "move") then Some kind.Move
    else if bytes_eq word (codes "drop") then Some kind.Drop
    else if bytes_eq word (codes "add") then Some kind.Add
    else if bytes_eq word (codes "add-more") then Some kind.AddMore
    else if bytes_eq word (codes "load") then Some kind.Load
    else if bytes_eq word (codes "kept") then Some kind.Kept
    else None

-- what a mark says; one of before names no greatest number
abbrev pub mark_of : List ℕ → Option Mark
mark_of word =
    if bytes_eq word (codes "not done") then Some NotDone
    else if bytes_eq word (codes "undone") then Some Undone
    else if bytes_eq word (codes "undoing") then Some (Undoing 0)
    else (bytes_after (codes "undoing ") word >>= λ rest. number_read rest >>= λ n. Some
    (Undoing n))
