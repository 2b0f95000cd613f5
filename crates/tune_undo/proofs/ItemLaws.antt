-- The bytes of an entry or a mark tell it.
use Rattle.std.proofs.Common.{◌≡◌, ℕ, ◌+◌, ◌-◌, ◌^◌, ◌<◌, ◌≤◌, List, [], ◌∷◌, ◌++◌, length, take}
use Rattle.std.proofs.Common.{inl, inr, refl, ap, sym, ◌∙◌, arith, length-append}
use Rattle.std.specs.Prelude.{None, Some}
use Rattle.std.specs.List.{AllByRecursion}
use Rattle.std.specs.Prelude.{nat_lt, decimal}
use Rattle.std.proofs.lemmas.Bool.{lt-ltb, le-ltb, ltb-true, ltb-false, and_from, and_parts, cond-true, cond-false}
use Rattle.std.proofs.lemmas.Option.{none-some, same_Some, cond_some}
use Rattle.std.proofs.lemmas.Fmt.{length-decimal-le}
use Rattle.abc_fields.specs.Bytes.{line_feed}
use Rattle.abc_fields.specs.Limits.{longest_tune}
use Rattle.abc_fields.specs.Tunes.{IsTextWithin}
use Rattle.std.proofs.lemmas.List.{take_at}
use Rattle.tune_undo.specs.OldEntries.{EntryValue, IsEntryPart}
use Rattle.tune_undo.specs.EntryBytes.{IsEntry, entry_bytes, parts_bytes, book_tune}
use Rattle.tune_undo.specs.OldItems.{OldEntry, IsOld, made_bytes, old_bytes, after_old, Item, Entered, Marked, BeginsWithItem}
use Rattle.tune_undo.specs.Inside.Found.{OldRead}
use Rattle.tune_undo.specs.Inside.EntryLines.{first_line_at, number_line_at, old_line_at, mark_line_at, after_old_of, len_after, text_len_of}
use Rattle.tune_undo.specs.declared.part_lines.OldLine.{OldLine}
use Rattle.tune_undo.specs.declared.old_entries.After.{After}
use Rattle.tune_undo.specs.declared.old_entries.Part.TheVariants.{Tune}
use Rattle.tune_undo.specs.declared.old_entries.Mark.{Mark}
use Rattle.tune_undo.specs.declared.part_lines.FirstLine.{FirstLine}
use Rattle.tune_undo.specs.declared.old_entries.Part.{Part}
use Rattle.tune_undo.proofs.LineLaws.{first_line, first_line_again, first_line_takes, entry_parts, old_line, old_line_again, old_line_takes}
use Rattle.tune_undo.proofs.LineLaws.{old_parts, mark_line_takes, mark_written_again}
use Rattle.tune_undo.proofs.FieldLaws.{bind_is, chosen}
use Rattle.tune_undo.proofs.PartLaws.{book_tune_again}

-- ENTRIES
pub entry_again : (e : EntryValue) (rest bytes : List ℕ) → IsEntry e → entry_bytes e ++ rest ≡ bytes
    → first_line_at bytes ≡ Some (record { kind = e.kind; parts = length e.parts; len = length (parts_bytes e.parts) }, parts_bytes e.parts ++ rest)
entry_again e rest bytes is same =
    ap first_line_at (sym same ∙ entry_parts e rest)
    ∙ first_line_again e.kind (length e.parts) (length (parts_bytes e.parts)) (parts_bytes e.parts ++ rest) is.count is.size

-- what the first line of an entry says of what follows it
pub record EntryFront (e : EntryValue) (line : FirstLine) (found : List ℕ) : Type 0 where
  pub kind : e.kind ≡ line.kind
  pub count : length e.parts ≡ line.parts
  pub fits : line.len ≤ length found
  pub parts : parts_bytes e.parts ≡ take line.len found

pub entry_front : (e : EntryValue) (rest bytes : List ℕ) (line : FirstLine) (found : List ℕ) → IsEntry e → entry_bytes e ++ rest ≡ bytes
    → first_line_at bytes ≡ Some (line, found) → EntryFront e line found
entry_front e rest bytes line found is same read =
    let both = same_Some _ _ (sym (entry_again e rest bytes is same) ∙ read) in
    let lines = ap (λ p. p.0) both in
    let whole : parts_bytes e.parts ++ rest ≡ found = ap (λ p. p.1) both in
    let size : length (parts_bytes e.parts) ≡ line.len = ap (λ l. l.len) lines in record {
      kind = ap (λ l. l.kind) lines;
      count = ap (λ l. l.parts) lines;
      fits = omega (arith, ap length whole, length-append (parts_bytes e.parts) rest, size);
      parts = sym (take_at (parts_bytes e.parts) rest line.len size) ∙ ap (take line.len) whole;
    }

pub entry_whole : (bytes : List ℕ) (line : FirstLine) (found front back : List ℕ) (parts : List Part) → first_line_at bytes ≡ Some (line, found)
    → found ≡ front ++ back → length front ≡ line.len → AllByRecursion IsEntryPart parts → parts_bytes parts ≡ front → length parts ≡ line.parts
    → let e : EntryValue = record { kind = line.kind; parts = parts } in IsEntry e × ((rest : List ℕ) × (entry_bytes e ++ rest ≡ bytes))
entry_whole bytes line found front back parts read whole size are same count =
    let l = first_line_takes bytes (line, found) read in
    let e : EntryValue = record { kind = line.kind; parts = parts } in
    let len : length (parts_bytes parts) ≡ line.len = ap length same ∙ size in
    let few = l.parts in
    let short = l.len in (
      record { parts = are; count = omega arith; size = omega arith },
      (
        back,
        entry_parts e back ∙ (λ i. first_line line.kind (count i) (len i) (same i ++ back)) ∙ ap (first_line line.kind line.parts line.len) (sym whole)
            ∙ l.whole,
      ),
    )

-- ENTRIES OF BEFORE
pub old_short : (old : OldEntry) → IsOld old → length (book_tune old.number old.text) < 2 ^ 32
old_short old is =
    let digits : length (decimal old.number) ≤ 10 = length-decimal-le 10 old.number (omega arith) (omega (arith, is.number)) (omega (arith, is.number)) in
    omega (arith, is.text.fits, length-append (decimal old.number) (line_feed ∷ old.text), digits)

pub old_again : (old : OldEntry) (rest bytes : List ℕ) → IsOld old → old_bytes old ++ rest ≡ bytes
    → old_line_at bytes ≡ Some (
      record { kind = old.kind; number = old.number; revision = old.revision; len = length (book_tune old.number old.text) },
      book_tune old.number old.text ++ rest,
    )
old_again old rest bytes is same =
    ap old_line_at (sym same ∙ old_parts old rest)
    ∙ old_line_again old.kind old.number old.revision (length (book_tune old.number old.text)) old.made (book_tune old.number old.text ++ rest)
    is.number (omega (arith, is.revision)) (old_short old is) is.made

-- what the first line of an entry of before says of what follows it
pub record OldFront (old : OldEntry) (line : OldLine) (rest found : List ℕ) : Type 0 where
  pub kind : line.kind ≡ old.kind
  pub number : line.number ≡ old.number
  pub revision : line.revision ≡ old.revision
  pub len : line.len ≡ length (book_tune old.number old.text)
  pub whole : book_tune old.number old.text ++ rest ≡ found

pub old_front : (old : OldEntry) (rest bytes : List ℕ) (line : OldLine) (found : List ℕ) → IsOld old → old_bytes old ++ rest ≡ bytes
    → old_line_at bytes ≡ Some (line, found) → OldFront old line rest found
old_front old rest bytes line found is same read =
    let both = same_Some _ _ (sym (old_again old rest bytes is same) ∙ read) in
    let lines = ap (λ p. p.0) both in record {
      kind = sym (ap (λ l. l.kind) lines);
      number = sym (ap (λ l. l.number) lines);
      revision = sym (ap (λ l. l.revision) lines);
      len = sym (ap (λ l. l.len) lines);
      whole = ap (λ p. p.1) both;
    }

pub old_after : (old : OldEntry) → IsOld old → after_old_of old.kind old.revision ≡ Some (after_old old.kind old.revision)
old_after old is = cond-true _ _ _ (and_from _ _ (lt-ltb _ _ is.revision) is.kind)

pub old_text_len : (number : ℕ) (text rest bytes : List ℕ) → number < 2 ^ 32 → book_tune number text ++ rest ≡ bytes
    → text_len_of (length (book_tune number text)) bytes ≡ Some (length text)
old_text_len number text rest bytes small e =
    let len : ℕ = length (book_tune number text) in
    let line : ℕ = length bytes - length (text ++ rest) in
    let sizes : (line + length text ≡ len) =
    omega (
      arith,
      ap length e,
      length-append (decimal number ++ (line_feed ∷ text)) rest,
      length-append (decimal number) (line_feed ∷ text),
      length-append text rest,
    ) in
    bind_is (number_line_at bytes) _ (number, text ++ rest) (book_tune_again number text rest bytes small e)
    ∙ cond-false (nat_lt len line) _ _ (le-ltb len line (omega arith)) ∙ ap (λ n. Some n) (omega arith)

len_same : (len line size : ℕ) → len_after len line ≡ Some size → len ≡ line + size
len_same len line size e = elim (chosen (nat_lt len line) None (Some (len - line)) (Some size) e) [
  | inl h ↦ absurd (none-some size h.1)
  | inr h ↦ let fits = ltb-false len line h.0 in let same : len - line ≡ size = same_Some _ _ h.1 in omega arith
]

pub old_len_is : (number len size : ℕ) (text rest bytes : List ℕ) → number < 2 ^ 32 → book_tune number text ++ rest ≡ bytes → length text ≡ size
    → text_len_of len bytes ≡ Some size → len ≡ length (book_tune number text)
old_len_is number len size text rest bytes small e same read =
    let line : ℕ = length bytes - length (text ++ rest) in
    let told : len_after len line ≡ Some size =
    sym (bind_is (number_line_at bytes) (λ l. len_after len (length bytes - length l.1)) (number, text ++ rest)
    (book_tune_again number text rest bytes small e)) ∙ read in
    let sum = len_same len line size told in
    omega (
      arith,
      sum,
      same,
      ap length e,
      length-append (decimal number ++ (line_feed ∷ text)) rest,
      length-append (decimal number) (line_feed ∷ text),
      length-append text rest,
    )

pub old_whole : (bytes : List ℕ) (line : OldLine) (found text later : List ℕ) (is : After) (len : ℕ) → old_line_at bytes ≡ Some (line, found)
    → Some is ≡ after_old_of line.kind line.revision → Some len ≡ text_len_of line.len found → IsTextWithin longest_tune text → length text ≡ len
    → book_tune line.number text ++ later ≡ found → OldRead bytes (record { kind = line.kind; parts = Tune line.number (Some text) is ∷ [] })
old_whole bytes line found text later is len read made measured good size whole =
    let l = old_line_takes bytes (line, found) read in
    let chose = cond_some _ _ is (sym made) in
    let tests = and_parts _ _ chose.0 in
    let old : OldEntry = record { kind = line.kind; number = line.number; revision = line.revision; text = text; made = l.made } in
    let long : line.len ≡ length (book_tune line.number text) = old_len_is line.number line.len len text later found l.number whole size (sym measured) in
    record {
      old = old;
      good = record { kind = tests.1; number = l.number; revision = ltb-true _ _ tests.0; text = good; made = l.small };
      same = ap (λ a. record { kind = line.kind; parts = Tune line.number (Some text) a ∷ [] }) chose.1;
      rest = later;
      whole = old_parts old later
          ∙ (λ i. old_line line.kind line.number line.revision (decimal (sym long i) ++ made_bytes l.made) (whole i)) ∙ l.whole;
    }

-- ITEMS
pub entry_begins : (bytes : List ℕ) (e : EntryValue) (rest : List ℕ) → IsEntry e → entry_bytes e ++ rest ≡ bytes → BeginsWithItem bytes (Entered e)
entry_begins bytes e rest is same = record { front = entry_bytes e; rest = rest; whole = same; written = inl (is, refl) }

pub old_begins : (bytes : List ℕ) (e : EntryValue) → OldRead bytes e → BeginsWithItem bytes (Entered e)
old_begins bytes e read = record { front = old_bytes read.old; rest = read.rest; whole = read.whole; written = inr (read.old, read.good, refl, read.same) }

pub mark_begins : (bytes : List ℕ) (r : Mark × List ℕ) → mark_line_at bytes ≡ Some r → BeginsWithItem bytes (Marked r.0)
mark_begins bytes r e =
    let read = mark_line_takes bytes r e in
    record { front = read.front; rest = r.1; whole = read.whole; written = read.written }

-- where none of these is read, nothing begins
pub none_begins : (bytes : List ℕ) → ((e : EntryValue) (rest : List ℕ) → IsEntry e → entry_bytes e ++ rest ≡ bytes → ⊥)
    → ((old : OldEntry) (rest : List ℕ) → IsOld old → old_bytes old ++ rest ≡ bytes → ⊥) → mark_line_at bytes ≡ None
    → (item : Item) → BeginsWithItem bytes item → ⊥
none_begins bytes entries olds marks (Entered e) begins = elim begins.written [
  | inl w ↦ entries e begins.rest w.0 (ap (λ t. t ++ begins.rest) (sym w.1) ∙ begins.whole)
  | inr w ↦ olds w.0 begins.rest w.1 (ap (λ t. t ++ begins.rest) (sym w.2) ∙ begins.whole)
]
none_begins bytes entries olds marks (Marked mark) begins =
    none-some _ (sym marks ∙ ap mark_line_at (sym begins.whole) ∙ mark_written_again begins.front mark begins.rest begins.written)
