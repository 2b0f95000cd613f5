-- Lines that are written are read, and lines that are read were written so.
use Rattle.std.proofs.Common.{◌≡◌, ℕ, ◌/◌, ◌%◌, ◌^◌, ◌<◌, ◌≤◌, true, List, [], ◌∷◌, ◌++◌, length}
use Rattle.std.proofs.Common.{◌⊎◌, inl, inr, refl, ap, sym, subst, ◌∙◌, arith, append_assoc, append-nil, length-append}
use Rattle.std.specs.Prelude.{Option, None, Some, codes, decimal, IfSome}
use Rattle.std.proofs.lemmas.Bool.{and_parts, true≢false}
use Rattle.std.proofs.lemmas.Option.{same_Some}
use Rattle.hex.specs.Hex.{encode_with, lower_digits}
use Rattle.abc_fields.specs.Bytes.{space, line_feed}
use Rattle.std.specs.List.{list_all}
use Rattle.tune_sets.specs.Names.{is_name_byte, is_good_name}
use Rattle.tune_undo.specs.OldEntries.{EntryValue, IsAfter, AreNumbers}
use Rattle.tune_undo.specs.EntryBytes.{after_word, length_word, kind_word, mark_word, IsMark, tune_line, numbers_bytes, list_bytes, set_line}
use Rattle.tune_undo.specs.EntryBytes.{parts_bytes, entry_bytes, mark_bytes, book_tune}
use Rattle.tune_undo.specs.OldItems.{OldEntry, made_bytes, old_bytes, IsMarkWritten}
use Rattle.tune_undo.specs.Inside.ItemReading.{bytes_after, field_at, number_read, number_read_at, length_of, after_of_word, kind_read, mark_of}
use Rattle.tune_undo.specs.Inside.EntryLines.{tune_line_at, number_line_at, set_line_at, first_line_at, mark_line_at, old_line_at, old_len_of, or_first}
use Rattle.tune_undo.specs.Inside.EntryLines.{first_of_three}
use Rattle.tune_undo.specs.declared.part_lines.TuneLine.{TuneLine}
use Rattle.tune_undo.specs.declared.part_lines.FirstLine.{FirstLine}
use Rattle.tune_undo.specs.declared.part_lines.OldLine.{OldLine}
use Rattle.tune_undo.specs.declared.old_entries.EntryKind.{EntryKind}
use Rattle.tune_undo.specs.declared.old_entries.EntryKind.TheVariants as kind
use Rattle.tune_undo.specs.declared.old_entries.After.{After}
use Rattle.tune_undo.specs.declared.old_entries.After.TheVariants.{Nothing, Text, Revision}
use Rattle.tune_undo.specs.declared.old_entries.Mark.{Mark}
use Rattle.tune_undo.specs.declared.old_entries.Mark.TheVariants.{NotDone, Undone, Undoing}
use Rattle.tune_undo.proofs.FieldLaws.{bind_some, bind_is, after_takes, after_again, Free, free-append, free_test, free_index, field_again}
use Rattle.tune_undo.proofs.FieldLaws.{field_takes, decimal_free, number_again, number_takes, number_at_again, number_at_takes}
use Rattle.tune_undo.proofs.WordLaws.{length_again, length_takes, after_word_again, after_of_takes, kind_again, kind_takes, mark_again, mark_takes}

-- WORDS IN A LINE
length_free : (was : Option ℕ) → IfSome was (λ n. n < 2 ^ 32) → Free space (length_word was)
length_free None small = free_test space (codes "none") refl
length_free (Some n) small = decimal_free space n (omega arith) small

digits_free : (sum : List ℕ) → Free line_feed (encode_with lower_digits sum)
unfolding encode_with
digits_free [] = tt
digits_free (byte ∷ sum) =
    let each = λ (k : ℕ). free_index line_feed lower_digits k (free_test line_feed lower_digits refl) (λ e. omega arith) in
    (each (byte / 16), (each (byte % 16), digits_free sum))

pub after_free : (is : After) → IsAfter is → Free line_feed (after_word is)
after_free Nothing good = free_test line_feed (codes "none") refl
after_free (Text sum) good = digits_free sum
after_free (Revision revision) good =
    free-append line_feed (codes "revision ") (decimal revision) (free_test line_feed (codes "revision ") refl)
    (decimal_free line_feed revision (omega arith) good)

pub numbers_free : (numbers : List ℕ) → AreNumbers numbers → Free line_feed (numbers_bytes numbers)
numbers_free [] are = tt
numbers_free (number ∷ numbers) are = (
  (λ e. omega arith),
  free-append line_feed (decimal number) (numbers_bytes numbers) (decimal_free line_feed number (omega arith) are.0)
      (numbers_free numbers are.1),
)

pub list_free : (list : Option (List ℕ)) → IfSome list AreNumbers → Free line_feed (list_bytes list)
list_free None are = free_test line_feed (codes " none") refl
list_free (Some numbers) are = numbers_free numbers are

name_bytes_free : (name : List ℕ) → list_all is_name_byte name ≡ true → Free space name
name_bytes_free [] good = tt
name_bytes_free (byte ∷ name) good =
    let p = and_parts _ _ good in
    ((λ e. true≢false (sym p.0 ∙ ap is_name_byte e)), name_bytes_free name p.1)

name_free : (name : List ℕ) → is_good_name name ≡ true → Free space name
name_free name good = name_bytes_free name (and_parts _ _ good).1

pub kind_free : (k : EntryKind) → Free space (kind_word k)
kind_free kind.Delete = free_test space (codes "delete") refl
kind_free kind.Replace = free_test space (codes "replace") refl
kind_free kind.Put = free_test space (codes "put") refl
kind_free kind.Cut = free_test space (codes "cut") refl
kind_free kind.Move = free_test space (codes "move") refl
kind_free kind.Drop = free_test space (codes "drop") refl
kind_free kind.Add = free_test space (codes "add") refl
kind_free kind.AddMore = free_test space (codes "add-more") refl
kind_free kind.Load = free_test space (codes "load") refl
kind_free kind.Kept = free_test space (codes "kept") refl

pub mark_free : (mark : Mark) → IsMark mark → Free line_feed (mark_word mark)
mark_free NotDone good = free_test line_feed (codes "not done") refl
mark_free Undone good = free_test line_feed (codes "undone") refl
mark_free (Undoing greatest) good =
    free-append line_feed (codes "undoing ") (decimal greatest) (free_test line_feed (codes "undoing ") refl)
    (decimal_free line_feed greatest (omega arith) good)

-- THE LINE OF A TUNE
pub tune_line_parts : (number : ℕ) (was : Option ℕ) (is : After) (rest : List ℕ) → tune_line number was is ++ rest
    ≡ codes "% tune " ++ (decimal number ++ (space ∷ (codes "was " ++ (length_word was ++ (space ∷ (codes "is " ++ (after_word is ++ (line_feed ∷ rest))))))))
tune_line_parts number was is rest = simp append_assoc

pub tune_line_again : (number : ℕ) (was : Option ℕ) (is : After) (rest : List ℕ) → number < 2 ^ 32 → IfSome was (λ n. n < 2 ^ 32) → IsAfter is
    → tune_line_at (tune_line number was is ++ rest) ≡ Some (record { number = number; was = was; is = is }, rest)
tune_line_again number was is rest small len good =
    let end : List ℕ = after_word is ++ (line_feed ∷ rest) in
    let middle : List ℕ = length_word was ++ (space ∷ (codes "is " ++ end)) in
    ap tune_line_at (tune_line_parts number was is rest)
    ∙ bind_is (number_read_at space (decimal number ++ (space ∷ (codes "was " ++ middle)))) _ (number, codes "was " ++ middle)
    (number_at_again space number (codes "was " ++ middle) (omega arith) small)
    ∙ bind_is (field_at space middle) _ (length_word was, codes "is " ++ end) (field_again space (length_word was) (codes "is " ++ end) (length_free was len))
    ∙ bind_is (length_of (length_word was)) _ was (length_again was len)
    ∙ bind_is (field_at line_feed end) _ (after_word is, rest) (field_again line_feed (after_word is) rest (after_free is good))
    ∙ bind_is (after_of_word (after_word is)) _ is (after_word_again is good)

-- the line that was read, and what it says
pub record TuneLineRead (bytes : List ℕ) (line : TuneLine) (rest : List ℕ) : Type 0 where
  pub whole : tune_line line.number line.was line.is ++ rest ≡ bytes
  pub number : line.number < 2 ^ 32
  pub was : IfSome line.was (λ n. n < 2 ^ 32)
  pub is : IsAfter line.is

pub tune_line_takes : (bytes : List ℕ) (r : TuneLine × List ℕ) → tune_line_at bytes ≡ Some r → TuneLineRead bytes r.0 r.1
tune_line_takes bytes r e =
    let front = bind_some (bytes_after (codes "% tune ") bytes) _ r e in
    let number = bind_some (number_read_at space front.0) _ r front.2 in
    let was_word = bind_some (bytes_after (codes "was ") number.0.1) _ r number.2 in
    let was_field = bind_some (field_at space was_word.0) _ r was_word.2 in
    let was = bind_some (length_of was_field.0.0) _ r was_field.2 in
    let is_word = bind_some (bytes_after (codes "is ") was_field.0.1) _ r was.2 in
    let is_field = bind_some (field_at line_feed is_word.0) _ r is_word.2 in
    let is = bind_some (after_of_word is_field.0.0) _ r is_field.2 in
    let n = number_at_takes space front.0 number.0 number.1 in
    let w = length_takes was_field.0.0 was.0 was.1 in
    let a = after_of_takes is_field.0.0 is.0 is.1 in
    let P : TuneLine × List ℕ → Type 0 = λ s. TuneLineRead bytes s.0 s.1 in
    let end : is_word.0 ≡ after_word is.0 ++ (line_feed ∷ is_field.0.1) =
    (field_takes line_feed is_word.0 is_field.0 is_field.1).0 ∙ ap (λ t. t ++ (line_feed ∷ is_field.0.1)) a.1 in
    let middle : was_word.0 ≡ length_word was.0 ++ (space ∷ (codes "is " ++ (after_word is.0 ++ (line_feed ∷ is_field.0.1)))) =
    (field_takes space was_word.0 was_field.0 was_field.1).0
    ∙ (λ i. w.1 i ++ (space ∷ (after_takes (codes "is ") was_field.0.1 is_word.0 is_word.1 i)))
    ∙ ap (λ t. length_word was.0 ++ (space ∷ (codes "is " ++ t))) end in
    let begin : front.0 ≡ decimal number.0.0 ++ (space ∷ (codes "was " ++ was_word.0)) =
    n.1 ∙ ap (λ t. decimal number.0.0 ++ (space ∷ t)) (after_takes (codes "was ") number.0.1 was_word.0 was_word.1) in
    subst P (same_Some _ _ is.2) (record {
      whole = tune_line_parts number.0.0 was.0 is.0 is_field.0.1
          ∙ sym (after_takes (codes "% tune ") bytes front.0 front.1 ∙ ap (λ t. codes "% tune " ++ t) (begin
          ∙ ap (λ t. decimal number.0.0 ++ (space ∷ (codes "was " ++ t))) middle));
      number = n.0;
      was = w.0;
      is = a.0;
    })

-- THE X: LINE
pub number_line_again : (number : ℕ) (rest : List ℕ) → number < 2 ^ 32
    → number_line_at (codes "X:" ++ (decimal number ++ (line_feed ∷ rest))) ≡ Some (number, rest)
number_line_again number rest small = number_at_again line_feed number rest (omega arith) small

pub number_line_takes : (bytes : List ℕ) (r : ℕ × List ℕ) → number_line_at bytes ≡ Some r
    → (r.0 < 2 ^ 32) × (codes "X:" ++ (decimal r.0 ++ (line_feed ∷ r.1)) ≡ bytes)
number_line_takes bytes r e =
    let front = bind_some (bytes_after (codes "X:") bytes) (λ t. number_read_at line_feed t) r e in
    let n = number_at_takes line_feed front.0 r front.2 in
    (n.0, sym (after_takes (codes "X:") bytes front.0 front.1 ∙ ap (λ t. codes "X:" ++ t) n.1))

pub number_line_short : (bytes : List ℕ) (r : ℕ × List ℕ) → number_line_at bytes ≡ Some r → length r.1 ≤ length bytes
number_line_short bytes r e =
    let whole = (number_line_takes bytes r e).1 in
    omega (arith, ap length whole, length-append (decimal r.0) (line_feed ∷ r.1))

-- THE LINE OF A SET LIST
pub set_line_parts : (name word : List ℕ) (list : Option (List ℕ)) (rest : List ℕ) → set_line name (space ∷ word) list ++ rest
    ≡ codes "% set " ++ (name ++ (space ∷ (word ++ (list_bytes list ++ (line_feed ∷ rest)))))
set_line_parts name word list rest = simp append_assoc

pub set_line_again : (name word : List ℕ) (list : Option (List ℕ)) (rest : List ℕ) → is_good_name name ≡ true → IfSome list AreNumbers
    → set_line_at word (set_line name (space ∷ word) list ++ rest) ≡ Some (name, list_bytes list, rest)
set_line_again name word list rest good are =
    let end : List ℕ = list_bytes list ++ (line_feed ∷ rest) in
    ap (set_line_at word) (set_line_parts name word list rest)
    ∙ bind_is (field_at space (name ++ (space ∷ (word ++ end)))) _ (name, word ++ end) (field_again space name (word ++ end) (name_free name good))
    ∙ bind_is (bytes_after word (word ++ end)) _ end (after_again word end)
    ∙ bind_is (field_at line_feed end) _ (list_bytes list, rest) (field_again line_feed (list_bytes list) rest (list_free list are))

pub set_line_takes : (word bytes : List ℕ) (r : List ℕ × List ℕ × List ℕ) → set_line_at word bytes ≡ Some r
    → codes "% set " ++ (r.0 ++ (space ∷ (word ++ (r.1 ++ (line_feed ∷ r.2))))) ≡ bytes
set_line_takes word bytes r e =
    let front = bind_some (bytes_after (codes "% set ") bytes) _ r e in
    let name = bind_some (field_at space front.0) _ r front.2 in
    let rest = bind_some (bytes_after word name.0.1) _ r name.2 in
    let numbers = bind_some (field_at line_feed rest.0) _ r rest.2 in
    let P : List ℕ × List ℕ × List ℕ → Type 0 = λ s. codes "% set " ++ (s.0 ++ (space ∷ (word ++ (s.1 ++ (line_feed ∷ s.2))))) ≡ bytes in
    subst P (same_Some _ _ numbers.2) (sym (after_takes (codes "% set ") bytes front.0 front.1
    ∙ ap (λ t. codes "% set " ++ t) ((field_takes space front.0 name.0 name.1).0
    ∙ ap (λ t. name.0.0 ++ (space ∷ t)) (after_takes word name.0.1 rest.0 rest.1
    ∙ ap (λ t. word ++ t) (field_takes line_feed rest.0 numbers.0 numbers.1).0))))

-- THE FIRST LINE OF AN ENTRY
-- the bytes of that line, before what follows
abbrev pub first_line : EntryKind → ℕ → ℕ → List ℕ → List ℕ
first_line k parts len rest =
    codes "% tunes-book " ++ (kind_word k ++ (space ∷ (decimal parts ++ (space ∷ (decimal len ++ (line_feed ∷ rest))))))

pub first_line_again : (k : EntryKind) (parts len : ℕ) (rest : List ℕ) → parts < 2 ^ 32 → len < 2 ^ 32
    → first_line_at (first_line k parts len rest) ≡ Some (record { kind = k; parts = parts; len = len }, rest)
first_line_again k parts len rest few short =
    let end : List ℕ = decimal len ++ (line_feed ∷ rest) in
    let middle : List ℕ = decimal parts ++ (space ∷ end) in
    bind_is (field_at space (kind_word k ++ (space ∷ middle))) _ (kind_word k, middle) (field_again space (kind_word k) middle (kind_free k))
    ∙ bind_is (kind_read (kind_word k)) _ k (kind_again k)
    ∙ bind_is (number_read_at space middle) _ (parts, end) (number_at_again space parts end (omega arith) few)
    ∙ bind_is (number_read_at line_feed end) _ (len, rest) (number_at_again line_feed len rest (omega arith) short)

pub record FirstLineRead (bytes : List ℕ) (line : FirstLine) (rest : List ℕ) : Type 0 where
  pub whole : first_line line.kind line.parts line.len rest ≡ bytes
  pub parts : line.parts < 2 ^ 32
  pub len : line.len < 2 ^ 32

pub first_line_takes : (bytes : List ℕ) (r : FirstLine × List ℕ) → first_line_at bytes ≡ Some r → FirstLineRead bytes r.0 r.1
first_line_takes bytes r e =
    let front = bind_some (bytes_after (codes "% tunes-book ") bytes) _ r e in
    let word = bind_some (field_at space front.0) _ r front.2 in
    let k = bind_some (kind_read word.0.0) _ r word.2 in
    let parts = bind_some (number_read_at space word.0.1) _ r k.2 in
    let len = bind_some (number_read_at line_feed parts.0.1) _ r parts.2 in
    let p = number_at_takes space word.0.1 parts.0 parts.1 in
    let l = number_at_takes line_feed parts.0.1 len.0 len.1 in
    let P : FirstLine × List ℕ → Type 0 = λ s. FirstLineRead bytes s.0 s.1 in
    subst P (same_Some _ _ len.2) (record {
      whole = sym (after_takes (codes "% tunes-book ") bytes front.0 front.1
          ∙ ap (λ t. codes "% tunes-book " ++ t) ((field_takes space front.0 word.0 word.1).0
          ∙ (λ i. kind_takes word.0.0 k.0 k.1 i ++ (space ∷ p.1 i))
          ∙ ap (λ t. kind_word k.0 ++ (space ∷ (decimal parts.0.0 ++ (space ∷ t)))) l.1));
      parts = p.0;
      len = l.0;
    })

pub entry_parts : (entry : EntryValue) (rest : List ℕ) → entry_bytes entry ++ rest
    ≡ first_line entry.kind (length entry.parts) (length (parts_bytes entry.parts)) (parts_bytes entry.parts ++ rest)
entry_parts entry rest = simp append_assoc

-- MARKS
pub mark_line_again : (mark : Mark) (rest : List ℕ) → IsMark mark → mark_line_at (mark_bytes mark ++ rest) ≡ Some (mark, rest)
mark_line_again mark rest good =
    ap (λ t. mark_line_at (codes "% tunes-book " ++ t)) (append_assoc (mark_word mark) (line_feed ∷ []) rest)
    ∙ bind_is (field_at line_feed (mark_word mark ++ (line_feed ∷ rest))) _ (mark_word mark, rest)
    (field_again line_feed (mark_word mark) rest (mark_free mark good))
    ∙ bind_is (mark_of (mark_word mark)) _ mark (mark_again mark good)

pub mark_written_again : (front : List ℕ) (mark : Mark) (rest : List ℕ) → IsMarkWritten front mark → mark_line_at (front ++ rest) ≡ Some (mark, rest)
mark_written_again front mark rest (inl w) = ap (λ t. mark_line_at (t ++ rest)) w.1 ∙ mark_line_again mark rest w.0
mark_written_again front mark rest (inr w) = ap (λ t. mark_line_at (t ++ rest)) w.0 ∙ ap (λ m. Some (m, rest)) (sym w.1)

-- a mark that was read stands at the front
pub record MarkRead (bytes : List ℕ) (mark : Mark) (rest : List ℕ) : Type 0 where
  pub front : List ℕ
  pub whole : front ++ rest ≡ bytes
  pub written : IsMarkWritten front mark

pub mark_line_takes : (bytes : List ℕ) (r : Mark × List ℕ) → mark_line_at bytes ≡ Some r → MarkRead bytes r.0 r.1
mark_line_takes bytes r e =
    let front = bind_some (bytes_after (codes "% tunes-book ") bytes) _ r e in
    let word = bind_some (field_at line_feed front.0) _ r front.2 in
    let mark = bind_some (mark_of word.0.0) _ r word.2 in
    let P : Mark × List ℕ → Type 0 = λ s. MarkRead bytes s.0 s.1 in
    let whole : codes "% tunes-book " ++ (word.0.0 ++ (line_feed ∷ word.0.1)) ≡ bytes =
    sym (after_takes (codes "% tunes-book ") bytes front.0 front.1 ∙ ap (λ t. codes "% tunes-book " ++ t) (field_takes line_feed front.0 word.0 word.1).0) in
    subst P (same_Some _ _ mark.2) (record {
      front = codes "% tunes-book " ++ (word.0.0 ++ codes "\n");
      whole = ap (λ t. codes "% tunes-book " ++ t) (append_assoc word.0.0 (line_feed ∷ []) word.0.1) ∙ whole;
      written = elim (mark_takes word.0.0 mark.0 mark.1) [
        | inl w ↦ inl (w.0, ap (λ t. codes "% tunes-book " ++ (t ++ codes "\n")) w.1)
        | inr w ↦ inr (ap (λ t. codes "% tunes-book " ++ (t ++ codes "\n")) w.0, w.1)
      ];
    })

-- THE FIRST LINE OF AN ENTRY OF BEFORE
free_mid : (a b : List ℕ) → Free space (a ++ (space ∷ b)) → ⊥
free_mid [] b free = free.0 refl
free_mid (byte ∷ a) b free = free_mid a b free.1

no_number : (o : Option ℕ) → ((n : ℕ) → o ≡ Some n → ⊥) → o ≡ None
no_number None none = refl
no_number (Some n) none = absurd (none n refl)

number_spaced : (a b : List ℕ) → number_read (a ++ (space ∷ b)) ≡ None
number_spaced a b = no_number (number_read (a ++ (space ∷ b))) (λ n e.
    let word = number_takes (a ++ (space ∷ b)) n e in
    free_mid a b (subst (Free space) (sym word.1) (decimal_free space n (omega arith) word.0)))

-- two numbers of 32 bits
abbrev pub AreTwo : ℕ × ℕ → Type 0
AreTwo made = (made.0 < 2 ^ 32) × (made.1 < 2 ^ 32)

old_len_again : (len : ℕ) (made : Option (ℕ × ℕ)) → len < 2 ^ 32 → IfSome made AreTwo → old_len_of (decimal len ++ made_bytes made) ≡ Some len
old_len_again len None short small =
    ap old_len_of (append-nil (decimal len)) ∙ ap (λ o. or_first o (first_of_three (decimal len))) (number_again len short)
old_len_again len (Some made) short small =
    let last : List ℕ = decimal made.1 in
    let rest : List ℕ = decimal made.0 ++ (space ∷ last) in
    let word : List ℕ = decimal len ++ (space ∷ rest) in
    ap (λ o. or_first o (first_of_three word)) (number_spaced (decimal len) rest)
    ∙ (bind_is (number_read_at space word) _ (len, rest) (number_at_again space len rest (omega arith) short)
    ∙ bind_is (number_read_at space rest) _ (made.0, last) (number_at_again space made.0 last (omega arith) small.0)
    ∙ bind_is (number_read last) _ made.1 (number_again made.1 small.1))

or_cases : (o other : Option ℕ) (len : ℕ) → or_first o other ≡ Some len → (o ≡ Some len) ⊎ (other ≡ Some len)
or_cases None other len e = inr e
or_cases (Some n) other len e = inl e

-- a length that was read, and what stands behind it
pub record LenRead (word : List ℕ) (len : ℕ) : Type 0 where
  pub made : Option (ℕ × ℕ)
  pub small : IfSome made AreTwo
  pub short : len < 2 ^ 32
  pub whole : word ≡ decimal len ++ made_bytes made

old_len_takes : (word : List ℕ) (len : ℕ) → old_len_of word ≡ Some len → LenRead word len
old_len_takes word len e = elim (or_cases (number_read word) (first_of_three word) len e) [
  | inl n ↦
      let number = number_takes word len n in
      record { made = None; small = tt; short = number.0; whole = number.1 ∙ sym (append-nil (decimal len)) }
  | inr t ↦
      let first = bind_some (number_read_at space word) _ len t in
      let sum = bind_some (number_read_at space first.0.1) _ len first.2 in
      let size = bind_some (number_read sum.0.1) _ len sum.2 in
      let a = number_at_takes space word first.0 first.1 in
      let b = number_at_takes space first.0.1 sum.0 sum.1 in
      let c = number_takes sum.0.1 size.0 size.1 in
      let P : ℕ → Type 0 = LenRead word in
      subst P (same_Some _ _ size.2) (record {
        made = Some (sum.0.0, size.0);
        small = (b.0, c.0);
        short = a.0;
        whole = a.1 ∙ ap (λ t. decimal first.0.0 ++ (space ∷ t)) (b.1 ∙ ap (λ t. decimal sum.0.0 ++ (space ∷ t)) c.1);
      })
]

-- the bytes of that line, before what follows
abbrev pub old_line : EntryKind → ℕ → ℕ → List ℕ → List ℕ → List ℕ
old_line k number revision lens rest =
    codes "% tunes-book " ++ (kind_word k ++ (space ∷ (decimal number ++ (space ∷ (decimal revision ++ (space ∷ (lens ++ (line_feed ∷ rest))))))))

pub made_free : (len : ℕ) (made : Option (ℕ × ℕ)) → len < 2 ^ 32 → IfSome made AreTwo → Free line_feed (decimal len ++ made_bytes made)
made_free len None short small = free-append line_feed (decimal len) [] (decimal_free line_feed len (omega arith) short) tt
made_free len (Some made) short small =
    free-append line_feed (decimal len) (made_bytes (Some made)) (decimal_free line_feed len (omega arith) short) (
      (λ e. omega arith),
      free-append line_feed (decimal made.0) (space ∷ decimal made.1) (decimal_free line_feed made.0 (omega arith) small.0)
          ((λ e. omega arith), decimal_free line_feed made.1 (omega arith) small.1),
    )

pub old_line_again : (k : EntryKind) (number revision len : ℕ) (made : Option (ℕ × ℕ)) (rest : List ℕ) → number < 2 ^ 32 → revision < 2 ^ 32 → len < 2 ^ 32
    → IfSome made AreTwo → old_line_at (old_line k number revision (decimal len ++ made_bytes made) rest)
    ≡ Some (record { kind = k; number = number; revision = revision; len = len }, rest)
old_line_again k number revision len made rest small low short two =
    let lens : List ℕ = decimal len ++ made_bytes made in
    let end : List ℕ = lens ++ (line_feed ∷ rest) in
    let middle : List ℕ = decimal revision ++ (space ∷ end) in
    let front : List ℕ = decimal number ++ (space ∷ middle) in
    bind_is (field_at space (kind_word k ++ (space ∷ front))) _ (kind_word k, front) (field_again space (kind_word k) front (kind_free k))
    ∙ bind_is (kind_read (kind_word k)) _ k (kind_again k)
    ∙ bind_is (number_read_at space front) _ (number, middle) (number_at_again space number middle (omega arith) small)
    ∙ bind_is (number_read_at space middle) _ (revision, end) (number_at_again space revision end (omega arith) low)
    ∙ bind_is (field_at line_feed end) _ (lens, rest) (field_again line_feed lens rest (made_free len made short two))
    ∙ bind_is (old_len_of lens) _ len (old_len_again len made short two)

pub record OldLineRead (bytes : List ℕ) (line : OldLine) (rest : List ℕ) : Type 0 where
  pub made : Option (ℕ × ℕ)
  pub small : IfSome made AreTwo
  pub number : line.number < 2 ^ 32
  pub whole : old_line line.kind line.number line.revision (decimal line.len ++ made_bytes made) rest ≡ bytes

pub old_line_takes : (bytes : List ℕ) (r : OldLine × List ℕ) → old_line_at bytes ≡ Some r → OldLineRead bytes r.0 r.1
old_line_takes bytes r e =
    let front = bind_some (bytes_after (codes "% tunes-book ") bytes) _ r e in
    let word = bind_some (field_at space front.0) _ r front.2 in
    let k = bind_some (kind_read word.0.0) _ r word.2 in
    let number = bind_some (number_read_at space word.0.1) _ r k.2 in
    let revision = bind_some (number_read_at space number.0.1) _ r number.2 in
    let lens = bind_some (field_at line_feed revision.0.1) _ r revision.2 in
    let len = bind_some (old_len_of lens.0.0) _ r lens.2 in
    let n = number_at_takes space word.0.1 number.0 number.1 in
    let v = number_at_takes space number.0.1 revision.0 revision.1 in
    let l = old_len_takes lens.0.0 len.0 len.1 in
    let P : OldLine × List ℕ → Type 0 = λ s. OldLineRead bytes s.0 s.1 in
    let end : revision.0.1 ≡ (decimal len.0 ++ made_bytes l.made) ++ (line_feed ∷ lens.0.1) =
    (field_takes line_feed revision.0.1 lens.0 lens.1).0 ∙ ap (λ t. t ++ (line_feed ∷ lens.0.1)) l.whole in
    let middle : number.0.1 ≡ decimal revision.0.0 ++ (space ∷ ((decimal len.0 ++ made_bytes l.made) ++ (line_feed ∷ lens.0.1))) =
    v.1 ∙ ap (λ t. decimal revision.0.0 ++ (space ∷ t)) end in
    subst P (same_Some _ _ len.2) (record {
      made = l.made;
      small = l.small;
      number = n.0;
      whole = sym (after_takes (codes "% tunes-book ") bytes front.0 front.1
          ∙ ap (λ t. codes "% tunes-book " ++ t) ((field_takes space front.0 word.0 word.1).0
          ∙ (λ i. kind_takes word.0.0 k.0 k.1 i ++ (space ∷ n.1 i))
          ∙ ap (λ t. kind_word k.0 ++ (space ∷ (decimal number.0.0 ++ (space ∷ t)))) middle));
    })

pub old_parts : (old : OldEntry) (rest : List ℕ) → old_bytes old ++ rest
    ≡ old_line old.kind old.number old.revision (decimal (length (book_tune old.number old.text)) ++ made_bytes old.made)
    (book_tune old.number old.text ++ rest)
old_parts old rest = simp append_assoc
