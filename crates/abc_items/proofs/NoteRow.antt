-- The row of notes.
use Rattle.std.proofs.Common.{◌≡◌, ℕ, suc, ◌+◌, Bool, true, false, cond, eqb, List, [], ◌∷◌, ◌++◌, length, take, drop, Option, Some, None, refl, ap, sym, ◌∙◌}
use Rattle.std.proofs.Common.{arith, inl, inr, subst}
use Rattle.std.specs.List.{prefix_len}
use Rattle.std.specs.Option.{option_map, unwrap_or, is_some}
use Rattle.std.proofs.lemmas.Bool.{eqb-true, cases_Bool}
use Rattle.std.proofs.lemmas.List.{append_assoc, length-append, take-append-drop, drop-drop}
use Rattle.std.proofs.Math.Seq.{take-append-add, drop-append-add, drop-append_seam}
use Rattle.abc_keys.specs.declared.letters.Accidental.{Accidental}
use Rattle.abc_keys.specs.declared.letters.Accidental.TheVariants.{DoubleFlat, Flat, Natural, Sharp, DoubleSharp}
use Rattle.abc_keys.specs.declared.letters.Letter.{Letter}
use Rattle.abc_fields.specs.Bytes.{is_one_of}
use Rattle.abc_keys.specs.Letters.{accidental_of, doubled, letter_of}
use Rattle.abc_fields.specs.Bytes.{begins}
use Rattle.abc_items.specs.Marks.{is_octave_mark, flat_sign, natural_sign, sharp_sign}
use Rattle.abc_keys.specs.ByteRuns.{IsRun}
use Rattle.abc_items.specs.Grammar.{IsNote, spelling_of}
use Rattle.abc_items.specs.Inside.ItemRows.{note}
use Rattle.abc_items.specs.NoteFronts.{own_accidental, is_note_name}
use Rattle.abc_keys.proofs.RunLaw.{front_is_run, run_is_longest}
use Rattle.abc_items.proofs.RowLengths.{IsOfRow, GivesEach}

-- A LETTER IS NO SIGN
-- a byte that names a letter is none of these
other_byte : (byte sign : ℕ) (letter : Letter) → letter_of sign ≡ None → letter_of byte ≡ Some letter → is_one_of (sign ∷ []) byte ≡ false
other_byte byte sign letter none named = elim (cases_Bool (eqb byte sign)) [
  | inl same ↦ let clash : letter_of byte ≡ letter_of sign = ap letter_of (eqb-true byte sign same) in absurd (cc)
  | inr other ↦ rw other refl
]

-- a byte that names a letter is no accidental
no_sign : (byte : ℕ) (letter : Letter) → letter_of byte ≡ Some letter → accidental_of byte ≡ None
no_sign byte letter named =
    rw (other_byte byte sharp_sign letter refl named, other_byte byte flat_sign letter refl named, other_byte byte natural_sign letter refl named) refl

-- a byte that names a letter doubles no accidental
no_double : (byte : ℕ) (letter : Letter) (accidental : Accidental) → letter_of byte ≡ Some letter → doubled accidental byte ≡ None
no_double byte letter Sharp named = rw (other_byte byte sharp_sign letter refl named) refl
no_double byte letter Flat named = rw (other_byte byte flat_sign letter refl named) refl
no_double byte letter DoubleFlat named = refl
no_double byte letter Natural named = refl
no_double byte letter DoubleSharp named = refl

-- the accidental before a letter is the one that is spelled
accidental_before : (own : Option Accidental) (name : ℕ) (letter : Letter) (tail : List ℕ) → letter_of name ≡ Some letter
    → own_accidental (spelling_of own ++ (name ∷ tail)) ≡ own
accidental_before None name letter [] named = no_sign name letter named
accidental_before None name letter (byte ∷ tail) named = ap (option_map (λ a. unwrap_or (doubled a byte) a)) (no_sign name letter named)
accidental_before (Some DoubleFlat) name letter tail named = refl
accidental_before (Some DoubleSharp) name letter tail named = refl
accidental_before (Some Natural) name letter tail named = refl
accidental_before (Some Flat) name letter tail named = ap (λ o. Some (unwrap_or o Flat)) (no_double name letter Flat named)
accidental_before (Some Sharp) name letter tail named = ap (λ o. Some (unwrap_or o Sharp)) (no_double name letter Sharp named)

-- EACH NOTE HAS ITS LENGTH
-- where the test of the row passes, it gives a length
test_notes : (x : Bool) (n m : ℕ) → x ≡ true → n ≡ m → cond x (Some n) None ≡ Some m
test_notes true n m p same = ap Some same
test_notes false n m p same = absurd (cc)

-- a note's length, where its accidental is known
note_after : (own : Option Accidental) (name : ℕ) (letter : Letter) (tail : List ℕ) → own_accidental (spelling_of own ++ (name ∷ tail)) ≡ own
    → letter_of name ≡ Some letter
    → note (spelling_of own ++ (name ∷ tail)) ≡ Some (length (spelling_of own) + 1 + prefix_len is_octave_mark tail)
unfolding note
note_after own name letter tail is named =
    let line = spelling_of own ++ (name ∷ tail) in
    let at : drop (length (spelling_of own)) line ≡ name ∷ tail = drop-append_seam (spelling_of own) (name ∷ tail) in
    let past : drop (length (spelling_of own) + 1) line ≡ tail = drop-append-add (spelling_of own) (name ∷ tail) 1 in
    let before : length (spelling_of (own_accidental line)) ≡ length (spelling_of own) = ap (λ o. length (spelling_of o)) is in
    let begin : begins is_note_name (drop (length (spelling_of (own_accidental line))) line) ≡ true =
    ap (λ k. begins is_note_name (drop k line)) before ∙ ap (begins is_note_name) at ∙ ap is_some named in
    test_notes (begins is_note_name (drop (length (spelling_of (own_accidental line))) line))
    (length (spelling_of (own_accidental line)) + 1 + prefix_len is_octave_mark (drop (length (spelling_of (own_accidental line)) + 1) line))
    (length (spelling_of own) + 1 + prefix_len is_octave_mark tail) begin
    (ap (λ k. k + 1 + prefix_len is_octave_mark (drop (k + 1) line)) before ∙ ap (λ t. length (spelling_of own) + 1 + prefix_len is_octave_mark t) past)

-- each note has the length that the row gives
pub note_gives : GivesEach IsNote note
note_gives text rest is =
    let front = spelling_of is.own in
    let tail = is.marks ++ rest in
    let line : text ++ rest ≡ front ++ (is.name ∷ tail) = ap (λ t. t ++ rest) is.whole ∙ append_assoc front (is.name ∷ is.marks) rest in
    let long : length text ≡ length front + suc (length is.marks) = ap length is.whole ∙ length-append front (is.name ∷ is.marks) in
    let sum : length front + 1 + length is.marks ≡ length text = omega arith in
    ap note line ∙ note_after is.own is.name is.letter tail (accidental_before is.own is.name is.letter tail is.named) is.named
    ∙ ap (λ k. Some (length front + 1 + k)) (run_is_longest is_octave_mark is.marks rest is.run) ∙ ap Some sum

-- EACH LENGTH IS THAT OF A NOTE
-- a text begins as its accidental is spelled
abbrev BeginsAsSpelled : List ℕ → Type 0
BeginsAsSpelled text = take (length (spelling_of (own_accidental text))) text ≡ spelling_of (own_accidental text)

-- by the first byte, and by the byte after it
sharp_spelled : (text : List ℕ) → BeginsAsSpelled (sharp_sign ∷ text)
sharp_spelled [] = refl
sharp_spelled (byte ∷ text) = elim (cases_Bool (eqb byte sharp_sign)) [
  | inl same ↦ let P : ℕ → Type 0 = λ b. BeginsAsSpelled (sharp_sign ∷ b ∷ text) in subst P (sym (eqb-true byte sharp_sign same)) refl
  | inr other ↦ rw other refl
]

-- the same of a flat
flat_spelled : (text : List ℕ) → BeginsAsSpelled (flat_sign ∷ text)
flat_spelled [] = refl
flat_spelled (byte ∷ text) = elim (cases_Bool (eqb byte flat_sign)) [
  | inl same ↦ let P : ℕ → Type 0 = λ b. BeginsAsSpelled (flat_sign ∷ b ∷ text) in subst P (sym (eqb-true byte flat_sign same)) refl
  | inr other ↦ rw other refl
]

-- the same of a natural
natural_spelled : (text : List ℕ) → BeginsAsSpelled (natural_sign ∷ text)
natural_spelled [] = refl
natural_spelled (byte ∷ text) = refl

-- the same of a byte that is no accidental
other_spelled : (byte : ℕ) (text : List ℕ) → eqb byte sharp_sign ≡ false → eqb byte flat_sign ≡ false → eqb byte natural_sign ≡ false
    → BeginsAsSpelled (byte ∷ text)
other_spelled byte [] p q r = rw (p, q, r) refl
other_spelled byte (second ∷ text) p q r = rw (p, q, r) refl

-- each text begins as its accidental is spelled
begins_as_spelled : (text : List ℕ) → BeginsAsSpelled text
begins_as_spelled [] = refl
begins_as_spelled (byte ∷ text) = let P : ℕ → Type 0 = λ b. BeginsAsSpelled (b ∷ text) in elim (cases_Bool (eqb byte sharp_sign)) [
  | inl sharp ↦ subst P (sym (eqb-true byte sharp_sign sharp)) (sharp_spelled text)
  | inr no_sharp ↦ elim (cases_Bool (eqb byte flat_sign)) [
    | inl flat ↦ subst P (sym (eqb-true byte flat_sign flat)) (flat_spelled text)
    | inr no_flat ↦ elim (cases_Bool (eqb byte natural_sign)) [
      | inl natural ↦ subst P (sym (eqb-true byte natural_sign natural)) (natural_spelled text)
      | inr none ↦ other_spelled byte text no_sharp no_flat none
    ]
  ]
]

-- the letter that a byte names
pub record Named (text : List ℕ) : Type 0 where
  pub name : ℕ
  pub letter : Letter
  pub tail : List ℕ
  pub named : letter_of name ≡ Some letter
  pub whole : text ≡ name ∷ tail

-- a byte that names a letter
named_by : (byte : ℕ) (tail : List ℕ) (found : Option Letter) → letter_of byte ≡ found → is_some found ≡ true → Named (byte ∷ tail)
named_by byte tail None is some = absurd (cc)
named_by byte tail (Some letter) is some = record { name = byte; letter = letter; tail = tail; named = is; whole = refl }

-- a text that begins with such a byte
named_at : (text : List ℕ) → begins is_note_name text ≡ true → Named text
named_at [] begin = absurd (cc)
named_at (byte ∷ tail) begin = named_by byte tail (letter_of byte) refl begin

-- a note of plain parts, at the front of its line
note_of_parts : (own : Option Accidental) (name : ℕ) (letter : Letter) (tail : List ℕ) (n m : ℕ) → letter_of name ≡ Some letter
    → m ≡ prefix_len is_octave_mark tail
    → n ≡ length (spelling_of own) + suc m → IsNote (take n (spelling_of own ++ (name ∷ tail))) (drop n (spelling_of own ++ (name ∷ tail)))
note_of_parts own name letter tail n m named marks sum =
    let line = spelling_of own ++ (name ∷ tail) in
    let front : take n line ≡ spelling_of own ++ (name ∷ take m tail) = ap (λ k. take k line) sum ∙ take-append-add (spelling_of own) (name ∷ tail) (suc m) in
    let rest : drop n line ≡ drop m tail = ap (λ k. drop k line) sum ∙ drop-append-add (spelling_of own) (name ∷ tail) (suc m) in
    let P : ℕ → Type 0 = λ k. IsRun is_octave_mark (take k tail) (drop k tail) in
    let run : IsRun is_octave_mark (take m tail) (drop m tail) = subst P (sym marks) (front_is_run is_octave_mark tail) in
    let Q : List ℕ → Type 0 = λ r. IsNote (take n line) r in
    subst Q (sym rest) (record { own = own; name = name; letter = letter; marks = take m tail; named = named; run = run; whole = front })

-- where the test of the row passes, the length is that of a note
note_found : (line : List ℕ) → begins is_note_name (drop (length (spelling_of (own_accidental line))) line) ≡ true
    → IsOfRow IsNote line
    (Some (length (spelling_of (own_accidental line)) + 1 + prefix_len is_octave_mark (drop (length (spelling_of (own_accidental line)) + 1) line)))
note_found line begin =
    let own = own_accidental line in
    let before = length (spelling_of own) in
    let found = named_at (drop before line) begin in
    let whole : line ≡ spelling_of own ++ (found.name ∷ found.tail) =
    sym (take-append-drop before line) ∙ (λ i. begins_as_spelled line i ++ found.whole i) in
    let past : drop (before + 1) line ≡ found.tail = sym (drop-drop 1 before line) ∙ ap (drop 1) found.whole in
    let m = prefix_len is_octave_mark (drop (before + 1) line) in
    let n = before + 1 + m in
    let marks : m ≡ prefix_len is_octave_mark found.tail = ap (prefix_len is_octave_mark) past in
    let sum : n ≡ before + suc m = omega arith in
    let P : List ℕ → Type 0 = λ l. IsNote (take n l) (drop n l) in
    subst P (sym whole) (note_of_parts own found.name found.letter found.tail n m found.named marks sum)

-- by the test of the row
note_cases : (line : List ℕ) (x : Bool) → begins is_note_name (drop (length (spelling_of (own_accidental line))) line) ≡ x
    → IsOfRow IsNote line
    (cond x (Some (length (spelling_of (own_accidental line)) + 1 + prefix_len is_octave_mark (drop (length (spelling_of (own_accidental line)) + 1) line)))
    None)
note_cases line true begin = note_found line begin
note_cases line false begin = tt

-- each length that the row gives is that of a note
pub note_is : (line : List ℕ) → IsOfRow IsNote line (note line)
unfolding note
note_is line = note_cases line (begins is_note_name (drop (length (spelling_of (own_accidental line))) line)) refl

-- the accidental that a note's text begins with is the note's own
pub own_is_first : (text rest : List ℕ) (note : IsNote text rest) → own_accidental text ≡ note.own
own_is_first text rest note = ap own_accidental note.whole ∙ accidental_before note.own note.name note.letter note.marks note.named
