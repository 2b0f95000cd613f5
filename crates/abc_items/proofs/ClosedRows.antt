-- The rows that end at a closing mark: quoted texts, decorations and grace notes, inline fields, and chords.
use Rattle.std.proofs.Common.{◌≡◌, ℕ, zero, suc, ◌+◌, ◌<◌, ◌≤◌, Bool, true, false, not, ◌&&◌, cond, eqb, nat_lt, List, [], ◌∷◌, ◌++◌, length, take, drop}
use Rattle.std.proofs.Common.{Option, Some, None, refl, ap, sym, ◌∙◌, arith}
use Rattle.std.specs.List.{prefix_len, list_all}
use Rattle.std.specs.Char.{is_ascii_alphabetic, is_ascii_digit}
use Rattle.std.proofs.lemmas.Bool.{eqb-true, eq-eqb, ltb-true, lt-ltb}
use Rattle.std.proofs.lemmas.List.{length-take-le, append_assoc, length-append}
use Rattle.std.proofs.lemmas.List.Sums.{prefix_len-le-length}
use Rattle.abc_fields.specs.Bytes.{colon, begins}
use Rattle.abc_items.specs.Marks.{closing_bracket, is_chord_byte, is_closing_bracket, has_no, opening_bracket}
use Rattle.abc_keys.specs.ByteRuns.{IsRun}
use Rattle.abc_items.specs.Grammar.{IsEnclosed, IsInlineField, IsChord}
use Rattle.abc_items.specs.Inside.ItemRows.{up_to, longer, enclosed, inline_field, chord}
use Rattle.abc_keys.proofs.RunLaw.{front_is_run, run_is_longest}
use Rattle.abc_items.proofs.ClosingMarks.{FindsMark, search_finds, search_passes}
use Rattle.abc_items.proofs.RowLengths.{IsOfRow, GivesEach, closed_line, closed_length}

-- TWO MARKS
-- the row gives two marks and what is between them their length
enclosed_line : (opening closing : ℕ) (inside rest : List ℕ) → has_no closing inside ≡ true
    → enclosed opening closing (opening ∷ (inside ++ (closing ∷ rest))) ≡ Some (length inside + 2)
unfolding enclosed
enclosed_line opening closing inside rest plain =
    let two : (length inside + 1) + 1 ≡ length inside + 2 = omega arith in
    rw (eq-eqb opening opening refl) (ap (longer 1) (search_passes closing inside rest plain) ∙ ap Some two)

-- each text in two marks has the length that the row gives
pub enclosed_gives : (opening closing : ℕ) → GivesEach (λ text rest. IsEnclosed opening closing text) (enclosed opening closing)
enclosed_gives opening closing text rest is =
    ap (enclosed opening closing) (closed_line opening closing text is.inside rest is.whole)
    ∙ enclosed_line opening closing is.inside rest is.plain
    ∙ ap Some (sym (closed_length opening closing text is.inside is.whole))

-- by the first byte, and by what the search finds after it
enclosed_cases : (opening closing byte : ℕ) (text : List ℕ) (c : Bool) (found : Option ℕ) → eqb byte opening ≡ c → FindsMark closing text found
    → IsOfRow (λ t r. IsEnclosed opening closing t) (byte ∷ text) (cond c (longer 1 found) None)
enclosed_cases opening closing byte text false found same finds = tt
enclosed_cases opening closing byte text true None same finds = tt
enclosed_cases opening closing byte text true (Some n) same finds =
    let one : n + 1 ≡ suc n = omega arith in record {
      inside = finds.inside;
      plain = finds.plain;
      whole = ap (λ k. take k (byte ∷ text)) one ∙ (λ i. eqb-true byte opening same i ∷ finds.whole i);
    }

-- each length that the row gives is that of a text in two marks
pub enclosed_is : (opening closing : ℕ) (line : List ℕ) → IsOfRow (λ t r. IsEnclosed opening closing t) line (enclosed opening closing line)
unfolding enclosed
enclosed_is opening closing [] = tt
enclosed_is opening closing (byte ∷ text) = enclosed_cases opening closing byte text (eqb byte opening) (up_to closing text) refl (search_finds closing text)

-- INLINE FIELDS
-- the row gives an inline field its length
field_line : (name : ℕ) (value rest : List ℕ) → is_ascii_alphabetic name ≡ true → has_no closing_bracket value ≡ true
    → inline_field (opening_bracket ∷ name ∷ colon ∷ (value ++ (closing_bracket ∷ rest))) ≡ Some (length value + 4)
unfolding inline_field
field_line name value rest letter plain =
    let four : (length value + 1) + 3 ≡ length value + 4 = omega arith in
    rw letter (ap (longer 3) (search_passes closing_bracket value rest plain) ∙ ap Some four)

-- each inline field has the length that the row gives
pub field_gives : GivesEach (λ text rest. IsInlineField text) inline_field
field_gives text rest is =
    let line : text ++ rest ≡ opening_bracket ∷ is.name ∷ colon ∷ (is.value ++ (closing_bracket ∷ rest)) =
    ap (λ t. t ++ rest) is.whole ∙ ap (λ t. opening_bracket ∷ is.name ∷ colon ∷ t) (append_assoc is.value (closing_bracket ∷ []) rest) in
    let long : length text ≡ length is.value + 4 = ap length is.whole ∙ simp length-append (omega arith) in
    ap inline_field line ∙ field_line is.name is.value rest is.letter is.plain ∙ ap Some (sym long)

-- by the first three bytes, and by what the search finds after them
field_cases : (first name third : ℕ) (text : List ℕ) (x y z : Bool) (found : Option ℕ) → eqb first opening_bracket ≡ x → is_ascii_alphabetic name ≡ y
    → eqb third colon ≡ z
    → FindsMark closing_bracket text found → IsOfRow (λ t r. IsInlineField t) (first ∷ name ∷ third ∷ text) (cond (x && y && z) (longer 3 found) None)
field_cases first name third text false y z found p q r finds = tt
field_cases first name third text true false z found p q r finds = tt
field_cases first name third text true true false found p q r finds = tt
field_cases first name third text true true true None p q r finds = tt
field_cases first name third text true true true (Some n) p q r finds =
    let three : n + 3 ≡ suc (suc (suc n)) = omega arith in record {
      name = name;
      value = finds.inside;
      letter = q;
      plain = finds.plain;
      whole =
          ap (λ k. take k (first ∷ name ∷ third ∷ text)) three ∙ (λ i. eqb-true first opening_bracket p i ∷ name ∷ eqb-true third colon r i ∷ finds.whole i);
    }

-- each length that the row gives is that of an inline field
pub field_is : (line : List ℕ) → IsOfRow (λ t r. IsInlineField t) line (inline_field line)
unfolding inline_field
field_is [] = tt
field_is (first ∷ []) = tt
field_is (first ∷ name ∷ []) = tt
field_is (first ∷ name ∷ third ∷ text) =
    field_cases first name third text (eqb first opening_bracket) (is_ascii_alphabetic name) (eqb third colon) (up_to closing_bracket text) refl refl refl
    (search_finds closing_bracket text)

-- CHORDS
-- the closing bracket stands after the inside
closing_after : (inside rest : List ℕ) → begins is_closing_bracket (drop (length inside) (inside ++ (closing_bracket ∷ rest))) ≡ true
closing_after [] rest = refl
closing_after (byte ∷ inside) rest = closing_after inside rest

-- the inside has a first byte, which is that of the line after the bracket
digit_of_inside : (inside rest : List ℕ) → 0 < length inside → begins is_ascii_digit (inside ++ rest) ≡ begins is_ascii_digit inside
digit_of_inside [] rest some = absurd (omega arith)
digit_of_inside (byte ∷ inside) rest some = refl

-- where each test of the row passes, it gives a length
chord_tests : (x y z : Bool) (n m : ℕ) → x ≡ true → y ≡ false → z ≡ true → n ≡ m → cond (true && x && not y && z) (Some (n + 2)) None ≡ Some (m + 2)
chord_tests true false true n m p q r same = ap (λ k. Some (k + 2)) same
chord_tests false y z n m p q r same = absurd (cc)
chord_tests true true z n m p q r same = absurd (cc)
chord_tests true false false n m p q r same = absurd (cc)

-- the row gives a chord its length
chord_line : (inside rest : List ℕ) → list_all is_chord_byte inside ≡ true → 0 < length inside → begins is_ascii_digit inside ≡ false
    → chord (opening_bracket ∷ (inside ++ (closing_bracket ∷ rest))) ≡ Some (length inside + 2)
unfolding chord
chord_line inside rest plain some no_digit =
    let run : IsRun is_chord_byte inside (closing_bracket ∷ rest) = record { all = plain; ends = refl } in
    let line = inside ++ (closing_bracket ∷ rest) in
    let long : prefix_len is_chord_byte line ≡ length inside = run_is_longest is_chord_byte inside (closing_bracket ∷ rest) run in
    chord_tests (nat_lt 0 (prefix_len is_chord_byte line)) (begins is_ascii_digit line) (begins is_closing_bracket (drop (prefix_len is_chord_byte line) line))
    (prefix_len is_chord_byte line) (length inside) (lt-ltb 0 (prefix_len is_chord_byte line) (omega arith))
    (digit_of_inside inside (closing_bracket ∷ rest) some ∙ no_digit)
    (ap (λ k. begins is_closing_bracket (drop k line)) long ∙ closing_after inside rest) long

-- each chord has the length that the row gives
pub chord_gives : GivesEach (λ text rest. IsChord text) chord
chord_gives text rest is =
    ap chord (closed_line opening_bracket closing_bracket text is.inside rest is.whole) ∙ chord_line is.inside rest is.plain is.some is.no_digit
    ∙ ap Some (sym (closed_length opening_bracket closing_bracket text is.inside is.whole))

-- a closing bracket after a front
closed_at : (n : ℕ) (text : List ℕ) → begins is_closing_bracket (drop n text) ≡ true → take (suc n) text ≡ take n text ++ closing_bracket ∷ []
closed_at zero [] here = absurd (cc)
closed_at zero (byte ∷ text) here = ap (λ b. b ∷ []) (eqb-true byte closing_bracket here)
closed_at (suc n) [] here = absurd (cc)
closed_at (suc n) (byte ∷ text) here = ap (λ t. byte ∷ t) (closed_at n text here)

-- a front begins with no byte that its text does not begin with
front_begins : (p : ℕ → Bool) (n : ℕ) (text : List ℕ) → begins p text ≡ false → begins p (take n text) ≡ false
front_begins p zero text other = refl
front_begins p (suc n) [] other = refl
front_begins p (suc n) (byte ∷ text) other = other

-- by the tests of the row
chord_cases : (byte : ℕ) (text : List ℕ) (w x y z : Bool) → eqb byte opening_bracket ≡ w → nat_lt 0 (prefix_len is_chord_byte text) ≡ x
    → begins is_ascii_digit text ≡ y
    → begins is_closing_bracket (drop (prefix_len is_chord_byte text) text) ≡ z
    → IsOfRow (λ t r. IsChord t) (byte ∷ text) (cond (w && x && not y && z) (Some (prefix_len is_chord_byte text + 2)) None)
chord_cases byte text false x y z p q r s = tt
chord_cases byte text true false y z p q r s = tt
chord_cases byte text true true true z p q r s = tt
chord_cases byte text true true false false p q r s = tt
chord_cases byte text true true false true p q r s =
    let n = prefix_len is_chord_byte text in
    let two : n + 2 ≡ suc (suc n) = omega arith in
    let within : n ≤ length text = prefix_len-le-length is_chord_byte text in
    let long : length (take n text) ≡ n = length-take-le n text within in
    let some : 0 < n = ltb-true 0 n q in
    record {
      inside = take n text;
      plain = (front_is_run is_chord_byte text).all;
      some = omega arith;
      no_digit = front_begins is_ascii_digit n text r;
      whole = ap (λ k. take k (byte ∷ text)) two ∙ (λ i. eqb-true byte opening_bracket p i ∷ closed_at n text s i);
    }

-- each length that the row gives is that of a chord
pub chord_is : (line : List ℕ) → IsOfRow (λ t r. IsChord t) line (chord line)
unfolding chord
chord_is [] = tt
chord_is (byte ∷ text) = chord_cases byte text (eqb byte opening_bracket) (nat_lt 0 (prefix_len is_chord_byte text)) (begins is_ascii_digit text)
    (begins is_closing_bracket (drop (prefix_len is_chord_byte text) text)) refl refl refl refl
