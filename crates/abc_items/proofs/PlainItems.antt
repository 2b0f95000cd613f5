-- A byte that begins none of the longer rows is a note with its octave marks, a bar or another byte.
use Rattle.std.proofs.Common.{◌≡◌, ℕ, ◌<◌, length, slice_index, take, drop, ◌+◌, ◌-◌, List, [], ◌∷◌, Bool, true, false, Some, None, refl, sym, ap, ◌∙◌, arith}
use Rattle.std.specs.Prelude.{◌==◌, ◌&&◌, not, if◌then◌else◌}
use Rattle.abc_fields.specs.Bytes.{begins}
use Rattle.std.specs.List.{prefix_len}
use Rattle.std.proofs.Math.Seq.{take-length}
use Rattle.std.proofs.lemmas.Bool.Decides.{nat_tests}
use Rattle.abc_keys.specs.Letters.{accidental_of}
use Rattle.abc_items.specs.declared.kinds.Front.{Front}
use Rattle.abc_items.specs.declared.kinds.Kind.TheVariants.{Note}
use Rattle.abc_items.specs.Marks.{quotation_mark, exclamation_mark, plus_sign, opening_brace, closing_brace, opening_bracket, opening_parenthesis, sharp_sign}
use Rattle.abc_items.specs.Marks.{flat_sign, natural_sign, is_octave_mark}
use Rattle.abc_items.specs.NoteFronts.{own_accidental, is_note_name}
use Rattle.abc_items.specs.Inside.ItemRows.{enclosed, inline_field, chord, tuplet, note, front, or_else, first_item}
use Rattle.abc_items.specs.Plain.{begins_longer_row, is_plain_byte}
use Rattle.abc_items.specs.Inside.PlainFronts.{lone_kind, plain_front}

-- the byte is none of the marks that begin the longer rows
record LacksRowMarks (byte : ℕ) : Type 0 where
  quotation : (byte == quotation_mark) ≡ false
  exclamation : (byte == exclamation_mark) ≡ false
  plus : (byte == plus_sign) ≡ false
  brace : (byte == opening_brace) ≡ false
  bracket : (byte == opening_bracket) ≡ false
  parenthesis : (byte == opening_parenthesis) ≡ false
  sharp : (byte == sharp_sign) ≡ false
  flat : (byte == flat_sign) ≡ false
  natural : (byte == natural_sign) ≡ false

lacks_row_marks : (byte : ℕ) → begins_longer_row byte ≡ false → LacksRowMarks byte
lacks_row_marks byte plain = record {
  quotation = grind (arith, nat_tests);
  exclamation = grind (arith, nat_tests);
  plus = grind (arith, nat_tests);
  brace = grind (arith, nat_tests);
  bracket = grind (arith, nat_tests);
  parenthesis = grind (arith, nat_tests);
  sharp = grind (arith, nat_tests);
  flat = grind (arith, nat_tests);
  natural = grind (arith, nat_tests);
}

no_accidental : (byte : ℕ) → LacksRowMarks byte → accidental_of byte ≡ None
no_accidental byte plain = rw (plain.sharp, plain.flat, plain.natural) refl

no_own_accidental : (byte : ℕ) (text : List ℕ) → LacksRowMarks byte → own_accidental (byte ∷ text) ≡ None
no_own_accidental byte [] plain = no_accidental byte plain
no_own_accidental byte (second ∷ text) plain = rw (no_accidental byte plain) refl

no_enclosed : (mark closing byte : ℕ) (text : List ℕ) → (byte == mark) ≡ false → enclosed mark closing (byte ∷ text) ≡ None
unfolding enclosed
no_enclosed mark closing byte text differs = rw differs refl

no_inline_field : (byte : ℕ) (text : List ℕ) → LacksRowMarks byte → inline_field (byte ∷ text) ≡ None
unfolding inline_field
no_inline_field byte [] plain = refl
no_inline_field byte (name ∷ []) plain = refl
no_inline_field byte (name ∷ third ∷ text) plain = rw plain.bracket refl

no_chord : (byte : ℕ) (text : List ℕ) → LacksRowMarks byte → chord (byte ∷ text) ≡ None
unfolding chord
no_chord byte text plain = rw plain.bracket refl

no_tuplet : (byte : ℕ) (text : List ℕ) → LacksRowMarks byte → tuplet (byte ∷ text) ≡ None
unfolding tuplet
no_tuplet byte text plain = rw plain.parenthesis refl

plain_note : (byte : ℕ) (text : List ℕ) → LacksRowMarks byte
    → note (byte ∷ text) ≡ (if is_note_name byte then Some (1 + prefix_len is_octave_mark text) else None)
unfolding note
plain_note byte text plain = rw (no_own_accidental byte text plain) refl

pub plain_item : (byte : ℕ) (text : List ℕ) → begins_longer_row byte ≡ false → first_item (byte ∷ text) ≡ plain_front byte text
unfolding first_item
plain_item byte text other =
    let plain = lacks_row_marks byte other in
    rw (
      no_enclosed quotation_mark quotation_mark byte text plain.quotation,
      no_enclosed exclamation_mark exclamation_mark byte text plain.exclamation,
      no_enclosed plus_sign plus_sign byte text plain.plus,
      no_enclosed opening_brace closing_brace byte text plain.brace,
      no_inline_field byte text plain,
      no_chord byte text plain,
      no_tuplet byte text plain,
      plain_note byte text plain,
    )
    (by_name (is_note_name byte) (1 + prefix_len is_octave_mark text) (front (lone_kind byte) 1))
  where
    by_name : (name : Bool) (bytes : ℕ) (other : Front) → or_else Note (if name then Some bytes else None) other ≡ (if name then front Note bytes else other)
    by_name true bytes other = refl
    by_name false bytes other = refl

-- the same of a text by its first byte and the rest
pub plain_item_at : (bytes : List ℕ) → 0 < length bytes → begins_longer_row (slice_index bytes 0) ≡ false
    → plain_front (slice_index bytes 0) (take (length bytes - 1) (drop 1 bytes)) ≡ first_item bytes
plain_item_at [] some other = absurd (omega arith)
plain_item_at (byte ∷ text) some other =
    let long : length (byte ∷ text) - 1 ≡ length text = omega arith in
    ap (plain_front byte) (ap (λ n. take n text) long ∙ take-length text) ∙ sym (plain_item byte text other)

not_longer : (longer one : Bool) → (not longer && one) ≡ true → longer ≡ false
not_longer true one plain = absurd (cc)
not_longer false one plain = refl

-- a plain byte alone is no accidental
pub plain_own : (bytes : List ℕ) → (begins is_plain_byte bytes && length bytes == 1) ≡ true → own_accidental bytes ≡ None
plain_own [] plain = refl
plain_own (byte ∷ bytes) plain =
    no_own_accidental byte bytes (lacks_row_marks byte (not_longer (begins_longer_row byte) (length (byte ∷ bytes) == 1) plain))
