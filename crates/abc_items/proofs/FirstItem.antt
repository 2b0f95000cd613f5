-- The first row that fits is the item at the front of a line, and there is no other.
use Rattle.std.proofs.Common.{◌≡◌, ◌⊎◌, ℕ, zero, suc, ◌+◌, ◌<◌, ◌≤◌, Bool, true, false, ◌||◌, cond, eqb, List, [], ◌∷◌, ◌++◌, length, take, drop, Option, Some}
use Rattle.std.proofs.Common.{None, refl, ap, sym, ◌∙◌, arith, inl, inr, subst}
use Rattle.std.proofs.lemmas.Bool.{eqb-true, eq-eqb, cases_order}
use Rattle.std.proofs.lemmas.List.{take-append-drop}
use Rattle.abc_fields.specs.Bytes.{colon}
use Rattle.abc_items.specs.Marks.{bar_mark, closing_brace, exclamation_mark, opening_brace, opening_bracket, opening_parenthesis, plus_sign}
use Rattle.abc_items.specs.Marks.{quotation_mark}
use Rattle.abc_items.specs.declared.kinds.Front.{Front}
use Rattle.abc_items.specs.declared.kinds.Kind.{Kind}
use Rattle.abc_items.specs.declared.kinds.Kind.TheVariants.{Quoted, Decoration, Grace, InlineField, Chord, Tuplet, Note, Bar, Other}
use Rattle.abc_items.specs.Grammar.{IsEnclosed, FitsRow, FitsNowhere, IsItem, row_rank}
use Rattle.abc_items.specs.Inside.ItemRows.{first_item, front, or_else, enclosed, inline_field, chord, tuplet, note}
use Rattle.abc_items.proofs.RowLengths.{FindsText, row_finds, one_text_of, same_front}
use Rattle.abc_items.proofs.ClosedRows.{enclosed_gives, enclosed_is, field_gives, field_is, chord_gives, chord_is}
use Rattle.abc_items.proofs.TupletRow.{tuplet_gives, tuplet_is}
use Rattle.abc_items.proofs.NoteRow.{note_gives, note_is}

-- THE ORDER OF THE TABLE
-- the row at a place of the table
kind_at : ℕ → Kind
kind_at zero = Quoted
kind_at (suc zero) = Decoration
kind_at (suc (suc zero)) = Grace
kind_at (suc (suc (suc zero))) = InlineField
kind_at (suc (suc (suc (suc zero)))) = Chord
kind_at (suc (suc (suc (suc (suc zero))))) = Tuplet
kind_at (suc (suc (suc (suc (suc (suc zero)))))) = Note
kind_at (suc (suc (suc (suc (suc (suc (suc zero))))))) = Bar
kind_at (suc (suc (suc (suc (suc (suc (suc (suc n)))))))) = Other

-- each row stands at its place
kind_at_rank : (kind : Kind) → kind_at (row_rank kind) ≡ kind
unfolding kind_at
kind_at_rank Quoted = refl
kind_at_rank _ = refl

-- no two rows stand at one place
same_kind : (kind other : Kind) → row_rank kind ≡ row_rank other → kind ≡ other
same_kind kind other same = sym (kind_at_rank kind) ∙ ap kind_at same ∙ kind_at_rank other

-- ROW BY ROW
-- the item is of the first row that fits, from a row of the table on
record IsFirstFrom (place : ℕ) (line : List ℕ) (item : Front) : Type 0 where
  pub fits : FitsRow item.kind (take item.length line) (drop item.length line)
  pub later : place ≤ row_rank item.kind
  pub first : (kind : Kind) → place ≤ row_rank kind → row_rank kind < row_rank item.kind → FitsNowhere kind line

-- a number from this one on is this one, or comes after it
at_or_after : (a b : ℕ) → a ≤ b → (a + 1 ≤ b) ⊎ (b ≡ a)
at_or_after a b low = grind arith

-- a row that fits nowhere, and the rows after it that do not
nowhere_from : (kind : Kind) (line : List ℕ) (item : Front) → FindsText (FitsRow kind) line None → IsFirstFrom (row_rank kind + 1) line item
    → (other : Kind) → (row_rank kind + 1 ≤ row_rank other) ⊎ (row_rank other ≡ row_rank kind) → row_rank other < row_rank item.kind → FitsNowhere other line
nowhere_from kind line item none after other (inl above) high = after.first other above high
nowhere_from kind line item none after other (inr here) high = let P : Kind → Type 0 = λ k. FitsNowhere k line in subst P (sym (same_kind other kind here)) none

-- one row before the rows after it
one_row : (kind : Kind) (found : Option ℕ) (line : List ℕ) (item : Front) → FindsText (FitsRow kind) line found → IsFirstFrom (row_rank kind + 1) line item
    → IsFirstFrom (row_rank kind) line (or_else kind found item)
one_row kind (Some n) line item finds after = record { fits = finds; later = omega arith; first = λ other low high. absurd (omega arith) }
one_row kind None line item finds after = record {
  fits = after.fits;
  later = omega (arith, after.later);
  first = λ other low high. nowhere_from kind line item finds after other (at_or_after (row_rank kind) (row_rank other) low) high;
}

-- both forms of a decoration
neither : (line : List ℕ) → FindsText (λ t r. IsEnclosed exclamation_mark exclamation_mark t) line None
    → FindsText (λ t r. IsEnclosed plus_sign plus_sign t) line None → FindsText (FitsRow Decoration) line None
neither line exclaimed added text rest whole (inl f) = exclaimed text rest whole f
neither line exclaimed added text rest whole (inr f) = added text rest whole f

-- a decoration in either marks, before the rows after it
two_rows : (found also : Option ℕ) (line : List ℕ) (item : Front) → FindsText (λ t r. IsEnclosed exclamation_mark exclamation_mark t) line found
    → FindsText (λ t r. IsEnclosed plus_sign plus_sign t) line also
    → IsFirstFrom 2 line item → IsFirstFrom 1 line (or_else Decoration found (or_else Decoration also item))
two_rows (Some n) also line item exclaimed added after = record { fits = inl exclaimed; later = omega arith; first = λ other low high. absurd (omega arith) }
two_rows None (Some n) line item exclaimed added after = record { fits = inr added; later = omega arith; first = λ other low high. absurd (omega arith) }
two_rows None None line item exclaimed added after = one_row Decoration None line item (neither line exclaimed added) after

-- one byte
no_bar : (byte : ℕ) (text : List ℕ) → eqb byte bar_mark ≡ false → eqb byte colon ≡ false → FitsNowhere Bar (byte ∷ text)
no_bar byte text no_line no_colon other rest whole (inl f) =
    let line : bar_mark ∷ rest ≡ byte ∷ text = ap (λ t. t ++ rest) (sym f) ∙ whole in
    let same : byte ≡ bar_mark = cc in
    let true_too : eqb byte bar_mark ≡ true = eq-eqb byte bar_mark same in
    absurd (cc)
no_bar byte text no_line no_colon other rest whole (inr f) =
    let line : colon ∷ rest ≡ byte ∷ text = ap (λ t. t ++ rest) (sym f) ∙ whole in
    let same : byte ≡ colon = cc in
    let true_too : eqb byte colon ≡ true = eq-eqb byte colon same in
    absurd (cc)

-- the row of bars alone stands before the last row, from its place on
only_bar_before : (line : List ℕ) → FitsNowhere Bar line → (kind : Kind) → 7 ≤ row_rank kind → row_rank kind < 8 → FitsNowhere kind line
only_bar_before line none kind low high =
    let seven : row_rank kind ≡ row_rank Bar = omega arith in
    let P : Kind → Type 0 = λ k. FitsNowhere k line in
    subst P (sym (same_kind kind Bar seven)) none

-- the last two rows take one byte
one_byte : (byte : ℕ) (text : List ℕ) (x y : Bool) → eqb byte bar_mark ≡ x → eqb byte colon ≡ y
    → IsFirstFrom 7 (byte ∷ text) (front (cond (x || (y || false)) Bar Other) 1)
one_byte byte text true y p q =
    record { fits = inl (ap (λ b. b ∷ []) (eqb-true byte bar_mark p)); later = omega arith; first = λ other low high. absurd (omega arith) }
one_byte byte text false true p q =
    record { fits = inr (ap (λ b. b ∷ []) (eqb-true byte colon q)); later = omega arith; first = λ other low high. absurd (omega arith) }
one_byte byte text false false p q = record { fits = (byte, refl); later = omega arith; first = only_bar_before (byte ∷ text) (no_bar byte text p q) }

-- the rows of two marks, with their lengths
enclosed_finds : (opening closing : ℕ) (line : List ℕ) → FindsText (λ t r. IsEnclosed opening closing t) line (enclosed opening closing line)
enclosed_finds opening closing =
    row_finds (λ t r. IsEnclosed opening closing t) (enclosed opening closing) (enclosed_gives opening closing) (enclosed_is opening closing)

-- the item at the front of a line is of the first row that fits
first_item_first : (byte : ℕ) (text : List ℕ) → IsFirstFrom 0 (byte ∷ text) (first_item (byte ∷ text))
unfolding first_item
first_item_first byte text =
    let line = byte ∷ text in
    one_row Quoted (enclosed quotation_mark quotation_mark line) line _ (enclosed_finds quotation_mark quotation_mark line)
    (two_rows (enclosed exclamation_mark exclamation_mark line) (enclosed plus_sign plus_sign line) line _
    (enclosed_finds exclamation_mark exclamation_mark line) (enclosed_finds plus_sign plus_sign line)
    (one_row Grace (enclosed opening_brace closing_brace line) line _ (enclosed_finds opening_brace closing_brace line)
    (one_row InlineField (inline_field line) line _ (row_finds (FitsRow InlineField) inline_field field_gives field_is line)
    (one_row Chord (chord line) line _ (row_finds (FitsRow Chord) chord chord_gives chord_is line)
    (one_row Tuplet (tuplet line) line _ (row_finds (FitsRow Tuplet) tuplet tuplet_gives tuplet_is line)
    (one_row Note (note line) line _ (row_finds (FitsRow Note) note note_gives note_is line)
    (one_byte byte text (eqb byte bar_mark) (eqb byte colon) refl refl)))))))

-- the front of a line is an item
pub first_item_is : (byte : ℕ) (text : List ℕ)
    → IsItem (first_item (byte ∷ text)).kind (take (first_item (byte ∷ text)).length (byte ∷ text)) (drop (first_item (byte ∷ text)).length (byte ∷ text))
first_item_is byte text =
    let first = first_item_first byte text in
    let n = (first_item (byte ∷ text)).length in
    let whole : take n (byte ∷ text) ++ drop n (byte ∷ text) ≡ byte ∷ text = take-append-drop n (byte ∷ text) in
    record { fits = first.fits; first = λ kind low other rest same. first.first kind (omega arith) low other rest (same ∙ whole) }

-- EACH ITEM HAS A BYTE
-- a text that begins with this byte has a byte
some_of : (text : List ℕ) (byte : ℕ) (tail : List ℕ) → text ≡ byte ∷ tail → 0 < length text
some_of text byte tail is = let long : length text ≡ suc (length tail) = ap length is in omega arith

-- a text with this byte in it has a byte
some_after : (text front : List ℕ) (byte : ℕ) (tail : List ℕ) → text ≡ front ++ (byte ∷ tail) → 0 < length text
some_after text [] byte tail is = some_of text byte tail is
some_after text (first ∷ front) byte tail is = some_of text first (front ++ (byte ∷ tail)) is

-- a text of any row has a byte
pub item_has_byte : (kind : Kind) (text rest : List ℕ) → FitsRow kind text rest → 0 < length text
item_has_byte Quoted text rest f = some_of text quotation_mark _ f.whole
item_has_byte Decoration text rest (inl f) = some_of text exclamation_mark _ f.whole
item_has_byte Decoration text rest (inr f) = some_of text plus_sign _ f.whole
item_has_byte Grace text rest f = some_of text opening_brace _ f.whole
item_has_byte InlineField text rest f = some_of text opening_bracket _ f.whole
item_has_byte Chord text rest f = some_of text opening_bracket _ f.whole
item_has_byte Tuplet text rest f = some_of text opening_parenthesis _ f.whole
item_has_byte Note text rest f = some_after text _ f.name f.marks f.whole
item_has_byte Bar text rest (inl f) = some_of text bar_mark [] f
item_has_byte Bar text rest (inr f) = some_of text colon [] f
item_has_byte Other text rest f = some_of text f.0 [] f.1

-- THERE IS NO OTHER ITEM
-- no line begins with two bytes that differ
clash : (a b : ℕ) (text rest other later inside also : List ℕ) → (eqb a b ≡ false) → text ≡ a ∷ inside → other ≡ b ∷ also → text ++ rest ≡ other ++ later
    → text ≡ other
clash a b text rest other later inside also apart is that same =
    let heads : a ∷ (inside ++ rest) ≡ b ∷ (also ++ later) = ap (λ t. t ++ rest) (sym is) ∙ same ∙ ap (λ t. t ++ later) that in
    let equal : a ≡ b = cc in
    let true_too : eqb a b ≡ true = eq-eqb a b equal in
    absurd (cc)

-- one byte at the front of a line is one text
one_byte_each : (byte also : ℕ) (text rest other later : List ℕ) → text ≡ byte ∷ [] → other ≡ also ∷ [] → text ++ rest ≡ other ++ later → text ≡ other
one_byte_each byte also text rest other later is that same = same_front text rest other later (ap length is ∙ sym (ap length that)) same

-- a decoration is in one form, and ends at one byte
one_decoration : (text rest other later : List ℕ) → FitsRow Decoration text rest → FitsRow Decoration other later → text ++ rest ≡ other ++ later → text ≡ other
one_decoration text rest other later (inl f) (inl g) same =
    one_text_of (λ t r. IsEnclosed exclamation_mark exclamation_mark t) (enclosed exclamation_mark exclamation_mark)
    (enclosed_gives exclamation_mark exclamation_mark) text rest other later f g same
one_decoration text rest other later (inr f) (inr g) same =
    one_text_of (λ t r. IsEnclosed plus_sign plus_sign t) (enclosed plus_sign plus_sign) (enclosed_gives plus_sign plus_sign) text rest other later f g same
one_decoration text rest other later (inl f) (inr g) same = clash exclamation_mark plus_sign text rest other later _ _ refl f.whole g.whole same
one_decoration text rest other later (inr f) (inl g) same = clash plus_sign exclamation_mark text rest other later _ _ refl f.whole g.whole same

-- a bar is one byte
one_bar : (text rest other later : List ℕ) → FitsRow Bar text rest → FitsRow Bar other later → text ++ rest ≡ other ++ later → text ≡ other
one_bar text rest other later (inl f) (inl g) same = f ∙ sym g
one_bar text rest other later (inr f) (inr g) same = f ∙ sym g
one_bar text rest other later (inl f) (inr g) same = one_byte_each bar_mark colon text rest other later f g same
one_bar text rest other later (inr f) (inl g) same = one_byte_each colon bar_mark text rest other later f g same

-- a row fits at most one front of a line
one_text : (kind : Kind) (text rest other later : List ℕ) → FitsRow kind text rest → FitsRow kind other later → text ++ rest ≡ other ++ later → text ≡ other
one_text Quoted = one_text_of (FitsRow Quoted) (enclosed quotation_mark quotation_mark) (enclosed_gives quotation_mark quotation_mark)
one_text Decoration = one_decoration
one_text Grace = one_text_of (FitsRow Grace) (enclosed opening_brace closing_brace) (enclosed_gives opening_brace closing_brace)
one_text InlineField = one_text_of (FitsRow InlineField) inline_field field_gives
one_text Chord = one_text_of (FitsRow Chord) chord chord_gives
one_text Tuplet = one_text_of (FitsRow Tuplet) tuplet tuplet_gives
one_text Note = one_text_of (FitsRow Note) note note_gives
one_text Bar = one_bar
one_text Other = λ text rest other later f g same. one_byte_each f.0 g.0 text rest other later f.1 g.1 same

-- two items at the front of one line are of one row: neither row comes before the other
same_row : (kind also : Kind) (text rest other later : List ℕ) → IsItem kind text rest → IsItem also other later → text ++ rest ≡ other ++ later
    → (row_rank kind ≡ row_rank also) ⊎ ((row_rank kind < row_rank also) ⊎ (row_rank also < row_rank kind)) → kind ≡ also
same_row kind also text rest other later is that same (inl equal) = same_kind kind also equal
same_row kind also text rest other later is that same (inr (inl before)) = absurd (that.first kind before text rest same is.fits)
same_row kind also text rest other later is that same (inr (inr after)) = absurd (is.first also after other later (sym same) that.fits)

-- two items at the front of one line are the same
pub record AreSame (kind also : Kind) (text rest other later : List ℕ) : Type 0 where
  pub kinds : kind ≡ also
  pub texts : text ≡ other

-- there is one item at the front of a line
pub one_item : (kind also : Kind) (text rest other later : List ℕ) → IsItem kind text rest → IsItem also other later → text ++ rest ≡ other ++ later
    → AreSame kind also text rest other later
one_item kind also text rest other later is that same =
    let row = same_row kind also text rest other later is that same (cases_order (row_rank kind) (row_rank also)) in
    let P : Kind → Type 0 = λ k. FitsRow k other later in
    record { kinds = row; texts = one_text kind text rest other later is.fits (subst P (sym row) that.fits) same }
