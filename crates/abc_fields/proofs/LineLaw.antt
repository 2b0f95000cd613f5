-- The pieces of a text divide it, no other pieces do, and the spans of its lines rise.
use Rattle.std.proofs.Common.{◌≡◌, ℕ, ◌+◌, ◌-◌, ◌<◌, ◌≤◌, true, false, not, eqb, List, [], ◌∷◌, ◌++◌, length, refl, ap, sym, ◌∙◌, arith, ◌⊎◌, inl, inr}
use Rattle.std.proofs.Math.Seq.{take-append_seam, drop-append_seam}
use Rattle.std.proofs.lemmas.List.{append_assoc, append-nil, length-append}
use Rattle.std.proofs.lemmas.Bool.{eqb-true, cases_Bool, cond_both, and_parts, not-true, or_from, or_parts}
use Rattle.std.specs.Prelude.{slice_range}
use Rattle.abc_fields.specs.Bytes.{line_feed, carriage_return}
use Rattle.abc_fields.specs.Lines.{Piece, pieces_of, onto_content, onto_ending, ended_by, begins_with_feed, ends_line, text_of, has_no_ending, IsEnding}
use Rattle.abc_fields.specs.Lines.{IsUnended, ArePieces, Divides, spans_from, spans_of, IsSpan, SpansRise}

-- THE PIECES DIVIDE THE TEXT
-- a byte at the front of the first content is a byte at the front of the text
onto_content_text : (byte : ℕ) (ps : List Piece) → text_of (onto_content byte ps) ≡ byte ∷ text_of ps
onto_content_text byte [] = refl
onto_content_text byte (p ∷ ps) = refl

-- a longer content leaves the ending as it was
longer_content : (byte : ℕ) (p : Piece) (ps : List Piece) → IsEnding p.ending (text_of ps) ⊎ IsUnended p ps
    → IsEnding p.ending (text_of ps) ⊎ IsUnended (record { content = byte ∷ p.content; ending = p.ending }) ps
longer_content byte p ps (inl ended) = inl ended
longer_content byte p ps (inr unended) = inr (record { last = unended.last; ending = unended.ending; some = omega arith })

-- pieces are still pieces with a byte that ends no line before them
onto_content_pieces : (byte : ℕ) (ps : List Piece) → ends_line byte ≡ false → ArePieces ps → ArePieces (onto_content byte ps)
onto_content_pieces byte [] plain are =
    (record { content = rw plain refl; ending = inr (record { last = refl; ending = refl; some = omega arith }) }, tt)
onto_content_pieces byte (p ∷ ps) plain are =
    (record { content = rw plain are.0.content; ending = longer_content byte p ps are.0.ending }, are.1)

-- a byte that ends no line, before a text that is divided
divides_content : (byte : ℕ) (text : List ℕ) (ps : List Piece) → ends_line byte ≡ false → Divides ps text → Divides (onto_content byte ps) (byte ∷ text)
divides_content byte text ps plain divided = record {
  whole = onto_content_text byte ps ∙ ap (λ t. byte ∷ t) divided.whole;
  pieces = onto_content_pieces byte ps plain divided.pieces;
}

-- an ending, before a text that is divided
divides_ending : (ending text : List ℕ) (ps : List Piece) → IsEnding ending text → Divides ps text
    → Divides (record { content = []; ending = ending } ∷ ps) (ending ++ text)
divides_ending ending text ps ends divided = record {
  whole = ap (λ t. ending ++ t) divided.whole;
  pieces = (record { content = refl; ending = inl (rw divided.whole ends) }, divided.pieces);
}

-- a carriage return and a line feed, before a text that is divided
divides_return_feed : (text : List ℕ) → Divides (ended_by line_feed ∷ pieces_of text) (line_feed ∷ text)
    → Divides (onto_ending carriage_return (pieces_of (line_feed ∷ text))) (carriage_return ∷ line_feed ∷ text)
divides_return_feed text divided = record {
  whole = ap (λ t. carriage_return ∷ t) divided.whole;
  pieces = (record { content = refl; ending = inl (inr (inl refl)) }, divided.pieces.1);
}

-- a carriage return, before a divided text that begins with a line feed
divides_return_to_feed : (text : List ℕ) → begins_with_feed text ≡ true → Divides (pieces_of text) text
    → Divides (onto_ending carriage_return (pieces_of text)) (carriage_return ∷ text)
divides_return_to_feed [] feed divided = cc
divides_return_to_feed (byte ∷ text) feed divided =
    let is_feed : byte ≡ line_feed = eqb-true byte line_feed feed in
    rw is_feed (divides_return_feed text (rw is_feed at divided))

-- a carriage return, before a text that is divided
divides_return : (text : List ℕ) → Divides (pieces_of text) text → Divides (pieces_of (carriage_return ∷ text)) (carriage_return ∷ text)
divides_return text divided = cond_both (begins_with_feed text) _ _ (λ ps. Divides ps (carriage_return ∷ text))
    (λ feed. divides_return_to_feed text feed divided)
    (λ none. divides_ending (carriage_return ∷ []) text (pieces_of text) (inr (inr (refl, none))) divided)

-- a line feed, before a text that is divided
divides_feed : (text : List ℕ) → Divides (pieces_of text) text → Divides (pieces_of (line_feed ∷ text)) (line_feed ∷ text)
divides_feed text divided = divides_ending (line_feed ∷ []) text (pieces_of text) (inl refl) divided

-- a byte that ends no line goes to the front of the first content
pieces_of_plain : (byte : ℕ) (text : List ℕ) → ends_line byte ≡ false → pieces_of (byte ∷ text) ≡ onto_content byte (pieces_of text)
pieces_of_plain byte text plain = let tests = or_parts (eqb byte line_feed) (eqb byte carriage_return) plain in rw (tests.0, tests.1) refl

-- a byte ends no line, or is a line feed, or a carriage return
kind_of_byte : (byte : ℕ) → (ends_line byte ≡ false) ⊎ ((byte ≡ line_feed) ⊎ (byte ≡ carriage_return))
kind_of_byte byte = elim (cases_Bool (eqb byte line_feed)) [
  | inl feed ↦ inr (inl (eqb-true byte line_feed feed))
  | inr no_feed ↦ elim (cases_Bool (eqb byte carriage_return)) [
    | inl return ↦ inr (inr (eqb-true byte carriage_return return))
    | inr no_return ↦ inl (or_from (eqb byte line_feed) (eqb byte carriage_return) no_feed no_return)
  ]
]

-- any byte, before a text that is divided
divides_byte : (byte : ℕ) (text : List ℕ) → (ends_line byte ≡ false) ⊎ ((byte ≡ line_feed) ⊎ (byte ≡ carriage_return)) → Divides (pieces_of text) text
    → Divides (pieces_of (byte ∷ text)) (byte ∷ text)
divides_byte byte text (inl plain) divided = rw (pieces_of_plain byte text plain) (divides_content byte text (pieces_of text) plain divided)
divides_byte byte text (inr (inl feed)) divided = rw feed (divides_feed text divided)
divides_byte byte text (inr (inr return)) divided = rw return (divides_return text divided)

-- the pieces of a text divide it
pub pieces_divide : (text : List ℕ) → Divides (pieces_of text) text
pieces_divide [] = record { whole = refl; pieces = tt }
pieces_divide (byte ∷ text) = divides_byte byte text (kind_of_byte byte) (pieces_divide text)

-- NO OTHER PIECES DO
-- a carriage return that no line feed follows is an ending
pieces_of_return : (text : List ℕ) → begins_with_feed text ≡ false → pieces_of (carriage_return ∷ text) ≡ ended_by carriage_return ∷ pieces_of text
pieces_of_return text none = rw none refl

-- an ending is a piece with no content
pieces_of_ending : (ending rest : List ℕ) → IsEnding ending rest → pieces_of (ending ++ rest) ≡ record { content = []; ending = ending } ∷ pieces_of rest
pieces_of_ending ending rest (inl feed) = rw feed refl
pieces_of_ending ending rest (inr (inl return_feed)) = rw return_feed refl
pieces_of_ending ending rest (inr (inr return)) = rw return.0 (pieces_of_return rest return.1)

-- a plain line has a plain first byte, and a plain rest
plain_parts : (byte : ℕ) (line : List ℕ) → has_no_ending (byte ∷ line) ≡ true → (ends_line byte ≡ false) × (has_no_ending line ≡ true)
plain_parts byte line plain =
    let both = and_parts (not (ends_line byte)) (has_no_ending line) plain in (not-true (ends_line byte) both.0, both.1)

-- a plain line and its ending are the first piece
pub pieces_of_line : (content ending rest : List ℕ) → has_no_ending content ≡ true → IsEnding ending rest
    → pieces_of (content ++ (ending ++ rest)) ≡ record { content = content; ending = ending } ∷ pieces_of rest
pieces_of_line [] ending rest plain ends = pieces_of_ending ending rest ends
pieces_of_line (byte ∷ content) ending rest plain ends =
    let parts = plain_parts byte content plain in
    pieces_of_plain byte (content ++ (ending ++ rest)) parts.0 ∙ ap (onto_content byte) (pieces_of_line content ending rest parts.1 ends)

-- a plain line with no ending is the only piece
pub pieces_of_last : (content : List ℕ) → has_no_ending content ≡ true → 0 < length content → pieces_of content ≡ record { content = content; ending = [] } ∷ []
pieces_of_last [] plain some = absurd (omega arith)
pieces_of_last (byte ∷ []) plain some = pieces_of_plain byte [] (plain_parts byte [] plain).0
pieces_of_last (byte ∷ next ∷ rest) plain some =
    let parts = plain_parts byte (next ∷ rest) plain in
    pieces_of_plain byte (next ∷ rest) parts.0 ∙ ap (onto_content byte) (pieces_of_last (next ∷ rest) parts.1 (omega arith))

-- a piece is the first piece of what it begins
first_piece : (content ending : List ℕ) (ps : List Piece) → has_no_ending content ≡ true
    → IsEnding ending (text_of ps) ⊎ IsUnended (record { content = content; ending = ending }) ps → ps ≡ pieces_of (text_of ps)
    → record { content = content; ending = ending } ∷ ps ≡ pieces_of (content ++ (ending ++ text_of ps))
first_piece content ending ps plain (inl ends) later =
    ap (λ qs. record { content = content; ending = ending } ∷ qs) later ∙ sym (pieces_of_line content ending (text_of ps) plain ends)
first_piece content ending ps plain (inr unended) later =
    rw (unended.last, unended.ending, append-nil content) (sym (pieces_of_last content plain unended.some))

-- pieces are the pieces of their text
pieces_again : (ps : List Piece) → ArePieces ps → ps ≡ pieces_of (text_of ps)
pieces_again [] are = refl
pieces_again (p ∷ ps) are = first_piece p.content p.ending ps are.0.content are.0.ending (pieces_again ps are.1)

-- no other pieces divide a text
pub pieces_unique : (text : List ℕ) (ps : List Piece) → Divides ps text → ps ≡ pieces_of text
pieces_unique text ps divided = pieces_again ps divided.pieces ∙ ap pieces_of divided.whole

-- THE SPANS OF LINES RISE
-- a part of a text is what stands from where it begins to where it ends
part_between : (front part rest : List ℕ) → slice_range (front ++ (part ++ rest)) (length front) (length front + length part) ≡ part
part_between front part rest =
    let width : length front + length part - length front ≡ length part = omega arith in
    rw (width, drop-append_seam front (part ++ rest)) (take-append_seam part rest)

-- a content of a text, and where it begins and ends
first_span : (text front content rest : List ℕ) (at low : ℕ) → front ++ (content ++ rest) ≡ text → length front ≡ at → low ≤ at
    → IsSpan text low (record { from = at; to = at + length content; bytes = content })
first_span text front content rest at low whole start above = record {
  above = above;
  ordered = omega arith;
  within = omega (arith, simp length-append at (ap length whole));
  part = rw (← whole, ← start) (part_between front content rest);
}

-- an ending has a byte
pub ending_has_byte : (ending rest : List ℕ) → IsEnding ending rest → 0 < length ending
ending_has_byte ending rest (inl feed) = rw feed (omega arith)
ending_has_byte ending rest (inr (inl return_feed)) = rw return_feed (omega arith)
ending_has_byte ending rest (inr (inr return)) = rw return.0 (omega arith)

-- after a piece more lines come only where its ending has a byte
later_rise : (text : List ℕ) (at low : ℕ) (p : Piece) (ps : List Piece) → IsEnding p.ending (text_of ps) ⊎ IsUnended p ps
    → (0 < length p.ending → SpansRise text low (spans_from at ps)) → SpansRise text low (spans_from at ps)
later_rise text at low p ps (inl ends) rise = rise (ending_has_byte p.ending (text_of ps) ends)
later_rise text at low p ps (inr unended) rise = rw unended.last tt

-- the spans of pieces rise, where these bytes stand before the pieces
spans_rise_after : (text front : List ℕ) (at low : ℕ) (ps : List Piece) → ArePieces ps → front ++ text_of ps ≡ text → length front ≡ at → low ≤ at
    → SpansRise text low (spans_from at ps)
spans_rise_after text front at low [] are whole start above = tt
spans_rise_after text front at low (p ∷ ps) are whole start above = (
  first_span text front p.content (p.ending ++ text_of ps) at low whole start above,
  later_rise text (at + length p.content + length p.ending) (at + length p.content + 1) p ps are.0.ending (λ some.
      spans_rise_after text (front ++ (p.content ++ p.ending)) (at + length p.content + length p.ending) (at + length p.content + 1) ps are.1
      (simp append_assoc whole) (simp length-append (omega arith)) (omega arith)),
)

-- each line is the part of the text from where it begins to where it ends, and begins after the line before it ends
pub spans_rise : (text : List ℕ) → SpansRise text 0 (spans_of text)
spans_rise text = let divided = pieces_divide text in spans_rise_after text [] 0 0 (pieces_of text) divided.pieces divided.whole refl (omega arith)
