-- Each piece of a text has one span, which stands where the bytes of the pieces before it end.
use Rattle.std.proofs.Common.{◌≡◌, ℕ, ◌+◌, List, [], ◌∷◌, ◌++◌, length, map, refl, ap, arith, Some}
use Rattle.std.specs.Prelude.{slice_get}
use Rattle.std.proofs.lemmas.List.{length-append}
use Rattle.abc_fields.specs.Lines.{Piece, pieces_of, text_of, lines_of, spans_from, spans_of}

-- the spans of pieces have the contents of those pieces
pub spans_contents : (at : ℕ) (ps : List Piece) → map (λ s. s.bytes) (spans_from at ps) ≡ map (λ p. p.content) ps
spans_contents at [] = refl
spans_contents at (p ∷ ps) = ap (λ lines. p.content ∷ lines) (spans_contents (at + length p.content + length p.ending) ps)

-- the spans of a text have its lines
pub spans_have_lines : (text : List ℕ) → map (λ s. s.bytes) (spans_of text) ≡ lines_of text
spans_have_lines text = spans_contents 0 (pieces_of text)

-- a piece's span among those of pieces of which the first begins here
offsets_among : (at start : ℕ) (before after : List Piece) (p : Piece) → at + length (text_of before) ≡ start
    → slice_get (spans_from at (before ++ (p ∷ after))) (length before) ≡ Some (record { from = start; to = start + length p.content; bytes = p.content })
offsets_among at start [] after p sum = let same : at ≡ start = omega arith in rw same refl
offsets_among at start (q ∷ before) after p sum =
    offsets_among (at + length q.content + length q.ending) start before after p (omega (arith, simp length-append at sum))

-- a line begins after the bytes of the pieces before it
pub span_offsets : (text : List ℕ) (before after : List Piece) (p : Piece) → before ++ (p ∷ after) ≡ pieces_of text
    → slice_get (spans_of text) (length before)
    ≡ Some (record { from = length (text_of before); to = length (text_of before) + length p.content; bytes = p.content })
span_offsets text before after p whole = rw (← whole) (offsets_among 0 (length (text_of before)) before after p (omega arith))
