-- Where the line stands that gives the key of a tune.
use Rattle.std.proofs.Common.{◌≡◌, ℕ, ◌+◌, ◌≤◌, Bool, true, false, eqb, List, [], ◌∷◌, ◌++◌, length, map, drop, Some, refl}
use Rattle.std.proofs.Common.{ap, sym, ◌∙◌, subst, arith, ⊎_elim}
use Rattle.std.specs.List.{fold}
use Rattle.std.proofs.Math.Seq.{drop-append_seam}
use Rattle.std.proofs.lemmas.List.{append_assoc, length-append}
use Rattle.std.proofs.lemmas.Bool.{eqb-true, and_parts, cases_Bool}
use Rattle.abc_fields.specs.Lines.{Piece, Span, pieces_of, lines_of, spans_from, spans_of, text_of, ArePieces, Divides}
use Rattle.abc_fields.specs.LineKinds.{in_part_after}
use Rattle.abc_fields.specs.Tunes.{is_key_line, has_key}
use Rattle.abc_fields.specs.Values.{field_value}
use Rattle.abc_fields.specs.Fields.{header_of, first_key}
use Rattle.abc_fields.specs.declared.key_place.KeyPlace.{KeyPlace}
use Rattle.abc_fields.specs.Inside.LinesLeft.{contents_of}
use Rattle.abc_fields.specs.Inside.HeaderEnds.{key_place}
use Rattle.abc_fields.proofs.LineLaw.{pieces_divide, pieces_unique}

-- A LINE THAT GIVES THE KEY
-- it begins and ends no part
key_in_part : (inside : Bool) (line : List ℕ) → is_key_line line ≡ true → in_part_after inside line ≡ inside
key_in_part inside [] is = cc
key_in_part true (byte ∷ line) is =
    let parts = and_parts (eqb 75 byte) _ is in
    let first : 75 ≡ byte = eqb-true 75 byte parts.0 in
    rw (← first) refl
key_in_part false (byte ∷ line) is =
    let parts = and_parts (eqb 75 byte) _ is in
    let first : 75 ≡ byte = eqb-true 75 byte parts.0 in
    rw (← first) refl

-- where a line gives the key, one is found
pub place_keyed : (inside : Bool) (spans : List Span) (place : KeyPlace) → key_place inside spans ≡ Some place → has_key (contents_of spans) ≡ true
place_keyed inside [] place found = cc
place_keyed inside (line ∷ spans) place found = ⊎_elim
    (λ is. rw is refl)
    (λ other. rw other (place_keyed (in_part_after inside line.bytes) spans place (rw other at found)))
    (cases_Bool (is_key_line line.bytes))

-- WHAT STANDS FROM THERE ON
-- the line with the key, and the lines after the header
pub record AreKeyLines (text : List ℕ) (inside : Bool) (lines : List (List ℕ)) (spans : List Span) (place : KeyPlace) : Type 0 where
  pub line : Span
  pub stands : spans_from place.from (pieces_of (drop place.from text)) ≡ line ∷ drop (length (header_of lines)) spans
  pub value : field_value line.bytes ≡ first_key lines
  pub part : place.in_part ≡ fold in_part_after inside (header_of lines)
  pub within : place.from ≤ length text

abbrev lines_in : List Piece → List (List ℕ)
lines_in ps = map (λ p. p.content) ps

key_first : (text front : List ℕ) (at : ℕ) (inside : Bool) (p : Piece) (ps : List Piece) → ArePieces (p ∷ ps) → front ++ text_of (p ∷ ps) ≡ text
    → length front ≡ at → is_key_line p.content ≡ true
    → AreKeyLines text inside (lines_in (p ∷ ps)) (spans_from at (p ∷ ps)) (record { from = at; in_part = inside })
key_first text front at inside p ps are whole start is =
    let rest : drop at text ≡ text_of (p ∷ ps) = sym (ap (drop at) whole) ∙ rw (← start) (drop-append_seam front (text_of (p ∷ ps))) in
    let divided : Divides (p ∷ ps) (text_of (p ∷ ps)) = record { whole = refl; pieces = are } in
    let pieces : pieces_of (drop at text) ≡ p ∷ ps = ap pieces_of rest ∙ sym (pieces_unique (text_of (p ∷ ps)) (p ∷ ps) divided) in
    record {
      line = record { from = at; to = at + length p.content; bytes = p.content };
      stands = ap (spans_from at) pieces ∙ rw is refl;
      value = rw is refl;
      part = rw is (sym (key_in_part inside p.content is));
      within = omega (arith, ap length whole, length-append front (text_of (p ∷ ps)));
    }

some_same : (a b : KeyPlace) → Some a ≡ Some b → a ≡ b
some_same a b same = cc

key_lines_from : (text front : List ℕ) (at : ℕ) (inside : Bool) (ps : List Piece) (place : KeyPlace) → ArePieces ps → front ++ text_of ps ≡ text
    → length front ≡ at → key_place inside (spans_from at ps) ≡ Some place → AreKeyLines text inside (lines_in ps) (spans_from at ps) place
key_lines_from text front at inside [] place are whole start found = cc
key_lines_from text front at inside (p ∷ ps) place are whole start found = ⊎_elim
    (λ is.
    let same : record { from = at; in_part = inside } ≡ place = some_same _ place (rw is at found) in
    subst (AreKeyLines text inside (lines_in (p ∷ ps)) (spans_from at (p ∷ ps))) same (key_first text front at inside p ps are whole start is))
    (λ (other : is_key_line p.content ≡ false).
    let later = key_lines_from text (front ++ (p.content ++ p.ending)) (at + length p.content + length p.ending) (in_part_after inside p.content) ps place are.1
    (simp append_assoc whole) (simp length-append (omega arith)) (rw other at found) in
    record {
      line = later.line;
      stands = rw other later.stands;
      value = rw other later.value;
      part = rw other later.part;
      within = later.within;
    })
    (cases_Bool (is_key_line p.content))

pub key_lines : (text : List ℕ) (place : KeyPlace) → key_place false (spans_of text) ≡ Some place
    → AreKeyLines text false (lines_of text) (spans_of text) place
key_lines text place found = let divided = pieces_divide text in key_lines_from text [] 0 false (pieces_of text) place divided.pieces divided.whole refl found

pub first_same : (a b : Span) (xs ys : List Span) → a ∷ xs ≡ b ∷ ys → a ≡ b
first_same a b xs ys same = cc

pub rest_same : (a b : Span) (xs ys : List Span) → a ∷ xs ≡ b ∷ ys → xs ≡ ys
rest_same a b xs ys same = cc
