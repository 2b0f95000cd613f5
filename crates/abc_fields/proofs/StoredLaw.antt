-- Which texts are tune texts, by their lines.
use Rattle.std.proofs.Common.{◌≡◌, ◌-◌, ◌<◌, ℕ, suc, Bool, true, false, not, eqb, ◌||◌, ◌&&◌, List, [], ◌∷◌, ◌++◌, length, map, get_or, refl}
use Rattle.std.proofs.Common.{ap, sym, ◌∙◌, None, Some, Option, subst, is_some, arith, ◌⊎◌, inl, inr}
use Rattle.std.specs.List.{AllByRecursion, list_any, ends_with}
use Rattle.std.proofs.lemmas.List.{append_assoc, append-nil, get_or_default}
use Rattle.std.proofs.lemmas.Bool.{ne_eqb, eq-eqb, and_parts, not-true, or_parts, or_from, true≢false}
use Rattle.std.proofs.lemmas.List.Folds.{list_any_at, list_any_none}
use Rattle.memchr.specs.Find.{IsFirstByte, is_byte}
use Rattle.abc_fields.specs.Bytes.{line_feed, carriage_return}
use Rattle.abc_fields.specs.Lines.{Piece, pieces_of, lines_of, text_of, has_no_ending, ends_line, ArePieces, IsEnding, IsUnended}
use Rattle.abc_fields.specs.Tunes.{joined, has_key, ends_tune, IsTuneLine, IsTuneText}
use Rattle.abc_fields.specs.Inside.LinesLeft.{AreTuneLines}
use Rattle.abc_fields.specs.Inside.HeaderEnds.{has_end}
use Rattle.abc_fields.proofs.BookLemmas.{AllPlain, lines_plain}
use Rattle.abc_fields.proofs.LineLaw.{pieces_divide, pieces_of_line}

-- a search for a byte shows whether it is there
pub return_found : (text : List ℕ) (r : Option ℕ) → IsFirstByte (is_byte carriage_return) text r → is_some r ≡ list_any (λ b. eqb b carriage_return) text
return_found text None h =
    sym (list_any_none (λ b. eqb b carriage_return) text
    (λ k d l. ne_eqb (get_or text k d) carriage_return (λ e. h k (omega arith) l (eq-eqb (get_or text k 0) carriage_return (get_or_default text k 0 d l ∙ e)))))
return_found text (Some k) h = sym (list_any_at (λ b. eqb b carriage_return) text k 0 h.0.high h.1)

abbrev returns : List ℕ → Bool
returns text = list_any (λ b. eqb b carriage_return) text

or_assoc : (a b c : Bool) → ((a || b) || c) ≡ (a || (b || c))
or_assoc true b c = refl
or_assoc false b c = refl

returns-append : (xs ys : List ℕ) → returns (xs ++ ys) ≡ (returns xs || returns ys)
returns-append [] ys = refl
returns-append (x ∷ xs) ys = ap (λ r. eqb x carriage_return || r) (returns-append xs ys) ∙ sym (or_assoc (eqb x carriage_return) (returns xs) (returns ys))

-- LINES OF A TUNE TEXT
pub line_first : (line rest : List ℕ) → has_no_ending line ≡ true → lines_of (line ++ (line_feed ∷ rest)) ≡ line ∷ lines_of rest
line_first line rest plain = ap (map (λ p. p.content)) (pieces_of_line line (line_feed ∷ []) rest plain (inl refl))

lines_again : (lines : List (List ℕ)) → AllByRecursion IsTuneLine lines → lines_of (joined lines) ≡ lines
lines_again [] each = refl
lines_again (line ∷ lines) each =
    ap lines_of (append_assoc line (line_feed ∷ []) (joined lines)) ∙ line_first line (joined lines) each.0.plain
    ∙ ap (λ ls. line ∷ ls) (lines_again lines each.1)

plain_returns : (line : List ℕ) → has_no_ending line ≡ true → returns line ≡ false
plain_returns [] plain = refl
plain_returns (byte ∷ line) plain =
    let parts = and_parts (not (ends_line byte)) (has_no_ending line) plain in
    or_from (eqb byte carriage_return) (returns line) (or_parts (eqb byte line_feed) (eqb byte carriage_return) (not-true (ends_line byte) parts.0)).1
    (plain_returns line parts.1)

joined_returns : (lines : List (List ℕ)) → AllByRecursion IsTuneLine lines → returns (joined lines) ≡ false
joined_returns [] each = refl
joined_returns (line ∷ lines) each =
    returns-append (line ++ line_feed ∷ []) (joined lines)
    ∙ or_from (returns (line ++ line_feed ∷ [])) (returns (joined lines))
    (returns-append line (line_feed ∷ []) ∙ or_from (returns line) false (plain_returns line each.0.plain) refl) (joined_returns lines each.1)

-- THE LINE FEED AT THE END
-- whether a text ends with a line feed, where it has a byte
abbrev pub is_fed : List ℕ → Bool
is_fed [] = true
is_fed (byte ∷ []) = eqb line_feed byte
is_fed (byte ∷ next ∷ text) = is_fed (next ∷ text)

and_true : (b : Bool) → (b && true) ≡ b
and_true true = refl
and_true false = refl

fed_last : (byte : ℕ) (text : List ℕ) → ends_with eqb (byte ∷ text) (line_feed ∷ []) ≡ is_fed (byte ∷ text)
fed_last byte [] = and_true (eqb line_feed byte)
fed_last byte (next ∷ text) =
    let more : length (byte ∷ next ∷ text) - 1 ≡ suc (length (next ∷ text) - 1) = omega arith in
    rw more (fed_last next text)

pub fed : (text : List ℕ) → ends_with eqb text (line_feed ∷ []) ≡ true → is_fed text ≡ true
fed [] ends = cc
fed (byte ∷ text) ends = sym (fed_last byte text) ∙ ends

pub fed_ends : (text : List ℕ) → 0 < length text → is_fed text ≡ true → ends_with eqb text (line_feed ∷ []) ≡ true
fed_ends [] some is = absurd (omega arith)
fed_ends (byte ∷ text) some is = fed_last byte text ∙ is

fed-append : (front : List ℕ) (byte : ℕ) (text : List ℕ) → is_fed (front ++ (byte ∷ text)) ≡ is_fed (byte ∷ text)
fed-append [] byte text = refl
fed-append (first ∷ []) byte text = refl
fed-append (first ∷ next ∷ front) byte text = fed-append (next ∷ front) byte text

fed_feed : (text : List ℕ) → is_fed (line_feed ∷ text) ≡ is_fed text
fed_feed [] = refl
fed_feed (byte ∷ text) = refl

fed_line : (line text : List ℕ) → is_fed (line ++ (line_feed ∷ text)) ≡ is_fed text
fed_line line text = fed-append line line_feed text ∙ fed_feed text

joined_fed : (lines : List (List ℕ)) → is_fed (joined lines) ≡ true
joined_fed [] = refl
joined_fed (line ∷ lines) = ap is_fed (append_assoc line (line_feed ∷ []) (joined lines)) ∙ fed_line line (joined lines) ∙ joined_fed lines

plain_unfed : (line : List ℕ) → 0 < length line → has_no_ending line ≡ true → is_fed line ≡ false
plain_unfed [] some plain = absurd (omega arith)
plain_unfed (byte ∷ []) some plain =
    let parts = and_parts (not (ends_line byte)) true plain in
    ne_eqb line_feed byte (λ same. true≢false (sym (eq-eqb byte line_feed (sym same))
    ∙ (or_parts (eqb byte line_feed) (eqb byte carriage_return) (not-true (ends_line byte) parts.0)).0))
plain_unfed (byte ∷ next ∷ line) some plain =
    plain_unfed (next ∷ line) (omega arith) (and_parts (not (ends_line byte)) (has_no_ending (next ∷ line)) plain).1

-- what a tune text is by its lines
pub record IsByLines (text : List ℕ) : Type 0 where
  pub none : list_any (λ b. eqb b carriage_return) text ≡ false
  pub lines : AreTuneLines (lines_of text)
  pub fed : is_fed text ≡ true

pub text_by_lines : (text : List ℕ) → IsTuneText text → IsByLines text
text_by_lines text is =
    let again = lines_again is.lines is.each in
    let P : List (List ℕ) → Type 0 = λ ls. AreTuneLines ls in
    subst IsByLines is.whole record {
      none = joined_returns is.lines is.each;
      lines = subst P (sym again) record { each = is.each; key = is.key };
      fed = joined_fed is.lines;
    }

-- THE OTHER WAY
abbrev lines_in : List Piece → List (List ℕ)
lines_in ps = map (λ p. p.content) ps

full_step : (p : Piece) (ps : List Piece) → has_no_ending p.content ≡ true → IsEnding p.ending (text_of ps) ⊎ IsUnended p ps
    → returns (text_of (p ∷ ps)) ≡ false → is_fed (text_of (p ∷ ps)) ≡ true
    → (returns (text_of ps) ≡ false → is_fed (text_of ps) ≡ true → joined (lines_in ps) ≡ text_of ps)
    → joined (lines_in (p ∷ ps)) ≡ text_of (p ∷ ps)
full_step p ps plain (inl (inl feed)) none is later =
    let rest = or_parts (returns p.content) (returns (p.ending ++ text_of ps)) (sym (returns-append p.content (p.ending ++ text_of ps)) ∙ none) in
    let tail = or_parts (returns p.ending) (returns (text_of ps)) (sym (returns-append p.ending (text_of ps)) ∙ rest.1) in
    let whole : p.content ++ (p.ending ++ text_of ps) ≡ p.content ++ (line_feed ∷ text_of ps) = ap (λ e. p.content ++ (e ++ text_of ps)) feed in
    let same = later tail.1 (sym (fed_line p.content (text_of ps)) ∙ sym (ap is_fed whole) ∙ is) in
    append_assoc p.content (line_feed ∷ []) (joined (lines_in ps)) ∙ ap (λ t. p.content ++ (line_feed ∷ t)) same ∙ sym whole
full_step p ps plain (inl (inr (inl both))) none is later =
    let rest = or_parts (returns p.content) (returns (p.ending ++ text_of ps)) (sym (returns-append p.content (p.ending ++ text_of ps)) ∙ none) in
    let bad = rw both at rest.1 in cc
full_step p ps plain (inl (inr (inr return))) none is later =
    let rest = or_parts (returns p.content) (returns (p.ending ++ text_of ps)) (sym (returns-append p.content (p.ending ++ text_of ps)) ∙ none) in
    let bad = rw return.0 at rest.1 in cc
full_step p ps plain (inr unended) none is later =
    let whole : p.content ++ (p.ending ++ text_of ps) ≡ p.content = rw (unended.last, unended.ending) (append-nil p.content) in
    absurd (true≢false (sym is ∙ ap is_fed whole ∙ plain_unfed p.content unended.some plain))

full_pieces : (ps : List Piece) → ArePieces ps → returns (text_of ps) ≡ false → is_fed (text_of ps) ≡ true → joined (lines_in ps) ≡ text_of ps
full_pieces [] are none is = refl
full_pieces (p ∷ ps) are none is = full_step p ps are.0.content are.0.ending none is (full_pieces ps are.1)

-- THE TEST
-- lines without an end of a tune are lines of a tune
each_inside : (lines : List (List ℕ)) → AllPlain lines → has_end lines ≡ false → AllByRecursion IsTuneLine lines
each_inside [] plain none = tt
each_inside (line ∷ lines) plain none =
    let parts = or_parts (ends_tune line) (has_end lines) none in
    (record { plain = plain.0; inside = parts.0 }, each_inside lines plain.1 parts.1)

none_ends : (lines : List (List ℕ)) → AllByRecursion IsTuneLine lines → has_end lines ≡ false
none_ends [] each = refl
none_ends (line ∷ lines) each = or_from (ends_tune line) (has_end lines) each.0.inside (none_ends lines each.1)

-- where a text ends with a line feed, and has no carriage return, it is its lines
pub lines_whole : (text : List ℕ) → returns text ≡ false → ends_with eqb text (line_feed ∷ []) ≡ true → joined (lines_of text) ≡ text
lines_whole text none ends =
    let divided = pieces_divide text in
    full_pieces (pieces_of text) divided.pieces (ap returns divided.whole ∙ none) (ap is_fed divided.whole ∙ fed text ends) ∙ divided.whole

-- and they tell whether it is a tune text
pub tune_text_if : (text : List ℕ) → returns text ≡ false → ends_with eqb text (line_feed ∷ []) ≡ true → has_end (lines_of text) ≡ false
    → has_key (lines_of text) ≡ true → IsTuneText text
tune_text_if text none ends no_end keyed =
    record { lines = lines_of text; whole = lines_whole text none ends; each = each_inside (lines_of text) (lines_plain text) no_end; key = keyed }

-- a text with one is none
pub returned : (text : List ℕ) → list_any (λ b. eqb b carriage_return) text ≡ true → ¬ IsTuneText text
returned text some is = true≢false (sym some ∙ (text_by_lines text is).none)

-- nor is one without a line feed at its end
keyed_some : (text : List ℕ) → has_key (lines_of text) ≡ true → 0 < length text
keyed_some [] keyed = cc
keyed_some (byte ∷ text) keyed = omega arith

pub unfed : (text : List ℕ) → ends_with eqb text (line_feed ∷ []) ≡ false → ¬ IsTuneText text
unfed text none is =
    let by = text_by_lines text is in
    true≢false (sym (fed_ends text (keyed_some text by.lines.key) by.fed) ∙ none)

-- nor one with an end of a tune, or without a key
pub ended : (text : List ℕ) → has_end (lines_of text) ≡ true → ¬ IsTuneText text
ended text some is = true≢false (sym some ∙ none_ends (lines_of text) (text_by_lines text is).lines.each)

pub unkeyed : (text : List ℕ) → has_key (lines_of text) ≡ false → ¬ IsTuneText text
unkeyed text none is = true≢false (sym (text_by_lines text is).lines.key ∙ none)
