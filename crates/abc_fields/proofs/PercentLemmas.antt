-- Texts in which no percent sign stands have no comment.
use Rattle.std.proofs.Common.{◌≡◌, ℕ, zero, suc, ◌+◌, length, Bool, false, eqb, List, [], ◌∷◌, ◌++◌, map, drop, get_or, refl, ap, ◌∙◌}
use Rattle.std.proofs.Common.{None, Some, Option, is_some, arith}
use Rattle.std.specs.List.{AllByRecursion, list_any}
use Rattle.std.proofs.lemmas.Bool.{or_parts, or_from, false_from_ne_true}
use Rattle.std.proofs.lemmas.List.{get_or_default}
use Rattle.std.proofs.lemmas.List.Folds.{list_any_none}
use Rattle.memchr.specs.Find.{IsFirstByte, is_byte2}
use Rattle.abc_fields.specs.Bytes.{percent, backslash}
use Rattle.abc_fields.specs.Lines.{Piece, Span, pieces_of, lines_of, spans_from, text_of}
use Rattle.abc_fields.specs.Values.{has_percent, uncommented, uncommented_after}
use Rattle.abc_fields.proofs.LineLaw.{pieces_divide}

-- each part of such a text is one
pub percents_front : (xs ys : List ℕ) → has_percent (xs ++ ys) ≡ false → has_percent xs ≡ false
percents_front [] ys none = refl
percents_front (x ∷ xs) ys none =
    let parts = or_parts (eqb x percent) (has_percent (xs ++ ys)) none in
    or_from (eqb x percent) (has_percent xs) parts.0 (percents_front xs ys parts.1)

percents_back : (xs ys : List ℕ) → has_percent (xs ++ ys) ≡ false → has_percent ys ≡ false
percents_back [] ys none = none
percents_back (x ∷ xs) ys none = percents_back xs ys (or_parts (eqb x percent) (has_percent (xs ++ ys)) none).1

pub percents_left : (n : ℕ) (text : List ℕ) → has_percent text ≡ false → has_percent (drop n text) ≡ false
percents_left zero text none = none
percents_left (suc n) [] none = refl
percents_left (suc n) (byte ∷ text) none = percents_left n text (or_parts (eqb byte percent) (has_percent text) none).1

-- and so is each of its lines
abbrev pub NonePercent : List (List ℕ) → Type 0
NonePercent lines = AllByRecursion (λ line. has_percent line ≡ false) lines

pieces_percents : (ps : List Piece) → has_percent (text_of ps) ≡ false → NonePercent (map (λ p. p.content) ps)
pieces_percents [] none = tt
pieces_percents (p ∷ ps) none = (
  percents_front p.content (p.ending ++ text_of ps) none,
  pieces_percents ps (percents_back p.ending (text_of ps) (percents_back p.content (p.ending ++ text_of ps) none)),
)

pub lines_percents : (text : List ℕ) → has_percent text ≡ false → NonePercent (lines_of text)
lines_percents text none = pieces_percents (pieces_of text) (ap has_percent (pieces_divide text).whole ∙ none)

-- the same for where they stand
abbrev pub NoneInSpans : List Span → Type 0
NoneInSpans spans = AllByRecursion (λ s. has_percent s.bytes ≡ false) spans

spans_percents : (at : ℕ) (ps : List Piece) → NonePercent (map (λ p. p.content) ps) → NoneInSpans (spans_from at ps)
spans_percents at [] none = tt
spans_percents at (p ∷ ps) none = (none.0, spans_percents (at + length p.content + length p.ending) ps none.1)

-- the lines that stand from an index on
pub later_percents : (text : List ℕ) (from : ℕ) → has_percent text ≡ false → NoneInSpans (spans_from from (pieces_of (drop from text)))
later_percents text from none = spans_percents from (pieces_of (drop from text)) (lines_percents (drop from text) (percents_left from text none))

-- the value of a field without one
uncommented_plain : (escaped : Bool) (text : List ℕ) → has_percent text ≡ false → uncommented_after escaped text ≡ text
uncommented_plain escaped [] none = refl
uncommented_plain escaped (byte ∷ text) none =
    let parts = or_parts (eqb byte percent) (has_percent text) none in
    rw parts.0 (ap (λ t. byte ∷ t) (uncommented_plain (eqb byte backslash) text parts.1))

pub no_comment : (text : List ℕ) → has_percent text ≡ false → uncommented text ≡ text
no_comment text none = uncommented_plain false text none

-- A SEARCH FOR TWO BYTES
any_parts : (a b : ℕ) (text : List ℕ) → list_any (is_byte2 a b) text ≡ false
    → (list_any (λ x. eqb x a) text ≡ false) × (list_any (λ x. eqb x b) text ≡ false)
any_parts a b [] none = (refl, refl)
any_parts a b (x ∷ text) none =
    let parts = or_parts (is_byte2 a b x) (list_any (is_byte2 a b) text) none in
    let here = or_parts (eqb x a) (eqb x b) parts.0 in
    let later = any_parts a b text parts.1 in
    (or_from (eqb x a) (list_any (λ y. eqb y a) text) here.0 later.0, or_from (eqb x b) (list_any (λ y. eqb y b) text) here.1 later.1)

-- where it finds none, neither stands in the text
pub both_absent : (a b : ℕ) (text : List ℕ) (r : Option ℕ) → IsFirstByte (is_byte2 a b) text r → is_some r ≡ false
    → (list_any (λ x. eqb x a) text ≡ false) × (list_any (λ x. eqb x b) text ≡ false)
both_absent a b text None h is =
    any_parts a b text (list_any_none (is_byte2 a b) text
    (λ k d l. false_from_ne_true (is_byte2 a b (get_or text k d)) (λ e. h k (omega arith) l (ap (is_byte2 a b) (get_or_default text k 0 d l) ∙ e))))
both_absent a b text (Some k) h is = cc
