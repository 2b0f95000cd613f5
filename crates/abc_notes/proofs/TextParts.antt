-- Parts of texts: how long they are, and where they stand.
use Rattle.std.proofs.Common.{◌≡◌, ℕ, ◌+◌, ◌-◌, ◌≤◌, List, [], ◌++◌, length, take, drop, refl, ap, sym, ◌∙◌, arith}
use Rattle.std.specs.Prelude.{slice_range}
use Rattle.std.proofs.lemmas.List.{append_assoc, append-nil, length-append, length-drop, length-take-le, take-append-drop}
use Rattle.abc_fields.specs.Lines.{Span as Line, IsSpan}
use Rattle.abc_items.specs.Grammar.{IsChord}
use Rattle.abc_items.proofs.ItemSpans.{part_between}

-- HOW LONG PARTS ARE
-- a part is as long as its two ends are apart
pub slice_long : (text : List ℕ) (from to : ℕ) → from ≤ to → to ≤ length text → length (slice_range text from to) + from ≡ to
slice_long text from to ordered within =
    let rest : to - from ≤ length (drop from text) = omega (arith, length-drop from text) in
    omega (arith, length-take-le (to - from) (drop from text) rest)

-- and so is a line of a text
pub line_long : (text : List ℕ) (low : ℕ) (line : Line) → IsSpan text low line → length line.bytes + line.from ≡ line.to
line_long text low line placed =
    omega (arith, slice_long text line.from line.to placed.ordered placed.within, ap length placed.part)

-- a chord has two brackets
pub chord_brackets : (text : List ℕ) → IsChord text → 2 ≤ length text
chord_brackets text chord = omega (arith, simp length-append at (ap length chord.whole))

-- WHERE BYTES STAND
-- these bytes stand in a text from this index on
pub record StandsAt (text : List ℕ) (at : ℕ) (part : List ℕ) : Type 0 where
  pub front : List ℕ
  pub back : List ℕ
  pub whole : front ++ (part ++ back) ≡ text
  pub start : length front ≡ at

-- what stands in a part stands in the text
pub stands_within : (text part bytes : List ℕ) (base at : ℕ) → StandsAt text base part → StandsAt part at bytes → StandsAt text (base + at) bytes
stands_within text part bytes base at outer inner = record {
  front = outer.front ++ inner.front;
  back = inner.back ++ outer.back;
  whole =
      let joined : (outer.front ++ inner.front) ++ (bytes ++ (inner.back ++ outer.back))
      ≡ outer.front ++ ((inner.front ++ (bytes ++ inner.back)) ++ outer.back) = simp append_assoc in
      joined ∙ ap (λ t. outer.front ++ (t ++ outer.back)) inner.whole ∙ outer.whole;
  start = omega (arith, length-append outer.front inner.front, outer.start, inner.start);
}

-- a text stands at its own front
pub stands_itself : (text : List ℕ) → StandsAt text 0 text
stands_itself text = record { front = []; back = []; whole = append-nil text; start = refl }

-- what is between two indices stands at the first one
pub stands_between : (text part : List ℕ) (from to : ℕ) → from ≤ to → to ≤ length text → slice_range text from to ≡ part → StandsAt text from part
stands_between text part from to ordered within is = record {
  front = take from text;
  back = drop (to - from) (drop from text);
  whole =
      ap (λ t. take from text ++ (t ++ drop (to - from) (drop from text))) (sym is)
      ∙ ap (λ t. take from text ++ t) (take-append-drop (to - from) (drop from text))
      ∙ take-append-drop from text;
  start = length-take-le from text (omega arith);
}

-- bytes end within the text that they stand in
pub stands_ends : (text part : List ℕ) (at : ℕ) → StandsAt text at part → at + length part ≤ length text
stands_ends text part at stands =
    omega (arith, ap length stands.whole, length-append stands.front (part ++ stands.back), length-append part stands.back, stands.start)

-- bytes that stand in a text are a part of it
pub stands_part : (text part : List ℕ) (at : ℕ) → StandsAt text at part → slice_range text at (at + length part) ≡ part
stands_part text part at stands = rw (← stands.whole, ← stands.start) (part_between stands.front part stands.back)
