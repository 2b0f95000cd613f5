-- Where items begin and end: they follow each other from the front of the text to its end.
use Rattle.std.proofs.Common.{◌≡◌, ℕ, zero, suc, ◌+◌, ◌-◌, ◌<◌, ◌≤◌, List, [], ◌∷◌, ◌++◌, length, take, drop, get_or, refl, ap, sym, ◌∙◌, arith, subst}
use Rattle.std.specs.Prelude.{map, slice_range}
use Rattle.std.specs.List.{All}
use Rattle.std.proofs.lemmas.List.{append_assoc, length-append, length-take-le}
use Rattle.std.proofs.Math.Seq.{take-append_seam, drop-append_seam, drop-append-add}
use Rattle.abc_items.specs.Grammar.{ItemText, text_of_items, IsItem, EachIsItem}
use Rattle.abc_items.specs.Inside.ItemRows.{first_item}
use Rattle.abc_items.specs.declared.kinds.Front.{Front}
use Rattle.abc_items.specs.ItemSpans.{items_of, ItemSpan, item_spans_from, item_spans_of, item_text_of, IsSpanAt, ItemSpansFill, FitsItsRow}
use Rattle.abc_items.proofs.FirstItem.{item_has_byte}
use Rattle.abc_items.proofs.ItemLaw.{items_are, items_step}

-- a part of a text is what stands between its two ends
pub part_between : (front part rest : List ℕ) → slice_range (front ++ (part ++ rest)) (length front) (length front + length part) ≡ part
part_between front part rest =
    let width : length front + length part - length front ≡ length part = omega arith in
    rw (width, drop-append_seam front (part ++ rest)) (take-append_seam part rest)

-- what stands after a part
rest_after : (front part rest : List ℕ) → drop (length front + length part) (front ++ (part ++ rest)) ≡ rest
rest_after front part rest = drop-append-add front (part ++ rest) (length part) ∙ drop-append_seam part rest

-- an item of a text, and where it begins and ends
placed : (text front : List ℕ) (item : ItemText) (rest : List ℕ) → front ++ (item.text ++ rest) ≡ text → IsItem item.kind item.text rest
    → IsSpanAt text (length front) (record { kind = item.kind; from = length front; to = length front + length item.text; bytes = item.text })
placed text front item rest whole is =
    let some = item_has_byte item.kind item.text rest is.fits in
    let long : length front + (length item.text + length rest) ≡ length text =
    (λ i. length front + sym (length-append item.text rest) i) ∙ sym (length-append front (item.text ++ rest)) ∙ ap length whole in
    let past : drop (length front + length item.text) text ≡ rest = ap (drop (length front + length item.text)) (sym whole) ∙ rest_after front item.text rest in
    let P : List ℕ → Type 0 = λ r. IsItem item.kind item.text r in
    record {
      begins = refl;
      some = omega arith;
      ends = refl;
      within = omega arith;
      part = ap (λ t. slice_range t (length front) (length front + length item.text)) (sym whole) ∙ part_between front item.text rest;
      item = subst P (sym past) is;
    }

-- the spans of items follow each other from where these bytes end
fill_from : (text front : List ℕ) (at : ℕ) (items : List ItemText) → EachIsItem items → front ++ text_of_items items ≡ text → length front ≡ at
    → ItemSpansFill text at (item_spans_from at items)
fill_from text front at [] are whole start = sym start ∙ sym (length-append front [] ∙ omega arith) ∙ ap length whole
fill_from text front at (item ∷ items) are whole start =
    let P : ℕ → Type 0 = λ n. IsSpanAt text n (record { kind = item.kind; from = n; to = n + length item.text; bytes = item.text }) in (
      subst P start (placed text front item (text_of_items items) whole are.0),
      fill_from text (front ++ item.text) (at + length item.text) items are.1 (append_assoc front item.text (text_of_items items) ∙ whole)
          (length-append front item.text ∙ ap (λ n. n + length item.text) start),
    )

-- the spans of a text follow each other from its front to its end
pub spans_fill : (text : List ℕ) → ItemSpansFill text 0 (item_spans_of text)
spans_fill text = let are = items_are text in fill_from text [] 0 (items_of text) are.each are.whole refl

-- spans have the texts of their items
pub spans_have_items : (at : ℕ) (items : List ItemText) → map item_text_of (item_spans_from at items) ≡ items
spans_have_items at [] = refl
spans_have_items at (item ∷ items) = ap (λ later. item ∷ later) (spans_have_items (at + length item.text) items)

-- each span is of its row
each_fits : (text : List ℕ) (at : ℕ) (spans : List ItemSpan) → ItemSpansFill text at spans → (k : ℕ) (d : ItemSpan) → k < length spans
    → FitsItsRow text (get_or spans k d)
each_fits text at [] fill k d low = absurd (omega arith)
each_fits text at (span ∷ spans) fill zero d low = fill.0.item.fits
each_fits text at (span ∷ spans) fill (suc k) d low = each_fits text span.to spans fill.1 k d (omega arith)

-- each span of a text is of its row
pub spans_fit : (text : List ℕ) → All (FitsItsRow text) (item_spans_of text)
spans_fit text = each_fits text 0 (item_spans_of text) (spans_fill text)

-- ONE STEP
-- the spans of a text with a byte: the first one, and those of the rest
pub spans_step : (at : ℕ) (text : List ℕ) (item : Front) (bytes rest : List ℕ) → item ≡ first_item text → item.length ≤ length text → 0 < length text
    → bytes ≡ take item.length text → rest ≡ drop item.length text
    → item_spans_from at (items_of text)
    ≡ record { kind = item.kind; from = at; to = at + item.length; bytes = bytes } ∷ item_spans_from (at + item.length) (items_of rest)
spans_step at [] item bytes rest is within some taken dropped = absurd (omega arith)
spans_step at (byte ∷ text) item bytes rest is within some taken dropped =
    let long : length (take item.length (byte ∷ text)) ≡ item.length = length-take-le item.length (byte ∷ text) within in
    let P : Front → Type 0 =
    λ i. items_of (byte ∷ text) ≡ record { kind = i.kind; text = take i.length (byte ∷ text) } ∷ items_of (drop i.length (byte ∷ text)) in
    ap (item_spans_from at) (subst P (sym is) (items_step byte text))
    ∙ (λ i. record { kind = item.kind; from = at; to = at + long i; bytes = sym taken i } ∷ item_spans_from (at + long i) (items_of (sym dropped i)))
