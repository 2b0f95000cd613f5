-- The items of a short text, and the lines of a short tune, keep the bounds.
use Rattle.std.proofs.Common.{◌≡◌, ℕ, ◌+◌, ◌≤◌, List, [], ◌∷◌, length, Bool, true, false, Option, Some, None, ◌<◌, arith, sym, ap, subst}
use Rattle.std.specs.Prelude.{if◌then◌else◌, IfSome}
use Rattle.std.specs.Iterator.{YieldsFirstBy}
use Rattle.abc_fields.specs.Limits.{longest_book}
use Rattle.abc_items.specs.declared.kinds.Kind.{Kind}
use Rattle.abc_items.specs.declared.kinds.Kind.TheVariants as kind
use Rattle.abc_items.specs.Grammar.{FitsRow}
use Rattle.abc_items.specs.ItemSpans.{ItemSpan, ItemSpansFill}
use Rattle.abc_items.specs.declared.items.Item.{Item}
use Rattle.abc_items.specs.ItemView.{item_span}
use Rattle.abc_items.specs.Plain.{is_aside, past_asides}
use Rattle.abc_notes.proofs.TextParts.{chord_brackets}
use Rattle.abc_notes.specs.Inside.Bounds.{AreShort, IsShort}

-- an item that is a chord has two brackets
chord_long : (k : Kind) (text rest : List ℕ) → k ≡ kind.Chord → FitsRow k text rest → 2 ≤ length text
chord_long kind.Chord text rest is fits = chord_brackets text fits
chord_long kind.Quoted text rest is fits = absurd (cc)
chord_long kind.Decoration text rest is fits = absurd (cc)
chord_long kind.Grace text rest is fits = absurd (cc)
chord_long kind.InlineField text rest is fits = absurd (cc)
chord_long kind.Tuplet text rest is fits = absurd (cc)
chord_long kind.Note text rest is fits = absurd (cc)
chord_long kind.Bar text rest is fits = absurd (cc)
chord_long kind.Other text rest is fits = absurd (cc)

-- items that fill a short text from here to its end
pub are_short : (text : List ℕ) (base at : ℕ) (spans : List ItemSpan) → ItemSpansFill text at spans → base + length text ≤ longest_book → AreShort base spans
are_short text base at [] fill fits = tt
are_short text base at (span ∷ spans) (placed, later) fits = (
  record {
    ordered = sym placed.ends;
    short = omega (arith, placed.within);
    brackets = λ is. chord_long span.kind span.bytes _ is placed.item.fits;
  },
  are_short text base span.to spans later fits,
)

-- those after asides are fewer, and as short
fewer_if : (aside : Bool) (span : ItemSpan) (items : List ItemSpan) → length (past_asides items) ≤ length items
    → length (if aside then past_asides items else span ∷ items) ≤ length (span ∷ items)
fewer_if true span items later = omega (arith, later)
fewer_if false span items later = omega arith

pub fewer_past_asides : (items : List ItemSpan) → length (past_asides items) ≤ length items
fewer_past_asides [] = omega arith
fewer_past_asides (span ∷ items) = fewer_if (is_aside span.kind) span items (fewer_past_asides items)

short_if : (base : ℕ) (aside : Bool) (span : ItemSpan) (items : List ItemSpan) → AreShort base (span ∷ items) → AreShort base (past_asides items)
    → AreShort base (if aside then past_asides items else span ∷ items)
short_if base true span items short later = later
short_if base false span items short later = short

pub short_past_asides : (base : ℕ) (items : List ItemSpan) → AreShort base items → AreShort base (past_asides items)
short_past_asides base [] short = tt
short_past_asides base (span ∷ items) short = short_if base (is_aside span.kind) span items short (short_past_asides base items short.1)

-- the first of them is short, those after it are too, and are fewer
pub record IsTaken (base : ℕ) (items later : List ItemSpan) (found : Option Item) : Type 0 where
  pub one : IfSome found (λ item. IsShort base (item_span item))
  pub short : AreShort base later
  pub fewer : IfSome found (λ item. length later < length items)

pub is_taken : (base : ℕ) (items later : List ItemSpan) (found : Option Item) → AreShort base items
    → YieldsFirstBy item_span (λ items. items) (past_asides items) found later → IsTaken base items later found
is_taken base items later None short gives =
    record { one = tt; short = subst (λ (spans : List ItemSpan). AreShort base spans) (sym gives.1) tt; fewer = tt }
is_taken base items later (Some item) short gives =
    let left = subst (λ (spans : List ItemSpan). AreShort base spans) gives (short_past_asides base items short) in
    record { one = left.0; short = left.1; fewer = omega (arith, ap length gives, fewer_past_asides items) }
