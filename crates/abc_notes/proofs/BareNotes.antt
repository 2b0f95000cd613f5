-- Notes without accidentals leave nothing in force, so that those after them are read as from a beginning.
use Rattle.std.proofs.Common.{◌≡◌, ℕ, ◌+◌, ◌≤◌, List, [], ◌∷◌, ◌++◌, length, drop, slice_index, Option, None, refl, ap, sym, ◌∙◌, true, cond, arith}
use Rattle.std.specs.Prelude.{unwrap_or, is_some, ◌&&◌, ◌==◌, ℤ, Bool, false}
use Rattle.std.proofs.lemmas.Bool.{eqb-true}
use Rattle.std.proofs.lemmas.List.{length-append}
use Rattle.abc_keys.specs.declared.letters.Letter.{Letter}
use Rattle.abc_keys.specs.declared.letters.Letter.TheVariants.{C}
use Rattle.abc_keys.specs.declared.letters.Accidental.{Accidental}
use Rattle.abc_keys.specs.declared.signatures.Signature.{Signature}
use Rattle.abc_keys.specs.Letters.{letter_of}
use Rattle.abc_keys.specs.Signatures.{accidental_at}
use Rattle.abc_items.specs.declared.kinds.Kind.{Kind}
use Rattle.abc_items.specs.declared.kinds.Kind.TheVariants as kind
use Rattle.abc_items.specs.Grammar.{spelling_of}
use Rattle.abc_items.specs.NoteFronts.{own_accidental}
use Rattle.abc_items.specs.ItemSpans.{ItemSpan}
use Rattle.abc_items.specs.Plain.{is_plain_item, is_plain_byte}
use Rattle.abc_fields.specs.Bytes.{begins}
use Rattle.abc_notes.specs.Inside.BareNotes.{bare_note}
use Rattle.abc_notes.specs.Events.{WrittenNote, Event, note, bar, change}
use Rattle.abc_notes.specs.Music.{octave_of, written, plain_events, inline_events, item_events, line_events}
use Rattle.abc_notes.specs.Pitches.{is_at, borne, in_force, sounded, sounded_notes}
use Rattle.abc_notes.proofs.PastLemmas.{borne_none, notes_bar}

-- BEHIND A NOTE WITHOUT AN ACCIDENTAL
borne_bare : (p : List Event) (n : WrittenNote) (l : Letter) (o : ℤ) → n.own ≡ None → borne (p ++ note n ∷ []) l o ≡ borne p l o
unfolding borne
borne_bare [] n l o bare = sym (borne_none n [] l o bare)
borne_bare (note m ∷ p) n l o bare = ap (λ r. cond (is_at m l o && is_some m.own) m.own r) (borne_bare p n l o bare)
borne_bare (bar ∷ p) n l o bare = refl
borne_bare (change s ∷ p) n l o bare = borne_bare p n l o bare

force_bare : (s : Signature) (p : List Event) (n : WrittenNote) → in_force s (p ++ note n ∷ []) ≡ in_force s p
unfolding in_force
force_bare s [] n = refl
force_bare s (note m ∷ p) n = force_bare s p n
force_bare s (bar ∷ p) n = force_bare s p n
force_bare s (change t ∷ p) n = refl

notes_bare_on : (s : Signature) (p : List Event) (n : WrittenNote) (es : List Event) → n.own ≡ None
    → sounded_notes s (p ++ note n ∷ []) es ≡ sounded_notes s p es
unfolding sounded_notes
notes_bare_on s p n [] bare = refl
notes_bare_on s p n (note m ∷ es) bare =
    (λ i. sounded m (unwrap_or m.own (unwrap_or (borne_bare p n m.letter m.octave bare i) (accidental_at (force_bare s p n i) m.letter)))
    ∷ notes_bare_on s (note m ∷ p) n es bare i)
notes_bare_on s p n (bar ∷ es) bare = notes_bare_on s (bar ∷ p) n es bare
notes_bare_on s p n (change t ∷ es) bare = notes_bare_on s (change t ∷ p) n es bare

notes_bare : (s : Signature) (n : WrittenNote) (es : List Event) → n.own ≡ None
    → sounded_notes s [] (note n ∷ es) ≡ sounded n (accidental_at s n.letter) ∷ sounded_notes s [] es
unfolding sounded_notes borne in_force
notes_bare s n es bare = (λ i. sounded n (unwrap_or (bare i) (accidental_at s n.letter)) ∷ notes_bare_on s [] n es bare i)

notes_over : (s : Signature) (es : List Event) → sounded_notes s [] (bar ∷ es) ≡ sounded_notes s [] es
unfolding in_force
notes_over s es = notes_bar s [] es

-- ITEMS OF ONE BYTE
one_byte_field : (bytes : List ℕ) → length bytes ≡ 1 → inline_events bytes ≡ []
one_byte_field [] one = refl
one_byte_field (byte ∷ []) one = refl
one_byte_field (byte ∷ second ∷ bytes) one = absurd (omega (arith, one))

pub one_byte : (span : ItemSpan) → is_plain_item span ≡ true → length span.bytes ≡ 1
one_byte span plain = one_by (begins is_plain_byte span.bytes) (length span.bytes) plain
  where
    one_by : (first : Bool) (n : ℕ) → (first && n == 1) ≡ true → n ≡ 1
    one_by true n one = eqb-true n 1 one
    one_by false n one = absurd (cc)

none_after_one : (bytes : List ℕ) → length bytes ≡ 1 → drop 1 bytes ≡ []
none_after_one [] one = refl
none_after_one (byte ∷ []) one = refl
none_after_one (byte ∷ second ∷ bytes) one = absurd (omega (arith, one))

abbrev note_with : ℕ → ItemSpan → Option Accidental → WrittenNote
note_with base span own =
    let before = length (spelling_of own) in
    record {
      from = base + span.from;
      to = base + span.to;
      bytes = span.bytes;
      letter = unwrap_or (letter_of (slice_index span.bytes before)) C;
      octave = octave_of (slice_index span.bytes before) (drop (before + 1) span.bytes);
      own = own;
      counts = true;
    }

-- the note that such an item is, where it has no accidental
pub bare_written : (base : ℕ) (span : ItemSpan) → length span.bytes ≡ 1 → own_accidental span.bytes ≡ None
    → let name = slice_index span.bytes 0 in
    record {
      from = base + span.from;
      to = base + span.to;
      bytes = span.bytes;
      letter = unwrap_or (letter_of name) C;
      octave = octave_of name [];
      own = None;
      counts = true;
    } ≡ written base true span
unfolding written
bare_written base span one bare =
    (λ i. record {
      from = base + span.from;
      to = base + span.to;
      bytes = span.bytes;
      letter = unwrap_or (letter_of (slice_index span.bytes 0)) C;
      octave = octave_of (slice_index span.bytes 0) (sym (none_after_one span.bytes one) i);
      own = None;
      counts = true;
    })
    ∙ ap (note_with base span) (sym bare)

-- THE NOTES OF A LINE, AND OF WHAT COMES AFTER IT
module _ (base : ℕ) (s : Signature) (spans later : List ItemSpan) (span : ItemSpan) (tail : List Event) (is : spans ≡ span ∷ later) where
  -- a note without an accidental is the first
  pub bare_first : span.kind ≡ kind.Note → own_accidental span.bytes ≡ None
      → sounded_notes s [] (line_events base spans ++ tail)
      ≡ bare_note s base span ∷ sounded_notes s [] (line_events base later ++ tail)
  unfolding line_events item_events plain_events written
  bare_first named bare =
      ap (λ all. sounded_notes s [] (line_events base all ++ tail)) is
      ∙ ap (λ k. sounded_notes s [] ((item_events base k span ++ line_events base later) ++ tail)) named
      ∙ notes_bare s (written base true span) (line_events base later ++ tail) bare

  passed_by : (k : Kind) → length span.bytes ≡ 1 → (k ≡ kind.Chord → ⊥) → (k ≡ kind.Note → ⊥)
      → sounded_notes s [] ((item_events base k span ++ line_events base later) ++ tail) ≡ sounded_notes s [] (line_events base later ++ tail)
  unfolding item_events plain_events
  passed_by kind.Chord one chord named = absurd (chord refl)
  passed_by kind.Note one chord named = absurd (named refl)
  passed_by kind.Bar one chord named = notes_over s (line_events base later ++ tail)
  passed_by kind.InlineField one chord named =
      ap (λ events. sounded_notes s [] ((events ++ line_events base later) ++ tail)) (one_byte_field span.bytes one)
  passed_by kind.Quoted one chord named = refl
  passed_by kind.Decoration one chord named = refl
  passed_by kind.Grace one chord named = refl
  passed_by kind.Tuplet one chord named = refl
  passed_by kind.Other one chord named = refl

  -- another item of one byte is passed over
  pub bare_passed : length span.bytes ≡ 1 → (span.kind ≡ kind.Chord → ⊥) → (span.kind ≡ kind.Note → ⊥)
      → sounded_notes s [] (line_events base spans ++ tail) ≡ sounded_notes s [] (line_events base later ++ tail)
  unfolding line_events
  bare_passed one chord named =
      ap (λ all. sounded_notes s [] (line_events base all ++ tail)) is ∙ passed_by span.kind one chord named

-- the items after one have no more events
pub fewer_events : (base : ℕ) (spans later : List ItemSpan) (span : ItemSpan) → spans ≡ span ∷ later
    → length (line_events base later) ≤ length (line_events base spans)
unfolding line_events
fewer_events base spans later span is =
    omega (arith, ap (λ all. length (line_events base all)) is, length-append (item_events base span.kind span) (line_events base later))
