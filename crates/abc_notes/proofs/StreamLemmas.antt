-- Streams of events: which event comes first, and what is left.
use Rattle.std.proofs.Common.{◌≡◌, ℕ, ◌+◌, List, [], ◌∷◌, ◌++◌, Bool, true, false, Option, Some, None, refl, sym, ap, ◌∙◌, append_assoc, not, ◌&&◌, subst}
use Rattle.std.specs.Prelude.{is_some, if◌then◌else◌}
use Rattle.std.specs.Iterator.{YieldsFirstBy}
use Rattle.abc_fields.specs.Lines.{Span as Line}
use Rattle.abc_fields.specs.LineKinds.{in_part_after}
use Rattle.abc_items.specs.declared.kinds.Kind.{Kind}
use Rattle.abc_items.specs.declared.kinds.Kind.TheVariants as kind
use Rattle.abc_items.specs.ItemSpans.{ItemSpan, item_spans_of}
use Rattle.abc_items.specs.Plain.{is_aside, past_asides}
use Rattle.abc_notes.specs.declared.events.Event.{Event as CodeEvent}
use Rattle.abc_notes.specs.Events.{Event}
use Rattle.abc_notes.specs.Inside.EventView.{event_of, events_of}
use Rattle.abc_notes.specs.Music.{is_note, plain_events, chord_events, inside_of, inline_events, item_events, line_events, line_meaning, body_events}

-- THE FIRST EVENT OF A STREAM
-- an event that was taken is the first, and without one the rest is all
abbrev pub Gives : List Event → Option CodeEvent → List Event → Type 0
Gives = YieldsFirstBy event_of (λ events. events)

pub gives_first : (event : Option CodeEvent) (all rest : List Event) → all ≡ events_of event ++ rest → is_some event ≡ true → Gives all event rest
gives_first (Some event) all rest is some = is
gives_first None all rest is some = absurd (cc)

pub gives_no_first : (event : Option CodeEvent) (all rest : List Event) → all ≡ events_of event ++ rest → is_some event ≡ false → all ≡ rest
gives_no_first (Some event) all rest is none = absurd (cc)
gives_no_first None all rest is none = is

-- of two streams that give nothing the first gives nothing
pub first_of_none : (front back : List Event) → front ++ back ≡ [] → front ≡ []
first_of_none [] back none = refl
first_of_none (event ∷ front) back none = absurd (cc)

-- a stream before others
pub gives_before : (event : Option CodeEvent) (all rest later : List Event) → Gives all event rest → is_some event ≡ true
    → Gives (all ++ later) event (rest ++ later)
gives_before (Some event) all rest later gives some = ap (λ events. events ++ later) gives
gives_before None all rest later gives some = absurd (cc)

pub gives_nothing : (event : Option CodeEvent) (all rest later : List Event) → Gives all event rest → is_some event ≡ false
    → (all ++ later ≡ later) × (rest ++ later ≡ later)
gives_nothing (Some event) all rest later gives none = absurd (cc)
gives_nothing None all rest later gives none = (ap (λ events. events ++ later) gives.0, ap (λ events. events ++ later) gives.1)

-- A STREAM IN HAND, AND THE EVENTS AFTER IT
module _ (event : Option CodeEvent) (hand left tail all : List Event) (gives : Gives hand event left) (whole : hand ++ tail ≡ all) where
  -- the stream in hand gives the first event
  pub hand_gives : is_some event ≡ true → Gives all event (left ++ tail)
  hand_gives some = subst (λ (events : List Event). Gives events event (left ++ tail)) whole (gives_before event hand left tail gives some)

  -- it is spent, so that the events after it are all
  pub hand_spent : is_some event ≡ false → all ≡ tail
  hand_spent none = sym whole ∙ (gives_nothing event hand left tail gives none).0

  -- and nothing of it is left
  pub nothing_left : (later : List Event) → is_some event ≡ false → left ++ later ≡ later
  nothing_left later none = (gives_nothing event hand left later gives none).1

-- INSIDE A CHORD
-- an item inside a chord
pub chord_step : (base : ℕ) (first go : Bool) (spans later : List ItemSpan) (span : ItemSpan) (event : Option CodeEvent) → spans ≡ span ∷ later
    → events_of event ≡ plain_events base first span.kind span → go ≡ (first && not (is_note span.kind))
    → chord_events base first spans ≡ events_of event ++ chord_events base go later
unfolding chord_events
chord_step base first go spans later span event is meant goes =
    ap (chord_events base first) is ∙ (λ i. sym meant i ++ chord_events base (sym goes i) later)

pub chord_end : (base : ℕ) (first : Bool) (spans : List ItemSpan) → spans ≡ [] → chord_events base first spans ≡ []
unfolding chord_events
chord_end base first spans none = ap (chord_events base first) none

-- IN A LINE
-- the events of an item of a line, by its kind
pub chord_item : (base : ℕ) (k : Kind) (span : ItemSpan) → k ≡ kind.Chord
    → item_events base k span ≡ chord_events (base + span.from + 1) true (item_spans_of (inside_of span.bytes))
unfolding item_events
chord_item base k span is = ap (λ j. item_events base j span) is

pub field_item : (base : ℕ) (k : Kind) (span : ItemSpan) → k ≡ kind.InlineField → item_events base k span ≡ inline_events span.bytes
unfolding item_events
field_item base k span is = ap (λ j. item_events base j span) is

pub plain_item_event : (base : ℕ) (k : Kind) (span : ItemSpan) → (k ≡ kind.Chord → ⊥) → (k ≡ kind.InlineField → ⊥)
    → item_events base k span ≡ plain_events base true k span
unfolding item_events
plain_item_event base kind.Chord span no_chord no_field = absurd (no_chord refl)
plain_item_event base kind.InlineField span no_chord no_field = absurd (no_field refl)
plain_item_event base kind.Quoted span no_chord no_field = refl
plain_item_event base kind.Decoration span no_chord no_field = refl
plain_item_event base kind.Grace span no_chord no_field = refl
plain_item_event base kind.Tuplet span no_chord no_field = refl
plain_item_event base kind.Note span no_chord no_field = refl
plain_item_event base kind.Bar span no_chord no_field = refl
plain_item_event base kind.Other span no_chord no_field = refl

-- an item of a line
pub line_step : (base : ℕ) (spans later : List ItemSpan) (span : ItemSpan) (event : Option CodeEvent) (chord : List Event) → spans ≡ span ∷ later
    → events_of event ++ chord ≡ item_events base span.kind span
    → line_events base spans ≡ events_of event ++ (chord ++ line_events base later)
unfolding line_events
line_step base spans later span event chord is meant =
    ap (line_events base) is ∙ ap (λ events. events ++ line_events base later) (sym meant) ∙ append_assoc (events_of event) chord (line_events base later)

-- an item of a line that is no chord
pub plain_step : (base : ℕ) (spans later : List ItemSpan) (span : ItemSpan) (event : Option CodeEvent) → spans ≡ span ∷ later
    → events_of event ≡ item_events base span.kind span
    → line_events base spans ≡ events_of event ++ line_events base later
unfolding line_events
plain_step base spans later span event is meant = ap (line_events base) is ∙ ap (λ events. events ++ line_events base later) (sym meant)

-- asides mean nothing
aside_passed : (base : ℕ) (k : Kind) (span : ItemSpan) (items : List ItemSpan) → span.kind ≡ k → line_events base (past_asides items) ≡ line_events base items
    → line_events base (if is_aside k then past_asides items else span ∷ items) ≡ item_events base k span ++ line_events base items
unfolding line_events item_events plain_events
aside_passed base kind.Quoted span items is later = later
aside_passed base kind.Decoration span items is later = later
aside_passed base kind.Grace span items is later = later
aside_passed base kind.Tuplet span items is later = later
aside_passed base kind.Other span items is later = later
aside_passed base kind.InlineField span items is later = ap (λ k. item_events base k span ++ line_events base items) is
aside_passed base kind.Chord span items is later = ap (λ k. item_events base k span ++ line_events base items) is
aside_passed base kind.Note span items is later = ap (λ k. item_events base k span ++ line_events base items) is
aside_passed base kind.Bar span items is later = ap (λ k. item_events base k span ++ line_events base items) is

pub no_asides : (base : ℕ) (items : List ItemSpan) → line_events base (past_asides items) ≡ line_events base items
unfolding line_events
no_asides base [] = refl
no_asides base (span ∷ items) = aside_passed base span.kind span items refl (no_asides base items)

-- nor do they inside a chord
first_after : (first : Bool) → first ≡ (first && true)
first_after true = refl
first_after false = refl

chord_aside_passed : (base : ℕ) (first : Bool) (k : Kind) (span : ItemSpan) (items : List ItemSpan) → span.kind ≡ k
    → chord_events base first (past_asides items) ≡ chord_events base first items
    → chord_events base first (if is_aside k then past_asides items else span ∷ items)
    ≡ plain_events base first k span ++ chord_events base (first && not (is_note k)) items
unfolding chord_events plain_events
chord_aside_passed base first kind.Quoted span items is later = later ∙ ap (λ f. chord_events base f items) (first_after first)
chord_aside_passed base first kind.Decoration span items is later = later ∙ ap (λ f. chord_events base f items) (first_after first)
chord_aside_passed base first kind.Grace span items is later = later ∙ ap (λ f. chord_events base f items) (first_after first)
chord_aside_passed base first kind.Tuplet span items is later = later ∙ ap (λ f. chord_events base f items) (first_after first)
chord_aside_passed base first kind.Other span items is later = later ∙ ap (λ f. chord_events base f items) (first_after first)
chord_aside_passed base first kind.InlineField span items is later =
    ap (λ k. plain_events base first k span ++ chord_events base (first && not (is_note k)) items) is
chord_aside_passed base first kind.Chord span items is later =
    ap (λ k. plain_events base first k span ++ chord_events base (first && not (is_note k)) items) is
chord_aside_passed base first kind.Note span items is later =
    ap (λ k. plain_events base first k span ++ chord_events base (first && not (is_note k)) items) is
chord_aside_passed base first kind.Bar span items is later =
    ap (λ k. plain_events base first k span ++ chord_events base (first && not (is_note k)) items) is

pub no_chord_asides : (base : ℕ) (first : Bool) (items : List ItemSpan) → chord_events base first (past_asides items) ≡ chord_events base first items
unfolding chord_events
no_chord_asides base first [] = refl
no_chord_asides base first (span ∷ items) = chord_aside_passed base first span.kind span items refl (no_chord_asides base first items)

pub line_end : (base : ℕ) (spans : List ItemSpan) → spans ≡ [] → line_events base spans ≡ []
unfolding line_events
line_end base spans none = ap (line_events base) none

-- a chord in hand that is spent, and an item after it that is no chord
module _ (base : ℕ) (items later : List ItemSpan) (span : ItemSpan) (taken event : Option CodeEvent) (chord left all : List Event)
    (gives : Gives chord taken left)
    (whole : chord ++ line_events base items ≡ all) (spent : is_some taken ≡ false) (is : items ≡ span ∷ later)
    (plain : events_of event ≡ item_events base span.kind span) where
  event_first : all ≡ events_of event ++ (left ++ line_events base later)
  event_first =
      hand_spent taken chord left (line_events base items) all gives whole spent
      ∙ plain_step base items later span event is plain
      ∙ ap (λ rest. events_of event ++ rest) (sym (nothing_left taken chord left (line_events base items) all gives whole (line_events base later) spent))

  -- the item gives the first event, or is passed over
  pub item_gives : is_some event ≡ true → Gives all event (left ++ line_events base later)
  item_gives some = gives_first event all (left ++ line_events base later) event_first some

  pub item_passed : is_some event ≡ false → left ++ line_events base later ≡ all
  item_passed none = sym (gives_no_first event all (left ++ line_events base later) event_first none)

-- IN A TUNE
-- a line of a tune
pub body_step : (in_part inside : Bool) (lines later : List Line) (line : Line) (event : Option CodeEvent) (music : List Event) → lines ≡ line ∷ later
    → events_of event ++ music ≡ line_meaning in_part line → inside ≡ in_part_after in_part line.bytes
    → body_events in_part lines ≡ events_of event ++ (music ++ body_events inside later)
unfolding body_events
body_step in_part inside lines later line event music is meant goes =
    ap (body_events in_part) is
    ∙ (λ i. sym meant i ++ body_events (sym goes i) later)
    ∙ append_assoc (events_of event) music (body_events inside later)

pub body_end : (in_part : Bool) (lines : List Line) → lines ≡ [] → body_events in_part lines ≡ []
unfolding body_events
body_end in_part lines none = ap (body_events in_part) none

-- a line in hand that is spent, and the line after it
module _ (in_part inside : Bool) (lines later : List Line) (line : Line) (taken event : Option CodeEvent) (hand left music all : List Event)
    (gives : Gives hand taken left) (whole : hand ++ body_events in_part lines ≡ all) (spent : is_some taken ≡ false) (is : lines ≡ line ∷ later)
    (meaning : events_of event ++ music ≡ line_meaning in_part line) (goes : inside ≡ in_part_after in_part line.bytes) where
  key_first : all ≡ events_of event ++ (music ++ body_events inside later)
  key_first =
      hand_spent taken hand left (body_events in_part lines) all gives whole spent ∙ body_step in_part inside lines later line event music is meaning goes

  -- the line gives the first event, a change of key, or is taken in hand
  pub line_gives : is_some event ≡ true → Gives all event (music ++ body_events inside later)
  line_gives some = gives_first event all (music ++ body_events inside later) key_first some

  pub line_in_hand : is_some event ≡ false → music ++ body_events inside later ≡ all
  line_in_hand none = sym (gives_no_first event all (music ++ body_events inside later) key_first none)
