-- Which lines of a header give its titles, its rhythm and its key, and where they stand.
use Rattle.std.proofs.Common.{◌≡◌, ◌≤◌, ◌-◌, ◌+◌, ℕ, Bool, true, false, eqb, List, [], ◌∷◌, ◌++◌, length, take, drop, Some, refl, ap, sym, ◌∙◌, arith, subst}
use Rattle.std.proofs.Common.{⊎_elim}
use Rattle.std.specs.Prelude.{codes, slice_range}
use Rattle.std.specs.List.{AllByRecursion}
use Rattle.std.proofs.lemmas.Bool.{cases_Bool, or_cases, or_parts, and_parts, eqb-true}
use Rattle.std.proofs.lemmas.List.{take-append-drop, append_assoc, append-nil}
use Rattle.abc_fields.specs.Bytes.{begins_with}
use Rattle.abc_fields.specs.Lines.{Span, SpansRise, lines_of, spans_of}
use Rattle.abc_fields.specs.LineKinds.{in_part_after}
use Rattle.abc_fields.specs.Limits.{longest_tune}
use Rattle.abc_fields.specs.Tunes.{is_key_line, ends_tune}
use Rattle.abc_fields.specs.Values.{field_value, has_percent}
use Rattle.abc_fields.specs.Fields.{header_of, values_of, non_empty, non_empty_values, first_key, key_text_of}
use Rattle.abc_fields.specs.Inside.LinesLeft.{contents_of}
use Rattle.abc_fields.specs.Inside.ToldLines.{most_told, is_told, told_places, IsShortSpan, told_key, AreTold, IsPlaceKept, IsToldAt, lines_at}
use Rattle.abc_fields.specs.declared.told_lines.LinePlace.{LinePlace}
use Rattle.abc_fields.proofs.LineLaw.{spans_rise}
use Rattle.abc_fields.proofs.LineOffsets.{spans_have_lines}
use Rattle.abc_fields.proofs.FieldLemmas.{key_here, key_later}
use Rattle.abc_fields.proofs.PercentLemmas.{percents_front, percents_left}

-- A LINE
-- what its first byte tells
first_byte : (byte first : ℕ) (line front : List ℕ) → begins_with (byte ∷ line) (first ∷ front) ≡ true → first ≡ byte
first_byte byte first line front is = eqb-true first byte (and_parts (eqb first byte) _ is).0

-- such a line ends no tune
pub told_inside : (line : List ℕ) → is_told line ≡ true → ends_tune line ≡ false
told_inside [] is = cc
told_inside (byte ∷ line) is = ⊎_elim
    (λ title. let first = first_byte byte 84 line (codes ":") title in rw (← first) refl)
    (λ rhythm. let first = first_byte byte 82 line (codes ":") rhythm in rw (← first) refl)
    (or_cases (begins_with (byte ∷ line) (codes "T:")) (begins_with (byte ∷ line) (codes "R:")) is)

-- and begins and ends no part
pub told_in_part : (inside : Bool) (line : List ℕ) → is_told line ≡ true → in_part_after inside line ≡ inside
told_in_part inside [] is = cc
told_in_part true (byte ∷ line) is = ⊎_elim
    (λ title. let first = first_byte byte 84 line (codes ":") title in rw (← first) refl)
    (λ rhythm. let first = first_byte byte 82 line (codes ":") rhythm in rw (← first) refl)
    (or_cases (begins_with (byte ∷ line) (codes "T:")) (begins_with (byte ∷ line) (codes "R:")) is)
told_in_part false (byte ∷ line) is = ⊎_elim
    (λ title. let first = first_byte byte 84 line (codes ":") title in rw (← first) refl)
    (λ rhythm. let first = first_byte byte 82 line (codes ":") rhythm in rw (← first) refl)
    (or_cases (begins_with (byte ∷ line) (codes "T:")) (begins_with (byte ∷ line) (codes "R:")) is)

-- nor is a line one that gives the key
key_other : (line : List ℕ) → is_key_line line ≡ true → is_told line ≡ false
key_other [] is = cc
key_other (byte ∷ line) is = let first = first_byte byte 75 line (codes ":") is in rw (← first) refl

-- THEIR PLACES
abbrev place_of : Span → LinePlace
place_of line = record { from = line.from; to = line.to }

pub key_first : (line : Span) (lines : List Span) → is_key_line line.bytes ≡ true → told_places (line ∷ lines) ≡ []
key_first line lines is = rw is refl

pub told_more : (line : Span) (lines : List Span) → is_key_line line.bytes ≡ false → is_told line.bytes ≡ true
    → told_places (line ∷ lines) ≡ place_of line ∷ told_places lines
told_more line lines other is = rw (other, is) refl

pub told_later : (line : Span) (lines : List Span) → is_key_line line.bytes ≡ false → is_told line.bytes ≡ false
    → told_places (line ∷ lines) ≡ told_places lines
told_later line lines other none = rw (other, none) refl

-- what was told of lines before these, so far
pub record IsToldSoFar (all left : List Span) (places : List LinePlace) (count : ℕ) : Type 0 where
  pub told : count ≤ most_told → take count places ++ told_places left ≡ told_places all
  pub key : told_key left ≡ told_key all

pub so_far_none : (all : List Span) (places : List LinePlace) → IsToldSoFar all all places 0
so_far_none all places = record { told = λ few. refl; key = refl }

pub so_far_more : (all old : List Span) (line : Span) (new : List Span) (places later : List LinePlace) (count more : ℕ) → IsToldSoFar all old places count
    → old ≡ line ∷ new → is_key_line line.bytes ≡ false → is_told line.bytes ≡ true → IsPlaceKept places count later more (place_of line)
    → IsToldSoFar all new later more
so_far_more all old line new places later count more is step other this kept = record {
  told = λ few.
      let at = kept few in
      ap (λ front. front ++ told_places new) at.1 ∙ append_assoc (take count places) (place_of line ∷ []) (told_places new)
      ∙ ap (λ ps. take count places ++ ps) (sym (ap told_places step ∙ told_more line new other this))
      ∙ is.told at.0;
  key = sym (ap told_key step ∙ rw other refl) ∙ is.key;
}

pub so_far_other : (all old : List Span) (line : Span) (new : List Span) (places : List LinePlace) (count : ℕ) → IsToldSoFar all old places count
    → old ≡ line ∷ new → is_key_line line.bytes ≡ false → is_told line.bytes ≡ false → IsToldSoFar all new places count
so_far_other all old line new places count is step other none = record {
  told = λ few. ap (λ ps. take count places ++ ps) (sym (ap told_places step ∙ told_later line new other none)) ∙ is.told few;
  key = sym (ap told_key step ∙ rw other refl) ∙ is.key;
}

-- the key comes
pub so_far_key : (all old : List Span) (line : Span) (new : List Span) (places : List LinePlace) (count : ℕ) → IsToldSoFar all old places count
    → old ≡ line ∷ new → is_key_line line.bytes ≡ true → count ≤ most_told
    → AreTold all (record { places = places; count = count; key = place_of line })
so_far_key all old line new places count is step this few = record {
  few = few;
  places = sym (append-nil (take count places)) ∙ ap (λ ps. take count places ++ ps) (sym (ap told_places step ∙ key_first line new this))
      ∙ is.told few;
  key = sym is.key ∙ ap told_key step ∙ rw this refl;
}

-- the lines of a short text stand where two bytes say it
all_near : (text : List ℕ) (low : ℕ) (lines : List Span) → length text ≤ longest_tune → SpansRise text low lines → AllByRecursion IsShortSpan lines
all_near text low [] short rise = tt
all_near text low (line ∷ lines) short rise = (
  record { from = omega (arith, rise.0.ordered, rise.0.within, short); to = omega (arith, rise.0.within, short) },
  all_near text (line.to + 1) lines short rise.1,
)

pub lines_near : (text : List ℕ) → length text ≤ longest_tune → AllByRecursion IsShortSpan (spans_of text)
lines_near text short = all_near text 0 (spans_of text) short (spans_rise text)

-- each of the places is one in the text
places_in : (text : List ℕ) (low : ℕ) (lines : List Span) → SpansRise text low lines → AllByRecursion (IsToldAt text) (told_places lines)
places_in text low [] rise = tt
places_in text low (line ∷ lines) rise = ⊎_elim
    (λ is. rw is tt)
    (λ other. ⊎_elim
    (λ is. subst (AllByRecursion (IsToldAt text)) (sym (told_more line lines other is))
    (record { ordered = rise.0.ordered; within = rise.0.within; told = rw rise.0.part is }, places_in text (line.to + 1) lines rise.1))
    (λ none. subst (AllByRecursion (IsToldAt text)) (sym (told_later line lines other none)) (places_in text (line.to + 1) lines rise.1))
    (cases_Bool (is_told line.bytes)))
    (cases_Bool (is_key_line line.bytes))

pub told_in : (text : List ℕ) → AllByRecursion (IsToldAt text) (told_places (spans_of text))
told_in text = places_in text 0 (spans_of text) (spans_rise text)

-- THEIR VALUES
-- other lines give no value of this name
abbrev OthersLack : List ℕ → Type 0
OthersLack name = (line : List ℕ) → is_told line ≡ false → begins_with line name ≡ false

values_none : (name line : List ℕ) (lines : List (List ℕ)) → begins_with line name ≡ false → values_of name (line ∷ lines) ≡ values_of name lines
values_none name line lines none = rw none refl

values_more : (name line : List ℕ) (lines more : List (List ℕ)) → values_of name lines ≡ values_of name more
    → values_of name (line ∷ lines) ≡ values_of name (line ∷ more)
values_more name line lines more same = ⊎_elim
    (λ is. rw is (ap (λ values. field_value line ∷ values) same))
    (λ none. rw none same)
    (cases_Bool (begins_with line name))

header_key : (line : List ℕ) (lines : List (List ℕ)) → is_key_line line ≡ true → header_of (line ∷ lines) ≡ line ∷ []
header_key line lines is = rw is refl

header_other : (line : List ℕ) (lines : List (List ℕ)) → is_key_line line ≡ false → header_of (line ∷ lines) ≡ line ∷ header_of lines
header_other line lines other = rw other refl

values_at : (name text : List ℕ) (low : ℕ) (lines : List Span) → OthersLack name → SpansRise text low lines
    → values_of name (lines_at text (told_places lines)) ≡ values_of name (header_of (contents_of lines))
values_at name text low [] lack rise = refl
values_at name text low (line ∷ lines) lack rise = ⊎_elim
    (λ is.
    ap (λ ps. values_of name (lines_at text ps)) (key_first line lines is)
    ∙ sym (values_none name line.bytes [] (lack line.bytes (key_other line.bytes is)))
    ∙ ap (values_of name) (sym (header_key line.bytes (contents_of lines) is)))
    (λ other.
    let later = values_at name text (line.to + 1) lines lack rise.1 in
    ⊎_elim
    (λ is.
    ap (λ ps. values_of name (lines_at text ps)) (told_more line lines other is)
    ∙ ap (λ l. values_of name (l ∷ lines_at text (told_places lines))) rise.0.part
    ∙ values_more name line.bytes (lines_at text (told_places lines)) (header_of (contents_of lines)) later
    ∙ ap (values_of name) (sym (header_other line.bytes (contents_of lines) other)))
    (λ none.
    ap (λ ps. values_of name (lines_at text ps)) (told_later line lines other none) ∙ later
    ∙ sym (values_none name line.bytes (header_of (contents_of lines)) (lack line.bytes none))
    ∙ ap (values_of name) (sym (header_other line.bytes (contents_of lines) other)))
    (cases_Bool (is_told line.bytes)))
    (cases_Bool (is_key_line line.bytes))

told_values : (name text : List ℕ) → OthersLack name
    → non_empty_values name (lines_at text (told_places (spans_of text))) ≡ non_empty_values name (header_of (lines_of text))
told_values name text lack =
    ap non_empty (values_at name text 0 (spans_of text) lack (spans_rise text)
    ∙ ap (λ lines. values_of name (header_of lines)) (spans_have_lines text))

-- the titles, and the rhythms
pub told_titles : (text : List ℕ)
    → non_empty_values (codes "T:") (lines_at text (told_places (spans_of text))) ≡ non_empty_values (codes "T:") (header_of (lines_of text))
told_titles text =
    told_values (codes "T:") text (λ line none. (or_parts (begins_with line (codes "T:")) (begins_with line (codes "R:")) none).0)

pub told_rhythms : (text : List ℕ)
    → non_empty_values (codes "R:") (lines_at text (told_places (spans_of text))) ≡ non_empty_values (codes "R:") (header_of (lines_of text))
told_rhythms text =
    told_values (codes "R:") text (λ line none. (or_parts (begins_with line (codes "T:")) (begins_with line (codes "R:")) none).1)

-- THE KEY
-- the line that gives it stands in the text
pub record IsKeyAt (text : List ℕ) (place : LinePlace) : Type 0 where
  pub ordered : place.from ≤ place.to
  pub within : place.to ≤ length text
  pub value : field_value (slice_range text place.from place.to) ≡ key_text_of text

record IsKeyAmong (text : List ℕ) (lines : List Span) (place : LinePlace) : Type 0 where
  ordered : place.from ≤ place.to
  within : place.to ≤ length text
  value : field_value (slice_range text place.from place.to) ≡ first_key (contents_of lines)

same_place : (a b : LinePlace) → Some a ≡ Some b → a ≡ b
same_place a b same = cc

key_among : (text : List ℕ) (low : ℕ) (lines : List Span) (place : LinePlace) → SpansRise text low lines → told_key lines ≡ Some place
    → IsKeyAmong text lines place
key_among text low [] place rise found = cc
key_among text low (line ∷ lines) place rise found = ⊎_elim
    (λ is. subst (IsKeyAmong text (line ∷ lines)) (same_place (place_of line) place (rw is at found)) record {
      ordered = rise.0.ordered;
      within = rise.0.within;
      value = ap field_value rise.0.part ∙ sym (key_here line.bytes (contents_of lines) is);
    })
    (λ other.
    let later = key_among text (line.to + 1) lines place rise.1 (rw other at found) in
    record {
      ordered = later.ordered;
      within = later.within;
      value = later.value ∙ sym (key_later line.bytes (contents_of lines) other);
    })
    (cases_Bool (is_key_line line.bytes))

pub key_at : (text : List ℕ) (place : LinePlace) → told_key (spans_of text) ≡ Some place → IsKeyAt text place
key_at text place found =
    let among = key_among text 0 (spans_of text) place (spans_rise text) found in
    record { ordered = among.ordered; within = among.within; value = among.value ∙ ap first_key (spans_have_lines text) }

-- in a text without a percent sign each part is one
pub part_percents : (text : List ℕ) (from to : ℕ) → has_percent text ≡ false → has_percent (slice_range text from to) ≡ false
part_percents text from to none =
    percents_front (take (to - from) (drop from text)) (drop (to - from) (drop from text))
    (ap has_percent (take-append-drop (to - from) (drop from text)) ∙ percents_left from text none)
