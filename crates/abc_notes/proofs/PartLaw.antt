-- The events of a tune are those of its lines, each by the lines before it.
use Rattle.std.specs.Prelude.{◌&&◌, not}
use Rattle.std.specs.List.{AllByRecursion}
use Rattle.std.proofs.Common.{◌≡◌, ℕ, Bool, true, false, List, [], ◌∷◌, ◌++◌, refl, ap, sym, ◌∙◌, subst, append_assoc, inl, inr, eqb}
use Rattle.std.proofs.lemmas.Bool.{cases_Bool, eqb-true}
use Rattle.std.proofs.lemmas.List.{append-nil}
use Rattle.abc_fields.specs.Lines.{Span as Line}
use Rattle.abc_fields.specs.LineKinds.{begins_part, ends_part_line, in_part_after}
use Rattle.abc_fields.specs.Tunes.{is_key_line}
use Rattle.abc_notes.specs.Events.{Event}
use Rattle.abc_notes.specs.Music.{line_meaning, body_events, events_after_header}
use Rattle.abc_notes.specs.HeardLines.{LiesInPart, have_key, GivesEvents, AreGiven}

-- WHERE PARTS BEGIN AND END
-- no line both begins a part and ends one
left : (a b : Bool) → (a && b) ≡ true → a ≡ true
left true b h = refl
left false b h = cc

right : (a b : Bool) → (a && b) ≡ true → b ≡ true
right true b h = h
right false b h = cc

not_both : (byte : ℕ) → eqb 98 byte ≡ true → eqb 101 byte ≡ false
not_both byte is = let e : 98 ≡ byte = eqb-true 98 byte is in rw (← e) refl

both : (a b c d : Bool) → c ≡ false → (a && (b && (c && d))) ≡ false
both true true c d is = rw is refl
both true false c d is = refl
both false b c d is = refl

pub begin_ends_none : (line : List ℕ) → begins_part line ≡ true → ends_part_line line ≡ false
begin_ends_none [] begins = cc
begin_ends_none (a ∷ []) begins = let h : false ≡ true = right (eqb 37 a) false begins in cc
begin_ends_none (a ∷ b ∷ []) begins = let h : false ≡ true = right (eqb 37 b) false (right (eqb 37 a) _ begins) in cc
begin_ends_none (a ∷ b ∷ c ∷ rest) begins =
    both (eqb 37 a) (eqb 37 b) (eqb 101 c) _ (not_both c (left (eqb 98 c) _ (right (eqb 37 b) _ (right (eqb 37 a) _ begins))))

-- whether the line after these lies in a part, as a reader of lines keeps it
abbrev pub part_after : Bool → List Line → Bool
part_after inside [] = inside
part_after inside (line ∷ lines) = part_after (in_part_after inside line.bytes) lines

part_after-append : (inside : Bool) (lines more : List Line) → part_after inside (lines ++ more) ≡ part_after (part_after inside lines) more
part_after-append inside [] more = refl
part_after-append inside (line ∷ lines) more = part_after-append (in_part_after inside line.bytes) lines more

-- no line ends the part
stays_in : (lines : List Line) → AllByRecursion (λ line. ends_part_line line.bytes ≡ false) lines → part_after true lines ≡ true
stays_in [] none = refl
stays_in (line ∷ lines) none = ap (λ ends. part_after (not ends) lines) none.0 ∙ stays_in lines none.1

begun : (inside : Bool) (line : List ℕ) → begins_part line ≡ true → in_part_after inside line ≡ true
begun true line begins = ap not (begin_ends_none line begins)
begun false line begins = begins

pub inside_from : (before : List Line) → LiesInPart before → part_after false before ≡ true
inside_from before lies =
    ap (part_after false) (sym lies.whole)
    ∙ part_after-append false lies.earlier (lies.begin ∷ lies.between)
    ∙ ap (λ inside. part_after inside lies.between) (begun (part_after false lies.earlier) lies.begin.bytes lies.begins)
    ∙ stays_in lies.between lies.no_end

none-push : (lines : List Line) (line : Line) → AllByRecursion (λ line. ends_part_line line.bytes ≡ false) lines → ends_part_line line.bytes ≡ false
    → AllByRecursion (λ line. ends_part_line line.bytes ≡ false) (lines ++ line ∷ [])
none-push [] line none is = (is, tt)
none-push (first ∷ lines) line none is = (none.0, none-push lines line none.1 is)

not_false : (b : Bool) → not b ≡ true → b ≡ false
not_false true h = cc
not_false false h = refl

-- one line more
next_lies : (done : List Line) (line : Line) (inside : Bool) → (inside ≡ true → LiesInPart done) → in_part_after inside line.bytes ≡ true
    → LiesInPart (done ++ line ∷ [])
next_lies done line true lies is =
    let old = lies refl in
    record {
      earlier = old.earlier;
      begin = old.begin;
      between = old.between ++ line ∷ [];
      whole = sym (append_assoc old.earlier (old.begin ∷ old.between) (line ∷ [])) ∙ ap (λ lines. lines ++ line ∷ []) old.whole;
      begins = old.begins;
      no_end = none-push old.between line old.no_end (not_false _ is);
    }
next_lies done line false lies is = record { earlier = done; begin = line; between = []; whole = refl; begins = is; no_end = tt }

lies_on : (done lines : List Line) (inside : Bool) → (inside ≡ true → LiesInPart done) → part_after inside lines ≡ true → LiesInPart (done ++ lines)
lies_on done [] inside lies is = subst LiesInPart (sym (append-nil done)) (lies is)
lies_on done (line ∷ lines) inside lies is =
    subst LiesInPart (append_assoc done (line ∷ []) lines)
    (lies_on (done ++ line ∷ []) lines (in_part_after inside line.bytes) (next_lies done line inside lies) is)

pub lies_from : (before : List Line) → part_after false before ≡ true → LiesInPart before
lies_from before is = lies_on [] before false (λ e. absurd (cc)) is

-- THE KEY
key-push_some : (before : List Line) (line : Line) → have_key before ≡ true → have_key (before ++ line ∷ []) ≡ true
key-push_some [] line has = cc
key-push_some (first ∷ before) line has = elim (cases_Bool (is_key_line first.bytes)) [
  | inl key ↦ rw key refl
  | inr other ↦ let later = rw other at has in rw other (key-push_some before line later)
]

key-push : (before : List Line) (line : Line) (key : Bool) → have_key before ≡ false → is_key_line line.bytes ≡ key → have_key (before ++ line ∷ []) ≡ key
key-push [] line true none is = rw is refl
key-push [] line false none is = rw is refl
key-push (first ∷ before) line key none is = elim (cases_Bool (is_key_line first.bytes)) [
  | inl has ↦ let e = rw has at none in cc
  | inr other ↦ let later = rw other at none in rw other (key-push before line key later is)
]

-- EACH LINE
gives_body : (before : List Line) (line : Line) (inside : Bool) → have_key before ≡ true → part_after false before ≡ inside
    → GivesEvents before line (line_meaning inside line)
gives_body before line true has is = record {
  header = λ none. let e : true ≡ false = sym has ∙ none in cc;
  hidden = λ lies. refl;
  heard = λ has_key free. absurd (free (lies_from before is));
}
gives_body before line false has is = record {
  header = λ none. let e : true ≡ false = sym has ∙ none in cc;
  hidden = λ lies. let e : true ≡ false = sym (inside_from before lies) ∙ is in cc;
  heard = λ has_key free. refl;
}

gives_header : (before : List Line) (line : Line) → have_key before ≡ false → GivesEvents before line []
gives_header before line none = record {
  header = λ again. refl;
  hidden = λ lies. refl;
  heard = λ has free. let e : true ≡ false = sym has ∙ none in cc;
}

part-push : (before : List Line) (line : Line) (inside : Bool) → part_after false before ≡ inside
    → part_after false (before ++ line ∷ []) ≡ in_part_after inside line.bytes
part-push before line inside is = part_after-append false before (line ∷ []) ∙ ap (λ i. in_part_after i line.bytes) is

body_given : (before lines : List Line) (inside : Bool) → have_key before ≡ true → part_after false before ≡ inside
    → AreGiven before lines (body_events inside lines)
unfolding body_events
body_given before [] inside has is = refl
body_given before (line ∷ lines) inside has is = (
  line_meaning inside line,
  body_events (in_part_after inside line.bytes) lines,
  refl,
  gives_body before line inside has is,
  body_given (before ++ line ∷ []) lines (in_part_after inside line.bytes) (key-push_some before line has) (part-push before line inside is),
)

pub lines_given : (before lines : List Line) (inside : Bool) → have_key before ≡ false → part_after false before ≡ inside
    → AreGiven before lines (events_after_header inside lines)
unfolding events_after_header
lines_given before [] inside none is = refl
lines_given before (line ∷ lines) inside none is = elim (cases_Bool (is_key_line line.bytes)) [
  | inl key ↦ rw key (
    [],
    body_events (in_part_after inside line.bytes) lines,
    refl,
    gives_header before line none,
    body_given (before ++ line ∷ []) lines (in_part_after inside line.bytes) (key-push before line true none key) (part-push before line inside is),
  )
  | inr other ↦ rw other (
    [],
    events_after_header (in_part_after inside line.bytes) lines,
    refl,
    gives_header before line none,
    lines_given (before ++ line ∷ []) lines (in_part_after inside line.bytes) (key-push before line false none other) (part-push before line inside is),
  )
]

-- ONE LIST OF EVENTS
gives_same : (before : List Line) (line : Line) (events others : List Event) → GivesEvents before line events → GivesEvents before line others → events ≡ others
gives_same before line events others one other = elim (cases_Bool (have_key before)) [
  | inr none ↦ one.header none ∙ sym (other.header none)
  | inl has ↦ elim (cases_Bool (part_after false before)) [
    | inl is ↦ let lies = lies_from before is in one.hidden lies ∙ sym (other.hidden lies)
    | inr is ↦
        let free : LiesInPart before → ⊥ = λ lies. let e : true ≡ false = sym (inside_from before lies) ∙ is in cc in
        one.heard has free ∙ sym (other.heard has free)
  ]
]

pub given_same : (before lines : List Line) (events others : List Event) → AreGiven before lines events → AreGiven before lines others → events ≡ others
given_same before [] events others one other = one ∙ sym other
given_same before (line ∷ lines) events others one other =
    let own = gives_same before line one.0 other.0 one.3 other.3 in
    let later = given_same (before ++ line ∷ []) lines one.1 other.1 one.4 other.4 in
    sym one.2 ∙ (λ i. own i ++ later i) ∙ other.2
