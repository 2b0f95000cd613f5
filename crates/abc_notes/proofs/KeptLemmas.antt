-- A reader of notes keeps its bar, event by event.
use Rattle.std.specs.Prelude.{◌||◌}
use Rattle.std.proofs.Common.{Bool, true, false, cond, ◌≡◌, ◌+◌, ◌≤◌, List, [], ◌∷◌, length, drop, ap, sym, ◌∙◌, arith, subst}
use Rattle.abc_fields.specs.Limits.{longest_book}
use Rattle.abc_keys.specs.declared.signatures.Signature.{Signature}
use Rattle.abc_notes.specs.declared.bar.Bar.{Bar}
use Rattle.abc_notes.specs.Events.{WrittenNote, Event, note, bar, change}
use Rattle.abc_notes.specs.Inside.KeptBar.{past_of, notes_left, asked_notes, IsKeptBar}
use Rattle.abc_notes.specs.Pitches.{SoundedNote, accidental_of_note, sounded, sounded_notes, counting}
use Rattle.abc_notes.specs.Inside.BarTables.{IsBarAfter}
use Rattle.abc_notes.proofs.BarLemmas.{drop_one, past_one, past_none}
use Rattle.abc_notes.proofs.PastLemmas.{notes_bar, notes_end}

module _ (old new : Bar) (bar_events events rest : List Event) (e : Event) (kept : IsKeptBar old bar_events events) (is : events ≡ e ∷ rest)
    (after : IsBarAfter (e ∷ past_of old.since bar_events) new) where
  one_more : new.since ≡ old.since + 1
  one_more = omega (arith, after.count, kept.after.count)

  pub past_on : past_of new.since bar_events ≡ e ∷ past_of old.since bar_events
  past_on = ap (λ n. past_of n bar_events) one_more ∙ past_one old.since bar_events e rest (kept.follows ∙ is)

  pub kept_on : IsKeptBar new bar_events rest
  kept_on = record {
    follows = ap (λ n. drop n bar_events) one_more ∙ drop_one old.since bar_events e rest (kept.follows ∙ is);
    after = subst (λ (past : List Event). IsBarAfter past new) (sym past_on) after;
    few = let long : length events ≡ length rest + 1 = omega (arith, ap length is) in omega (arith, kept.few, one_more);
  }

-- a note
pub notes_note : (old new : Bar) (bar_events events rest : List Event) (n : WrittenNote) → IsKeptBar old bar_events events → events ≡ note n ∷ rest
    → IsBarAfter (note n ∷ past_of old.since bar_events) new → new.start ≡ old.start
    → notes_left old bar_events events ≡ sounded n (accidental_of_note old.start (past_of old.since bar_events) n) ∷ notes_left new bar_events rest
unfolding sounded_notes
notes_note old new bar_events events rest n kept is after start =
    ap (sounded_notes old.start (past_of old.since bar_events)) is
    ∙ (λ i. sounded n (accidental_of_note old.start (past_of old.since bar_events) n)
    ∷ sounded_notes (sym start i) (sym (past_on old new bar_events events rest (note n) kept is after) i) rest)

-- a change of key
pub notes_change : (old new : Bar) (bar_events events rest : List Event) (s : Signature) → IsKeptBar old bar_events events → events ≡ change s ∷ rest
    → IsBarAfter (change s ∷ past_of old.since bar_events) new → new.start ≡ old.start
    → notes_left old bar_events events ≡ notes_left new bar_events rest
unfolding sounded_notes
notes_change old new bar_events events rest s kept is after start =
    ap (sounded_notes old.start (past_of old.since bar_events)) is
    ∙ (λ i. sounded_notes (sym start i) (sym (past_on old new bar_events events rest (change s) kept is after) i) rest)

-- a bar line, after which the same reader serves
pub notes_over_bar : (old new : Bar) (bar_events events rest : List Event) → IsKeptBar old bar_events events → events ≡ bar ∷ rest
    → IsBarAfter (bar ∷ past_of old.since bar_events) new → new.start ≡ old.start
    → notes_left old bar_events events ≡ notes_left new bar_events rest
unfolding sounded_notes
notes_over_bar old new bar_events events rest kept is after start =
    ap (sounded_notes old.start (past_of old.since bar_events)) is
    ∙ (λ i. sounded_notes (sym start i) (sym (past_on old new bar_events events rest bar kept is after) i) rest)

-- a note that is not asked for is left out
pub not_asked : (n : SoundedNote) (notes left : List SoundedNote) (all : Bool) → all ≡ false → n.counts ≡ false → notes ≡ n ∷ left
    → asked_notes all notes ≡ asked_notes all left
not_asked n notes left true some other is = absurd (cc)
not_asked n notes left false some other is =
    ap counting is ∙ (λ i. cond (other i) (n ∷ counting left) (counting left))

-- one that is asked for is the first
pub is_asked : (n : SoundedNote) (notes left : List SoundedNote) (all : Bool) → (all || n.counts) ≡ true → notes ≡ n ∷ left
    → asked_notes all notes ≡ n ∷ asked_notes all left
is_asked n notes left true wanted is = is
is_asked n notes left false wanted is = ap counting is ∙ (λ i. cond (wanted i) (n ∷ counting left) (counting left))

-- a bar that begins
pub kept_new : (new : Bar) (events : List Event) → IsBarAfter [] new → length events ≤ longest_book → IsKeptBar new events events
kept_new new events after few =
    let none : new.since ≡ 0 = after.count in
    record {
      follows = ap (λ n. drop n events) none;
      after = subst (λ (past : List Event). IsBarAfter past new) (sym (past_none new.since events none)) after;
      few = omega arith;
    }

pub notes_new : (new : Bar) (events : List Event) (start : Signature) → IsBarAfter [] new → new.start ≡ start
    → notes_left new events events ≡ sounded_notes start [] events
notes_new new events start after is = (λ i. sounded_notes (is i) (past_none new.since events after.count i) events)

pub notes_at_bar : (old new : Bar) (bar_events events rest : List Event) → IsKeptBar old bar_events events → events ≡ bar ∷ rest → IsBarAfter [] new
    → new.start ≡ old.signature
    → notes_left old bar_events events ≡ notes_left new rest rest
notes_at_bar old new bar_events events rest kept is after start =
    ap (sounded_notes old.start (past_of old.since bar_events)) is
    ∙ notes_bar old.start (past_of old.since bar_events) rest
    ∙ ap (λ s. sounded_notes s [] rest) (sym kept.after.current)
    ∙ sym (notes_new new rest old.signature after start)

-- no more events
pub notes_none : (b : Bar) (bar_events events : List Event) → events ≡ [] → notes_left b bar_events events ≡ []
notes_none b bar_events events none = notes_end b.start (past_of b.since bar_events) events none
