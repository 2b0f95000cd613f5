-- What a past leaves in force, and how a bar ends it.
use Rattle.std.proofs.Common.{◌≡◌, ℕ, zero, suc, List, [], ◌∷◌, ◌++◌, refl, ap, sym, ◌∙◌, Bool, true, false, ℤ, pos, negsuc, Option, Some, None, subst, cond}
use Rattle.std.proofs.Common.{slice_index_or, replicate}
use Rattle.std.specs.Prelude.{unwrap_or, is_some, ◌&&◌}
use Rattle.std.proofs.lemmas.Bool.{eqb-true}
use Rattle.abc_keys.specs.declared.letters.Letter.{Letter}
use Rattle.abc_keys.specs.declared.letters.Accidental.{Accidental}
use Rattle.abc_keys.specs.declared.signatures.Signature.{Signature}
use Rattle.abc_keys.specs.Signatures.{accidental_at}
use Rattle.abc_notes.specs.Events.{WrittenNote, Event, note, bar, change}
use Rattle.abc_notes.specs.Pitches.{same_octave, same_note, is_at, borne, in_force, sounded, sounded_notes}
use Rattle.abc_notes.specs.Inside.BarTables.{IsNearOctave, held_in, HoldsBar}

-- BEHIND A BAR
-- nothing is borne behind a bar
borne_bar : (p past : List Event) (l : Letter) (o : ℤ) → borne (p ++ bar ∷ past) l o ≡ borne p l o
unfolding borne
borne_bar [] past l o = refl
borne_bar (note n ∷ p) past l o = ap (λ r. cond (is_at n l o && is_some n.own) n.own r) (borne_bar p past l o)
borne_bar (bar ∷ p) past l o = refl
borne_bar (change s ∷ p) past l o = borne_bar p past l o

-- the signature in force before a bar is the first one after it
force_bar : (s : Signature) (p past : List Event) → in_force s (p ++ bar ∷ past) ≡ in_force (in_force s past) p
unfolding in_force
force_bar s [] past = refl
force_bar s (note n ∷ p) past = force_bar s p past
force_bar s (bar ∷ p) past = force_bar s p past
force_bar s (change t ∷ p) past = refl

notes_bar_on : (s : Signature) (p past es : List Event) → sounded_notes s (p ++ bar ∷ past) es ≡ sounded_notes (in_force s past) p es
unfolding sounded_notes
notes_bar_on s p past [] = refl
notes_bar_on s p past (note n ∷ es) =
    (λ i. sounded n (unwrap_or n.own (unwrap_or (borne_bar p past n.letter n.octave i) (accidental_at (force_bar s p past i) n.letter))) ∷ notes_bar_on s
    (note n ∷ p) past es i)
notes_bar_on s p past (bar ∷ es) = notes_bar_on s (bar ∷ p) past es
notes_bar_on s p past (change t ∷ es) = notes_bar_on s (change t ∷ p) past es

-- after a bar the notes are read as from a beginning
pub notes_bar : (s : Signature) (past es : List Event) → sounded_notes s past (bar ∷ es) ≡ sounded_notes (in_force s past) [] es
unfolding sounded_notes
notes_bar s past es = notes_bar_on s [] past es

pub notes_end : (s : Signature) (past es : List Event) → es ≡ [] → sounded_notes s past es ≡ []
unfolding sounded_notes
notes_end s past [] e = refl
notes_end s past (x ∷ es) e = absurd (cc)

-- ENTRIES
pick : (s : Bool) (own : Option Accidental) (x : Accidental) (b : Option Accidental) → own ≡ Some x → cond s (Some x) b ≡ cond (s && is_some own) own b
pick true None x b e = absurd (cc)
pick true (Some y) x b e = sym e
pick false own x b e = refl

pass : (s : Bool) (own b : Option Accidental) → own ≡ None → b ≡ cond (s && is_some own) own b
pass true None b e = refl
pass true (Some y) b e = absurd (cc)
pass false own b e = refl

-- an entry that is set is borne by the note
pub holds_set : (n : WrittenNote) (x : Accidental) (past : List Event) (before after : List (Option Accidental)) → n.own ≡ Some x
    → ((l : Letter) (o : ℤ) → IsNearOctave o → held_in after l o ≡ cond (same_note n.letter n.octave l o) (Some x) (held_in before l o))
    → HoldsBar before past → HoldsBar after (note n ∷ past)
unfolding borne
holds_set n x past before after e set held l o near =
    set l o near ∙ ap (λ b. cond (is_at n l o) (Some x) b) (held l o near) ∙ pick (is_at n l o) n.own x (borne past l o) e

-- a note without an accidental bears nothing
pub borne_none : (n : WrittenNote) (past : List Event) (l : Letter) (o : ℤ) → n.own ≡ None → borne past l o ≡ borne (note n ∷ past) l o
unfolding borne
borne_none n past l o e = pass (is_at n l o) n.own (borne past l o) e

pub same_octave_is : (a b : ℤ) → same_octave a b ≡ true → a ≡ b
same_octave_is (pos a) (pos b) e = ap pos (eqb-true a b e)
same_octave_is (negsuc a) (negsuc b) e = ap negsuc (eqb-true a b e)
same_octave_is (pos a) (negsuc b) e = absurd (cc)
same_octave_is (negsuc a) (pos b) e = absurd (cc)

far_off : (a b : ℤ) (s : Bool) → (IsNearOctave a → ⊥) → IsNearOctave b → same_octave a b ≡ s → s ≡ false
far_off a b true far near e = absurd (far (subst (λ (o : ℤ). IsNearOctave o) (sym (same_octave_is a b e)) near))
far_off a b false far near e = refl

near_off : (a b : ℤ) (s : Bool) → IsNearOctave a → (IsNearOctave b → ⊥) → same_octave a b ≡ s → s ≡ false
near_off a b true near far e = absurd (far (subst (λ (o : ℤ). IsNearOctave o) (same_octave_is a b e) near))
near_off a b false near far e = refl

skip_apart : (l s t : Bool) (own b : Option Accidental) → s ≡ false → b ≡ cond ((l && s) && t) own b
skip_apart true s t own b e = rw e refl
skip_apart false s t own b e = refl

-- a note outside the entries bears nothing within them
pub borne_far : (n : WrittenNote) (past : List Event) (l : Letter) (o : ℤ) → (IsNearOctave n.octave → ⊥) → IsNearOctave o → borne past l o
    ≡ borne (note n ∷ past) l o
unfolding borne
borne_far n past l o far near =
    skip_apart _ (same_octave n.octave o) (is_some n.own) n.own (borne past l o) (far_off n.octave o (same_octave n.octave o) far near refl)

-- nor a note within them outside
pub borne_near : (n : WrittenNote) (past : List Event) (l : Letter) (o : ℤ) → IsNearOctave n.octave → (IsNearOctave o → ⊥) → borne past l o
    ≡ borne (note n ∷ past) l o
unfolding borne
borne_near n past l o near far =
    skip_apart _ (same_octave n.octave o) (is_some n.own) n.own (borne past l o) (near_off n.octave o (same_octave n.octave o) near far refl)

pub borne_change : (s : Signature) (past : List Event) (l : Letter) (o : ℤ) → borne past l o ≡ borne (change s ∷ past) l o
unfolding borne
borne_change s past l o = refl

pub borne_nothing : (l : Letter) (o : ℤ) → borne [] l o ≡ None
unfolding borne
borne_nothing l o = refl

-- an entry that nobody set
pub none_anywhere : {X : Type 0} (d : X) (n i : ℕ) → slice_index_or (replicate n d) i d ≡ d
none_anywhere d zero i = refl
none_anywhere d (suc n) zero = refl
none_anywhere d (suc n) (suc i) = none_anywhere d n i
