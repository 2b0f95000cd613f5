-- Keys of tunes, computed by the definitions, as they were written out by hand.
use Rattle.std.proofs.Common.{◌≡◌, List, ℕ, pos, negsuc, [], ◌∷◌, refl, codes}
use Rattle.abc_items.specs.Inside.ItemRows as Rows
use Rattle.abc_keys.specs.declared.letters.Letter.TheVariants as letter
use Rattle.abc_keys.specs.declared.scales.Mode.TheVariants as mode
use Rattle.abc_keys.specs.declared.scales.Sign.TheVariants as sign
use Rattle.abc_keys.specs.Keys as Keys
use Rattle.abc_keys.specs.Fifths as Fifths
use Rattle.abc_notes.specs.Music as Music
use Rattle.abc_notes.specs.Pitches as Pitches
use Rattle.index_keys.specs.Cuts.{cut_number}
use Rattle.tune_incipit.specs.Incipits as Incipits
use Rattle.tune_incipit.specs.ScaleAndIncipitKeys.{scale_key, scale_keys, incipit_keys, incipit_keys_of}

-- the steps of the Kesh Jig: each with 2 ^ 31 in four bytes, and four zeros
abbrev steps_key : ℕ
steps_key = cut_number 32 0 (128 ∷ 0 ∷ 0 ∷ 0 ∷ 128 ∷ 0 ∷ 0 ∷ 2 ∷ 128 ∷ 0 ∷ 0 ∷ 2 ∷ 127 ∷ 255 ∷ 255 ∷ 254
    ∷ 128 ∷ 0 ∷ 0 ∷ 0 ∷ 128 ∷ 0 ∷ 0 ∷ 2 ∷ 128 ∷ 0 ∷ 0 ∷ 3 ∷ 0 ∷ 0 ∷ 0 ∷ 0 ∷ [])

kesh_steps : incipit_keys_of 32 (pos 0 ∷ pos 2 ∷ pos 2 ∷ negsuc 1 ∷ pos 0 ∷ pos 2 ∷ pos 3 ∷ []) ≡ steps_key ∷ []
kesh_steps = refl

-- the Kesh Jig
abbrev kesh : List ℕ
kesh = codes "T:The Kesh Jig\nR:jig\nM:6/8\nK:G\nG3 GAB|A3 ABd|\n"

kesh_incipit : incipit_keys 8 kesh ≡ steps_key ∷ []
unfolding Keys.key_of_text Fifths.listed_count Incipits.incipit_of Incipits.differences Pitches.sounded_notes Music.events_after_header
    Music.body_events Music.line_events Music.item_events Rows.first_item Rows.enclosed Rows.inline_field Rows.chord Rows.tuplet Rows.note Music.plain_events
    Music.written Pitches.borne Pitches.in_force
kesh_incipit = refl

kesh_scale : scale_keys kesh ≡ cut_number 32 0 (codes "G 0") ∷ []
unfolding Keys.key_of_text Fifths.listed_count
kesh_scale = refl

-- a tune of one note has no step, and so no key
one_note : incipit_keys_of 32 [] ≡ []
one_note = refl

-- E Dorian is E, a space, and the digit 1
e_dorian : scale_key record { tonic = letter.E; sign = sign.Natural; mode = mode.Dorian } ≡ cut_number 32 0 (69 ∷ 32 ∷ 49 ∷ [])
e_dorian = refl

-- a key text that says no scale has no key
no_scale : scale_keys (codes "K:G#\n") ≡ []
unfolding Keys.key_of_text Fifths.listed_count
no_scale = refl
