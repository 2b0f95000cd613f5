-- The keys of scales and of incipits rise, and an incipit that begins with steps has a key in their range.
use Rattle.std.proofs.Common.{◌≡◌, ℕ, ◌<◌, ℤ, List, [], ◌∷◌, true, Option, None, Some, refl, length}
use Rattle.std.specs.Ordering.{int_eq}
use Rattle.std.proofs.lemmas.Bool.Decides.{Decides-int_eq}
use Rattle.abc_fields.specs.Fields.{key_text_of}
use Rattle.abc_keys.specs.declared.scales.Scale.{Scale}
use Rattle.index_keys.specs.Cuts.{cut_number}
use Rattle.index_keys.specs.KeyLists.{KeysRise, HasKeyWithin}
use Rattle.index_keys.proofs.FoundKeys.{one_rises, begun_list_found}
use Rattle.tune_incipit.specs.Incipits.{begins_steps}
use Rattle.tune_incipit.specs.Scales.{scale_of_text}
use Rattle.tune_incipit.specs.ScaleAndIncipitKeys.{scale_key, scale_keys, scale_keys_of, step_bytes}
use Rattle.tune_incipit.specs.ScaleAndIncipitKeys.{bytes_of_steps, incipit_keys_of}

scale_rises : (own : Option Scale) → KeysRise 0 (scale_keys_of own)
scale_rises None = tt
scale_rises (Some own) = one_rises (scale_key own)

pub scales_rise : (text : List ℕ) → KeysRise 0 (scale_keys text)
scales_rise text = scale_rises (scale_of_text (key_text_of text))

pub incipit_rises : (width : ℕ) (own : List ℤ) → KeysRise 0 (incipit_keys_of width own)
incipit_rises width [] = tt
incipit_rises width (step ∷ steps) = one_rises (cut_number width 0 (bytes_of_steps (step ∷ steps)))

pub incipit_found : (width : ℕ) (own front : List ℤ) → 0 < length front → begins_steps own front ≡ true
    → HasKeyWithin (incipit_keys_of width own) (cut_number width 0 (bytes_of_steps front)) (cut_number width 255 (bytes_of_steps front))
incipit_found width own front some is =
    begun_list_found int_eq Decides-int_eq step_bytes width (incipit_keys_of width) (λ step steps. refl) own front some is
