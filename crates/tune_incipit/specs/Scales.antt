-- In which scale a tune stands, and which tunes a scale finds (own profile).
use Rattle.std.specs.Prelude.{ℕ, List, Bool, false, Option}
use Rattle.std.specs.Option.{option_map_or}
use Rattle.abc_fields.specs.Fields.{key_text_of}
use Rattle.abc_keys.specs.declared.scales.Scale.{Scale}
use Rattle.abc_keys.specs.Keys.{scale_of}
use Rattle.abc_keys.specs.SameScales.{same_scale}
use Rattle.abc_notes.specs.SaidKeys.{key_said}

-- the scale that a key text says, where it says one
abbrev pub scale_of_text : List ℕ → Option Scale
scale_of_text text = scale_of (key_said text)

-- whether a scale is one that may be missing
abbrev pub is_scale : Scale → Option Scale → Bool
is_scale scale found = option_map_or (same_scale scale) found false

-- whether the tune of this text is in the scale
abbrev pub finds_scale : Scale → List ℕ → Bool
finds_scale scale text = is_scale scale (scale_of_text (key_text_of text))
