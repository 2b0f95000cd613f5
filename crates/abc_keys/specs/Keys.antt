-- The key that a text says (ABC 2.1, 3.1.14), its scale and its signature.
use Rattle.std.specs.Prelude.{◌≡◌, ℕ, true, List, ◌++◌, Option, Some, None}
use Rattle.abc_fields.specs.Bytes.{is_all_blank}
use Rattle.abc_keys.specs.declared.signatures.Signature.{Signature}
use Rattle.abc_keys.specs.declared.scales.Scale.{Scale}
use Rattle.abc_keys.specs.declared.keys.Key.{Key}
use Rattle.abc_keys.specs.declared.keys.Key.TheVariants as key
use Rattle.abc_keys.specs.Signatures.{no_accidentals}
use Rattle.abc_keys.specs.Inside.KeySteps.{key_read}

-- the key that is read from a text: by its cases (`IsKeyText`) the text says this one and no other
unfoldable pub key_of_text : List ℕ → Key
key_of_text text = key_read text

-- its scale, where it has one
abbrev pub scale_of : Key → Option Scale
scale_of (key.Modal scale s) = Some scale
scale_of _ = None

-- its signature
abbrev pub signature_of : Key → Signature
signature_of (key.Modal scale s) = s
signature_of (key.Explicit s) = s
signature_of (key.Bare s) = s
signature_of (key.Highland s) = s
signature_of key.Unread = no_accidentals

-- spaces and tabs at the ends of a text say nothing
abbrev pub SkipsBlanks : List ℕ → Type 0
SkipsBlanks text = (front back : List ℕ) → is_all_blank front ≡ true → is_all_blank back ≡ true
    → key_of_text (front ++ (text ++ back)) ≡ key_of_text text
