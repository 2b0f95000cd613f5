-- The signature of a key whose text may not have been read.
use Rattle.abc_keys.specs.declared.signatures.Signature.{Signature}
use Rattle.abc_keys.specs.Keys.{signature_of}
use Rattle.abc_notes.specs.SaidKeys.{key_said}
use Rattle.abc_notes.specs.declared.key_signatures.Said.{Said}
use Rattle.abc_notes.specs.declared.key_signatures.Said.TheVariants.{Text, Read}

abbrev pub signature_said : Said → Signature
signature_said (Text text) = signature_of (key_said text.now)
signature_said (Read signature) = signature
