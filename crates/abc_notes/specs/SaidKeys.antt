-- The key that a text says (ABC 2.1, 3.1.14).
use Rattle.std.specs.Prelude.{ℕ, List}
use Rattle.abc_keys.specs.declared.keys.Key.{Key}
use Rattle.abc_keys.specs.KeyCases.{IsKeyText}
use Rattle.abc_keys.proofs.KeyCaseLaw.{said_key}

-- the key of its case: each text says one key (`IsKeyText`, clause `is_key` of `key_of`), and no
-- text says two (clause `no_other_key`)
abbrev pub key_said : List ℕ → Key
key_said text = let it : (said : Key) × IsKeyText text said = said_key text in it.0
