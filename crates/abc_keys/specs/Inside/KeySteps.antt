-- The key of a text as the code reads it, step by step.
use Rattle.std.specs.Prelude.{ℕ, ◌||◌, not, if◌then◌else◌, Bool, List, [], ◌∷◌}
use Rattle.std.specs.Prelude.{codes, nat_eq, Option, Some, None, drop}
use Rattle.std.specs.List.{prefix_len, take_while}
use Rattle.std.specs.Cmp.Lexicographic.{pointwise}
use Rattle.std.specs.Option.{option_map_or}
use Rattle.std.specs.Char.{is_ascii_alphabetic}
use Rattle.abc_fields.specs.Bytes.{is_blank, is_one_of, begins}
use Rattle.abc_fields.specs.Words.{trimmed}
use Rattle.abc_keys.specs.declared.letters.Letter.{Letter}
use Rattle.abc_keys.specs.declared.letters.Accidental.TheVariants as accidental
use Rattle.abc_keys.specs.declared.signatures.Signature.{Signature}
use Rattle.abc_keys.specs.declared.scales.Sign.{Sign}
use Rattle.abc_keys.specs.declared.scales.Sign.TheVariants.{Natural, Sharp, Flat}
use Rattle.abc_keys.specs.declared.scales.Mode.TheVariants.{Major}
use Rattle.abc_keys.specs.declared.scales.Scale.{Scale}
use Rattle.abc_keys.specs.declared.mode_words.ModeWord.{ModeWord}
use Rattle.abc_keys.specs.declared.mode_words.ModeWord.TheVariants.{Mode, Explicit}
use Rattle.abc_keys.specs.declared.keys.Key.{Key}
use Rattle.abc_keys.specs.declared.keys.Key.TheVariants as key
use Rattle.abc_keys.specs.Letters.{letter_of}
use Rattle.abc_keys.specs.Signatures.{no_accidentals, of_count}
use Rattle.abc_keys.specs.Fifths.{listed_count}
use Rattle.abc_keys.specs.KeyCases.{may_follow_tonic}
use Rattle.abc_keys.specs.Accidentals.{with_words}
use Rattle.abc_keys.specs.Inside.ModeWords.{is_word, mode_of}

-- PARTS OF A TEXT
-- a byte that is not blank
abbrev pub is_ink : ℕ → Bool
is_ink byte = not (is_blank byte)

-- what follows the longest front whose bytes pass
abbrev pub past : (ℕ → Bool) → List ℕ → List ℕ
past test text = drop (prefix_len test text) text

-- THE FIRST WORD: THE BAGPIPES
-- `HP` has no signature, `Hp` has F and C sharp
abbrev pub pipes_signature : List ℕ → Option Signature
pipes_signature word =
    if pointwise nat_eq word (codes "HP") then Some no_accidentals
    else if pointwise nat_eq word (codes "Hp")
    then Some (record no_accidentals { c = accidental.Sharp; f = accidental.Sharp })
    else None

-- TONIC AND MODE
-- a scale that is listed has its signature, and then the words after it set accidentals; another
-- scale is no key
abbrev pub key_of_scale : Scale → List ℕ → Key
key_of_scale scale after = option_map_or
    (λ count. key.Modal scale (with_words (of_count count) after)) (listed_count scale) key.Unread

-- a mode, or `exp`, which has no signature of its own
abbrev pub key_of_mode : Letter → Sign → ModeWord → List ℕ → Key
key_of_mode tonic sign (Mode mode) after =
    key_of_scale (record { tonic = tonic; sign = sign; mode = mode }) after
key_of_mode tonic sign Explicit after = key.Explicit (with_words no_accidentals after)

-- The mode word is the longest run of letters after spaces and tabs. No word is major. A word
-- directly before `=` is no mode. Where the word is no mode, a space or tab before it makes the
-- mode major, and the word is one of those that may set accidentals.
abbrev pub key_after_tonic : Letter → Sign → List ℕ → Key
key_after_tonic tonic sign text =
    let word_on = past is_blank text in
    let word = take_while is_ascii_alphabetic word_on in
    let after = past is_ascii_alphabetic word_on in
    let major = key_of_scale (record { tonic = tonic; sign = sign; mode = Major }) text in
    if pointwise nat_eq word [] then major
    else option_map_or (λ mode. key_of_mode tonic sign mode after)
    (if begins (is_one_of (codes "=")) after then None else mode_of word)
    (if begins is_blank text then major else key.Unread)

-- a tonic and its sign, before what may follow them, or no key
abbrev pub key_after_sign : Letter → Sign → List ℕ → Key
key_after_sign tonic sign text =
    if may_follow_tonic text then key_after_tonic tonic sign text else key.Unread

-- an optional `#` or `b`
abbrev pub key_after_letter : Letter → List ℕ → Key
key_after_letter tonic [] = key_after_sign tonic Natural []
key_after_letter tonic (byte ∷ text) =
    if is_one_of (codes "#") byte then key_after_sign tonic Sharp text
    else if is_one_of (codes "b") byte then key_after_sign tonic Flat text
    else key_after_sign tonic Natural (byte ∷ text)

-- the letter that a capital names
abbrev pub capital_letter : ℕ → Option Letter
capital_letter byte = if is_one_of (codes "ABCDEFG") byte then letter_of byte else None

-- a tonic from `A` to `G`, or no key
abbrev pub key_with_tonic : List ℕ → Key
key_with_tonic [] = key.Unread
key_with_tonic (byte ∷ text) =
    option_map_or (λ tonic. key_after_letter tonic text) (capital_letter byte) key.Unread

-- THE WHOLE TEXT
-- nothing, or the first word is `none` in any capitals
abbrev pub is_none : List ℕ → Bool
is_none word = pointwise nat_eq word [] || is_word word (codes "none")

-- the key that a text says which has no spaces and tabs at its ends
abbrev pub key_of_trimmed : List ℕ → Key
key_of_trimmed text =
    let first = take_while is_ink text in
    if is_none first then key.Bare (with_words no_accidentals (past is_ink text))
    else option_map_or (λ s. key.Highland s) (pipes_signature first) (key_with_tonic text)

-- the key that is read from a text
abbrev pub key_read : List ℕ → Key
key_read text = key_of_trimmed (trimmed text)
