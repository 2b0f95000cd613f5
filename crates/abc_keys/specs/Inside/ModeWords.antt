-- The words of a key text that name a mode (ABC 2.1, 3.1.14).
use Rattle.std.specs.Prelude.{ℕ, ◌||◌, nat_eq, if◌then◌else◌, Bool, List, codes, map, take, Option}
use Rattle.std.specs.Prelude.{Some, None}
use Rattle.std.specs.Cmp.Lexicographic.{pointwise}
use Rattle.std.specs.Char.{to_ascii_lowercase}
use Rattle.abc_keys.specs.declared.scales.Mode.TheVariants.{Major, Lydian, Mixolydian, Dorian}
use Rattle.abc_keys.specs.declared.scales.Mode.TheVariants.{Minor, Phrygian, Locrian}
use Rattle.abc_keys.specs.declared.mode_words.ModeWord.{ModeWord}
use Rattle.abc_keys.specs.declared.mode_words.ModeWord.TheVariants.{Mode, Explicit}

-- the same letters, in any capitals
abbrev pub is_word : List ℕ → List ℕ → Bool
is_word word name = pointwise nat_eq (map to_ascii_lowercase word) (map to_ascii_lowercase name)

-- the mode that three letters name, or that each accidental is written out
abbrev pub mode_of_three : List ℕ → Option ModeWord
mode_of_three three =
    if is_word three (codes "maj") || is_word three (codes "ion") then Some (Mode Major)
    else if is_word three (codes "min") || is_word three (codes "aeo") then Some (Mode Minor)
    else if is_word three (codes "mix") then Some (Mode Mixolydian)
    else if is_word three (codes "dor") then Some (Mode Dorian)
    else if is_word three (codes "phr") then Some (Mode Phrygian)
    else if is_word three (codes "lyd") then Some (Mode Lydian)
    else if is_word three (codes "loc") then Some (Mode Locrian)
    else if is_word three (codes "exp") then Some Explicit
    else None

-- by `m` alone, or by the first three letters of a word
abbrev pub mode_of : List ℕ → Option ModeWord
mode_of word = if is_word word (codes "m") then Some (Mode Minor) else mode_of_three (take 3 word)
