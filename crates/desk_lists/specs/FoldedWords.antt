-- Where words stand in a text.
use Rattle.std.specs.Prelude.{◌≡◌, ℕ, List, [], ◌∷◌, ◌++◌, map, Bool, true, ◌&&◌, ◌||◌}
use Rattle.std.specs.Prelude.{nat_eq, string_bytes}
use Rattle.std.specs.List.{starts_with}
use Rattle.std.specs.Prelude.{String}
use Rattle.desk_lists.specs.Folding.{folded_bytes}

-- the text begins with the word
abbrev pub begins_with_word : List ℕ → List ℕ → Bool
begins_with_word word text = starts_with nat_eq text word

-- the word stands somewhere in the text
abbrev pub stands_in : List ℕ → List ℕ → Bool
stands_in word [] = begins_with_word word []
stands_in word (byte ∷ text) = begins_with_word word (byte ∷ text) || stands_in word text

-- each of the words stands somewhere in the text
abbrev pub all_stand_in : List (List ℕ) → List ℕ → Bool
all_stand_in [] text = true
all_stand_in (word ∷ words) text = stands_in word text && all_stand_in words text

-- the text begins with each of the words
abbrev pub all_begin : List (List ℕ) → List ℕ → Bool
all_begin [] text = true
all_begin (word ∷ words) text = begins_with_word word text && all_begin words text

-- each of the words, folded
abbrev pub folded_words : {A : Type 0} → List (String A) → List (List ℕ)
folded_words words = map (λ word. folded_bytes (string_bytes word)) words

-- THE SAME IN A READER'S WORDS
abbrev pub BeginsWithWord : List ℕ → List ℕ → Type 0
BeginsWithWord word text = (rest : List ℕ) × (text ≡ word ++ rest)

abbrev pub StandsIn : List ℕ → List ℕ → Type 0
StandsIn word text = (front : List ℕ) × (rest : List ℕ) × (text ≡ front ++ (word ++ rest))
