-- The keys by which the titles and the rhythm of a tune are found in an index (own profile).
use Rattle.std.specs.Prelude.{ℕ, List, [], ◌∷◌, map, Option, None, Some}
use Rattle.abc_fields.specs.Fields.{titles_of, rhythm_of}
use Rattle.index_keys.specs.Cuts.{cut_number}
use Rattle.index_keys.specs.KeyLists.{rising_keys}
use Rattle.tune_titles.specs.Articles.{small_letters}
use Rattle.tune_titles.specs.Titles.{sorting_title}

-- TITLES: the first 32 bytes of each sorting title; what is shorter is filled up with zeros
abbrev pub title_keys_of : List (List ℕ) → List ℕ
title_keys_of titles = rising_keys (map (λ title. cut_number 32 0 (sorting_title title)) titles)

abbrev pub title_keys : List ℕ → List ℕ
title_keys text = title_keys_of (titles_of text)

-- RHYTHMS: the first 32 bytes of the rhythm in small letters, where there is one
abbrev pub rhythm_keys_of : Option (List ℕ) → List ℕ
rhythm_keys_of None = []
rhythm_keys_of (Some rhythm) = cut_number 32 0 (small_letters rhythm) ∷ []

abbrev pub rhythm_keys : List ℕ → List ℕ
rhythm_keys text = rhythm_keys_of (rhythm_of text)
