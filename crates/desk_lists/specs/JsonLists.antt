-- Lists in JSON: the tokens of each row.
use Rattle.std.specs.Prelude.{ℕ, ◌+◌, List, [], ◌∷◌, ◌++◌, codes, Option, None, Some}
use Rattle.std.specs.Fmt.{decimal}
use Rattle.json.specs.Print.{print}
use Rattle.json.specs.Token.{Token, begin_array, end_array, begin_object, end_object, key, string}
use Rattle.json.specs.Token.{number, null}
use Rattle.tune_sets.specs.declared.set_rows.SetRow.{SetRow}
use Rattle.tune_store.specs.declared.index_rows.IndexRow.{IndexRow}
use Rattle.desk_lists.specs.ShownTexts.{text_bytes}

-- an array of these, and a line feed
abbrev pub array_bytes : List Token → List ℕ
array_bytes items = print (begin_array ∷ (items ++ end_array ∷ [])) ++ codes "\n"

-- TUNES
-- a title as text, or null
abbrev pub title_token : Option (List ℕ) → Token
title_token None = null
title_token (Some title) = string (text_bytes title)

abbrev pub title_members : Option (List ℕ) → List Token
title_members title = key (codes "title") ∷ title_token title ∷ []

abbrev pub tune_members : IndexRow → List Token
tune_members row = key (codes "number") ∷ number (decimal row.number) ∷ title_members row.title

abbrev pub tune_object : IndexRow → List Token
tune_object row = begin_object ∷ (tune_members row ++ end_object ∷ [])

abbrev pub tune_objects : List IndexRow → List Token
tune_objects [] = []
tune_objects (row ∷ rows) = tune_object row ++ tune_objects rows

-- the same with the place of each first, from this one on
abbrev pub place_object : ℕ → IndexRow → List Token
place_object place row =
    begin_object ∷ key (codes "place") ∷ number (decimal place) ∷
    (tune_members row ++ end_object ∷ [])

abbrev pub place_objects : ℕ → List IndexRow → List Token
place_objects place [] = []
place_objects place (row ∷ rows) = place_object place row ++ place_objects (place + 1) rows

-- SET LISTS
-- a member whose value is the text of these bytes
abbrev pub text_members : List ℕ → List ℕ → List Token
text_members name bytes = key name ∷ string (text_bytes bytes) ∷ []

abbrev pub set_object : SetRow → List Token
set_object row =
    begin_object ∷ (text_members (codes "name") row.name
    ++ (key (codes "places") ∷ number (decimal row.places) ∷ end_object ∷ []))

abbrev pub set_objects : List SetRow → List Token
set_objects [] = []
set_objects (row ∷ rows) = set_object row ++ set_objects rows
