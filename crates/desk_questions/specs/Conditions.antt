-- Which tunes a condition gives, and which conditions ask for nothing.
use Rattle.std.specs.Prelude.{ℕ, List, [], ◌∷◌, ◌++◌, ◌||◌, codes, length, map, nat_lt, not}
use Rattle.std.specs.Prelude.{Bool, true, false, Some, None, string_bytes}
use Rattle.std.specs.List.{list_any, list_all}
use Rattle.abc_fields.specs.Fields.{titles_of, has_bytes}
use Rattle.tune_queries.specs.Limits.{longest_query}
use Rattle.tune_queries.specs.Queries.{matches, is_bad}
use Rattle.tune_queries.specs.declared.queries.Query.{Query}
use Rattle.tune_queries.specs.declared.queries.Query.TheVariants as query
use Rattle.tune_titles.specs.Titles.{index_title, sorting_title}
use Rattle.desk_lists.specs.Folding.{folded_title}
use Rattle.desk_lists.specs.FoldedWords.{begins_with_word, all_stand_in, folded_words}
use Rattle.desk_terms.specs.declared.condition.Condition.{Condition}
use Rattle.desk_terms.specs.declared.condition.Condition.TheVariants.{Title, Within, Rhythm}
use Rattle.desk_terms.specs.declared.condition.Condition.TheVariants.{Key, Notes}

-- THE STORE'S OWN QUERIES
-- the tonics of the fifteen signatures, from seven flats to seven sharps
abbrev pub signatures : List (List ℕ)
signatures =
    codes "Cb" ∷ codes "Gb" ∷ codes "Db" ∷ codes "Ab" ∷ codes "Eb" ∷ codes "Bb" ∷ codes "F"
    ∷ codes "C" ∷ codes "G" ∷ codes "D" ∷ codes "A" ∷ codes "E" ∷ codes "B" ∷ codes "F#"
    ∷ codes "C#" ∷ []

-- the query for notes as they are printed in a key
abbrev pub notes_query : List ℕ → List ℕ → Query
notes_query key notes = query.Notes (codes "[K:" ++ key ++ codes "]" ++ notes)

-- the queries of which one has to match
abbrev pub queries_of : Condition → List Query
queries_of (Title words) = query.Title (string_bytes words) ∷ []
queries_of (Within words) = []
queries_of (Rhythm rhythm) = query.Rhythm (string_bytes rhythm) ∷ []
queries_of (Key key) = query.Key (string_bytes key) ∷ []
queries_of (Notes notes None) = map (λ key. notes_query key (string_bytes notes)) signatures
queries_of (Notes notes (Some key)) = notes_query (string_bytes key) (string_bytes notes) ∷ []

-- BY TITLES, WITHOUT ACCENTS AND CAPITALS
-- a title, as an index shows it, that begins with the words without their article; one in which
-- each of the words stands
abbrev pub has_title : Condition → List ℕ → Bool
has_title (Title words) title =
    begins_with_word (folded_title (sorting_title (string_bytes words))) (folded_title title)
has_title (Within words) title = all_stand_in (folded_words words.items) (folded_title title)
has_title condition title = false

-- WHICH TUNES
-- whether a condition gives the tune of this text, by openings of so many notes
abbrev pub gives : ℕ → Condition → List ℕ → Bool
gives notes condition text = list_any (λ query. matches notes query text) (queries_of condition)
    || list_any (λ title. has_title condition (index_title title)) (titles_of text)

-- WHAT ASKS FOR NOTHING
-- the text of a query
abbrev pub query_text : Query → List ℕ
query_text (query.Title text) = text
query_text (query.Rhythm text) = text
query_text (query.Key text) = text
query_text (query.Notes text) = text

-- whether a query has more bytes than one may have
abbrev pub is_query_too_long : Query → Bool
is_query_too_long query = nat_lt longest_query (length (query_text query))

-- whether a condition is for words of which none has a byte
abbrev pub has_no_words : Condition → Bool
has_no_words (Within words) = list_all (λ word. not (has_bytes (string_bytes word))) words.items
has_no_words condition = false

-- whether a condition asks for nothing: it has no words, or a query that asks for nothing or is
-- too long
abbrev pub asks_nothing : Condition → Bool
asks_nothing condition =
    has_no_words condition
    || list_any (λ query. is_query_too_long query || is_bad query) (queries_of condition)
