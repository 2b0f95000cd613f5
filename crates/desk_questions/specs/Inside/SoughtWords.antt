-- What the code makes of a condition.
use Rattle.std.specs.Prelude.{◌≡◌, ◌⊎◌, ◌<◌, ◌≤◌, ℕ, List, [], ◌∷◌, length, Bool, true, false}
use Rattle.std.specs.Prelude.{Result, MatchResult, string_bytes}
use Rattle.std.specs.List.{list_any}
use Rattle.tune_queries.specs.Limits.{longest_query}
use Rattle.tune_queries.specs.declared.queries.Query.{Query}
use Rattle.tune_titles.specs.Titles.{sorting_title}
use Rattle.tune_store.specs.declared.command.Refusal.{Refusal}
use Rattle.tune_store.specs.declared.command.Refusal.TheVariants.{OutOfMemory, BadQuery}
use Rattle.desk_lists.specs.Folding.{folded_title}
use Rattle.desk_lists.specs.FoldedWords.{folded_words}
use Rattle.desk_questions.specs.Conditions.{is_query_too_long}
use Rattle.desk_terms.specs.declared.condition.Condition.{Condition}
use Rattle.desk_terms.specs.declared.condition.Condition.TheVariants.{Title, Within}

-- whether titles are looked at, beside the queries
abbrev pub looks_at_titles : Condition → Bool
looks_at_titles (Title words) = true
looks_at_titles (Within words) = true
looks_at_titles condition = false

-- the words that are looked for, folded
abbrev pub words_sought : Condition → List (List ℕ)
words_sought (Title words) = folded_title (sorting_title (string_bytes words)) ∷ []
words_sought (Within words) = folded_words words.items
words_sought condition = []

-- the bytes as the text of a query, or out of memory, or too many
abbrev pub MakesText : List ℕ → Result (List ℕ) Refusal → Type 0
MakesText bytes result = MatchResult result
    (λ text. (text ≡ bytes) × (length bytes ≤ longest_query))
    (λ refusal. (refusal ≡ OutOfMemory) ⊎ ((refusal ≡ BadQuery) × (longest_query < length bytes)))

-- the query, or out of memory, or too long
abbrev pub MakesQuery : Query → Result Query Refusal → Type 0
MakesQuery query result = MatchResult result
    (λ made. (made ≡ query) × (is_query_too_long query ≡ false))
    (λ refusal. (refusal ≡ OutOfMemory) ⊎ ((refusal ≡ BadQuery) × (is_query_too_long query ≡ true)))

-- the queries are made
abbrev pub AreMade : List Query → List Query → Type 0
AreMade queries made = (made ≡ queries) × (list_any is_query_too_long queries ≡ false)

-- they are not made: out of memory, or one is too long
abbrev pub AreNotMade : List Query → Refusal → Type 0
AreNotMade queries refusal = (refusal ≡ OutOfMemory)
    ⊎ ((refusal ≡ BadQuery) × (list_any is_query_too_long queries ≡ true))
