-- Which tunes a query finds, and which queries ask for nothing (own profile).
use Rattle.std.specs.Prelude.{◌≡◌, ◌↔◌, ℕ, List, ◌++◌, Bool, true, false, not}
use Rattle.std.specs.Prelude.{Option, Some, None, count_by, nat_lt}
use Rattle.std.specs.List.{list_any, Contains}
use Rattle.std.specs.Option.{option_map_or}
use Rattle.abc_fields.specs.Bytes.{is_all_blank}
use Rattle.abc_fields.specs.Fields.{titles_of, rhythm_of, key_text_of, has_bytes}
use Rattle.abc_keys.specs.declared.scales.Scale.{Scale}
use Rattle.tune_incipit.specs.Incipits.{incipit_of, tune_notes, query_notes, begins_steps}
use Rattle.tune_incipit.specs.Incipits.{finds_steps}
use Rattle.tune_incipit.specs.Limits.{fewest_notes}
use Rattle.tune_incipit.specs.Scales.{scale_of_text, is_scale, finds_scale}
use Rattle.tune_titles.specs.Articles.{small_letters}
use Rattle.tune_titles.specs.Titles.{sorting_title, title_matches, same_rhythm}
use Rattle.tune_titles.specs.Titles.{finds_title, finds_rhythm}
use Rattle.tune_queries.specs.declared.queries.Query.{Query}
use Rattle.tune_queries.specs.declared.queries.Query.TheVariants as query
use Rattle.tune_queries.specs.declared.sought.Sought.{Sought}
use Rattle.tune_queries.specs.declared.sought.Sought.TheVariants as sought

-- WHAT A QUERY ASKS FOR
-- the notes of a query that count
abbrev pub counting_notes : List ℕ → ℕ
counting_notes query = count_by (λ note. note.counts) (query_notes query)

-- whether there is none
abbrev pub is_missing : Option Scale → Bool
is_missing None = true
is_missing (Some scale) = false

-- whether the query asks for nothing: a title of spaces and tabs alone, a rhythm without a byte, a
-- key text that says no scale of the table, or notes of which too few count
abbrev pub is_bad : Query → Bool
is_bad (query.Title text) = is_all_blank text
is_bad (query.Rhythm text) = not (has_bytes text)
is_bad (query.Key text) = is_missing (scale_of_text text)
is_bad (query.Notes text) = nat_lt (counting_notes text) fewest_notes

-- WHICH TUNES IT FINDS
-- a tune of whose titles one has a sorting title that begins with the query's; one of the same
-- rhythm, but for capitals; one in the same scale; one whose incipit, by so many notes, begins with
-- the query's
abbrev pub matches : ℕ → Query → List ℕ → Bool
matches notes (query.Title text) tune = list_any (title_matches text) (titles_of tune)
matches notes (query.Rhythm text) tune = option_map_or (same_rhythm text) (rhythm_of tune) false
matches notes (query.Key text) tune =
    option_map_or (λ scale. is_scale scale (scale_of_text (key_text_of tune)))
    (scale_of_text text) false
matches notes (query.Notes text) tune = begins_steps
    (incipit_of notes (tune_notes tune)) (incipit_of notes (query_notes text))

-- the same of a query made ready, which holds a sorting title, a rhythm, a scale, or steps
abbrev pub finds : ℕ → Sought → List ℕ → Bool
finds notes (sought.Title prefix) tune = finds_title prefix tune
finds notes (sought.Rhythm rhythm) tune = finds_rhythm rhythm.now tune
finds notes (sought.Key scale) tune = finds_scale scale tune
finds notes (sought.Notes front) tune = finds_steps notes front.steps tune

-- THE SAME IN A READER'S WORDS
-- a text or a list of steps that begins with another
abbrev pub BeginsWith : {X : Type 0} → List X → List X → Type 0
BeginsWith {X} whole front = (rest : List X) × (front ++ rest ≡ whole)

-- the query finds the tune of this text
abbrev pub Matches : ℕ → Query → List ℕ → Type 0
Matches notes (query.Title text) tune = (title : List ℕ) × Contains (titles_of tune) title
    × BeginsWith (sorting_title title) (sorting_title text)
Matches notes (query.Rhythm text) tune = (rhythm : List ℕ) × (rhythm_of tune ≡ Some rhythm)
    × (small_letters text ≡ small_letters rhythm)
Matches notes (query.Key text) tune = (scale : Scale) × (scale_of_text text ≡ Some scale)
    × (scale_of_text (key_text_of tune) ≡ Some scale)
Matches notes (query.Notes text) tune = BeginsWith
    (incipit_of notes (tune_notes tune)) (incipit_of notes (query_notes text))

-- which tunes the query finds, and none else
abbrev pub LawOfQuery : ℕ → Query → Type 0
LawOfQuery notes query =
    (text : List ℕ) → (matches notes query text ≡ true) ↔ Matches notes query text
