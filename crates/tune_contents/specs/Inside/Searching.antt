-- What a change does to the texts of tunes, and so to the search indexes.
use Rattle.std.specs.Prelude.{◌≡◌, ◌≢◌, ℕ, ◌+◌, ◌*◌, ◌^◌, ◌<◌, List, [], ◌∷◌, ◌++◌, length, ⊤}
use Rattle.std.specs.Prelude.{Option, None, Some, slice_index_or, vec_len}
use Rattle.abc_fields.specs.Limits.{most_titles}
use Rattle.index_keys.specs.Holdings.{AreSmall, IsWithout, SameMembers}
use Rattle.tune_pages.specs.Faults.{free_pages, pages_for}
use Rattle.tune_pages.specs.Stand.{Stand}
use Rattle.tune_parts.specs.Parts.{Part}
use Rattle.tune_search.specs.SearchPages.{leaf_count, most_entries}
use Rattle.tune_search.specs.Searches.{AreRunsOf, HoldsTexts, SearchParts, SearchRuns, SearchShape}
use Rattle.tune_search.specs.Searches.{texts_numbered}
use Rattle.tune_store.specs.declared.tune.Tune.{Tune}
use Rattle.tune_store.specs.declared.plans.Change.{Change}
use Rattle.tune_store.specs.declared.plans.Change.TheVariants.{Add, Put, Take, Move}
use Rattle.tune_format.specs.RootOffsets.{number_bytes}
use Rattle.tune_format.specs.declared.rows.Row.{Row}
use Rattle.tune_contents.specs.Claimed.{RowsRise}

-- THE TUNE THAT GOES
-- where the row stands of a tune that the change replaces, takes out or moves
abbrev pub IsOldPlace : Change → List Row → Option ℕ → Type 0
IsOldPlace (Put place tune) rows at = at ≡ Some place
IsOldPlace (Take place) rows at = at ≡ Some place
IsOldPlace (Move number to) rows (Some place) =
    (d : Row) → (slice_index_or rows place d).number ≡ number
IsOldPlace (Move number to) rows None = RowsRise 0 rows
    → (place : ℕ) (d : Row) → place < length rows → (slice_index_or rows place d).number ≢ number
IsOldPlace change rows at = at ≡ None

-- the number and the text of the tune at a place
abbrev pub IsTuneAt : ℕ → List Tune → Option (ℕ × List ℕ) → Type 0
IsTuneAt place tunes old = (place < length tunes) × ((d : Tune)
    → old ≡ Some ((slice_index_or tunes place d).number, (slice_index_or tunes place d).text))

-- those of the tune of a number, where there is one
abbrev pub IsTuneOf : ℕ → List Tune → Option (ℕ × List ℕ) → Type 0
IsTuneOf number tunes None =
    (place : ℕ) (d : Tune) → place < length tunes → (slice_index_or tunes place d).number ≢ number
IsTuneOf number tunes (Some old) =
    (old.0 ≡ number) × ((place : ℕ) × IsTuneAt place tunes (Some old))

-- those of the tune that the change replaces, takes out or moves, if there is one
abbrev pub IsOldTune : Change → List Tune → Option (ℕ × List ℕ) → Type 0
IsOldTune (Put place tune) tunes old = IsTuneAt place tunes old
IsOldTune (Take place) tunes old = IsTuneAt place tunes old
IsOldTune (Move number to) tunes old = IsTuneOf number tunes old
IsOldTune change tunes old = old ≡ None

-- WHAT GOES AND WHAT COMES
-- The texts that come in with a change, with their numbers; `old` is the tune that it moves.
abbrev pub coming : Change → Option (ℕ × List ℕ) → List (ℕ × List ℕ)
coming (Add first texts) old = texts_numbered first texts.items
coming (Put place tune) old = (tune.number, tune.text) ∷ []
coming (Move number to) (Some old) = (to, old.1) ∷ []
coming change old = []

-- the numbers of texts that come behind all others are within 32 bits
abbrev pub HasSmallNumbers : Change → Type 0
HasSmallNumbers (Add first texts) = first + vec_len texts < 2 ^ 32
HasSmallNumbers change = ⊤

-- the entries of the tune that goes, if one does
abbrev pub AreRunsOut : Option (ℕ × List ℕ) → Option SearchRuns → Type 0
AreRunsOut None None = ⊤
AreRunsOut (Some old) (Some run) = AreSmall (old ∷ []) × AreRunsOf (old ∷ []) run
AreRunsOut old run = ⊥

-- what goes or comes is by so many notes
abbrev pub IsByNotes : ℕ → Option SearchRuns → Type 0
IsByNotes notes None = ⊤
IsByNotes notes (Some run) = run.notes ≡ notes

-- What goes out of the search indexes: nothing, or the entries of one of the tunes.
abbrev pub TakesOut : Option SearchRuns → List (ℕ × List ℕ) → List (ℕ × List ℕ) → Type 0
TakesOut None tunes others = others ≡ tunes
TakesOut (Some run) tunes others = (gone : ℕ × List ℕ) × (gone.0 < 2 ^ 32)
    × IsWithout gone tunes others × AreRunsOf (gone ∷ []) run

-- what goes out is of some of the tunes
abbrev pub TakesSome : Option SearchRuns → List (ℕ × List ℕ) → Type 0
TakesSome gone tunes = (others : List (ℕ × List ℕ)) × TakesOut gone tunes others

-- What comes in: nothing, or the entries of these tunes.
abbrev pub PutsIn : Option SearchRuns → List (ℕ × List ℕ) → Type 0
PutsIn None more = more ≡ []
PutsIn (Some run) more = AreSmall more × AreRunsOf more run

-- the entries of some tunes, or none
abbrev pub IsSomeRun : Option SearchRuns → Type 0
IsSomeRun None = ⊤
IsSomeRun (Some run) = (more : List (ℕ × List ℕ)) × AreSmall more × AreRunsOf more run

-- With what goes and what comes the tunes are these, in some order.
pub record ChangesTexts (gone come : Option SearchRuns) (was is : List (ℕ × List ℕ))
    : Type 0 where
  pub others : List (ℕ × List ℕ)
  pub more : List (ℕ × List ℕ)
  pub takes : TakesOut gone was others
  pub puts : PutsIn come more
  pub same : SameMembers (others ++ more) is
  pub count : length (others ++ more) ≡ length is

-- The search indexes hold some tunes, from which this may go out.
abbrev pub HoldsTextsWith : Stand → SearchShape → Option SearchRuns → Type 0
HoldsTextsWith s shape gone = (before : List Part) × (after : List Part) × (parts : SearchParts)
    × (tunes : List (ℕ × List ℕ)) × AreSmall tunes × TakesSome gone tunes
    × HoldsTexts s shape before after parts tunes

-- Whatever tunes the search indexes hold, they then hold those that are left; all other parts stay.
abbrev pub TakesTexts : Stand → Stand → SearchShape → SearchShape → Option SearchRuns → Type 0
TakesTexts old new was is gone = (before after : List Part) (parts : SearchParts)
    (tunes others : List (ℕ × List ℕ)) → AreSmall tunes → TakesOut gone tunes others
    → HoldsTexts old was before after parts tunes
    → (next : SearchParts) × HoldsTexts new is before after next others

-- Whatever tunes they hold, they then hold those that come too; all other parts stay.
abbrev pub PutsTexts : Stand → Stand → SearchShape → SearchShape → Option SearchRuns → Type 0
PutsTexts old new was is come = (before after : List Part) (parts : SearchParts)
    (tunes more : List (ℕ × List ℕ)) → AreSmall tunes → PutsIn come more
    → HoldsTexts old was before after parts tunes
    → (next : SearchParts) × HoldsTexts new is before after next (tunes ++ more)

-- Fewer pages are free, with the leaves that there are, than the tunes may have entries.
abbrev pub IsFullForTexts : Stand → SearchShape → Option SearchRuns → Type 0
IsFullForTexts s shape come = (before after : List Part) (parts : SearchParts)
    (tunes more : List (ℕ × List ℕ)) → AreSmall tunes → PutsIn come more
    → HoldsTexts s shape before after parts tunes
    → free_pages s.used + leaf_count shape < most_entries * length (tunes ++ more)

-- Whatever tunes the search indexes hold, they then hold those that are left and those that come;
-- all other parts stay.
abbrev pub LaysTexts : Stand → Stand → SearchShape → SearchShape → Option SearchRuns
    → Option SearchRuns → Type 0
LaysTexts old new was is gone come = (before after : List Part) (parts : SearchParts)
    (tunes others more : List (ℕ × List ℕ)) → AreSmall tunes → TakesOut gone tunes others
    → PutsIn come more → HoldsTexts old was before after parts tunes
    → (next : SearchParts) × HoldsTexts new is before after next (others ++ more)

-- how many pages the search indexes of so many tunes have at most
abbrev pub search_pages : ℕ → ℕ
search_pages count = most_entries * count + (pages_for (number_bytes * (most_titles * count))
    + 3 * pages_for (number_bytes * count))
