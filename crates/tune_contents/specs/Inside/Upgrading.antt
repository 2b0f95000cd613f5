-- The incipits of tunes, gathered row by row.
use Rattle.std.specs.Prelude.{◌≡◌, ℕ, List, ◌++◌, drop, map}
use Rattle.index_keys.specs.Entries.{Entry}
use Rattle.tune_pages.specs.Stand.{Stand}
use Rattle.tune_parts.specs.Parts.{Part}
use Rattle.tune_search.specs.IncipitRuns.{AreIncipitsOf, GathersIncipits}
use Rattle.tune_search.specs.Searches.{HoldsTexts, SearchParts, SearchShape}
use Rattle.tune_store.specs.State.{IsTunes}
use Rattle.tune_store.specs.declared.layout.Layout.{Layout}
use Rattle.tune_store.specs.declared.tune.Tune.{Tune}
use Rattle.tune_format.specs.Filed.{numbered_texts}
use Rattle.tune_format.specs.declared.rows.Row.{Row}
use Rattle.tune_contents.specs.Inside.Laying.{HoldsTunes}
use Rattle.tune_contents.specs.Inside.TuneRows.{numbers_of_rows}

-- They are those of texts with the numbers of the rows in front of a place; where the disk is
-- honest, of the tunes that stand there.
pub record GathersTo (Honest : Type 0) (layout : Layout) (s : Stand) (rows : List Row)
    (place : ℕ) (run : List Entry) : Type 0 where
  pub texts : List (ℕ × List ℕ)
  pub gathers : GathersIncipits texts run
  pub numbers : map (λ text. text.0) texts ++ numbers_of_rows (drop place rows)
      ≡ numbers_of_rows rows
  pub are_tunes : Honest → (ahead : List Part) (tunes : List Tune) → IsTunes layout tunes
      → HoldsTunes s ahead tunes rows
      → texts ++ numbered_texts (drop place tunes) ≡ numbered_texts tunes

-- they are those of whatever tunes stand there
abbrev pub AreOfTunes : Layout → Stand → List Row → List Entry → Type 0
AreOfTunes layout s rows run = (ahead : List Part) (tunes : List Tune) → IsTunes layout tunes
    → HoldsTunes s ahead tunes rows → AreIncipitsOf (numbered_texts tunes) run

-- Whatever tunes of these incipits the search indexes hold, they hold them then; all other parts
-- stay.
abbrev pub LengthensTexts : Stand → Stand → SearchShape → SearchShape → List Entry → Type 0
LengthensTexts old new was is run = (before after : List Part) (parts : SearchParts)
    (tunes : List (ℕ × List ℕ)) → AreIncipitsOf tunes run
    → HoldsTexts old was before after parts tunes
    → (next : SearchParts) × HoldsTexts new is before after next tunes
