-- How a change of an archive is laid on its pages, as a work stands for them.
use Rattle.std.specs.Prelude.{◌≡◌, ℕ, Bool, false, List, ◌∷◌, ◌++◌}
use Rattle.tune_journal.specs.Pages.{page_at}
use Rattle.tune_pages.specs.Stand.{Stand, PutsChain, HasChain, without_pages}
use Rattle.tune_parts.specs.Parts.{Part, HoldsParts}
use Rattle.tune_parts.specs.Parts.PartKind.{chain}
use Rattle.tune_sets.specs.SetBytes.{written_sets}
use Rattle.tune_sets.specs.declared.set_lists.TuneSet.{TuneSet}
use Rattle.tune_store.specs.declared.layout.Layout.{Layout}
use Rattle.tune_store.specs.declared.tune.Tune.{Tune}
use Rattle.tune_format.specs.Filed.{HoldTunes, rows_of_tunes}
use Rattle.tune_format.specs.Written.{IsRoot}
use Rattle.tune_format.specs.declared.root.Firsts.{Firsts}
use Rattle.tune_format.specs.declared.rows.Row.{Row}

-- CHAINS
-- The chain that began at `first` is freed, and then these bytes are put on another one.
abbrev pub SwapsChain : Stand → Stand → ℕ → ℕ → List ℕ → Type 0
SwapsChain old new first next bytes = (trail all : List ℕ) → HasChain old first trail all
    → (along : List ℕ) × PutsChain (without_pages trail old) new next along bytes

-- TUNES
-- Behind these parts stand those of the tunes, where the rows say; no others are in use.
pub record HoldsTunes (s : Stand) (ahead : List Part) (tunes : List Tune) (rows : List Row)
    : Type 0 where
  pub texts : List Part
  pub holds : HoldsParts s (ahead ++ texts)
  pub are_tunes : HoldTunes texts tunes
  pub listed : rows ≡ rows_of_tunes tunes texts

-- some tunes stand so
abbrev pub HoldsSomeTunes : Stand → List Row → Type 0
HoldsSomeTunes s rows = (ahead : List Part) × (tunes : List Tune) × HoldsTunes s ahead tunes rows

-- Whatever tunes stand there, they are changed so, and all other parts stay.
abbrev pub LaysTunes : Stand → Stand → List Row → List Row → (List Tune → List Tune) → Type 0
LaysTunes old new rows left change = (ahead : List Part) (tunes : List Tune)
    → HoldsTunes old ahead tunes rows → HoldsTunes new ahead (change tunes) left

-- SET LISTS
-- Among these parts stand those of the set lists, on a chain that begins at this page.
pub record HoldsSets (s : Stand) (before after : List Part) (first : ℕ) (sets : List TuneSet)
    : Type 0 where
  pub part : Part
  pub holds : HoldsParts s (before ++ part ∷ after)
  pub is_chain : part.kind ≡ chain
  pub is_first : part.first ≡ first
  pub bytes : part.bytes ≡ written_sets sets

-- The set lists are now these; where they do not change, they were. All other parts stay.
abbrev pub LaysSets : Stand → Stand → ℕ → ℕ → Bool → List TuneSet → Type 0
LaysSets old new first next changes sets = (before after : List Part) (held : List TuneSet)
    → (changes ≡ false → held ≡ sets) → HoldsSets old before after first held
    → HoldsSets new before after next sets

-- THE ROOT
-- The root says where these begin, and all parts stay.
pub record LaysRoot (layout : Layout) (old new : Stand) (firsts : Firsts) : Type 0 where
  pub root : IsRoot layout (page_at new.pages 0) firsts
  pub parts : (parts : List Part) → HoldsParts old parts → HoldsParts new parts
