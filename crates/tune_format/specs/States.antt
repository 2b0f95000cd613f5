-- Which state the file of an archive holds.
--
--   offset         what stands there
--   0              the magic, 8 bytes: ABCTUNE1
--   4,096          the gate, 1 byte: open while the log stands for pages, and else closed
--   8,192          the descriptor: how many pages the log leads to (m), and how many entries it has
--   12,288         how many pages there are behind a closed gate (n)
--   16,384         page 0, the root: the layout, and where the chains begin
--   20,480 ..      pages 1 to n - 1, each of 4,096 bytes: the chain of each tune; the leaves of
--                  five indexes (numbers, titles, rhythms, scales, incipits), and the lists of
--                  these; the chain of the set lists
--   behind page m  the log: entries of a page's number (4 bytes) and its image (4,096 bytes)
--
-- `StandsFor` says which pages a file has: those at their offsets, and behind an open gate the
-- images of the log in their places. `IsStateOf` says which state pages hold.
use Rattle.std.specs.Prelude.{ℕ, ◌≤◌, List, length}
use Rattle.tune_journal.specs.Image.{StandsFor}
use Rattle.tune_store.specs.State.{State, IsState}
use Rattle.tune_format.specs.Filed.{Filed}
use Rattle.tune_format.specs.RootOffsets.{most_pages_of}
use Rattle.tune_format.specs.Reading.{layout_in, tunes_in, sets_in, pages_in}

-- The pages stand for a state: they hold its tunes and its sets in its layout, and it is within
-- the limits.
pub record IsStateOf (pages : List (List ℕ)) (state : State) : Type 0 where
  pub filed : Filed state.layout pages state.tunes state.sets
  pub within : IsState state
  pub few : length pages ≤ most_pages_of state.layout

-- A file holds a state.
pub record Holds (file : List ℕ) (state : State) : Type 0 where
  pub pages : List (List ℕ)
  pub stands : StandsFor pages file
  pub is : IsStateOf pages state

-- the state that pages are read as, whatever they hold
abbrev pub state_of_pages : List (List ℕ) → State
state_of_pages pages = record {
  layout = layout_in pages;
  tunes = tunes_in pages;
  sets = sets_in pages;
}

-- and the one that a file is read as
unfoldable pub state_in : List ℕ → State
state_in file = state_of_pages (pages_in file)
