-- Lists of pages, and what changes make of them.
use Rattle.std.specs.Prelude.{◌≡◌, ℕ, ◌-◌, ◌<◌, ◌≤◌, List, [], ◌∷◌, ◌++◌, length, replicate}
use Rattle.std.specs.Prelude.{slice_index_or, slice_set}
use Rattle.tune_journal.specs.ChangeList.{changed_page}

-- page p of a list
abbrev pub page_at : List (List ℕ) → ℕ → List ℕ
page_at pages p = slice_index_or pages p []

-- these pages, with the images that the changes name
abbrev pub changed_pages : List (List ℕ) → List (ℕ × List ℕ) → List (List ℕ)
changed_pages pages [] = pages
changed_pages pages (change ∷ changes) = changed_pages (slice_set pages change.0 change.1) changes

-- the pages that a commit makes, m of them: these, and new ones behind them, with what changes
abbrev pub pages_after : List (List ℕ) → ℕ → List (ℕ × List ℕ) → List (List ℕ)
pages_after pages m changes = changed_pages (pages ++ replicate (m - length pages) []) changes

-- each page from the n-th on is among the changes
abbrev pub NamesAll : ℕ → ℕ → List (ℕ × List ℕ) → Type 0
NamesAll n m changes = (p : ℕ) → n ≤ p → p < m
    → (k : ℕ) × (k < length changes) × (changed_page changes k ≡ p)
