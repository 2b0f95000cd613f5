-- How many pages the chains have that a change puts.
use Rattle.std.specs.Prelude.{ℕ, ◌+◌, List, [], ◌∷◌, length}
use Rattle.tune_pages.specs.Faults.{pages_for}
use Rattle.tune_sets.specs.SetBytes.{written_sets}
use Rattle.tune_sets.specs.declared.set_lists.TuneSet.{TuneSet}
use Rattle.tune_store.specs.declared.plans.Change.{Change}
use Rattle.tune_store.specs.declared.plans.Change.TheVariants.{Add, Put}
use Rattle.tune_format.specs.RootOffsets.{revision_bytes}

-- the chain of a tune with this text
abbrev pub tune_pages : List ℕ → ℕ
tune_pages text = pages_for (length text + revision_bytes)

-- those of tunes with these texts
abbrev pub text_pages : List (List ℕ) → ℕ
text_pages [] = 0
text_pages (text ∷ texts) = tune_pages text + text_pages texts

-- those of the tunes that a change puts
abbrev pub change_pages : Change → ℕ
change_pages (Add first texts) = text_pages texts.items
change_pages (Put place tune) = tune_pages tune.text
change_pages change = 0

-- the chain of these set lists
abbrev pub sets_pages : List TuneSet → ℕ
sets_pages sets = pages_for (length (written_sets sets))
