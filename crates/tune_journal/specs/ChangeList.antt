-- Which pages change, and to which images: by rising page.
use Rattle.std.specs.Prelude.{ℕ, ◌==◌, ◌-◌, nat_lt, slice_index_or, List, [], ◌∷◌, ◌++◌, length}
use Rattle.std.specs.Prelude.{Option, Some, None, replicate, if◌then◌else◌}

-- the list with this image for the page, in place of the one that is there
abbrev pub with_change : ℕ → List ℕ → List (ℕ × List ℕ) → List (ℕ × List ℕ)
with_change page image [] = (page, image) ∷ []
with_change page image ((p, i) ∷ rest) =
    if nat_lt page p then (page, image) ∷ (p, i) ∷ rest
    else if page == p then (page, image) ∷ rest
    else (p, i) ∷ with_change page image rest

-- the image of a page
abbrev pub image_of : ℕ → List (ℕ × List ℕ) → Option (List ℕ)
image_of page [] = None
image_of page ((p, i) ∷ rest) = if page == p then Some i else image_of page rest

-- the change at place i
abbrev pub change_at : List (ℕ × List ℕ) → ℕ → ℕ × List ℕ
change_at changes i = slice_index_or changes i (0, [])

-- its page
abbrev pub changed_page : List (ℕ × List ℕ) → ℕ → ℕ
changed_page changes i = (change_at changes i).0

-- the first bytes of an image, and zeros behind them
abbrev pub padded_image : List ℕ → List ℕ
padded_image start = start ++ replicate (4096 - length start) 0
