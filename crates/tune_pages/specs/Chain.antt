-- Chains: bytes on pages that each name the next one. LinkOffsets.antt says where the parts of such
-- a page stand; numbers have the highest byte first.
use Rattle.std.specs.Prelude.{◌≡◌, ◌≢◌, ℕ, ◌+◌, ◌-◌, ◌<◌, ◌≤◌, List, [], ◌∷◌, ◌++◌, length, take}
use Rattle.std.specs.Prelude.{drop, replicate, All}
use Rattle.byteorder.specs.Endian.{big_number}
use Rattle.tune_journal.specs.Pages.{page_at}
use Rattle.tune_pages.specs.LinkOffsets.{next_bytes, used_bytes, piece_offset, piece_room}

-- the page behind this one, 0 at the end
unfoldable pub next_page_of : List ℕ → ℕ
next_page_of image = big_number next_bytes image

-- how many of its bytes count
unfoldable pub size_of : List ℕ → ℕ
size_of image = big_number used_bytes (drop next_bytes image)

-- the bytes that count
unfoldable pub piece_of : List ℕ → List ℕ
piece_of image = take (size_of image) (drop piece_offset image)

-- A page of a chain is full, or the last one and not empty.
pub record IsLink (image : List ℕ) : Type 0 where
  pub some : 0 < size_of image
  pub most : size_of image ≤ piece_room
  pub full : next_page_of image ≢ 0 → size_of image ≡ piece_room

-- Behind the bytes that count it has zeros.
abbrev pub IsPadded : List ℕ → Type 0
IsPadded image =
    drop (piece_offset + size_of image) image ≡ replicate (piece_room - size_of image) 0

-- These pages, each the next of the one before it, lead from `first` to `end`. None is the root.
abbrev pub Leads : List (List ℕ) → ℕ → List ℕ → ℕ → Type 0
Leads pages first [] end = first ≡ end
Leads pages first (p ∷ trail) end =
    (first ≡ p) × (0 < p) × (p < length pages) × IsLink (page_at pages p)
    × Leads pages (next_page_of (page_at pages p)) trail end

-- the bytes on these pages
abbrev pub bytes_along : List (List ℕ) → List ℕ → List ℕ
bytes_along pages [] = []
bytes_along pages (p ∷ trail) = piece_of (page_at pages p) ++ bytes_along pages trail

-- The chain that begins at `first` runs through these pages, its trail, and holds these bytes. No
-- bytes are no chain, at 0.
pub record IsChain (pages : List (List ℕ)) (first : ℕ) (trail bytes : List ℕ) : Type 0 where
  pub leads : Leads pages first trail 0
  pub holds : bytes_along pages trail ≡ bytes

-- Behind the bytes that count each of these pages has zeros.
abbrev pub ArePadded : List (List ℕ) → List ℕ → Type 0
ArePadded pages trail = All (λ p. IsPadded (page_at pages p)) trail
