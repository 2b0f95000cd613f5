-- Lists of entries: an entry is a key, seen as a number, with a value (own profile).
use Rattle.std.specs.Prelude.{ℕ, ◌+◌, ◌*◌, ◌^◌, ◌<◌, ◌≤◌, List, [], ◌∷◌, map, filter}
use Rattle.std.specs.Prelude.{if◌then◌else◌, nat_lt, nat_le, ◌==◌, ◌&&◌}

-- a key and a value
abbrev pub Entry : Type 0
Entry = ℕ × ℕ

-- the place of an entry in the order by key and then value, for values below 2 ^ 32
abbrev pub rank : Entry → ℕ
rank (key, value) = key * 2 ^ 32 + value

-- ENTRIES IN ORDER
-- the entries rise strictly by key and then value, from this rank on
abbrev pub EntriesRiseFrom : ℕ → List Entry → Type 0
EntriesRiseFrom low [] = Unit {0}
EntriesRiseFrom low (e ∷ es) = (low ≤ rank e) × EntriesRiseFrom (rank e + 1) es

-- the entries rise strictly by key and then value
abbrev pub IsRising : List Entry → Type 0
IsRising es = EntriesRiseFrom 0 es

-- the list with the entry in its place; an entry that is there stays
abbrev pub entry_inserted : Entry → List Entry → List Entry
entry_inserted e [] = e ∷ []
entry_inserted e (x ∷ xs) =
    if nat_lt (rank e) (rank x) then e ∷ x ∷ xs
    else (if nat_lt (rank x) (rank e) then x ∷ entry_inserted e xs else x ∷ xs)

-- the list with all these entries in their places
abbrev pub inserted_all : List Entry → List Entry → List Entry
inserted_all [] es = es
inserted_all (e ∷ run) es = inserted_all run (entry_inserted e es)

-- the list without the entry
abbrev pub removed : Entry → List Entry → List Entry
removed e [] = []
removed e (x ∷ xs) = if rank x == rank e then xs else x ∷ removed e xs

-- the list without these entries
abbrev pub removed_all : List Entry → List Entry → List Entry
removed_all [] es = es
removed_all (e ∷ run) es = removed_all run (removed e es)

-- the values of the entries whose keys are from low to high, both included
abbrev pub values_within : ℕ → ℕ → List Entry → List ℕ
values_within low high es =
    map (λ e. e.1) (filter (λ e. nat_le low e.0 && nat_le e.0 high) es)

-- HOW GREAT THEY ARE
-- a key of `width` bytes and a value of four
pub record FitsLeaf (width : ℕ) (e : Entry) : Type 0 where
  pub key : e.0 < 256 ^ width
  pub value : e.1 < 2 ^ 32

-- all of them fit
abbrev pub AllFit : ℕ → List Entry → Type 0
AllFit width [] = Unit {0}
AllFit width (e ∷ es) = FitsLeaf width e × AllFit width es
