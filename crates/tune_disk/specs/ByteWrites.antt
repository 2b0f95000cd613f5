-- Writes over the bytes of a file.
use Rattle.std.specs.Prelude.{ℕ, ◌+◌, ◌-◌, List, [], ◌∷◌, ◌++◌, length, take, drop, replicate}

-- the file with zeros behind it, up to this length
abbrev pub filled : ℕ → List ℕ → List ℕ
filled n file = file ++ replicate (n - length file) 0

-- a file that reaches past these bytes, with them at this offset
abbrev pub pasted : ℕ → List ℕ → List ℕ → List ℕ
pasted at bytes file = take at file ++ bytes ++ drop (at + length bytes) file

-- the file with these bytes at this offset; a gap before them is zeros, and none are no write
abbrev pub put : ℕ → List ℕ → List ℕ → List ℕ
put at [] file = file
put at (b ∷ bytes) file = pasted at (b ∷ bytes) (filled (at + length (b ∷ bytes)) file)
