-- How many pages so many bytes want.
use Rattle.std.proofs.Common.{◌≡◌, ℕ, ◌+◌, ◌*◌, ◌<◌, ◌≤◌, arith}
use Rattle.std.proofs.lemmas.Grind.{div_ceil_times}
use Rattle.tune_pages.specs.LinkOffsets.{piece_room}
use Rattle.tune_pages.specs.Faults.{pages_for}

-- as many as hold them, where all but the last are full and that is not empty
pub as_many : (t n : ℕ) → piece_room * t < n + piece_room → n ≤ piece_room * t → t ≡ pages_for n
as_many t n lt le = (let ceil = div_ceil_times n piece_room (omega arith) in omega (arith, lt, le, ceil.0, ceil.1))

-- and more than do not hold them
pub wants_more : (k n : ℕ) → piece_room * k < n → k < pages_for n
wants_more k n lt = (let most = (div_ceil_times n piece_room (omega arith)).0 in omega (arith, lt, most))
