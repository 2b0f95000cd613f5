-- The list that is held, and the items in memory.
use Rattle.std.proofs.Common.{◌≡◌, ℕ, ◌*◌, ◌≤◌, List, length, take, arith, ap, sym, ◌∙◌, length-take}
use Rattle.tiered_vector.specs.Tiers.{tiered}
use Rattle.tiered_vector.proofs.Joined.{length-tiered}

-- there are items for all rings
pub enough_held : {T : Type 0} (rings : ℕ) (turns : List ℕ) (items : List T) → 1023 * rings ≤ length items → 1023 * length (take rings turns) ≤ length items
enough_held rings turns items within = let count = length-take rings turns in omega arith

-- the list is as long
pub length_held : {T : Type 0} (turns : List ℕ) (items all : List T) → tiered turns items ≡ all → length all ≡ length items
length_held turns items all is = sym (ap length is) ∙ length-tiered turns items
