-- Where the items of tiers stand.
use Rattle.std.specs.Prelude.{ℕ, ◌+◌, ◌-◌, ◌%◌, nat_lt, List, [], ◌∷◌, cond}

-- where the item at a place stands, in rings that are turned so far, or behind them
abbrev pub slot_of : List ℕ → ℕ → ℕ
slot_of [] place = place
slot_of (turn ∷ turns) place =
    cond (nat_lt place 1023) ((turn + place) % 1023) (1023 + slot_of turns (place - 1023))
