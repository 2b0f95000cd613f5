-- How much room is left for the text of a tune.
use Rattle.std.specs.Prelude.{ℕ, ◌-◌, Option, Some, None, nat_le, if◌then◌else◌}

-- the room after so many bytes, where they fit
abbrev pub room_after : Option ℕ → ℕ → Option ℕ
room_after None length = None
room_after (Some room) length = if nat_le length room then Some (room - length) else None
