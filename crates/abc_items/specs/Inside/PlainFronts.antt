-- What a byte begins that begins none of the longer rows.
use Rattle.std.specs.Prelude.{ℕ, ◌+◌, if◌then◌else◌, List, Option, Some, None}
use Rattle.std.specs.List.{prefix_len}
use Rattle.abc_fields.specs.Bytes.{begins}
use Rattle.abc_items.specs.declared.kinds.Kind.{Kind}
use Rattle.abc_items.specs.declared.kinds.Kind.TheVariants.{Note, Bar, Other}
use Rattle.abc_items.specs.declared.kinds.Front.{Front}
use Rattle.abc_items.specs.Marks.{is_bar, is_octave_mark}
use Rattle.abc_items.specs.Plain.{begins_longer_row}
use Rattle.abc_items.specs.Inside.ItemRows.{front}
use Rattle.abc_items.specs.NoteFronts.{is_note_name}

-- an item of one byte
abbrev pub lone_kind : ℕ → Kind
lone_kind byte = if is_bar byte then Bar else Other

-- a letter with its octave marks, or one byte
abbrev pub plain_front : ℕ → List ℕ → Front
plain_front byte rest =
    if is_note_name byte then front Note (1 + prefix_len is_octave_mark rest)
    else front (lone_kind byte) 1

-- what a byte is before a rest, where it is an item alone and begins none of the longer rows
abbrev pub lone_row : ℕ → List ℕ → Option Kind
lone_row byte rest =
    if is_note_name byte then (if begins is_octave_mark rest then None else Some Note)
    else if begins_longer_row byte then None
    else Some (lone_kind byte)
