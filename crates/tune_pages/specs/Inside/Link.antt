-- A page of a chain, as it is written.
use Rattle.std.specs.Prelude.{ℕ, ◌-◌, List, ◌++◌, length, replicate}
use Rattle.byteorder.specs.Endian.{big_bytes}
use Rattle.tune_pages.specs.LinkOffsets.{next_bytes, used_bytes, piece_room}

-- with zeros behind the bytes that count
unfoldable pub link_bytes : ℕ → List ℕ → List ℕ
link_bytes next piece =
    big_bytes next_bytes next ++ big_bytes used_bytes (length piece)
    ++ (piece ++ replicate (piece_room - length piece) 0)
