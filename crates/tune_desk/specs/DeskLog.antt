-- What is kept of the deeds of a desk.
use Rattle.std.specs.Prelude.{ℕ, List, map, String, string_bytes}
use Rattle.http_server.specs.declared.log.Log.{Log}
use Rattle.tune_desk.specs.DeskDeeds.{DeskDeed, looked, compared, tested, followed, read, listed}
use Rattle.tune_desk.specs.DeskDeeds.{made, named, named_over, removed, opened, closed}
use Rattle.tune_desk.specs.DeskDeeds.{grown, created, linked, shared}
use Rattle.tune_desk.specs.DeskDeeds.{path_of, names_of}
use Rattle.tune_desk.specs.declared.desk_log.DeskLog.{DeskLog}
use Rattle.tune_desk.specs.declared.desk_log.Told.{Told}
use Rattle.tune_desk.specs.declared.desk_log.Told.TheVariants as told

-- bytes that are kept one by one
abbrev pub bytes_of : Log ℕ (Unit {0}) → List ℕ
bytes_of kept = map (λ byte. byte.0) kept.items

abbrev pub desk_deed_of : {A D : Type 0} → String A × Told D → DeskDeed D
desk_deed_of (path, told.Looked answer) = looked (string_bytes path) answer.value
desk_deed_of (path, told.Compared other answer) =
    compared (string_bytes path) (string_bytes other.value) answer.value
desk_deed_of (path, told.Tested with answer) =
    tested (string_bytes path) (bytes_of with) answer.value
desk_deed_of (path, told.Followed answer) = followed (string_bytes path) (path_of answer.value)
desk_deed_of (path, told.Read answer) = read (string_bytes path) answer.value
desk_deed_of (path, told.Listed answer) = listed (string_bytes path) (names_of answer.value)
desk_deed_of (path, told.Made bytes answer) =
    made (string_bytes path) (bytes_of bytes) answer.value
desk_deed_of (path, told.Named to answer) =
    named (string_bytes path) (string_bytes to.value) answer.value
desk_deed_of (path, told.NamedOver to answer) =
    named_over (string_bytes path) (string_bytes to.value) answer.value
desk_deed_of (path, told.Removed answer) = removed (string_bytes path) answer.value
desk_deed_of (path, told.Opened access answer) =
    opened (string_bytes path) access.value answer.value
desk_deed_of (path, told.Closed disk) = closed (string_bytes path) disk.value
desk_deed_of (path, told.Grown bytes answer) =
    grown (string_bytes path) (bytes_of bytes) answer.value
desk_deed_of (path, told.Created answer) = created (string_bytes path) answer.value
desk_deed_of (path, told.Linked to answer) =
    linked (string_bytes path) (string_bytes to.value) answer.value
desk_deed_of (path, told.Shared like answer) =
    shared (string_bytes path) (string_bytes like.value) answer.value

-- the deeds, the first first
abbrev pub desk_deeds_of : {D : Type 0} → DeskLog D → List (DeskDeed D)
desk_deeds_of kept = map desk_deed_of kept.log.items
