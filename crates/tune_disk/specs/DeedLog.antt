-- What is kept of the deeds of a drive.
use Rattle.std.specs.Prelude.{List, map, String, string_bytes}
use Rattle.tune_disk.specs.Deeds.{Deed, opened, created, closed}
use Rattle.tune_disk.specs.declared.deed_log.DeedLog.{DeedLog}
use Rattle.tune_disk.specs.declared.deed_log.Gave.{Gave}
use Rattle.tune_disk.specs.declared.deed_log.Gave.TheVariants as gave

abbrev pub deed_of : {A D : Type 0} → String A × Gave D → Deed D
deed_of (path, gave.Opened answer) = opened (string_bytes path) answer.value
deed_of (path, gave.Created answer) = created (string_bytes path) answer.value
deed_of (path, gave.Closed disk) = closed (string_bytes path) disk.value

-- the deeds, the first first
abbrev pub deeds_of : {D : Type 0} → DeedLog D → List (Deed D)
deeds_of kept = map deed_of kept.log.items
