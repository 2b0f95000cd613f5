use Rattle.std.proofs.Common.{refl, string_bytes}
use Rattle.desk_copies.proofs.RestoreLemmas.{holds_quiet}
use Rattle.desk_copies.proofs.restores.begins_as_archive.Goals as goal

pub returns-in-Ok-true : goal.returns-in-Ok-true
returns-in-Ok-true g c = λ file was h. holds_quiet file (string_bytes c.args.target.now) was _ _ _ h c.begins-begins.ensures.deed refl tt

pub returns-in-Ok-false : goal.returns-in-Ok-false
returns-in-Ok-false g c = λ file was h. holds_quiet file (string_bytes c.args.target.now) was _ _ _ h c.begins-begins.ensures.deed refl tt

pub returns-in-Err : goal.returns-in-Err
returns-in-Err g c = λ file was h. holds_quiet file (string_bytes c.args.target.now) was _ _ _ h c.begins-begins.ensures.deed refl tt
