use Rattle.std.proofs.Common.{◌≡◌, ◌++◌, ◌∷◌, [], inl, refl, rules, false, Ok, string_bytes}
use Rattle.std.specs.List.{Contains}
use Rattle.tune_desk.specs.DeskDeeds.{compared, tested}
use Rattle.tune_desk.specs.Inside.Growths.{KnowsOther, KnowsNoArchive}
use Rattle.tune_desk.specs.Results.{archive_head}
use Rattle.tune_desk.proofs.OldTextsLemmas.{other_then}
use Rattle.tune_desk.proofs.old_texts.spare_other.Goals as goal

pub returns-in-Ok-false : goal.returns-in-Ok-false
returns-in-Ok-false g c =
    let file = string_bytes c.args.file.now in
    let old = string_bytes c.args.old.now in
    let is : c.in-Ok-false.field-0 ≡ false = search rules in
    other_then file old c.spare_archive.result _ _ _ (rw is at c.in-Ok-false.ensures.deed) c.spare_archive.ensures
