use Rattle.std.proofs.Common.{◌≡◌, rules, string_bytes}
use Rattle.tune_desk.specs.Results.{old_of}
use Rattle.desk_scenes.proofs.QuietLemmas.{quiet_none}
use Rattle.desk_changes.specs.declared.words.NotUndone.{NotUndone}
use Rattle.desk_changes.specs.declared.words.NotUndone.TheVariants.{NoBook}
use Rattle.desk_changes.proofs.UndoLemmas.{found_in, missing_in}
use Rattle.desk_changes.proofs.taking_back.read_changes.Goals as goal

pub returns-in_default-clause-reads : goal.returns-in_default-clause-reads
returns-in_default-clause-reads g c = quiet_none _

pub returns-clause-reads : goal.returns-clause-reads
returns-clause-reads g c =
    let file = string_bytes c.args.file.now in
    let old : string_bytes c.in-Ok.old ≡ old_of file = search rules in
    found_in file (string_bytes c.in-Ok.old) c.read-book.result c.steps_in.result _ _ old c.read-book.ensures.deed c.steps_in.ensures.finds

pub returns-clause-lacks : goal.returns-clause-lacks
returns-clause-lacks g c =
    let file = string_bytes c.args.file.now in
    let old : string_bytes c.in-Ok.old ≡ old_of file = search rules in
    missing_in file (string_bytes c.in-Ok.old) c.read-book.result c.steps_in.result (λ (why : NotUndone). why ≡ NoBook) _ _ old c.read-book.ensures.deed
    c.steps_in.ensures.lacks
