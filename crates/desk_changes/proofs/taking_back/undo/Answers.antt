use Rattle.std.proofs.Common.{None, false, string_bytes}
use Rattle.tune_desk.specs.Results.{result_places}
use Rattle.desk_scenes.proofs.FileLemmas.{quiet_spares}
use Rattle.desk_changes.proofs.taking_back.undo.Goals as goal

pub returns-in-List-clause-files : goal.returns-in-List-clause-files
returns-in-List-clause-files g c = quiet_spares g.D.Disk (result_places (string_bytes c.args.file.now) None false) _ _ c.list_changes.ensures.quiet
