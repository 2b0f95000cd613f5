use Rattle.std.specs.Prelude.{string_bytes}
use Rattle.tune_disk.specs.Deeds.{opened, created}
use Rattle.tune_cli.proofs.HeadlineLemmas.{on_file, makes_done, runs_done, checks_done, upgrades_done}
use Rattle.tune_cli.proofs.actions.act.Goals as goal

pub returns-in-Make-clause-headline : goal.returns-in-Make-clause-headline
returns-in-Make-clause-headline g c =
    rw c.in-Make.is (on_file created (string_bytes c.in-Make.file) _ _ _ _ _ (makes_done g.D.Disk c.in-Make.file _) c.on_file.ensures)

pub returns-in-Run-clause-headline : goal.returns-in-Run-clause-headline
returns-in-Run-clause-headline g c =
    rw c.in-Run.is (on_file opened (string_bytes c.in-Run.file) _ _ _ _ _ (runs_done g.D.Disk c.in-Run.file _) c.on_file-in-Run.ensures)

pub returns-in-Check-clause-headline : goal.returns-in-Check-clause-headline
returns-in-Check-clause-headline g c =
    rw c.in-Check.is (on_file opened (string_bytes c.in-Check.file) _ _ _ _ _ (checks_done g.D.Disk c.in-Check.file _) c.on_file-in-Check.ensures)

pub returns-in-Upgrade-clause-headline : goal.returns-in-Upgrade-clause-headline
returns-in-Upgrade-clause-headline g c =
    rw c.in-Upgrade.is (on_file opened (string_bytes c.in-Upgrade.file) _ _ _ _ _ (upgrades_done g.D.Disk c.in-Upgrade.file _) c.on_file-in-Upgrade.ensures)

pub returns-in-Make-clause-acts : goal.returns-in-Make-clause-acts
returns-in-Make-clause-acts g c = rw c.in-Make.is c.on_file.ensures

pub returns-in-Run-clause-acts : goal.returns-in-Run-clause-acts
returns-in-Run-clause-acts g c = rw c.in-Run.is c.on_file-in-Run.ensures

pub returns-in-Check-clause-acts : goal.returns-in-Check-clause-acts
returns-in-Check-clause-acts g c = rw c.in-Check.is c.on_file-in-Check.ensures

pub returns-in-Upgrade-clause-acts : goal.returns-in-Upgrade-clause-acts
returns-in-Upgrade-clause-acts g c = rw c.in-Upgrade.is c.on_file-in-Upgrade.ensures
