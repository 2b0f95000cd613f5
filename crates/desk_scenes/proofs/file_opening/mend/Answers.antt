use Rattle.std.proofs.Common.{string_bytes}
use Rattle.tune_disk.specs.declared.file.Access.TheVariants.{Change}
use Rattle.desk_scenes.specs.Visits.{visit, spared}
use Rattle.desk_scenes.proofs.VisitLemmas.{two_deeds, spares_closed}
use Rattle.desk_scenes.proofs.file_opening.mend.Goals as goal

pub returns : goal.returns
returns g c =
    let opens = c.in_ok-archive.ensures in (
      visit (string_bytes c.args.file.now) Change opens.old c.into_disk.result,
      two_deeds _ _ _ _ _ opens.deeds c.close.ensures.deed,
      spared opens.old c.into_disk.result
          (spares_closed g.D.Disk opens.old c.into_disk.result c.in_ok-archive.archive opens.is c.into_disk.ensures.disk),
    )
