use Rattle.std.proofs.Common.{inl, refl}
use Rattle.tune_cli.proofs.HeadlineLemmas.{runs_done}
use Rattle.desk_orders.proofs.ScriptLemmas.{asks_script}
use Rattle.desk_scenes.proofs.VisitLemmas.{two_deeds}
use Rattle.desk_orders.proofs.orders.run_script.Goals as goal

pub returns-in-Ok : goal.returns-in-Ok
returns-in-Ok g c =
    let path = c.args.file.now in
    let old = c.in-Ok.disk in
    let done = c.run_on-status.result in
    let runs = c.run_on-status.ensures.runs in
    inl (
      old,
      done,
      two_deeds _ _ _ _ _ c.in-Ok.ensures.deed c.close.ensures.deed,
      runs,
      asks_script g.D.Disk path _ old done (runs_done g.D.Disk path _ old done runs),
      refl,
    )
