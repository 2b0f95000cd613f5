use Rattle.std.proofs.Common.{inl, inr, refl, subst, string_bytes, Ok}
use Rattle.desk_loads.specs.Inside.LayoutChanges.{UpgradesFile}
use Rattle.desk_loads.proofs.UpgradeLemmas.{not_upgraded}
use Rattle.desk_loads.proofs.layout_changes.upgrade.Goals as goal

pub returns-in-Ok-Already-clause-upgrades : goal.returns-in-Ok-Already-clause-upgrades
returns-in-Ok-Already-clause-upgrades g c = inl (
  subst (λ l. UpgradesFile g.D.Disk (string_bytes c.args.file.now) (Ok l) (g.K.Desk.deeds c.args.desk.now) (g.K.Desk.deeds c.upgrade_file.new.desk))
      c.in-Ok-Already.field-0-is c.in-Ok-Already.ensures.upgrades,
  c.print.ensures,
)

pub returns-in-Ok-Now-clause-upgrades : goal.returns-in-Ok-Now-clause-upgrades
returns-in-Ok-Now-clause-upgrades g c = inr (inl (
  subst (λ l. UpgradesFile g.D.Disk (string_bytes c.args.file.now) (Ok l) (g.K.Desk.deeds c.args.desk.now) (g.K.Desk.deeds c.upgrade_file.new.desk))
      c.in-Ok-Now.field-0-is c.in-Ok-Now.ensures.upgrades,
  c.print-in-Ok-Now.ensures,
))

pub returns-in-Err-clause-upgrades : goal.returns-in-Err-clause-upgrades
returns-in-Err-clause-upgrades g c = inr (inr (
  c.say_not_upgraded.ensures,
  (refl, refl),
  not_upgraded g.D.Disk (string_bytes c.args.file.now) c.in-Err.why _ _ c.in-Err.ensures.upgrades,
))
