use Rattle.desk_loads.proofs.filling.fill_disk.Goals as goal

pub returns-in-Ok : goal.returns-in-Ok
returns-in-Ok g c = c.fill_archive.ensures c.in-Ok.ensures.is_open c.in-Ok.ensures.state
