use Rattle.desk_loads.proofs.FillLemmas.{ok_by, shows_archive}
use Rattle.desk_loads.proofs.filling.look_over.Goals as goal

pub returns : goal.returns
returns g c = ok_by (λ filled told.
    shows_archive g.D.Disk c.args.archive c.loaded_parts-parts.new.store c.into_disk.result filled
    c.counts-counts.result c.loaded_parts-parts.result told.0 told.1
    c.loaded_parts-parts.ensures c.law_of_labels.ensures c.law_of_sets.ensures c.into_disk.ensures.disk c.into_disk.ensures.rest
    c.counts-counts.ensures.counts)
    c.filled_of.result c.filled_of.ensures
