use Rattle.std.proofs.Common.{subst}
use Rattle.tune_contents.specs.Claimed.{RowsRise}
use Rattle.tune_archive.specs.Shelf.{Shelf}
use Rattle.tune_archive.proofs.FetchLemmas.{labels_rise}
use Rattle.tune_archive.proofs.archive_catalog.ArchiveCatalog.len.Goals as goal

pub returns-clause-rise : goal.returns-clause-rise
returns-clause-rise g c =
    labels_rise 0 c.args.self.now.contents.rows.items
    (subst (λ (a : Shelf g.row.D.Denot). RowsRise 0 a.contents.rows.items) c.self.view_is c.self.invariant.rows.rise)
