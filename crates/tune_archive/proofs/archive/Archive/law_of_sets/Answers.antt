use Rattle.tune_archive.proofs.Called.{tells}
use Rattle.tune_archive.proofs.archive.Archive.law_of_sets.Goals as goal

pub returns : goal.returns
returns g c = λ is_open honest.
    (tells g.D.Disk.honest g.D.Disk.failures g.D.Disk.state c.args.self.now c.holds.ensures is_open honest).sets
