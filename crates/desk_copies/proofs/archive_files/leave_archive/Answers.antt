use Rattle.std.proofs.Common.{string_bytes}
use Rattle.desk_copies.proofs.BeginningLemmas.{leaves_archive}
use Rattle.desk_copies.proofs.archive_files.leave_archive.Goals as goal

pub returns : goal.returns
returns g c = λ keeping file was begun.
    leaves_archive keeping file (string_bytes c.args.place.now.target) (string_bytes c.args.place.now.new) c.args.disk was _ _ _ _
    c.requires c.close.ensures.deed c.remove.ensures.deed begun
