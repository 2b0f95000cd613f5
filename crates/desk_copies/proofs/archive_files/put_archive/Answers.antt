use Rattle.std.proofs.Common.{string_bytes}
use Rattle.desk_copies.proofs.BeginningLemmas.{puts_archive}
use Rattle.desk_copies.proofs.archive_files.put_archive.Goals as goal

pub returns : goal.returns
returns g c = λ keeping file was begun over.
    puts_archive keeping file (string_bytes c.args.place.now.target) (string_bytes c.args.place.now.new) c.args.place.now.over c.args.disk was _ _ _
    c.finish_result.result c.requires c.close.ensures.deed c.finish_result.ensures begun over
