use Rattle.std.proofs.Common.{refl, string_bytes}
use Rattle.desk_copies.proofs.BeginningLemmas.{followed_asked}
use Rattle.desk_copies.proofs.archive_files.find_standing.Goals as goal

pub returns-clause-asks : goal.returns-clause-asks
returns-clause-asks g c = λ file was h. followed_asked file (string_bytes c.args.target.now) was _ h _ _ c.look-found.ensures.deed refl
