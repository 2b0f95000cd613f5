use Rattle.std.proofs.Common.{refl, string_bytes}
use Rattle.desk_copies.proofs.making.make_file.Goals as goal

pub returns-in-Ok : goal.returns-in-Ok
returns-in-Ok g c = c.fill_new.ensures (string_bytes c.args.file.now) _ c.in-Ok.ensures.begun (c.in-Ok.ensures.over refl)
