use Rattle.std.proofs.Common.{◌<◌, ◌^◌, string_bytes, arith}
use Rattle.desk_copies.proofs.RestoreLemmas.{linked_by}
use Rattle.desk_copies.proofs.put_aside.put_aside_as.Goals as goal

pub returns-in_default : goal.returns-in_default
returns-in_default g c = λ file was h. h

pub returns : goal.returns
returns g c = λ file was h.
    let lt : c.args.number < 2 ^ 64 = omega (arith, c.ranges.number) in
    linked_by file (string_bytes c.args.target.now) (string_bytes c.in-Ok.aside) c.args.number was _ _ c.link.result lt c.in-Ok.ensures.ok c.link.ensures.deed h
