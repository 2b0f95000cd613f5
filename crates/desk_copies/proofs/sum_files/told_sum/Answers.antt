use Rattle.std.proofs.Common.{arith}
use Rattle.std.proofs.lemmas.List.{length-take}
use Rattle.desk_copies.proofs.sum_files.told_sum.Goals as goal

pub slice_bounds-digits-end : goal.slice_bounds-digits-end
slice_bounds-digits-end c = let long = c.if-text.false in omega (arith, long, length-take 64 c.args.text.now)
