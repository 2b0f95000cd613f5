use Rattle.std.proofs.Common.{◌≡◌, ◌≤◌, ◌+◌, ◌∙◌, ap, arith, take}
use Rattle.sha2.specs.Sha256.{sha256}
use Rattle.desk_copies.proofs.CopyLemmas.{looked_then, take_whole, turn_summed}
use Rattle.desk_copies.proofs.disk_copies.sum_parts.Goals as goal

pub returns-in_err-sum_part-clause-disk : goal.returns-in_err-sum_part-clause-disk
returns-in_err-sum_part-clause-disk g c = looked_then g.D.Disk.honest g.D.Disk.state _ _ _ c.loop-at.invariant.disk c.sum_part.ensures.disk

pub loop-at-preserved : goal.loop-at-preserved
loop-at-preserved g c =
    let honest = g.D.Disk.honest in
    let state = g.D.Disk.state in
    let inv = c.loop-at.invariant in
    let within : c.loop-at.at + c.min-some.result ≤ c.args.size = grind (arith, c.min-some.ensures, c.loop-at-test.true) in
    record {
      within = within;
      disk = looked_then honest state _ _ _ inv.disk c.sum_part.ensures.disk;
      summed = turn_summed honest state _ _ _ _ _ c.args.size c.loop-at.at c.min-some.result inv.disk c.sum_part.ensures.disk inv.summed
          c.in_ok-sum_part.ensures.summed within;
    }

pub returns-clause-summed : goal.returns-clause-summed
returns-clause-summed g c = λ h sized.
    let file = (g.D.Disk.state c.args.disk.now).seen in
    let all : take c.loop-at.at file ≡ file = take_whole file c.args.size c.loop-at.at sized c.loop-at-test.false in
    c.finalize.ensures (take c.loop-at.at file) (c.loop-at.invariant.summed h sized) ∙ ap sha256 all
