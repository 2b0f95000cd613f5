use Rattle.std.proofs.Common.{◌≡◌, rules, sym, ap, subst}
use Rattle.tune_disk.specs.Disk.{DiskState, MayLeave}
use Rattle.tune_disk.specs.Memory.{memory_state, IsFilled}
use Rattle.tune_disk.proofs.Filled.{filled_stays}
use Rattle.tune_disk.proofs.Kept.{stable_stays, holds_then}
use Rattle.tune_disk.proofs.memory.MemoryDisk.stopped.Goals as goal
use Rattle.tune_disk.proofs.memory.MemoryDisk.stopped.Goals.{in-Lost+in_ok-file-in-Lost, in-Kept+in_ok-file-in-Kept}
use Rattle.tune_disk.proofs.memory.MemoryDisk.stopped.Goals.{in-Fill+in_ok-file-in-Fill}

pub returns-clause-file : goal.returns-clause-file
returns-clause-file c =
    let s = memory_state c.args.self.now in
    let stays = c.args.self.now.stays in
    let file = c.match-choice.file.items in
    let left : MayLeave s.now file = elim c.match-choice.branch [
      | in-Lost+in_ok-file-in-Lost w ↦ (let is : file ≡ s.now.stable = search rules in subst (MayLeave s.now) (sym is) (stable_stays _ _ stays))
      | in-Kept+in_ok-file-in-Kept w ↦ (let is : file ≡ s.seen = search rules in subst (MayLeave s.now) (sym is) stays)
      | in-Fill+in_ok-file-in-Fill w ↦
          (let is : IsFilled w.in-Fill.byte s file = search rules in
          filled_stays w.in-Fill.byte s file stays is)
    ] in
    holds_then c.holding.result _ _ c.holding.ensures
    (λ d is. subst (MayLeave s.now) (sym (ap (λ (t : DiskState). t.seen) is)) left)
