use Rattle.std.proofs.Common.{length, arith}
use Rattle.tune_pages.specs.Faults.{pages_for}
use Rattle.tune_contents.proofs.TakesLemmas.{freed_count, takes_behind, put_takes}
use Rattle.tune_pages.proofs.Edits.{honest_before}
use Rattle.tune_contents.proofs.LayLemmas.{swaps_where}
use Rattle.tune_contents.proofs.laid_chains.swap_chain.Goals as goal

pub returns-clause-swaps : goal.returns-clause-swaps
returns-clause-swaps g c =
    swaps_where c.put_chain.result _ c.args.edit.now.next c.free_chain.new.self.next
    c.put_chain.new.self.next c.args.first c.args.bytes.now (λ behind. c.in_ok-free_chain.ensures.next
    (honest_before g.D.Disk.honest c.free_chain.new.self c.put_chain.new.self c.put_chain.ensures.alters.base behind))
    c.put_chain.ensures.chain

pub returns-clause-takes : goal.returns-clause-takes
returns-clause-takes g c = λ behind.
    (let h = honest_before g.D.Disk.honest c.free_chain.new.self c.put_chain.new.self c.put_chain.ensures.alters.base behind in
    let s = c.args.edit.now.next in
    let mid = c.free_chain.new.self.next in
    let new = c.put_chain.new.self.next in
    let back = freed_count s mid c.args.first (c.requires.chain (c.in_ok-free_chain.ensures.edits.looks.was_honest h)) (c.in_ok-free_chain.ensures.next h) in
    takes_behind (pages_for (length c.args.bytes.now)) c.put_chain.result s mid new (omega (arith, back))
    (put_takes c.put_chain.result mid new c.args.bytes.now _ _ c.put_chain.ensures.chain c.put_chain.ensures.alters.answer))
