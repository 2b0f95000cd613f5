use Rattle.std.proofs.Common.{arith}
use Rattle.tune_contents.proofs.TakesLemmas.{freed_count}
use Rattle.tune_contents.proofs.LayLemmas.{some_chain, takes_tune}
use Rattle.tune_contents.proofs.laid_chains.take_tune.Goals as goal

pub free_chain-requires : goal.free_chain-requires
free_chain-requires g c = λ h _.
    some_chain c.args.edit.now.next c.args.rows.now.items c.args.place c.first_at.result c.requires.place
    c.first_at.ensures (c.requires.holds h)

pub returns-clause-lays : goal.returns-clause-lays
returns-clause-lays g c = λ h.
    (takes_tune c.args.edit.now.next c.free_chain.new.self.next c.args.rows.now.items c.args.place
    c.first_at.result c.requires.place c.first_at.ensures (c.in_ok-free_chain.ensures.next h))

pub returns-clause-takes : goal.returns-clause-takes
returns-clause-takes g c = λ h.
    (let s = c.args.edit.now.next in
    let new = c.free_chain.new.self.next in
    let there = some_chain s c.args.rows.now.items c.args.place c.first_at.result c.requires.place c.first_at.ensures
    (c.requires.holds (c.in_ok-free_chain.ensures.edits.looks.was_honest h)) in
    let back = freed_count s new c.first_at.result there (c.in_ok-free_chain.ensures.next h) in
    omega (arith, back))
