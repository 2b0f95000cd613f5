use Rattle.std.proofs.Common.{arith, ◌∙◌, List, ℕ, subst}
use Rattle.tune_disk.specs.Stops.{LeavesOnly}
use Rattle.tune_journal.specs.Image.{StandsFor}
use Rattle.tune_journal.specs.Making.{StandsForNoneOr}
use Rattle.tune_journal.proofs.Rests.{rest_leaves}
use Rattle.tune_journal.proofs.AheadPages.{none_ahead}
use Rattle.tune_journal.proofs.Agreeing.{length-pages_of}
use Rattle.tune_journal.proofs.Openings.{synced_since}
use Rattle.tune_journal.proofs.Making.{making_since, empty_none, nothing_in}
use Rattle.tune_journal.proofs.journal.Journal.make.Goals as goal

pub invariant_of-result : goal.invariant_of-result
invariant_of-result g c = record {
  least = omega arith;
  most = omega arith;
  rest = λ h.
      (let empty = c.in-Ok-eq0.ensures.ok (c.lay_out.ensures.calls.was_honest h) in
      c.in-Ok-lay_out.ensures.rest h (empty.0.seen ∙ nothing_in _ _ c.in-Ok-eq0.field-0-test empty.1));
  ahead = none_ahead g.D.Disk.honest g.D.Disk.state c.lay_out.new.disk 1 c.new.result c.new.ensures;
}

pub returns-in-Ok-lay_out-clause-moments : goal.returns-in-Ok-lay_out-clause-moments
returns-in-Ok-lay_out-clause-moments g c = λ h only.
    (let h1 = c.lay_out.ensures.calls.was_honest h in
    let stays = g.met.D.Disk.seen_may_stay c.args.disk (c.settle.ensures.calls.was_honest h1) in
    making_since c.args.first.now.bytes _ _ _ stays only (c.in-Ok-eq0.ensures.ok h1).0 (c.lay_out.ensures.moments h))

pub returns-in-Err-lay_out-clause-moments : goal.returns-in-Err-lay_out-clause-moments
returns-in-Err-lay_out-clause-moments g c = rw c.hand_back.ensures (λ h only.
    (let h1 = c.lay_out.ensures.calls.was_honest h in
    let stays = g.met.D.Disk.seen_may_stay c.args.disk (c.settle.ensures.calls.was_honest h1) in
    making_since c.args.first.now.bytes _ _ _ stays only (c.in-Ok-eq0.ensures.ok h1).0 (c.lay_out.ensures.moments h)))

pub returns-in-Err-clause-moments : goal.returns-in-Err-clause-moments
returns-in-Err-clause-moments g c = rw c.hand_back-in-Err.ensures (λ h only.
    (let first = c.args.first.now.bytes in
    let stays = g.met.D.Disk.seen_may_stay c.args.disk (c.settle.ensures.calls.was_honest h) in
    synced_since (StandsForNoneOr first) _ _ (λ file left. empty_none first file (only file left)) stays (c.settle.ensures.err h)))

pub returns-in-Ok-lay_out-clause-rest : goal.returns-in-Ok-lay_out-clause-rest
returns-in-Ok-lay_out-clause-rest g c = λ h.
    (let s = g.D.Disk.state c.lay_out.new.disk in
    let ok = c.in-Ok-eq0.ensures.ok (c.lay_out.ensures.calls.was_honest h) in
    let empty = ok.0.seen ∙ nothing_in _ _ c.in-Ok-eq0.field-0-test ok.1 in
    subst (λ (p : List (List ℕ)). LeavesOnly s.now (StandsFor p)) (c.in-Ok-lay_out.ensures.pages h empty)
    (rest_leaves 1 s (c.in-Ok-lay_out.ensures.rest h empty)))

pub returns-in-Ok-lay_out-clause-count : goal.returns-in-Ok-lay_out-clause-count
returns-in-Ok-lay_out-clause-count g c = length-pages_of 1 (g.D.Disk.state c.lay_out.new.disk).seen
