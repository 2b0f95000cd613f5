use Rattle.std.proofs.Common.{◌≡◌, ◌<◌, inl, length, refl, arith, rules}
use Rattle.std.proofs.lemmas.Result.{on_ok_weaker, err_from_is_err_and}
use Rattle.tune_disk.proofs.Moments.{spares_then, spares_write}
use Rattle.tune_journal.specs.Inside.Phases.{IsOutside}
use Rattle.tune_journal.specs.FileOffsets.{block_bytes, gate_offset, descriptor_offset, count_offset, pages_offset}
use Rattle.tune_journal.proofs.CallRuns.{writes_fewer, writes_after, writes_ok}
use Rattle.tune_journal.proofs.Making.{laid_after}
use Rattle.tune_journal.proofs.make.lay.Goals as goal

pub returns-clause-writes : goal.returns-clause-writes
returns-clause-writes g c = λ h.
    (let h3 = c.write_synced.ensures.calls.was_honest h in
    let h2 = c.in_ok-write_at-3.ensures.calls.was_honest h3 in
    let h1 = c.in_ok-write_at-2.ensures.calls.was_honest h2 in
    let first = spares_write (λ i. i < block_bytes) gate_offset _ c.write_at.result _ _ (c.write_at.ensures.write h1) (λ i lt. inl lt) in
    let second = spares_write (λ i. i < block_bytes) descriptor_offset _ c.write_at-2.result _ _ (c.write_at-2.ensures.write h2) (λ i lt. inl (omega arith)) in
    let third = spares_write (λ i. i < block_bytes) count_offset _ c.write_at-3.result _ _ (c.write_at-3.ensures.write h3) (λ i lt. inl (omega arith)) in
    writes_after (λ i. i < block_bytes) c.write_synced.result _ _ _
    (spares_then (λ i. i < block_bytes) _ _ _ first (spares_then (λ i. i < block_bytes) _ _ _ second third))
    (writes_fewer (IsOutside pages_offset (length c.args.first.now.bytes)) (λ i. i < block_bytes) c.write_synced.result _ _ (λ i lt. inl (omega arith))
    (c.write_synced.ensures.writes h)))

pub returns-clause-laid : goal.returns-clause-laid
returns-clause-laid g c =
    on_ok_weaker c.write_synced.result (λ w h long.
    (let h3 = c.write_synced.ensures.calls.was_honest h in
    let h2 = c.in_ok-write_at-3.ensures.calls.was_honest h3 in
    let h1 = c.in_ok-write_at-2.ensures.calls.was_honest h2 in
    let size : length c.args.first.now.bytes ≡ block_bytes = search rules in
    laid_after c.args.first.now.bytes _ c.number_bytes.result _ _ _ _ _ long refl refl c.number_bytes.ensures size
    (writes_ok gate_offset _ c.write_at.result _ (g.D.Disk.state c.args.disk.now) (g.D.Disk.state c.write_at.new.self) c.in_ok-write_at.was
    (c.write_at.ensures.write h1))
    (writes_ok descriptor_offset _ c.write_at-2.result _ (g.D.Disk.state c.write_at.new.self) (g.D.Disk.state c.write_at-2.new.self) c.in_ok-write_at-2.was
    (c.write_at-2.ensures.write h2))
    (writes_ok count_offset _ c.write_at-3.result _ (g.D.Disk.state c.write_at-2.new.self) (g.D.Disk.state c.write_at-3.new.self) c.in_ok-write_at-3.was
    (c.write_at-3.ensures.write h3))
    (w h))) c.write_synced.ensures.written

pub returns-in_err-write_at-3-clause-writes : goal.returns-in_err-write_at-3-clause-writes
returns-in_err-write_at-3-clause-writes g c =
    let p = err_from_is_err_and c.from_residual-in_err-write_at-3.result c.from_residual-in_err-write_at-3.ensures.1 in
    rw p.1 (λ h3.
    (let h2 = c.write_at-3.ensures.calls.was_honest h3 in
    let h1 = c.in_ok-write_at-2.ensures.calls.was_honest h2 in
    let first = spares_write (λ i. i < block_bytes) gate_offset _ c.write_at.result _ _ (c.write_at.ensures.write h1) (λ i lt. inl lt) in
    let second = spares_write (λ i. i < block_bytes) descriptor_offset _ c.write_at-2.result _ _ (c.write_at-2.ensures.write h2) (λ i lt. inl (omega arith)) in
    let third = spares_write (λ i. i < block_bytes) count_offset _ c.write_at-3.result _ _ (c.write_at-3.ensures.write h3) (λ i lt. inl (omega arith)) in
    spares_then (λ i. i < block_bytes) _ _ _ first (spares_then (λ i. i < block_bytes) _ _ _ second third)))

pub returns-in_err-write_at-2-clause-writes : goal.returns-in_err-write_at-2-clause-writes
returns-in_err-write_at-2-clause-writes g c =
    let p = err_from_is_err_and c.from_residual-in_err-write_at-2.result c.from_residual-in_err-write_at-2.ensures.1 in
    rw p.1 (λ h2.
    (let h1 = c.write_at-2.ensures.calls.was_honest h2 in
    let first = spares_write (λ i. i < block_bytes) gate_offset _ c.write_at.result _ _ (c.write_at.ensures.write h1) (λ i lt. inl lt) in
    let second = spares_write (λ i. i < block_bytes) descriptor_offset _ c.write_at-2.result _ _ (c.write_at-2.ensures.write h2) (λ i lt. inl (omega arith)) in
    spares_then (λ i. i < block_bytes) _ _ _ first second))

pub returns-in_err-write_at-clause-writes : goal.returns-in_err-write_at-clause-writes
returns-in_err-write_at-clause-writes g c =
    let p = err_from_is_err_and c.from_residual.result c.from_residual.ensures.1 in
    rw p.1 (λ h1. spares_write (λ i. i < block_bytes) gate_offset _ c.write_at.result _ _ (c.write_at.ensures.write h1) (λ i lt. inl lt))
