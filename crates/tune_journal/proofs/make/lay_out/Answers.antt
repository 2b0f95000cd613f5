use Rattle.std.proofs.Common.{◌<◌, arith}
use Rattle.tune_disk.proofs.Moments.{since_then, since_weaker}
use Rattle.tune_journal.specs.Image.{StandsForNone}
use Rattle.tune_journal.specs.Inside.LaidFile.{IsCleared, IsLaid}
use Rattle.tune_journal.specs.Inside.Phases.{IsOutside}
use Rattle.tune_journal.specs.FileOffsets.{magic, block_bytes, magic_offset, magic_bytes}
use Rattle.tune_journal.specs.Making.{StandsForNoneOr}
use Rattle.tune_journal.proofs.CallRuns.{run_since, settles_settled, ok_pair}
use Rattle.tune_journal.proofs.Windows.{written_window}
use Rattle.tune_journal.proofs.Making.{laying, titling, titled_after, none_either}
use Rattle.tune_journal.proofs.make.lay_out.Goals as goal

pub returns-clause-moments : goal.returns-clause-moments
returns-clause-moments g c = λ h rest empty.
    (let first = c.args.first.now.bytes in
    let Q = StandsForNoneOr first in
    let h2 = c.write_synced.ensures.calls.was_honest h in
    let h1 = c.in_ok-lay.ensures.calls.was_honest h2 in
    let cleared : IsCleared (g.D.Disk.state c.clear.new.disk) = c.in_ok-clear.ensures.cleared h1 empty in
    let clearing = since_weaker StandsForNone Q (none_either first) _ _ (c.clear.ensures.moments h1 rest) in
    let laid =
    run_since Q (λ i. i < block_bytes) c.lay.result _ _ cleared.settled (c.lay.ensures.writes h2)
    (λ file agrees. none_either first file (laying _ cleared file agrees)) in
    let at : IsLaid first (g.D.Disk.state c.lay.new.disk).seen = c.in_ok-lay.ensures.laid h2 cleared.long in
    let settled = settles_settled (λ i. i < block_bytes) _ _ (c.in_ok-lay.ensures.writes h2) in
    let titled =
    run_since Q (IsOutside magic_offset magic_bytes) c.write_synced.result _ _ settled (c.write_synced.ensures.writes h)
    (λ file agrees. titling first _ file at agrees) in
    since_then Q _ _ _ clearing (since_then Q _ _ _ laid titled))

pub returns-clause-rest : goal.returns-clause-rest
returns-clause-rest g c = ok_pair c.write_synced.result _ _ _ c.write_synced.ensures.writes c.write_synced.ensures.written (λ ran w h empty.
    (let h2 = c.write_synced.ensures.calls.was_honest h in
    let h1 = c.in_ok-lay.ensures.calls.was_honest h2 in
    let cleared : IsCleared (g.D.Disk.state c.clear.new.disk) = c.in_ok-clear.ensures.cleared h1 empty in
    (titled_after c.args.first.now.bytes _ _ (c.in_ok-lay.ensures.laid h2 cleared.long) (ran h) (written_window 0 magic _ _ (omega arith) (w h))).0))

pub returns-clause-pages : goal.returns-clause-pages
returns-clause-pages g c = ok_pair c.write_synced.result _ _ _ c.write_synced.ensures.writes c.write_synced.ensures.written (λ ran w h empty.
    (let h2 = c.write_synced.ensures.calls.was_honest h in
    let h1 = c.in_ok-lay.ensures.calls.was_honest h2 in
    let cleared : IsCleared (g.D.Disk.state c.clear.new.disk) = c.in_ok-clear.ensures.cleared h1 empty in
    (titled_after c.args.first.now.bytes _ _ (c.in_ok-lay.ensures.laid h2 cleared.long) (ran h) (written_window 0 magic _ _ (omega arith) (w h))).1))

pub returns-in_err-lay-clause-moments : goal.returns-in_err-lay-clause-moments
returns-in_err-lay-clause-moments g c = λ h2 rest empty.
    (let first = c.args.first.now.bytes in
    let Q = StandsForNoneOr first in
    let h1 = c.lay.ensures.calls.was_honest h2 in
    let cleared : IsCleared (g.D.Disk.state c.clear.new.disk) = c.in_ok-clear.ensures.cleared h1 empty in
    let clearing = since_weaker StandsForNone Q (none_either first) _ _ (c.clear.ensures.moments h1 rest) in
    let laid =
    run_since Q (λ i. i < block_bytes) c.lay.result _ _ cleared.settled (c.lay.ensures.writes h2)
    (λ file agrees. none_either first file (laying _ cleared file agrees)) in
    since_then Q _ _ _ clearing laid)

pub returns-in_err-clear-clause-moments : goal.returns-in_err-clear-clause-moments
returns-in_err-clear-clause-moments g c =
    λ h1 rest empty. since_weaker StandsForNone (StandsForNoneOr c.args.first.now.bytes) (none_either c.args.first.now.bytes) _ _
    (c.clear.ensures.moments h1 rest)
