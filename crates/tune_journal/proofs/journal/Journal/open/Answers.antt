use Rattle.std.proofs.Common.{subst}
use Rattle.tune_journal.specs.Image.{StandsFor, pages_of}
use Rattle.tune_journal.proofs.Above.{stands_once}
use Rattle.tune_journal.proofs.Openings.{looked_leaves, looked_keeps, ended_leaves, ended_keeps, recovered_stands, sees_damaged, closed_rest, open_entries}
use Rattle.tune_journal.proofs.Openings.{sees_open_gate}
use Rattle.tune_journal.proofs.Openings.{open_bounds}
use Rattle.tune_journal.proofs.Rests.{rest_leaves, rest_stands}
use Rattle.tune_journal.proofs.journal.Journal.open.Goals as goal

-- A look alone: what a stop leaves since then.
pub returns-in-Ok-Closed-clause-leaves : goal.returns-in-Ok-Closed-clause-leaves
returns-in-Ok-Closed-clause-leaves g c =
    looked_leaves g.D.Disk.honest g.D.Disk.state g.met.D.Disk.seen_may_stay c.args.disk c.look.new.disk c.look.ensures.calls.was_honest c.look.ensures.state

pub returns-in-Ok-Closed-clause-moments : goal.returns-in-Ok-Closed-clause-moments
returns-in-Ok-Closed-clause-moments g c =
    looked_keeps g.D.Disk.honest g.D.Disk.state g.met.D.Disk.seen_may_stay c.args.disk c.look.new.disk c.look.ensures.calls.was_honest c.look.ensures.state

pub returns-in-Ok-Damaged-clause-leaves : goal.returns-in-Ok-Damaged-clause-leaves
returns-in-Ok-Damaged-clause-leaves g c =
    rw c.hand_back-in-Ok-Damaged.ensures
    (looked_leaves g.D.Disk.honest g.D.Disk.state g.met.D.Disk.seen_may_stay c.args.disk c.look.new.disk c.look.ensures.calls.was_honest c.look.ensures.state)

pub returns-in-Ok-Damaged-clause-moments : goal.returns-in-Ok-Damaged-clause-moments
returns-in-Ok-Damaged-clause-moments g c =
    rw c.hand_back-in-Ok-Damaged.ensures
    (looked_keeps g.D.Disk.honest g.D.Disk.state g.met.D.Disk.seen_may_stay c.args.disk c.look.new.disk c.look.ensures.calls.was_honest c.look.ensures.state)

pub returns-in-Ok-NotArchive-clause-leaves : goal.returns-in-Ok-NotArchive-clause-leaves
returns-in-Ok-NotArchive-clause-leaves g c =
    rw c.hand_back-in-Ok-NotArchive.ensures
    (looked_leaves g.D.Disk.honest g.D.Disk.state g.met.D.Disk.seen_may_stay c.args.disk c.look.new.disk c.look.ensures.calls.was_honest c.look.ensures.state)

pub returns-in-Ok-NotArchive-clause-moments : goal.returns-in-Ok-NotArchive-clause-moments
returns-in-Ok-NotArchive-clause-moments g c =
    rw c.hand_back-in-Ok-NotArchive.ensures
    (looked_keeps g.D.Disk.honest g.D.Disk.state g.met.D.Disk.seen_may_stay c.args.disk c.look.new.disk c.look.ensures.calls.was_honest c.look.ensures.state)

pub returns-in-Err-clause-leaves : goal.returns-in-Err-clause-leaves
returns-in-Err-clause-leaves g c =
    rw c.hand_back-in-Err.ensures
    (looked_leaves g.D.Disk.honest g.D.Disk.state g.met.D.Disk.seen_may_stay c.args.disk c.look.new.disk c.look.ensures.calls.was_honest c.look.ensures.state)

pub returns-in-Err-clause-moments : goal.returns-in-Err-clause-moments
returns-in-Err-clause-moments g c =
    rw c.hand_back-in-Err.ensures
    (looked_keeps g.D.Disk.honest g.D.Disk.state g.met.D.Disk.seen_may_stay c.args.disk c.look.new.disk c.look.ensures.calls.was_honest c.look.ensures.state)

-- A look, and the rest of a commit.
pub returns-in-Ok-clause-leaves : goal.returns-in-Ok-clause-leaves
returns-in-Ok-clause-leaves g c =
    ended_leaves g.D.Disk.honest g.D.Disk.state g.met.D.Disk.seen_may_stay c.args.disk c.look.new.disk c.look.ensures.calls.was_honest
    c.in-Ok-Open.ensures.synced _ c.in-Ok.ensures.calls.was_honest _ c.in-Ok.ensures.moments

pub returns-in-Ok-clause-moments : goal.returns-in-Ok-clause-moments
returns-in-Ok-clause-moments g c =
    ended_keeps g.D.Disk.honest g.D.Disk.state g.met.D.Disk.seen_may_stay c.args.disk c.look.new.disk c.look.ensures.calls.was_honest
    c.in-Ok-Open.ensures.synced _ c.in-Ok.ensures.calls.was_honest _ c.in-Ok.ensures.moments

pub returns-in-Err-finish-clause-leaves : goal.returns-in-Err-finish-clause-leaves
returns-in-Err-finish-clause-leaves g c =
    rw c.hand_back.ensures (ended_leaves g.D.Disk.honest g.D.Disk.state g.met.D.Disk.seen_may_stay c.args.disk c.look.new.disk c.look.ensures.calls.was_honest
    c.in-Ok-Open.ensures.synced _ c.in-Err-finish.ensures.calls.was_honest _ c.in-Err-finish.ensures.moments)

pub returns-in-Err-finish-clause-moments : goal.returns-in-Err-finish-clause-moments
returns-in-Err-finish-clause-moments g c =
    rw c.hand_back.ensures (ended_keeps g.D.Disk.honest g.D.Disk.state g.met.D.Disk.seen_may_stay c.args.disk c.look.new.disk c.look.ensures.calls.was_honest
    c.in-Ok-Open.ensures.synced _ c.in-Err-finish.ensures.calls.was_honest _ c.in-Err-finish.ensures.moments)

-- The pages, and why there are none.
pub returns-in-Ok-Closed-clause-pages : goal.returns-in-Ok-Closed-clause-pages
returns-in-Ok-Closed-clause-pages g c = λ h.
    (let s = g.D.Disk.state c.look.new.disk in
    let synced = c.in-Ok-Closed.ensures.synced h in
    let rest =
    closed_rest c.in-Ok-Closed.count c.in-Ok-Closed.field-0 (g.D.Disk.state c.args.disk) s c.in-Ok-Closed.field-0-is synced
    (c.in-Ok-Closed.ensures.sees h) in
    subst (StandsFor (pages_of c.in-Ok-Closed.count s.seen)) synced.seen (rest_stands c.in-Ok-Closed.count s rest))

pub returns-in-Ok-Closed-clause-only : goal.returns-in-Ok-Closed-clause-only
returns-in-Ok-Closed-clause-only g c = λ h pages stands. stands_once pages _ (g.D.Disk.state c.args.disk).seen stands (returns-in-Ok-Closed-clause-pages g c h)

pub returns-in-Ok-Closed-clause-rest : goal.returns-in-Ok-Closed-clause-rest
returns-in-Ok-Closed-clause-rest g c = λ h. rest_leaves c.in-Ok-Closed.count (g.D.Disk.state c.look.new.disk)
    (closed_rest c.in-Ok-Closed.count c.in-Ok-Closed.field-0 (g.D.Disk.state c.args.disk) (g.D.Disk.state c.look.new.disk) c.in-Ok-Closed.field-0-is
    (c.in-Ok-Closed.ensures.synced h) (c.in-Ok-Closed.ensures.sees h))

pub returns-in-Ok-clause-pages : goal.returns-in-Ok-clause-pages
returns-in-Ok-clause-pages g c = λ h.
    (let mid = c.in-Ok.ensures.calls.was_honest h in
    recovered_stands (g.D.Disk.state c.args.disk) (g.D.Disk.state c.look.new.disk) _ _ _ (c.in-Ok-Open.ensures.synced mid)
    (g.met.D.Disk.seen_may_stay c.look.new.disk mid) (c.in-Ok.ensures.moments h) (c.in-Ok.ensures.pages h))

pub returns-in-Ok-clause-only : goal.returns-in-Ok-clause-only
returns-in-Ok-clause-only g c = λ h pages stands. stands_once pages _ (g.D.Disk.state c.args.disk).seen stands (returns-in-Ok-clause-pages g c h)

pub returns-in-Ok-Damaged-clause-refused : goal.returns-in-Ok-Damaged-clause-refused
returns-in-Ok-Damaged-clause-refused g c = rw c.hand_back-in-Ok-Damaged.ensures (λ h.
    (let sees = sees_damaged c.in-Ok-Damaged.field-0 _ c.in-Ok-Damaged.field-0-is (c.in-Ok-Damaged.ensures.sees h) in
    (c.in-Ok-Damaged.ensures.synced h, sees.0, sees.1, sees.2)))

pub finish-requires-clause-few : goal.finish-requires-clause-few
finish-requires-clause-few g c =
    open_bounds c.in-Ok-Open.new_count c.in-Ok-Open.entries c.in-Ok-Open.field-0
    (g.D.Disk.state c.look.new.disk) c.in-Ok-Open.field-0-is c.in-Ok-Open.ensures.bounded

pub finish-requires-clause-entries : goal.finish-requires-clause-entries
finish-requires-clause-entries g c =
    λ h. open_entries c.in-Ok-Open.new_count c.in-Ok-Open.entries c.in-Ok-Open.field-0 (g.D.Disk.state c.args.disk)
    (g.D.Disk.state c.look.new.disk) c.in-Ok-Open.field-0-is (c.in-Ok-Open.ensures.synced h) (c.in-Ok-Open.ensures.sees h)

-- Behind a closed gate there was the look alone.
pub returns-in-Ok-Closed-clause-synced : goal.returns-in-Ok-Closed-clause-synced
returns-in-Ok-Closed-clause-synced g c = λ h shut. c.in-Ok-Closed.ensures.synced h

pub returns-in-Ok-clause-synced : goal.returns-in-Ok-clause-synced
returns-in-Ok-clause-synced g c = λ h shut.
    absurd (shut (sees_open_gate c.in-Ok-Open.new_count c.in-Ok-Open.entries c.in-Ok-Open.field-0 (g.D.Disk.state c.args.disk).seen
    c.in-Ok-Open.field-0-is (c.in-Ok-Open.ensures.sees (c.in-Ok.ensures.calls.was_honest h))))

pub returns-in-Ok-Closed-clause-untouched : goal.returns-in-Ok-Closed-clause-untouched
returns-in-Ok-Closed-clause-untouched g c = λ h shut. c.look.ensures.state h

pub returns-in-Ok-Damaged-clause-untouched : goal.returns-in-Ok-Damaged-clause-untouched
returns-in-Ok-Damaged-clause-untouched g c = rw c.hand_back-in-Ok-Damaged.ensures (λ h shut. c.look.ensures.state h)

pub returns-in-Ok-NotArchive-clause-untouched : goal.returns-in-Ok-NotArchive-clause-untouched
returns-in-Ok-NotArchive-clause-untouched g c = rw c.hand_back-in-Ok-NotArchive.ensures (λ h shut. c.look.ensures.state h)

pub returns-in-Err-clause-untouched : goal.returns-in-Err-clause-untouched
returns-in-Err-clause-untouched g c = rw c.hand_back-in-Err.ensures (λ h shut. c.look.ensures.state h)

pub returns-in-Ok-clause-untouched : goal.returns-in-Ok-clause-untouched
returns-in-Ok-clause-untouched g c = λ h shut.
    absurd (shut (sees_open_gate c.in-Ok-Open.new_count c.in-Ok-Open.entries c.in-Ok-Open.field-0 (g.D.Disk.state c.args.disk).seen
    c.in-Ok-Open.field-0-is (c.in-Ok-Open.ensures.sees (c.in-Ok.ensures.calls.was_honest h))))

pub returns-in-Err-finish-clause-untouched : goal.returns-in-Err-finish-clause-untouched
returns-in-Err-finish-clause-untouched g c = rw c.hand_back.ensures (λ h shut.
    absurd (shut (sees_open_gate c.in-Ok-Open.new_count c.in-Ok-Open.entries c.in-Ok-Open.field-0 (g.D.Disk.state c.args.disk).seen
    c.in-Ok-Open.field-0-is (c.in-Ok-Open.ensures.sees (c.in-Err-finish.ensures.calls.was_honest h)))))
