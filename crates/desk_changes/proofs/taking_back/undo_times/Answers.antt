use Rattle.std.proofs.Common.{◌<◌, ◌-◌, length, take, drop, arith, subst, string_bytes}
use Rattle.std.proofs.lemmas.Result.{err_from_is_err_and}
use Rattle.std.proofs.lemmas.List.{length-take-le, take_all}
use Rattle.desk_changes.specs.Inside.Telling.{Tells}
use Rattle.desk_changes.specs.Inside.TriedUndoings.{steps_of}
use Rattle.desk_changes.specs.TakenBack.{UndoesChange}
use Rattle.desk_changes.proofs.BookLemmas.{ends_in}
use Rattle.desk_changes.proofs.UndoLemmas.{back_none, last_undone, next_broken, none_left, one_passed, one_taken}
use Rattle.desk_changes.proofs.WorkLemmas.{beside_none, beside_both, course_of}
use Rattle.desk_changes.proofs.taking_back.undo_times.Goals as goal

pub loop-wanted-init : goal.loop-wanted-init
loop-wanted-init g c =
    let file = string_bytes c.args.file.now in
    let changes = c.args.last.changes.now in
    record {
      within = omega arith;
      works = beside_none g.D.Disk file _ _;
      so = back_none g.D.Disk file changes (length changes) _ _ _ _ (take_all (length changes) changes (omega arith));
    }

pub returns-in_err-took_place-clause-works : goal.returns-in_err-took_place-clause-works
returns-in_err-took_place-clause-works g c =
    beside_both g.D.Disk (string_bytes c.args.file.now) _ _ _ _ _ _ c.loop-wanted.invariant.works c.undo_change.ensures.works

pub returns-then-left-eq0-clause-works : goal.returns-then-left-eq0-clause-works
returns-then-left-eq0-clause-works g c = c.loop-wanted.invariant.works

pub returns-then-left-eq0-clause-undoes : goal.returns-then-left-eq0-clause-undoes
returns-then-left-eq0-clause-undoes g c =
    none_left g.D.Disk (string_bytes c.args.file.now) c.args.last.changes.now c.loop-wanted.left c.loop-wanted.wanted c.args.last.count _ _ _ _ _ _
    c.loop-wanted.invariant.so (omega arith) (omega arith)

pub returns-in_err-took_place-clause-undoes : goal.returns-in_err-took_place-clause-undoes
returns-in_err-took_place-clause-undoes g c =
    let changes = c.args.last.changes.now in
    let left = c.loop-wanted.left in
    let first = c.first_of-first.result in
    let long = length-take-le left changes c.loop-wanted.invariant.within in
    let some : 0 < length (take left changes) = omega (arith, long) in
    let less = c.first_of-first.ensures.before some in
    let p = err_from_is_err_and c.from_residual.result c.from_residual.ensures.1 in
    let change = steps_of (take (left - first) (drop first changes)) in
    rw p.1 (next_broken g.D.Disk (string_bytes c.args.file.now) changes left first c.loop-wanted.wanted c.args.last.count change _ _ _ _ _
    _ _ _ c.loop-wanted.invariant.so (ends_in changes left first (omega (arith, less, long))
    (c.first_of-first.ensures.ends some)) (omega arith) c.in_err-took_place.ensures.undoes)

pub loop-wanted-preserved-then-took_place : goal.loop-wanted-preserved-then-took_place
loop-wanted-preserved-then-took_place g c =
    let file = string_bytes c.args.file.now in
    let changes = c.args.last.changes.now in
    let left = c.loop-wanted.left in
    let wanted = c.loop-wanted.wanted in
    let first = c.first_of-first.result in
    let long = length-take-le left changes c.loop-wanted.invariant.within in
    let some : 0 < length (take left changes) = omega (arith, long) in
    let less = c.first_of-first.ensures.before some in
    let change = steps_of (take (left - first) (drop first changes)) in
    let course = course_of g.D.Disk file c.loop-wanted.archive c.undo_change.new.archive (g.K.Desk.deeds c.loop-wanted.desk)
    (g.K.Desk.deeds c.undo_change.new.desk) in
    record {
      within = omega (arith, less, long, c.loop-wanted.invariant.within);
      works = beside_both g.D.Disk file _ _ _ _ _ _ c.loop-wanted.invariant.works c.undo_change.ensures.works;
      so = one_taken g.D.Disk file changes left first wanted (wanted - 1) c.args.last.count change _ _ _ _ _ _ _ _ _ c.loop-wanted.invariant.so
          (ends_in changes left first (omega (arith, less, long)) (c.first_of-first.ensures.ends some)) (omega arith)
          (subst (λ b. Tells (record { was = c.loop-wanted.told.items; now = c.undo_change.new.told.items })
          (λ more. UndoesChange g.D.Disk file change b more course)) c.if-took_place.true c.in_ok-took_place.ensures.undoes);
    }

pub loop-wanted-preserved : goal.loop-wanted-preserved
loop-wanted-preserved g c =
    let file = string_bytes c.args.file.now in
    let changes = c.args.last.changes.now in
    let left = c.loop-wanted.left in
    let first = c.first_of-first.result in
    let long = length-take-le left changes c.loop-wanted.invariant.within in
    let some : 0 < length (take left changes) = omega (arith, long) in
    let less = c.first_of-first.ensures.before some in
    let change = steps_of (take (left - first) (drop first changes)) in
    let course = course_of g.D.Disk file c.loop-wanted.archive c.undo_change.new.archive (g.K.Desk.deeds c.loop-wanted.desk)
    (g.K.Desk.deeds c.undo_change.new.desk) in
    record {
      within = omega (arith, less, long, c.loop-wanted.invariant.within);
      works = beside_both g.D.Disk file _ _ _ _ _ _ c.loop-wanted.invariant.works c.undo_change.ensures.works;
      so = one_passed g.D.Disk file changes left first c.loop-wanted.wanted c.args.last.count change _ _ _ _ _ _ _ _ _ c.loop-wanted.invariant.so
          (ends_in changes left first (omega (arith, less, long)) (c.first_of-first.ensures.ends some))
          (subst (λ b. Tells (record { was = c.loop-wanted.told.items; now = c.undo_change.new.told.items })
          (λ more. UndoesChange g.D.Disk file change b more course)) c.if-took_place.false c.in_ok-took_place.ensures.undoes);
    }

pub returns-clause-undoes : goal.returns-clause-undoes
returns-clause-undoes g c =
    last_undone g.D.Disk (string_bytes c.args.file.now) c.args.last.changes.now c.loop-wanted.left c.loop-wanted.wanted c.args.last.count _ _ _
    c.loop-wanted.invariant.so (omega arith)
