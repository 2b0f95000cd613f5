use Rattle.std.proofs.Common.{◌≡◌, [], ◌∷◌, ◌+◌, ◌-◌, ◌∙◌, List, length, drop, arith, sym, ap, subst, append-nil, refl, false, string_bytes}
use Rattle.std.proofs.lemmas.Result.{err_from_is_err_and}
use Rattle.std.proofs.lemmas.List.{drop_all, drop_more}
use Rattle.tune_undo.specs.declared.old_entries.Step.{Step}
use Rattle.desk_changes.specs.Inside.Telling.{Tells}
use Rattle.desk_changes.specs.Inside.TriedUndoings.{steps_of}
use Rattle.desk_changes.specs.TakenBack.{UndoesEntries}
use Rattle.desk_changes.proofs.UndoLemmas.{entries_more, entries_broken}
use Rattle.desk_changes.proofs.WorkLemmas.{beside_none, beside_both, course_of}
use Rattle.desk_changes.proofs.taking_back.undo_entries.Goals as goal

pub loop-left-init : goal.loop-left-init
loop-left-init g c =
    let file = string_bytes c.args.file.now in
    let changes = c.args.changes.now in
    let here = c.args.archive.now in
    let was = g.K.Desk.deeds c.args.desk.now in
    record {
      within = omega arith;
      works = beside_none g.D.Disk file _ _;
      undone = record {
        more = [];
        are = sym (append-nil c.args.told.now.items);
        so = subst (λ (l : List Step). UndoesEntries g.D.Disk file (steps_of l) false [] (course_of g.D.Disk file here here was was))
            (sym (drop_all (length changes) changes (omega arith))) (refl, refl, (refl, refl));
      };
    }

pub returns-in_err-its-clause-works : goal.returns-in_err-its-clause-works
returns-in_err-its-clause-works g c =
    beside_both g.D.Disk (string_bytes c.args.file.now) _ _ _ _ _ _ c.loop-left.invariant.works c.undo_entry.ensures.works

pub returns-in_err-its-clause-undoes : goal.returns-in_err-its-clause-undoes
returns-in_err-its-clause-undoes g c =
    let changes = c.args.changes.now in
    let left = c.loop-left.left in
    let step = c.index-changes-left.result in
    let at : left - 1 + 1 ≡ left = omega arith in
    let p = err_from_is_err_and c.from_residual.result c.from_residual.ensures.1 in
    rw p.1 (entries_broken g.D.Disk (string_bytes c.args.file.now) changes (drop left changes) (left - 1) step _ _ _ _ _ _ _ _
    (drop_more changes (left - 1) step (omega arith) ∙ ap (λ (s : Step). s ∷ drop (left - 1 + 1) changes) (sym c.index-changes-left.is)
    ∙ ap (λ n. step ∷ drop n changes) at) c.loop-left.invariant.undone.so c.in_err-its.ensures.undoes)

pub loop-left-preserved : goal.loop-left-preserved
loop-left-preserved g c =
    let changes = c.args.changes.now in
    let left = c.loop-left.left in
    let step = c.index-changes-left.result in
    let at : left - 1 + 1 ≡ left = omega arith in
    record {
      within = omega (arith, c.loop-left.invariant.within);
      works = beside_both g.D.Disk (string_bytes c.args.file.now) _ _ _ _ _ _ c.loop-left.invariant.works c.undo_entry.ensures.works;
      undone = entries_more g.D.Disk (string_bytes c.args.file.now) _ (drop left changes) step _ _ _ _ _ _ _ _ _ _ _ _
          (drop_more changes (left - 1) step (omega arith) ∙ ap (λ (s : Step). s ∷ drop (left - 1 + 1) changes) (sym c.index-changes-left.is)
          ∙ ap (λ n. step ∷ drop n changes) at) c.loop-left.invariant.undone c.in_ok-its.ensures.undoes c.is_either-took_place.ensures;
    }

pub returns-clause-undoes : goal.returns-clause-undoes
returns-clause-undoes g c =
    let file = string_bytes c.args.file.now in
    let none : c.loop-left.left ≡ 0 = omega arith in
    subst (λ n. Tells (record { was = c.args.told.now.items; now = c.loop-left.told.items })
    (λ more. UndoesEntries g.D.Disk file (steps_of (drop n c.args.changes.now)) c.loop-left.took_place more
    (course_of g.D.Disk file c.args.archive.now c.loop-left.archive (g.K.Desk.deeds c.args.desk.now) (g.K.Desk.deeds c.loop-left.desk))))
    none c.loop-left.invariant.undone
