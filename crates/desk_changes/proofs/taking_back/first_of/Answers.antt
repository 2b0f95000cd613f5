use Rattle.std.proofs.Common.{◌≡◌, ◌∷◌, ◌+◌, ◌-◌, ◌∙◌, List, length, drop, get_or, arith, sym, ap, subst}
use Rattle.std.proofs.lemmas.List.{drop_all, drop_more}
use Rattle.tune_undo.specs.declared.old_entries.Step.{Step}
use Rattle.desk_changes.specs.Inside.TriedUndoings.{steps_of}
use Rattle.desk_changes.proofs.BookLemmas.{AreFurther, ends_at, ends_first}
use Rattle.desk_changes.proofs.taking_back.first_of.Goals as goal

pub loop-first-init : goal.loop-first-init
loop-first-init c =
    let changes = c.args.changes.now in
    record {
      within = omega arith;
      further = subst (λ (some : List Step). AreFurther (steps_of some)) (sym (drop_all (length changes) changes (omega arith))) tt;
    }

pub returns-then-not-is_further-clause-ends : goal.returns-then-not-is_further-clause-ends
returns-then-not-is_further-clause-ends c = λ some.
    let changes = c.args.changes.now in
    let first = c.loop-first.first in
    let step = get_or changes (first - 1) c.index-changes-first.result in
    let at : first - 1 + 1 ≡ first = omega arith in
    let opens : drop (first - 1) changes ≡ step ∷ drop first changes =
    drop_more changes (first - 1) c.index-changes-first.result (omega arith) ∙ ap (λ n. step ∷ drop n changes) at in
    ends_at changes (drop first changes) (first - 1) step opens (sym c.is_further.ensures ∙ c.if-not-is_further.true) c.loop-first.invariant.further

pub returns-clause-ends : goal.returns-clause-ends
returns-clause-ends c = λ some.
    ends_first c.args.changes.now c.loop-first.first (omega arith) some c.loop-first.invariant.further
