use Rattle.std.proofs.Common.{ℕ, ◌<◌, All, ◌∙◌, sym, subst}
use Rattle.test_journal.proofs.commits.go_through.Goals as goal

-- the changes are those that were logged
pub apply-requires-clause-below : goal.apply-requires-clause-below
apply-requires-clause-below c =
    subst (λ (n : ℕ). All (λ change. change.0 < n) c.args.changes.now) (sym (c.in_ok-opened.ensures.count ∙ c.in_ok-logged.ensures.count)) c.requires.below

pub apply-requires-clause-log : goal.apply-requires-clause-log
apply-requires-clause-log c = λ h. sym (c.in_ok-opened.ensures.changes h ∙ c.in_ok-logged.ensures.changes (c.in_ok-opened.ensures.calls.was_honest h))
