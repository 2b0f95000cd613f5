use Rattle.std.proofs.Common.{◌<◌, ◌∙◌, sym, ℕ, All, subst}
use Rattle.std.proofs.lemmas.Result.{err_from_is_err_and}
use Rattle.tune_journal.specs.Pages.{pages_after}
use Rattle.tune_journal.proofs.Chain.{logging, opening, going_on, stands_as, ok_held, ok_and}
use Rattle.tune_journal.proofs.journal.Journal.commit.Goals as goal

-- The log.
pub returns-in_err-log-clause-moments : goal.returns-in_err-log-clause-moments
returns-in_err-log-clause-moments g c =
    let p = err_from_is_err_and c.from_residual.result c.from_residual.ensures.1 in
    let next = pages_after c.args.self.pages c.args.new_count c.args.changes.now in
    rw (p.1, p.2) (λ h. logging c.args.self.pages next _ _ (c.in_err-log.ensures.moments h))

-- The gate.
pub returns-in_err-open_gate-clause-moments : goal.returns-in_err-open_gate-clause-moments
returns-in_err-open_gate-clause-moments g c =
    let p = err_from_is_err_and c.from_residual-in_err-open_gate.result c.from_residual-in_err-open_gate.ensures.1 in
    let next = pages_after c.args.self.pages c.args.new_count c.args.changes.now in
    rw (p.1, p.2) (λ h. (let logged = c.in_err-open_gate.ensures.calls.was_honest h in
    opening c.args.self.pages next _ _ _ _ _ (c.in_ok-log.ensures.pages logged) (c.in_ok-log.ensures.next logged)
    (logging c.args.self.pages next _ _ (c.in_ok-log.ensures.moments logged)) (c.in_err-open_gate.ensures.moments h)))

-- The images.
pub apply-requires-clause-below : goal.apply-requires-clause-below
apply-requires-clause-below g c =
    subst (λ (n : ℕ). All (λ e. e.0 < n) c.args.changes.now) (sym (c.in_ok-open_gate.ensures.count ∙ c.in_ok-log.ensures.count)) c.requires.below

pub apply-requires-clause-log : goal.apply-requires-clause-log
apply-requires-clause-log g c = λ h.
    sym (c.in_ok-open_gate.ensures.changes h ∙ c.in_ok-log.ensures.changes (c.in_ok-open_gate.ensures.calls.was_honest h))

pub returns-in_err-apply-clause-moments : goal.returns-in_err-apply-clause-moments
returns-in_err-apply-clause-moments g c =
    let p = err_from_is_err_and c.from_residual-in_err-apply.result c.from_residual-in_err-apply.ensures.1 in
    let old = c.args.self.pages in
    let next = pages_after old c.args.new_count c.args.changes.now in
    rw (p.1, p.2) (λ h. (let opened = c.in_err-apply.ensures.calls.was_honest h in
    let logged = c.in_ok-open_gate.ensures.calls.was_honest opened in
    going_on old next _ _ _ _ (c.in_ok-open_gate.ensures.pages opened ∙ c.in_ok-log.ensures.next logged)
    (opening old next _ _ _ _ _ (c.in_ok-log.ensures.pages logged) (c.in_ok-log.ensures.next logged)
    (logging old next _ _ (c.in_ok-log.ensures.moments logged)) (c.in_ok-open_gate.ensures.moments opened))
    (c.in_err-apply.ensures.moments h)))

-- The gate again.
pub returns-clause-moments : goal.returns-clause-moments
returns-clause-moments g c =
    let old = c.args.self.pages in
    let next = pages_after old c.args.new_count c.args.changes.now in
    λ h. (let applied = c.close.ensures.calls.was_honest h in
    let opened = c.in_ok-apply.ensures.calls.was_honest applied in
    let logged = c.in_ok-open_gate.ensures.calls.was_honest opened in
    let is = c.in_ok-open_gate.ensures.pages opened ∙ c.in_ok-log.ensures.next logged in
    going_on old next _ _ _ _ (c.in_ok-apply.ensures.pages applied ∙ is)
    (going_on old next _ _ _ _ is
    (opening old next _ _ _ _ _ (c.in_ok-log.ensures.pages logged) (c.in_ok-log.ensures.next logged)
    (logging old next _ _ (c.in_ok-log.ensures.moments logged)) (c.in_ok-open_gate.ensures.moments opened))
    (c.in_ok-apply.ensures.moments applied))
    (c.close.ensures.moments h))

pub returns-clause-pages : goal.returns-clause-pages
returns-clause-pages g c =
    let honest = g.D.Disk.honest in
    ok_held c.close.result (λ d. honest d → honest c.in_ok-apply.field-0.disk) _ _ c.close.ensures.calls.was_honest c.close.ensures.pages
    (λ j back pages h. (let applied = back h in
    let opened = c.in_ok-apply.ensures.calls.was_honest applied in
    pages h ∙ c.in_ok-apply.ensures.pages applied ∙ c.in_ok-open_gate.ensures.pages opened
    ∙ c.in_ok-log.ensures.next (c.in_ok-open_gate.ensures.calls.was_honest opened)))

pub returns-clause-rest : goal.returns-clause-rest
returns-clause-rest g c =
    ok_and c.close.result _ _ _ c.close.ensures.rest (returns-clause-pages g c) (λ j rest pages h file left. stands_as _ _ (pages h) file (rest h file left))
