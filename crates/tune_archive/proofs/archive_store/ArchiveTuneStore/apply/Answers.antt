use Rattle.std.proofs.Common.{rules, ◌≡◌, sym, ap, subst, ◌∙◌, Ok, Err, false, true}
use Rattle.tune_pages.specs.Kept.{HonestAt}
use Rattle.tune_archive.specs.Shelf.{state_of}
use Rattle.tune_store.specs.Plans.{changed, after}
use Rattle.tune_store.specs.Step.{step}
use Rattle.tune_archive.proofs.Called.{KeepsShelf, Ended, answers_closed, passes, ended_refused, ended_unmade, ended_changed, ended_answered, stays_within}
use Rattle.tune_archive.proofs.Called.{decided, alters, no_question, stays_at, stays_where}
use Rattle.tune_archive.proofs.FilesTogether.{files_together}
use Rattle.tune_store.proofs.RevisionLemmas.{raised_where}
use Rattle.std.specs.Prelude.{⊤}
use Rattle.tune_archive.proofs.archive_store.ArchiveTuneStore.apply.Goals as goal
use Rattle.tune_archive.proofs.archive_store.ArchiveTuneStore.apply.Goals.{in-Some+in_ok-made, in_default}

pub returns-then-self-clause-answer : goal.returns-then-self-clause-answer
returns-then-self-clause-answer g c = λ honest.
    let shut : c.args.self.now.closed ≡ true = sym (ap (λ s. s.closed) c.self.view_is) ∙ c.if-self.true in
    answers_closed (state_of g.D.Disk.state c.args.self.now) c.args.self.now.closed c.args.command.now shut

pub returns-then-self-clause-together : goal.returns-then-self-clause-together
returns-then-self-clause-together g c = λ h is_open.
    (let shut : c.args.self.now.closed ≡ true = sym (ap (λ s. s.closed) c.self.view_is) ∙ c.if-self.true in
    absurd (let no : true ≡ false = sym shut ∙ is_open in cc))

-- WHERE IT IS REFUSED AS IT IS DECIDED
refused : (g : _) (c : goal.After-from_residual g)
    → Ended g.D.Disk.honest g.D.Disk.failures g.D.Disk.state c.args.self.now c.decide-decided.new.catalog c.args.command.now (Err c.in_err-change.field-0.0)
refused g c =
    let is_open : c.args.self.now.closed ≡ false = sym (ap (λ s. s.closed) c.self.view_is) ∙ c.if-self.false in
    let was : KeepsShelf g.D.Disk.honest g.D.Disk.failures g.D.Disk.state c.args.self.now =
    subst (KeepsShelf g.D.Disk.honest g.D.Disk.failures g.D.Disk.state) c.self.view_is c.self.invariant in
    ended_refused g.D.Disk.honest g.D.Disk.failures g.D.Disk.state c.args.self.now c.decide-decided.new.catalog c.args.command.now
    c.in_err-change.field-0.0 was c.holds.ensures is_open c.in_err-change.ensures.decided c.in_err-change.ensures.fetched

pub returns-in_err-change-clause-answer : goal.returns-in_err-change-clause-answer
returns-in_err-change-clause-answer g c =
    let answer : c.from_residual.result ≡ Err c.in_err-change.field-0.0 = search rules in
    rw answer (refused g c).answers

pub returns-in_err-change-clause-quiet : goal.returns-in_err-change-clause-quiet
returns-in_err-change-clause-quiet g c =
    let answer : c.from_residual.result ≡ Err c.in_err-change.field-0.0 = search rules in
    rw answer (stays_at g.D.Disk.honest g.D.Disk.failures g.D.Disk.state _ _ _ _ (refused g c))

pub returns-in_err-change-clause-unchanged : goal.returns-in_err-change-clause-unchanged
returns-in_err-change-clause-unchanged g c = stays_where g.D.Disk.honest g.D.Disk.failures g.D.Disk.state _ _ _ _ (refused g c)

pub returns-in_err-change-clause-stops : goal.returns-in_err-change-clause-stops
returns-in_err-change-clause-stops g c =
    let answer : c.from_residual.result ≡ Err c.in_err-change.field-0.0 = search rules in
    rw answer (passes g.D.Disk.honest g.D.Disk.failures g.D.Disk.state _ _ _ _ (refused g c) c.holds.ensures)

pub returns-in_err-change-clause-together : goal.returns-in_err-change-clause-together
returns-in_err-change-clause-together g c = λ h is_open.
    (let was : KeepsShelf g.D.Disk.honest g.D.Disk.failures g.D.Disk.state c.args.self.now =
    subst (KeepsShelf g.D.Disk.honest g.D.Disk.failures g.D.Disk.state) c.self.view_is c.self.invariant in
    files_together c.law_of_file_pages.ensures.together g.D.Disk.honest g.D.Disk.failures g.D.Disk.state c.args.self.now _ c.args.command.now _
    (refused g c) was h is_open)

-- WHERE A CHANGE IS ASKED FOR
pub make_change-made-requires-clause-within : goal.make_change-made-requires-clause-within
make_change-made-requires-clause-within g c =
    let is_open : c.args.self.now.closed ≡ false = sym (ap (λ s. s.closed) c.self.view_is) ∙ c.if-self.false in
    let was : KeepsShelf g.D.Disk.honest g.D.Disk.failures g.D.Disk.state c.args.self.now =
    subst (KeepsShelf g.D.Disk.honest g.D.Disk.failures g.D.Disk.state) c.self.view_is c.self.invariant in
    let old = state_of g.D.Disk.state c.args.self.now in
    let plan = c.in_ok-change.field-0 in
    let steps : HonestAt g.D.Disk.honest c.decide-decided.new.catalog.pages.disk
    → step old c.args.command.now ≡ (changed c.in-Some.change old, Ok plan.reply) = λ h.
    subst (λ one. step old c.args.command.now ≡ (after one old, Ok plan.reply)) c.in-Some.is
    (decided g.D.Disk.honest g.D.Disk.failures g.D.Disk.state c.args.self.now c.decide-decided.new.catalog c.args.command.now plan was
    c.holds.ensures is_open c.in_ok-change.ensures.fetched c.in_ok-change.ensures.decided h) in
    stays_within g.D.Disk.honest g.D.Disk.failures g.D.Disk.state c.args.self.now c.decide-decided.new.catalog c.args.command.now
    c.in-Some.change plan.reply was is_open c.in_ok-change.ensures.fetched steps

-- WHERE IT WAS NOT MADE
unmade : (g : _) (c : goal.Joined-reply g)
    → Ended g.D.Disk.honest g.D.Disk.failures g.D.Disk.state c.args.self.now c.make_change-made.new.self c.args.command.now (Err c.in_err-made.field-0.0)
unmade g c =
    let is_open : c.args.self.now.closed ≡ false = sym (ap (λ s. s.closed) c.self.view_is) ∙ c.if-self.false in
    let was : KeepsShelf g.D.Disk.honest g.D.Disk.failures g.D.Disk.state c.args.self.now =
    subst (KeepsShelf g.D.Disk.honest g.D.Disk.failures g.D.Disk.state) c.self.view_is c.self.invariant in
    let old = state_of g.D.Disk.state c.args.self.now in
    let plan = c.in_ok-change.field-0 in
    let steps : HonestAt g.D.Disk.honest c.decide-decided.new.catalog.pages.disk
    → step old c.args.command.now ≡ (changed c.in-Some.change old, Ok plan.reply) = λ h.
    subst (λ one. step old c.args.command.now ≡ (after one old, Ok plan.reply)) c.in-Some.is
    (decided g.D.Disk.honest g.D.Disk.failures g.D.Disk.state c.args.self.now c.decide-decided.new.catalog c.args.command.now plan was
    c.holds.ensures is_open c.in_ok-change.ensures.fetched c.in_ok-change.ensures.decided h) in
    ended_unmade g.D.Disk.honest g.D.Disk.failures g.D.Disk.state c.args.self.now c.decide-decided.new.catalog c.make_change-made.new.self
    c.args.command.now c.in-Some.change plan.reply c.in_err-made.field-0.0 is_open
    (no_question _ _ c.in-Some.change c.in_ok-change.ensures.asks c.in-Some.is)
    (alters g.D.Disk.honest g.D.Disk.failures g.D.Disk.state c.args.self.now c.decide-decided.new.catalog c.args.command.now _ c.in-Some.change was
    c.holds.ensures is_open c.in_ok-change.ensures.fetched c.in_ok-change.ensures.changes c.in-Some.is) c.in_ok-change.ensures.fetched steps
    c.in_err-made.ensures

pub returns-in_err-made-clause-answer : goal.returns-in_err-made-clause-answer
returns-in_err-made-clause-answer g c =
    let answer : c.from_residual-in_err-made.result ≡ Err c.in_err-made.field-0.0 = search rules in
    rw answer (unmade g c).answers

pub returns-in_err-made-clause-quiet : goal.returns-in_err-made-clause-quiet
returns-in_err-made-clause-quiet g c =
    let answer : c.from_residual-in_err-made.result ≡ Err c.in_err-made.field-0.0 = search rules in
    rw answer (stays_at g.D.Disk.honest g.D.Disk.failures g.D.Disk.state _ _ _ _ (unmade g c))

pub returns-in_err-made-clause-unchanged : goal.returns-in_err-made-clause-unchanged
returns-in_err-made-clause-unchanged g c = stays_where g.D.Disk.honest g.D.Disk.failures g.D.Disk.state _ _ _ _ (unmade g c)

pub returns-in_err-made-clause-stops : goal.returns-in_err-made-clause-stops
returns-in_err-made-clause-stops g c =
    let answer : c.from_residual-in_err-made.result ≡ Err c.in_err-made.field-0.0 = search rules in
    rw answer (passes g.D.Disk.honest g.D.Disk.failures g.D.Disk.state _ _ _ _ (unmade g c) c.holds-in-Some.ensures)

pub returns-in_err-made-clause-together : goal.returns-in_err-made-clause-together
returns-in_err-made-clause-together g c = λ h is_open.
    (let was : KeepsShelf g.D.Disk.honest g.D.Disk.failures g.D.Disk.state c.args.self.now =
    subst (KeepsShelf g.D.Disk.honest g.D.Disk.failures g.D.Disk.state) c.self.view_is c.self.invariant in
    files_together c.law_of_file_pages.ensures.together g.D.Disk.honest g.D.Disk.failures g.D.Disk.state c.args.self.now _ c.args.command.now _
    (unmade g c) was h is_open)

-- WHERE IT WAS MADE, OR NONE WAS ASKED FOR
-- how the call ends, and what then holds
record Well (g : _) (c : goal.Joined-change g) : Type 0 where
  ended : Ended g.D.Disk.honest g.D.Disk.failures g.D.Disk.state c.args.self.now c.match-change.self c.args.command.now (Ok c.in_ok-change.field-0.reply)
  holds : KeepsShelf g.D.Disk.honest g.D.Disk.failures g.D.Disk.state c.match-change.self

well : (g : _) (c : goal.Joined-change g) → Well g c
well g c =
    let honest = g.D.Disk.honest in
    let failures = g.D.Disk.failures in
    let state = g.D.Disk.state in
    let is_open : c.args.self.now.closed ≡ false = sym (ap (λ s. s.closed) c.self.view_is) ∙ c.if-self.false in
    let was : KeepsShelf honest failures state c.args.self.now = subst (KeepsShelf honest failures state) c.self.view_is c.self.invariant in
    let old = state_of state c.args.self.now in
    let plan = c.in_ok-change.field-0 in
    let fetched = c.in_ok-change.ensures.fetched in
    let planned : HonestAt honest c.decide-decided.new.catalog.pages.disk
    → step old c.args.command.now ≡ (after plan.change old, Ok plan.reply) = λ h.
    decided honest failures state c.args.self.now c.decide-decided.new.catalog c.args.command.now plan was c.holds.ensures is_open
    fetched c.in_ok-change.ensures.decided h in
    elim c.match-change.branch [
      | in-Some+in_ok-made w ↦ record {
        ended = subst (λ one. Ended honest failures state c.args.self.now one c.args.command.now (Ok plan.reply)) (sym w.self-is)
            (ended_changed honest failures state c.args.self.now c.decide-decided.new.catalog w.make_change-made.new.self c.args.command.now
            w.in-Some.change plan.reply is_open (no_question _ _ w.in-Some.change c.in_ok-change.ensures.asks w.in-Some.is)
            (alters honest failures state c.args.self.now c.decide-decided.new.catalog c.args.command.now _ w.in-Some.change was c.holds.ensures is_open
            fetched c.in_ok-change.ensures.changes w.in-Some.is) fetched
            (λ h. subst (λ one. step old c.args.command.now ≡ (after one old, Ok plan.reply)) w.in-Some.is (planned h)) w.in_ok-made.ensures);
        holds = subst (KeepsShelf honest failures state) (sym w.self-is) w.holds-in-Some.ensures;
      }
      | in_default w ↦ record {
        ended = subst (λ one. Ended honest failures state c.args.self.now one c.args.command.now (Ok plan.reply)) (sym w.self-is)
            (ended_answered honest failures state c.args.self.now c.decide-decided.new.catalog c.args.command.now plan.reply is_open fetched
            (λ h. subst (λ one. step old c.args.command.now ≡ (after one old, Ok plan.reply)) w.in_default.is (planned h)));
        holds = subst (KeepsShelf honest failures state) (sym w.self-is) c.holds.ensures;
      }
    ]

pub returns-clause-answer : goal.returns-clause-answer
returns-clause-answer g c = (well g c).ended.answers

pub returns-clause-replaced : goal.returns-clause-replaced
returns-clause-replaced g c = λ h. raised_where ⊤ _ _ c.args.command.now _ ((well g c).ended.answers h) tt

pub returns-clause-stops : goal.returns-clause-stops
returns-clause-stops g c = passes g.D.Disk.honest g.D.Disk.failures g.D.Disk.state _ _ _ _ (well g c).ended (well g c).holds

pub returns-clause-quiet : goal.returns-clause-quiet
returns-clause-quiet g c = stays_at g.D.Disk.honest g.D.Disk.failures g.D.Disk.state _ _ _ _ (well g c).ended

pub returns-clause-unchanged : goal.returns-clause-unchanged
returns-clause-unchanged g c = stays_where g.D.Disk.honest g.D.Disk.failures g.D.Disk.state _ _ _ _ (well g c).ended

pub returns-clause-together : goal.returns-clause-together
returns-clause-together g c = λ h is_open.
    (let was : KeepsShelf g.D.Disk.honest g.D.Disk.failures g.D.Disk.state c.args.self.now =
    subst (KeepsShelf g.D.Disk.honest g.D.Disk.failures g.D.Disk.state) c.self.view_is c.self.invariant in
    files_together c.law_of_file_pages.ensures.together g.D.Disk.honest g.D.Disk.failures g.D.Disk.state c.args.self.now _ c.args.command.now _
    (well g c).ended was h is_open)
