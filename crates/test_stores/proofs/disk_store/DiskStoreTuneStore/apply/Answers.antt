use Rattle.std.proofs.Common.{◌≡◌, false, rules}
use Rattle.tune_store.specs.Answers.{changes_nothing}
use Rattle.tune_archive.proofs.Called.{answers_closed}
use Rattle.test_stores.proofs.KeptLemmas.{changes}
use Rattle.test_stores.proofs.MarkLemmas.{passes_marks, fails_after}
use Rattle.test_stores.proofs.disk_store.DiskStoreTuneStore.apply.Goals as goal

pub returns-then-self-clause-answer : goal.returns-then-self-clause-answer
returns-then-self-clause-answer g c = λ honest.
    answers_closed c.args.self.now.archive c.args.self.now.closed c.args.command.now c.if-self.true

pub returns-in-Ok-clause-stops : goal.returns-in-Ok-clause-stops
returns-in-Ok-clause-stops g c =
    let archive = c.in_ok-reply.ensures.stops in
    let mark = c.in-Ok.ensures in
    passes_marks _ _ _ _ _ _ mark.was_honest mark.marks (λ honest. archive.reaches tt) archive.stays_sound

pub returns-in-Err-clause-answer : goal.returns-in-Err-clause-answer
returns-in-Err-clause-answer g c = λ honest.
    fails_after c.args.self.now.archive c.apply.new.self c.args.self.now.closed c.args.command.now _ c.if-self.false
    c.in_ok-reply.ensures.answer

pub returns-in-Err-clause-stops : goal.returns-in-Err-clause-stops
returns-in-Err-clause-stops g c =
    let archive = c.in_ok-reply.ensures.stops in
    let mark = c.in-Err.ensures in
    passes_marks _ _ _ _ _ _ mark.was_honest mark.marks (λ honest. archive.reaches tt) archive.stays_sound

pub returns-in-Ok-clause-unchanged : goal.returns-in-Ok-clause-unchanged
returns-in-Ok-clause-unchanged g c = λ same honest.
    let other : changes_nothing c.args.self.now.archive.layout c.args.command.now ≡ false = search rules in
    absurd (changes c.args.self.now.archive c.apply.new.self c.args.command.now _ c.in_ok-reply.ensures.answer other same)

pub returns-in-Err-clause-unchanged : goal.returns-in-Err-clause-unchanged
returns-in-Err-clause-unchanged g c = λ same honest.
    let other : changes_nothing c.args.self.now.archive.layout c.args.command.now ≡ false = search rules in
    absurd (changes c.args.self.now.archive c.apply.new.self c.args.command.now _ c.in_ok-reply.ensures.answer other same)
