use Rattle.std.proofs.Common.{◌≡◌, false, rules, ℕ, List, [], ◌∷◌, ◌++◌, Ok, ap, sym, ◌∙◌}
use Rattle.std.proofs.lemmas.Result.{err_from_is_err_and}
use Rattle.tune_store.specs.Answers.{changes_nothing, passed, no_memory}
use Rattle.test_stores.proofs.KeptLemmas.{changes}
use Rattle.test_stores.proofs.RecordLemmas.{pushes}
use Rattle.test_stores.proofs.recorded_store.RecordedStoreTuneStore.apply.Goals as goal

pub returns-then-len-self-clause-answer : goal.returns-then-len-self-clause-answer
returns-then-len-self-clause-answer c = λ honest. no_memory c.args.self.now.archive c.args.command.now

pub returns-in_err-reserve-clause-answer : goal.returns-in_err-reserve-clause-answer
returns-in_err-reserve-clause-answer c = λ honest.
    let refused = err_from_is_err_and c.from_residual.result c.from_residual.ensures.1 in
    rw (refused.1, refused.2) (no_memory c.args.self.now.archive c.args.command.now)

pub returns-clause-stops : goal.returns-clause-stops
returns-clause-stops c =
    let states = passed c.args.self.now.archive c.args.command.now (Ok c.in_ok-reply.reply) in
    let pushed = c.add_entry.ensures.entries ∙ ap (λ (entries : List ℕ). entries ++ c.len-2.result ∷ []) c.reserve.ensures.items in
    let archive = c.in_ok-reply.ensures.stops in
    let goes = pushes c.args.self.now.entries.items _ _ _ states c.len-2.result (archive.reaches tt) archive.stays_sound (sym c.len-2.ensures) pushed in
    record {
      reaches = λ honest. goes.reaches;
      was_honest = λ honest. honest;
      stays_sound = goes.stays_sound;
      later = λ honest. goes.is_later;
      keeps = λ honest. goes.keeps;
      recalls = λ honest at file early left. left;
      leaves = λ sound honest since file early left. goes.leaves since file left;
    }

pub returns-clause-unchanged : goal.returns-clause-unchanged
returns-clause-unchanged c = λ same honest.
    let other : changes_nothing c.args.self.now.archive.layout c.args.command.now ≡ false = search rules in
    absurd (changes c.args.self.now.archive c.apply.new.self c.args.command.now _ c.in_ok-reply.ensures.answer other same)
