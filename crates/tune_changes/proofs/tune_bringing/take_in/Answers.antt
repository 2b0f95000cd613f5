use Rattle.std.proofs.Common.{◌+◌, ◌∷◌, List, ℕ, refl, rules, sym, ap, ◌∙◌}
use Rattle.tune_store.specs.State.{greatest}
use Rattle.tune_store.specs.declared.command.Command.TheVariants.{Import}
use Rattle.tune_changes.specs.Bringing.{renumber_commands}
use Rattle.tune_changes.proofs.CarryLemmas.{partly_none, partly_on, carries_err, carries_done, carries_last}
use Rattle.tune_changes.proofs.BringingLemmas.{imported_always, imported_first}
use Rattle.tune_changes.proofs.tune_bringing.take_in.Goals as goal

pub returns-in_err-first : goal.returns-in_err-first
returns-in_err-first g c =
    let k = g.S.TuneStore in
    let more = renumber_commands (greatest (k.state c.args.store.now).tunes + 1) c.args.number in
    carries_err k _ _ _ _ _ _ more _ _ (partly_none k _ _ _ (λ is_open h. refl)) c.in_err-first.ensures.carries
    (λ is_open h. ap (λ (book : List ℕ). Import book ∷ more) (sym c.in_ok-book.ensures)) (search rules)

pub returns-in-Imported : goal.returns-in-Imported
returns-in-Imported g c =
    let k = g.S.TuneStore in
    let state = k.state c.args.store.now in
    let more = renumber_commands (greatest state.tunes + 1) c.args.number in
    carries_last k _ _ _ _ _ _ _
    (partly_on k _ _ _ _ _ _ more _ (partly_none k _ _ _ (λ is_open h. refl)) c.in_ok-first.ensures.carries
    (λ is_open h same. ap (λ (book : List ℕ). Import book ∷ more) (sym c.in_ok-book.ensures)))
    c.renumber.ensures
    (λ is_open h. ap (λ (n : ℕ). renumber_commands n c.args.number)
    (imported_first state c.in_ok-book.book c.in-Imported.first c.in-Imported.last _ (c.in_ok-first.ensures.reply is_open h) c.in-Imported.is))

pub returns : goal.returns
returns g c =
    let k = g.S.TuneStore in
    let state = k.state c.args.store.now in
    let more = renumber_commands (greatest state.tunes + 1) c.args.number in
    carries_done k _ _ _ more _ _
    (partly_on k _ _ _ _ _ _ more _ (partly_none k _ _ _ (λ is_open h. refl)) c.in_ok-first.ensures.carries
    (λ is_open h same. ap (λ (book : List ℕ). Import book ∷ more) (sym c.in_ok-book.ensures)))
    (λ is_open h. absurd (imported_always state c.in_ok-book.book _ (c.in_ok-first.ensures.reply is_open h)
    (λ first last is. c.in_default.not-Imported first last is))) refl
