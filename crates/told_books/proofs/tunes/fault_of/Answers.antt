use Rattle.std.proofs.Common.{◌∙◌, ap, sym, length, Some}
use Rattle.std.proofs.lemmas.Bool.{not-true, not-false}
use Rattle.abc_fields.specs.Fields.{header_of}
use Rattle.abc_fields.specs.Tunes.{tune_run, has_key, joined}
use Rattle.abc_fields.specs.Inside.LinesLeft.{contents_of}
use Rattle.told_books.specs.Inside.Rooms.{room_after}
use Rattle.told_books.proofs.FaultLemmas.{no_key, none_left, all_fit, some_over}
use Rattle.told_books.proofs.tunes.fault_of.Goals as goal

pub returns-then-not-measured : goal.returns-then-not-measured
returns-then-not-measured c = λ header are.
    let run = tune_run (contents_of c.args.lines) in
    let same = ap (λ lines. tune_run (contents_of lines)) c.again.ensures in
    no_key c.args.longest header run (sym (ap has_key same) ∙ sym c.measure-measured.ensures.key
    ∙ not-true c.measure-measured.result.has_key c.if-not-measured.true)

pub returns-in_default : goal.returns-in_default
returns-in_default c = λ header are.
    let run = tune_run (contents_of c.args.lines) in
    let same = ap (λ lines. tune_run (contents_of lines)) c.again.ensures in
    none_left c.args.longest header run
    (sym (ap has_key same) ∙ sym c.measure-measured.ensures.key ∙ not-false c.measure-measured.result.has_key c.if-not-measured.false)
    (sym (ap (λ r. room_after (Some c.args.longest) (length (joined r))) same) ∙ sym c.measure-measured.ensures.room ∙ c.in_default.is)

pub returns-then-fit : goal.returns-then-fit
returns-then-fit c = λ header are.
    let run = tune_run (contents_of c.args.lines) in
    let same = ap (λ lines. tune_run (contents_of lines)) c.again.ensures in
    all_fit c.args.longest c.in-Some.room c.args.sums.now header run
    (sym (ap has_key same) ∙ sym c.measure-measured.ensures.key ∙ not-false c.measure-measured.result.has_key c.if-not-measured.false)
    (sym (ap (λ r. room_after (Some c.args.longest) (length (joined r))) same) ∙ sym c.measure-measured.ensures.room ∙ c.in-Some.is) are
    (sym (c.if-fit.ensures (header_of run) c.of_tune.ensures))

pub returns-else-fit : goal.returns-else-fit
returns-else-fit c = λ header are.
    let run = tune_run (contents_of c.args.lines) in
    let same = ap (λ lines. tune_run (contents_of lines)) c.again.ensures in
    some_over c.args.longest c.in-Some.room c.args.sums.now header run
    (sym (ap has_key same) ∙ sym c.measure-measured.ensures.key ∙ not-false c.measure-measured.result.has_key c.if-not-measured.false)
    (sym (ap (λ r. room_after (Some c.args.longest) (length (joined r))) same) ∙ sym c.measure-measured.ensures.room ∙ c.in-Some.is) are
    (sym (c.if-fit.ensures (header_of run) c.of_tune.ensures))
