use Rattle.std.proofs.Common.{◌++◌, sym, ◌∙◌, arith}
use Rattle.abc_fields.specs.Tunes.{tune_run}
use Rattle.abc_fields.specs.FileHeaders.{with_header}
use Rattle.abc_fields.specs.Inside.LinesLeft.{contents_of}
use Rattle.chosen_books.proofs.FrontLaw.{between_long, front_length, front_runs, front_short, refused_too, run_lines}
use Rattle.chosen_books.proofs.found_tunes.Front.judge.Goals as goal

pub returns-in-Some-clause-answer : goal.returns-in-Some-clause-answer
returns-in-Some-clause-answer c = λ header between is plain same.
    refused_too c.args.longest header between (tune_run (contents_of c.args.lines)) c.in-Some.fault is.engrave (sym same ∙ c.in-Some.is)

pub returns-then-saturating_sub-longest-clause-answer :
    goal.returns-then-saturating_sub-longest-clause-answer
returns-then-saturating_sub-longest-clause-answer c = λ header between is plain same.
    between_long c.args.longest header between (tune_run (contents_of c.args.lines)) is.engrave (sym same ∙ c.in_default.is)
    (omega (arith, front_length header between c.args.self.now is, c.if-saturating_sub-longest.true, c.saturating_sub.ensures, c.len.ensures))

pub returns-clause-answer : goal.returns-clause-answer
returns-clause-answer c = λ header between is plain same.
    let run = tune_run (contents_of c.args.lines) in
    let put = c.as_slice.ensures.value ∙ c.in_ok-push_tune.ensures in
    c.text_alone-answer.ensures (with_header (header ++ between) run)
    (front_runs header between run c.args.self.now c.as_slice.result.now is (run_lines (contents_of c.args.lines) plain) put)
    (front_short c.args.longest header between run c.args.self.now c.as_slice.result.now is put c.requires
    (omega (arith, c.if-saturating_sub-longest.false, c.saturating_sub.ensures, c.len.ensures)) (sym same ∙ c.in_default.is))
