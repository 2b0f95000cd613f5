use Rattle.std.proofs.Common.{refl, arith, take, length, sym, ◌∙◌, ap, ◌≤◌, None, Some}
use Rattle.std.proofs.lemmas.List.{length-take}
use Rattle.tune_scripts.specs.declared.script_runs.RunEnd.TheVariants.{Ended, LongLine, ReaderFault}
use Rattle.tune_scripts.specs.declared.script_lines.ScriptLine.TheVariants.{Blank, Bad, Whole, Book}
use Rattle.tune_scripts.specs.Limits.{longest_line}
use Rattle.tune_scripts.specs.ScriptLines.{meaning_of_line}
use Rattle.tune_scripts.specs.ScriptRuns.{at_other_end}
use Rattle.tune_scripts.specs.Inside.Turns.{Turns}
use Rattle.tune_scripts.proofs.LookLemmas.{line_looks, book_looks}
use Rattle.tune_scripts.proofs.TurnLemmas.{appends_none, from_fault, from_end, from_long, from_line, from_book}
use Rattle.tune_scripts.proofs.TurnLemmas.{turn_blank, turn_bad, turn_no_text, turn_answered}
use Rattle.tune_scripts.proofs.TurnLemmas.{over_none, over_one, over_told, goes_quiet, turned}
use Rattle.tune_scripts.proofs.script_runs.turn.Goals as goal

pub returns-in-Fault-clause-turns : goal.returns-in-Fault-clause-turns
returns-in-Fault-clause-turns g c = λ honest.
    let was = c.args.console.now in
    let mid = c.read_line.new.console in
    let new = c.read_line.new.console in
    turned g.S.TuneStore (λ left work. Turns (g.C.Console.input was).left left work (Some ReaderFault))
    (g.C.Console.output was) (g.C.Console.output mid) (g.C.Console.output new) (g.C.Console.input mid) (g.C.Console.input new) _ _ _
    c.read_line.ensures.output refl
    (over_none g.S.TuneStore _ _ c.args.store.now _ _ (at_other_end ReaderFault _ tt tt)
    (λ quiet. from_fault _ _ _ quiet (appends_none (g.C.Console.output c.read_line.new.console).bytes)))

pub returns-in-End-clause-turns : goal.returns-in-End-clause-turns
returns-in-End-clause-turns g c = λ honest.
    let was = c.args.console.now in
    let mid = c.read_line.new.console in
    let new = c.read_line.new.console in
    turned g.S.TuneStore (λ left work. Turns (g.C.Console.input was).left left work (Some Ended))
    (g.C.Console.output was) (g.C.Console.output mid) (g.C.Console.output new) (g.C.Console.input mid) (g.C.Console.input new) _ _ _
    c.read_line.ensures.output refl
    (over_none g.S.TuneStore _ _ c.args.store.now _ _ (at_other_end Ended _ tt tt)
    (λ quiet. from_end _ _ _ c.in-End.ensures.bytes.0 c.in-End.ensures.bytes.1 quiet (appends_none (g.C.Console.output c.read_line.new.console).bytes)))

pub returns-in-Long-clause-turns : goal.returns-in-Long-clause-turns
returns-in-Long-clause-turns g c = λ honest.
    let was = c.args.console.now in
    let mid = c.read_line.new.console in
    let new = c.bad_line.new.console in
    turned g.S.TuneStore (λ left work. Turns (g.C.Console.input was).left left work c.bad_line.result)
    (g.C.Console.output was) (g.C.Console.output mid) (g.C.Console.output new) (g.C.Console.input mid) (g.C.Console.input new) _ _ _
    c.read_line.ensures.output c.bad_line.ensures.input
    (over_none g.S.TuneStore _ _ c.args.store.now _ _ (goes_quiet _ _ _ (Some LongLine) _ (at_other_end LongLine _ tt tt) c.bad_line.ensures.written)
    (λ quiet. from_long _ _ _ c.bad_line.result c.in-Long.ensures.bytes quiet c.bad_line.ensures.written))

pub returns-in-Err-clause-turns : goal.returns-in-Err-clause-turns
returns-in-Err-clause-turns g c = λ honest.
    let line = take c.in-Line.len c.read_line.new.line in
    let size = length-take c.in-Line.len c.read_line.new.line in
    let short : length line ≤ longest_line = omega (arith, c.in-Line.ensures.bytes.0) in
    let asks = ap meaning_of_line (sym c.without_return-line.ensures.text) in
    let was = c.args.console.now in
    let mid = c.read_line.new.console in
    let new = c.refuse.new.console in
    turned g.S.TuneStore (λ left work. Turns (g.C.Console.input was).left left work c.refuse.result)
    (g.C.Console.output was) (g.C.Console.output mid) (g.C.Console.output new) (g.C.Console.input mid) (g.C.Console.input new) _ _ _
    c.read_line.ensures.output c.refuse.ensures.input
    (over_none g.S.TuneStore _ _ c.args.store.now _ _ (goes_quiet _ _ _ None _ tt c.refuse.ensures.written)
    (λ quiet. from_line _ _ _ _ c.refuse.result line c.in-Line.fed (meaning_of_line c.without_return-line.result.now) c.in-Line.ensures.bytes.1 short asks
    (λ input rest r e. turn_no_text _ input rest _ _ c.refuse.result c.in-Err.ensures.err r e quiet c.refuse.ensures.written)))

pub returns-in-Ok-Blank-clause-turns : goal.returns-in-Ok-Blank-clause-turns
returns-in-Ok-Blank-clause-turns g c = λ honest.
    let line = take c.in-Line.len c.read_line.new.line in
    let size = length-take c.in-Line.len c.read_line.new.line in
    let short : length line ≤ longest_line = omega (arith, c.in-Line.ensures.bytes.0) in
    let asks = ap meaning_of_line (sym c.without_return-line.ensures.text) ∙ sym c.in-Ok-Blank.ensures.ok ∙ c.in-Ok-Blank.field-0-is in
    let was = c.args.console.now in
    let mid = c.read_line.new.console in
    let new = c.read_line.new.console in
    turned g.S.TuneStore (λ left work. Turns (g.C.Console.input was).left left work None)
    (g.C.Console.output was) (g.C.Console.output mid) (g.C.Console.output new) (g.C.Console.input mid) (g.C.Console.input new) _ _ _
    c.read_line.ensures.output refl
    (over_none g.S.TuneStore _ _ c.args.store.now _ _ tt
    (λ quiet. from_line _ _ _ _ None line c.in-Line.fed Blank c.in-Line.ensures.bytes.1 short asks
    (λ input rest r e. turn_blank input rest _ _ r e quiet (appends_none (g.C.Console.output c.read_line.new.console).bytes))))

pub returns-in-Ok-Bad-clause-turns : goal.returns-in-Ok-Bad-clause-turns
returns-in-Ok-Bad-clause-turns g c = λ honest.
    let line = take c.in-Line.len c.read_line.new.line in
    let size = length-take c.in-Line.len c.read_line.new.line in
    let short : length line ≤ longest_line = omega (arith, c.in-Line.ensures.bytes.0) in
    let asks = ap meaning_of_line (sym c.without_return-line.ensures.text) ∙ sym c.in-Ok-Bad.ensures.ok ∙ c.in-Ok-Bad.field-0-is in
    let was = c.args.console.now in
    let mid = c.read_line.new.console in
    let new = c.bad_line-in-Ok-Bad.new.console in
    turned g.S.TuneStore (λ left work. Turns (g.C.Console.input was).left left work c.bad_line-in-Ok-Bad.result)
    (g.C.Console.output was) (g.C.Console.output mid) (g.C.Console.output new) (g.C.Console.input mid) (g.C.Console.input new) _ _ _
    c.read_line.ensures.output c.bad_line-in-Ok-Bad.ensures.input
    (over_none g.S.TuneStore _ _ c.args.store.now _ _ (goes_quiet _ _ _ None _ tt c.bad_line-in-Ok-Bad.ensures.written)
    (λ quiet. from_line _ _ _ _ c.bad_line-in-Ok-Bad.result line c.in-Line.fed Bad c.in-Line.ensures.bytes.1 short asks
    (λ input rest r e. turn_bad input rest _ _ c.bad_line-in-Ok-Bad.result r e quiet c.bad_line-in-Ok-Bad.ensures.written)))

pub returns-in-Ok-Whole-clause-turns : goal.returns-in-Ok-Whole-clause-turns
returns-in-Ok-Whole-clause-turns g c = λ honest.
    let line = take c.in-Line.len c.read_line.new.line in
    let size = length-take c.in-Line.len c.read_line.new.line in
    let short : length line ≤ longest_line = omega (arith, c.in-Line.ensures.bytes.0) in
    let asks = ap meaning_of_line (sym c.without_return-line.ensures.text) ∙ sym c.in-Ok-Whole.ensures.ok ∙ c.in-Ok-Whole.field-0-is in
    let was = c.args.console.now in
    let mid = c.read_line.new.console in
    let new = c.carry_out.new.console in
    turned g.S.TuneStore (λ left work. Turns (g.C.Console.input was).left left work c.carry_out.result)
    (g.C.Console.output was) (g.C.Console.output mid) (g.C.Console.output new) (g.C.Console.input mid) (g.C.Console.input new) _ _ _
    c.read_line.ensures.output c.carry_out.ensures.input
    (over_one g.S.TuneStore _ _ _ _ c.in-Ok-Whole.command c.carry_out.result _ (c.carry_out.ensures.carries honest)
    (λ work one. from_line _ _ _ work c.carry_out.result line c.in-Line.fed (Whole c.in-Ok-Whole.command) c.in-Line.ensures.bytes.1 short asks
    (λ input rest r e. turn_answered input rest _ work c.in-Ok-Whole.command c.carry_out.result r e one)))

pub returns-in-Ok-Book-clause-turns : goal.returns-in-Ok-Book-clause-turns
returns-in-Ok-Book-clause-turns g c = λ honest.
    let line = take c.in-Line.len c.read_line.new.line in
    let size = length-take c.in-Line.len c.read_line.new.line in
    let short : length line ≤ longest_line = omega (arith, c.in-Line.ensures.bytes.0) in
    let asks = ap meaning_of_line (sym c.without_return-line.ensures.text) ∙ sym c.in-Ok-Book.ensures.ok ∙ c.in-Ok-Book.field-0-is in
    let was = c.args.console.now in
    let mid = c.read_line.new.console in
    let new = c.with_book.new.console in
    turned g.S.TuneStore (λ left work. Turns (g.C.Console.input was).left left work c.with_book.result)
    (g.C.Console.output was) (g.C.Console.output mid) (g.C.Console.output new) (g.C.Console.input new) (g.C.Console.input new) _ _ _
    c.read_line.ensures.output refl
    (over_told g.S.TuneStore _ _ _ _ c.with_book.result _ _ (c.with_book.ensures.turns honest)
    (λ work told. from_line _ _ _ work c.with_book.result line c.in-Line.fed (Book c.in-Ok-Book.book_use c.in-Ok-Book.len) c.in-Line.ensures.bytes.1 short asks
    (λ input rest r e. from_book c.in-Ok-Book.book_use c.in-Ok-Book.len rest input _ _ work c.with_book.result told e r)))

pub returns-in-Fault-clause-looks : goal.returns-in-Fault-clause-looks
returns-in-Fault-clause-looks g c =
    let was = c.args.console.now in
    let mid = c.read_line.new.console in
    let new = c.read_line.new.console in
    line_looks (g.C.Console.input was) (g.C.Console.input mid) (g.C.Console.input new)
    (g.C.Console.output was) (g.C.Console.output mid) (g.C.Console.output new) c.read_line.ensures.looks refl

pub returns-in-End-clause-looks : goal.returns-in-End-clause-looks
returns-in-End-clause-looks g c =
    let was = c.args.console.now in
    let mid = c.read_line.new.console in
    let new = c.read_line.new.console in
    line_looks (g.C.Console.input was) (g.C.Console.input mid) (g.C.Console.input new)
    (g.C.Console.output was) (g.C.Console.output mid) (g.C.Console.output new) c.read_line.ensures.looks refl

pub returns-in-Ok-Blank-clause-looks : goal.returns-in-Ok-Blank-clause-looks
returns-in-Ok-Blank-clause-looks g c =
    let was = c.args.console.now in
    let mid = c.read_line.new.console in
    let new = c.read_line.new.console in
    line_looks (g.C.Console.input was) (g.C.Console.input mid) (g.C.Console.input new)
    (g.C.Console.output was) (g.C.Console.output mid) (g.C.Console.output new) c.read_line.ensures.looks refl

pub returns-in-Long-clause-looks : goal.returns-in-Long-clause-looks
returns-in-Long-clause-looks g c =
    let was = c.args.console.now in
    let mid = c.read_line.new.console in
    let new = c.bad_line.new.console in
    line_looks (g.C.Console.input was) (g.C.Console.input mid) (g.C.Console.input new)
    (g.C.Console.output was) (g.C.Console.output mid) (g.C.Console.output new) c.read_line.ensures.looks c.bad_line.ensures.input

pub returns-in-Err-clause-looks : goal.returns-in-Err-clause-looks
returns-in-Err-clause-looks g c =
    let was = c.args.console.now in
    let mid = c.read_line.new.console in
    let new = c.refuse.new.console in
    line_looks (g.C.Console.input was) (g.C.Console.input mid) (g.C.Console.input new)
    (g.C.Console.output was) (g.C.Console.output mid) (g.C.Console.output new) c.read_line.ensures.looks c.refuse.ensures.input

pub returns-in-Ok-Bad-clause-looks : goal.returns-in-Ok-Bad-clause-looks
returns-in-Ok-Bad-clause-looks g c =
    let was = c.args.console.now in
    let mid = c.read_line.new.console in
    let new = c.bad_line-in-Ok-Bad.new.console in
    line_looks (g.C.Console.input was) (g.C.Console.input mid) (g.C.Console.input new)
    (g.C.Console.output was) (g.C.Console.output mid) (g.C.Console.output new) c.read_line.ensures.looks c.bad_line-in-Ok-Bad.ensures.input

pub returns-in-Ok-Whole-clause-looks : goal.returns-in-Ok-Whole-clause-looks
returns-in-Ok-Whole-clause-looks g c =
    let was = c.args.console.now in
    let mid = c.read_line.new.console in
    let new = c.carry_out.new.console in
    line_looks (g.C.Console.input was) (g.C.Console.input mid) (g.C.Console.input new)
    (g.C.Console.output was) (g.C.Console.output mid) (g.C.Console.output new) c.read_line.ensures.looks c.carry_out.ensures.input

pub returns-in-Ok-Book-clause-looks : goal.returns-in-Ok-Book-clause-looks
returns-in-Ok-Book-clause-looks g c =
    let line = take c.in-Line.len c.read_line.new.line in
    let asks = ap meaning_of_line (sym c.without_return-line.ensures.text) ∙ sym c.in-Ok-Book.ensures.ok ∙ c.in-Ok-Book.field-0-is in
    book_looks (g.C.Console.input c.args.console.now) (g.C.Console.input c.read_line.new.console) (g.C.Console.input c.with_book.new.console)
    (g.C.Console.output c.args.console.now) (g.C.Console.output c.read_line.new.console) (g.C.Console.output c.with_book.new.console) line c.in-Line.fed
    c.in-Ok-Book.book_use c.in-Ok-Book.len c.read_line.ensures.looks c.read_line.ensures.output c.in-Line.ensures.bytes.1 asks c.with_book.ensures.looks
