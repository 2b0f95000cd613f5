use Rattle.std.proofs.Common.{refl, ◌<◌, ◌≤◌, arith, None, Some}
use Rattle.std.proofs.lemmas.Bool.{leb-true}
use Rattle.abc_fields.specs.Limits.{longest_book}
use Rattle.tune_scripts.specs.declared.script_runs.RunEnd.TheVariants.{Ended, ReaderFault}
use Rattle.tune_scripts.specs.ScriptRuns.{at_other_end}
use Rattle.tune_scripts.specs.Inside.Turns.{TurnsBook}
use Rattle.tune_scripts.proofs.TurnLemmas.{appends_none, book_fault, book_cut, book_over, book_no_room, book_whole}
use Rattle.tune_scripts.proofs.TurnLemmas.{over_none, over_one, goes_quiet, turned}
use Rattle.tune_scripts.proofs.script_runs.with_book.Goals as goal

pub returns-in-Fault-clause-turns : goal.returns-in-Fault-clause-turns
returns-in-Fault-clause-turns g c = λ honest.
    let was = c.args.console.now in
    let mid = c.read_book.new.console in
    let new = c.read_book.new.console in
    turned g.S.TuneStore (λ left work. TurnsBook c.args.book_use c.args.len (g.C.Console.input was).left left work (Some ReaderFault))
    (g.C.Console.output was) (g.C.Console.output mid) (g.C.Console.output new) (g.C.Console.input mid) (g.C.Console.input new) _ _ _
    c.read_book.ensures.output refl
    (over_none g.S.TuneStore _ _ c.args.store.now _ _ (at_other_end ReaderFault _ tt tt)
    (λ quiet. book_fault c.args.book_use c.args.len _ _ _ quiet (appends_none (g.C.Console.output c.read_book.new.console).bytes)))

pub returns-in-Cut-clause-turns : goal.returns-in-Cut-clause-turns
returns-in-Cut-clause-turns g c = λ honest.
    let was = c.args.console.now in
    let mid = c.read_book.new.console in
    let new = c.bad_line.new.console in
    turned g.S.TuneStore (λ left work. TurnsBook c.args.book_use c.args.len (g.C.Console.input was).left left work c.bad_line.result)
    (g.C.Console.output was) (g.C.Console.output mid) (g.C.Console.output new) (g.C.Console.input mid) (g.C.Console.input new) _ _ _
    c.read_book.ensures.output c.bad_line.ensures.input
    (over_none g.S.TuneStore _ _ c.args.store.now _ _ (goes_quiet _ _ _ (Some Ended) _ (at_other_end Ended _ tt tt) c.bad_line.ensures.written)
    (λ quiet. book_cut c.args.book_use c.args.len _ _ _ c.bad_line.result c.in-Cut.ensures.bytes quiet c.bad_line.ensures.written))

pub returns-in-Dropped-clause-turns : goal.returns-in-Dropped-clause-turns
returns-in-Dropped-clause-turns g c = λ honest.
    let fits : c.args.len ≤ longest_book = omega arith in
    let read = c.in-Dropped.ensures.bytes in
    let was = c.args.console.now in
    let mid = c.read_book.new.console in
    let new = c.refuse.new.console in
    turned g.S.TuneStore (λ left work. TurnsBook c.args.book_use c.args.len (g.C.Console.input was).left left work c.refuse.result)
    (g.C.Console.output was) (g.C.Console.output mid) (g.C.Console.output new) (g.C.Console.input mid) (g.C.Console.input new) _ _ _
    c.read_book.ensures.output c.refuse.ensures.input
    (over_none g.S.TuneStore _ _ c.args.store.now _ _ (goes_quiet _ _ _ None _ tt c.refuse.ensures.written)
    (λ quiet. book_no_room c.args.book_use c.args.len _ _ _ c.refuse.result read.0 read.1 fits read.2 quiet c.refuse.ensures.written))

pub returns-in-Dropped-2-clause-turns : goal.returns-in-Dropped-2-clause-turns
returns-in-Dropped-2-clause-turns g c = λ honest.
    let over : longest_book < c.args.len = omega arith in
    let read = c.in-Dropped-2.ensures.bytes in
    let was = c.args.console.now in
    let mid = c.read_book.new.console in
    let new = c.refuse-in-Dropped-2.new.console in
    turned g.S.TuneStore (λ left work. TurnsBook c.args.book_use c.args.len (g.C.Console.input was).left left work c.refuse-in-Dropped-2.result)
    (g.C.Console.output was) (g.C.Console.output mid) (g.C.Console.output new) (g.C.Console.input mid) (g.C.Console.input new) _ _ _
    c.read_book.ensures.output c.refuse-in-Dropped-2.ensures.input
    (over_none g.S.TuneStore _ _ c.args.store.now _ _ (goes_quiet _ _ _ None _ tt c.refuse-in-Dropped-2.ensures.written)
    (λ quiet. book_over c.args.book_use c.args.len _ _ _ c.refuse-in-Dropped-2.result read.0 read.1 over read.2 quiet c.refuse-in-Dropped-2.ensures.written))

pub returns-in-Whole-clause-turns : goal.returns-in-Whole-clause-turns
returns-in-Whole-clause-turns g c = λ honest.
    let read = c.in-Whole.ensures.bytes in
    let fits : c.args.len ≤ longest_book = omega (arith, leb-true c.args.len longest_book read.0) in
    let carried = rw c.command.ensures at (c.carry_out.ensures.carries honest) in
    let was = c.args.console.now in
    let mid = c.read_book.new.console in
    let new = c.carry_out.new.console in
    turned g.S.TuneStore (λ left work. TurnsBook c.args.book_use c.args.len (g.C.Console.input was).left left work c.carry_out.result)
    (g.C.Console.output was) (g.C.Console.output mid) (g.C.Console.output new) (g.C.Console.input mid) (g.C.Console.input new) _ _ _
    c.read_book.ensures.output c.carry_out.ensures.input
    (over_one g.S.TuneStore _ _ _ _ _ c.carry_out.result _ carried
    (λ work one. book_whole c.args.book_use c.args.len _ _ work c.carry_out.result c.in-Whole.book read.1 fits read.2 one))
