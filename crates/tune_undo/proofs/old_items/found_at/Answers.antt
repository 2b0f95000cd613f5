use Rattle.tune_undo.specs.OldEntries.{entry_value}
use Rattle.tune_undo.proofs.ItemLaws.{entry_begins, old_begins, mark_begins, none_begins}
use Rattle.tune_undo.proofs.old_items.found_at.Goals as goal

pub returns-in-Some-clause-found : goal.returns-in-Some-clause-found
returns-in-Some-clause-found c =
    let read = rw c.in-Some.is at c.in_ok-entry.ensures.found in
    entry_begins c.args.bytes.now (entry_value c.in-Some.entry) read.1.0 read.0 read.1.1

pub returns-in-Some-2-clause-found : goal.returns-in-Some-2-clause-found
returns-in-Some-2-clause-found c =
    let read = rw c.in-Some-2.is at c.in_ok-entry-2.ensures.found in
    old_begins c.args.bytes.now (entry_value c.in-Some-2.entry) read

pub returns-in-Some-mark_line-clause-found : goal.returns-in-Some-mark_line-clause-found
returns-in-Some-mark_line-clause-found c = mark_begins c.args.bytes.now (c.in-Some-mark_line.mark, c.in-Some-mark_line.field-0-1.now)
    c.in-Some-mark_line.ensures

pub returns-in-None-clause-none : goal.returns-in-None-clause-none
returns-in-None-clause-none c =
    let entries = rw c.in_default.is at c.in_ok-entry.ensures.none in
    let olds = rw c.in_default-2.is at c.in_ok-entry-2.ensures.none in
    none_begins c.args.bytes.now entries olds c.in-None.ensures
