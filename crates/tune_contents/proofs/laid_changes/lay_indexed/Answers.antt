use Rattle.std.proofs.Common.{◌≡◌, ℕ, Err, Ok, ap, arith, subst, sym}
use Rattle.std.proofs.lemmas.Result.{err_from_is_err_and}
use Rattle.tune_pages.specs.Faults.{free_pages}
use Rattle.tune_pages.specs.Stand.{Stand}
use Rattle.tune_contents.specs.Inside.Laying.{HoldsSomeTunes}
use Rattle.tune_contents.specs.Inside.Searching.{IsByNotes}
use Rattle.tune_contents.specs.Next.{rows_after}
use Rattle.tune_contents.proofs.IndexedLemmas.{LaidTunes, indexed_laid, laid_tunes, lays_from, numbers_take, searches_take}
use Rattle.tune_contents.proofs.IndexedLemmas.{some_numbers, some_searches, some_tunes, some_within}
use Rattle.tune_contents.proofs.laid_changes.lay_indexed.Goals as goal

pub text_runs-requires-clause-holds : goal.text_runs-requires-clause-holds
text_runs-requires-clause-holds g c = λ h.
    (let s = c.args.edit.now.next in
    let was = c.args.indexes.now in
    some_within c.args.layout s was.numbers was.searches c.args.rows.now.items (c.requires.holds h))

pub lay_tunes-requires-clause-holds : goal.lay_tunes-requires-clause-holds
lay_tunes-requires-clause-holds g c = λ h.
    (let s = c.args.edit.now.next in
    let was = c.args.indexes.now in
    let held = c.args.rows.now.items in
    let there = some_tunes c.args.layout s was.numbers was.searches held (c.requires.holds (c.in_ok-texts.ensures.consults.looks.was_honest h)) in
    subst (λ (t : Stand). HoldsSomeTunes t held) (sym (c.in_ok-texts.ensures.consults.stand.same h)) there)

pub change_numbers-requires-clause-index : goal.change_numbers-requires-clause-index
change_numbers-requires-clause-index g c = λ h.
    (let s = c.args.edit.now.next in
    let one = c.text_runs.new.edit.next in
    let mid = c.lay_tunes.new.edit.next in
    let was = c.args.indexes.now in
    let held = c.args.rows.now.items in
    let rows = rows_after c.in_ok-made.made held in
    let h1 = c.in_ok-made.ensures.edits.looks.was_honest h in
    let lays = lays_from s one mid held rows c.args.change.now (c.in_ok-texts.ensures.consults.stand.same h1)
    (c.in_ok-made.ensures.lays h) in
    some_numbers c.args.layout s was.numbers was.searches held (c.requires.holds (c.in_ok-texts.ensures.consults.looks.was_honest h1)) mid rows
    c.args.change.now lays)

pub change_searches-requires-clause-holds : goal.change_searches-requires-clause-holds
change_searches-requires-clause-holds g c = λ h.
    (let s = c.args.edit.now.next in
    let one = c.text_runs.new.edit.next in
    let mid = c.lay_tunes.new.edit.next in
    let late = c.change_numbers.new.edit.next in
    let was = c.args.indexes.now in
    let held = c.args.rows.now.items in
    let rows = rows_after c.in_ok-made.made held in
    let h2 = c.in_ok-numbers.ensures.edits.looks.was_honest h in
    let h1 = c.in_ok-made.ensures.edits.looks.was_honest h2 in
    let lays = lays_from s one mid held rows c.args.change.now (c.in_ok-texts.ensures.consults.stand.same h1)
    (c.in_ok-made.ensures.lays h2) in
    let takes = c.in_ok-texts.ensures.gone h1 in
    some_searches c.args.layout s was.numbers was.searches held (c.requires.holds (c.in_ok-texts.ensures.consults.looks.was_honest h1)) mid late rows
    c.args.change.now c.change_numbers.new.numbers _ c.in_ok-texts.texts.gone lays (c.in_ok-numbers.ensures.lays h) takes)

pub change_searches-requires-clause-gone_notes : goal.change_searches-requires-clause-gone_notes
change_searches-requires-clause-gone_notes g c =
    subst (λ (n : ℕ). IsByNotes n c.in_ok-texts.texts.gone) c.notes-notes.ensures c.in_ok-texts.ensures.gone_notes

pub change_searches-requires-clause-come_notes : goal.change_searches-requires-clause-come_notes
change_searches-requires-clause-come_notes g c =
    subst (λ (n : ℕ). IsByNotes n c.in_ok-texts.texts.come) c.notes-notes.ensures c.in_ok-texts.ensures.come_notes

pub returns-clause-lays : goal.returns-clause-lays
returns-clause-lays g c = λ h.
    (let s = c.args.edit.now.next in
    let one = c.text_runs.new.edit.next in
    let mid = c.lay_tunes.new.edit.next in
    let late = c.change_numbers.new.edit.next in
    let new = c.change_searches.new.edit.next in
    let was = c.args.indexes.now in
    let held = c.args.rows.now.items in
    let rows = rows_after c.in_ok-made.made held in
    let gone = c.in-Ok.entries.gone.items in
    let come = c.in-Ok.entries.come.items in
    let h3 = c.in_ok-searches.ensures.edits.looks.was_honest h in
    let h2 = c.in_ok-numbers.ensures.edits.looks.was_honest h3 in
    let h1 = c.in_ok-made.ensures.edits.looks.was_honest h2 in
    let laid : LaidTunes c.args.layout s mid held rows c.args.change.now gone come = laid_tunes c.args.layout s one mid held c.in_ok-made.made
    c.args.change.now gone come (c.in_ok-texts.ensures.consults.stand.same h1) (c.in_ok-made.ensures.lays h2)
    c.in_ok-made.ensures.rows c.in-Ok.ensures.entries in
    let texts = c.in_ok-texts.ensures.runs h1 in
    indexed_laid c.args.layout s mid late new was.numbers c.change_numbers.new.numbers was.searches c.change_searches.new.searches held rows
    c.args.change.now gone come c.in_ok-texts.texts.gone c.in_ok-texts.texts.come laid texts (c.in_ok-numbers.ensures.lays h3)
    (c.in_ok-searches.ensures.lays h))

pub returns-in_err-numbers-clause-takes : goal.returns-in_err-numbers-clause-takes
returns-in_err-numbers-clause-takes g c = λ h tunes sets holds can.
    (let p = err_from_is_err_and c.from_residual-in_err-numbers.result c.from_residual-in_err-numbers.ensures.1 in
    let s = c.args.edit.now.next in
    let one = c.text_runs.new.edit.next in
    let mid = c.lay_tunes.new.edit.next in
    let late = c.change_numbers.new.edit.next in
    let was = c.args.indexes.now in
    let held = c.args.rows.now.items in
    let rows = rows_after c.in_ok-made.made held in
    let gone = c.in-Ok.entries.gone.items in
    let come = c.in-Ok.entries.come.items in
    let h2 = c.in_err-numbers.ensures.edits.looks.was_honest h in
    let h1 = c.in_ok-made.ensures.edits.looks.was_honest h2 in
    let laid : LaidTunes c.args.layout s mid held rows c.args.change.now gone come = laid_tunes c.args.layout s one mid held c.in_ok-made.made
    c.args.change.now gone come (c.in_ok-texts.ensures.consults.stand.same h1) (c.in_ok-made.ensures.lays h2)
    c.in_ok-made.ensures.rows c.in-Ok.ensures.entries in
    let full = numbers_take c.args.layout s mid late late was.numbers was.numbers was.searches was.searches held rows c.args.change.now gone come
    c.in_ok-texts.texts.gone c.in_ok-texts.texts.come laid tunes holds.set_lists sets holds.within can holds.around {T = ℕ} (Err c.in_err-numbers.field-0.0)
    (c.in_err-numbers.ensures.takes h) in
    let used : free_pages one.used ≡ free_pages s.used = ap free_pages c.in_ok-texts.ensures.consults.stand.used in
    let first = c.in_ok-made.ensures.takes h2 in
    rw (p.1, p.2) (λ e. (let lt = full e in omega (arith, lt, used, first))))

pub returns-in_err-searches-clause-takes : goal.returns-in_err-searches-clause-takes
returns-in_err-searches-clause-takes g c = λ h tunes sets holds can.
    (let p = err_from_is_err_and c.from_residual-in_err-searches.result c.from_residual-in_err-searches.ensures.1 in
    let s = c.args.edit.now.next in
    let one = c.text_runs.new.edit.next in
    let mid = c.lay_tunes.new.edit.next in
    let late = c.change_numbers.new.edit.next in
    let new = c.change_searches.new.edit.next in
    let was = c.args.indexes.now in
    let held = c.args.rows.now.items in
    let rows = rows_after c.in_ok-made.made held in
    let gone = c.in-Ok.entries.gone.items in
    let come = c.in-Ok.entries.come.items in
    let h3 = c.in_err-searches.ensures.edits.looks.was_honest h in
    let h2 = c.in_ok-numbers.ensures.edits.looks.was_honest h3 in
    let h1 = c.in_ok-made.ensures.edits.looks.was_honest h2 in
    let laid : LaidTunes c.args.layout s mid held rows c.args.change.now gone come = laid_tunes c.args.layout s one mid held c.in_ok-made.made
    c.args.change.now gone come (c.in_ok-texts.ensures.consults.stand.same h1) (c.in_ok-made.ensures.lays h2)
    c.in_ok-made.ensures.rows c.in-Ok.ensures.entries in
    let texts = c.in_ok-texts.ensures.runs h1 in
    let second = numbers_take c.args.layout s mid late new was.numbers c.change_numbers.new.numbers was.searches was.searches held rows
    c.args.change.now gone come c.in_ok-texts.texts.gone c.in_ok-texts.texts.come laid tunes holds.set_lists sets holds.within can holds.around {T = ℕ}
    (Ok c.in_ok-numbers.numbers) (c.in_ok-numbers.ensures.takes h3) in
    let full = searches_take c.args.layout s mid late new was.numbers c.change_numbers.new.numbers was.searches was.searches held rows
    c.args.change.now gone come c.in_ok-texts.texts.gone c.in_ok-texts.texts.come laid tunes holds.set_lists sets holds.within can holds.around
    (c.in_ok-numbers.ensures.lays h3) texts {T = ℕ} (Err c.in_err-searches.field-0.0) (c.in_err-searches.ensures.takes h) in
    let used : free_pages one.used ≡ free_pages s.used = ap free_pages c.in_ok-texts.ensures.consults.stand.used in
    let first = c.in_ok-made.ensures.takes h2 in
    rw (p.1, p.2) (λ e. (let lt = full e in omega (arith, lt, used, first, second))))

pub returns-clause-takes : goal.returns-clause-takes
returns-clause-takes g c = λ h tunes sets holds can.
    (let s = c.args.edit.now.next in
    let one = c.text_runs.new.edit.next in
    let mid = c.lay_tunes.new.edit.next in
    let late = c.change_numbers.new.edit.next in
    let new = c.change_searches.new.edit.next in
    let was = c.args.indexes.now in
    let held = c.args.rows.now.items in
    let rows = rows_after c.in_ok-made.made held in
    let gone = c.in-Ok.entries.gone.items in
    let come = c.in-Ok.entries.come.items in
    let h3 = c.in_ok-searches.ensures.edits.looks.was_honest h in
    let h2 = c.in_ok-numbers.ensures.edits.looks.was_honest h3 in
    let h1 = c.in_ok-made.ensures.edits.looks.was_honest h2 in
    let laid : LaidTunes c.args.layout s mid held rows c.args.change.now gone come = laid_tunes c.args.layout s one mid held c.in_ok-made.made
    c.args.change.now gone come (c.in_ok-texts.ensures.consults.stand.same h1) (c.in_ok-made.ensures.lays h2)
    c.in_ok-made.ensures.rows c.in-Ok.ensures.entries in
    let texts = c.in_ok-texts.ensures.runs h1 in
    let second = numbers_take c.args.layout s mid late new was.numbers c.change_numbers.new.numbers was.searches was.searches held rows
    c.args.change.now gone come c.in_ok-texts.texts.gone c.in_ok-texts.texts.come laid tunes holds.set_lists sets holds.within can holds.around {T = ℕ}
    (Ok c.in_ok-numbers.numbers) (c.in_ok-numbers.ensures.takes h3) in
    let third = searches_take c.args.layout s mid late new was.numbers c.change_numbers.new.numbers was.searches was.searches held rows
    c.args.change.now gone come c.in_ok-texts.texts.gone c.in_ok-texts.texts.come laid tunes holds.set_lists sets holds.within can holds.around
    (c.in_ok-numbers.ensures.lays h3) texts {T = ℕ} (Ok 0) (c.in_ok-searches.ensures.takes h) in
    let used : free_pages one.used ≡ free_pages s.used = ap free_pages c.in_ok-texts.ensures.consults.stand.used in
    let first = c.in_ok-made.ensures.takes h2 in
    omega (arith, third, used, first, second))
