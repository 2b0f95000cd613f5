use Rattle.std.proofs.Common.{◌≡◌, ℕ, length, IfOk, arith, subst, sym, vec_len}
use Rattle.std.specs.List.{remove}
use Rattle.tune_store.specs.declared.plans.Change.{Change}
use Rattle.tune_store.specs.declared.plans.Change.TheVariants.{Add, Put, Take, Move}
use Rattle.tune_contents.specs.Claimed.{AreRows}
use Rattle.tune_contents.specs.Inside.Changes.{KeepsRows}
use Rattle.tune_contents.specs.Inside.ChangedRows.{AddsRows, IsMadeOf, IsSingle, PutsRow}
use Rattle.tune_contents.specs.Next.{FitsRows, rows_after}
use Rattle.tune_contents.proofs.NextLemmas.{single_fits, single_made}
use Rattle.tune_contents.proofs.OkLemmas.{ok_one}
use Rattle.tune_contents.proofs.RisingLemmas.{numbers_added, numbers_put, rows_added, rows_put, rows_taken, none_labelled}
use Rattle.tune_contents.proofs.laid_changes.lay_tunes.Goals as goal

pub returns-in-Add-clause-rows : goal.returns-in-Add-clause-rows
returns-in-Add-clause-rows g c =
    let rows = c.args.rows.now.items in
    let first = c.in-Add.first in
    let count = vec_len c.in-Add.texts in
    let same : length c.deref.result.now ≡ count = omega (arith, c.deref.ensures.len) in
    subst (λ (change : Change). IfOk c.lay_added.result (λ made. KeepsRows change rows (rows_after made rows))) (sym c.in-Add.is)
    (ok_one c.lay_added.result (λ made. AddsRows first count rows (rows_after made rows))
    (λ made. KeepsRows (Add first c.in-Add.texts) rows (rows_after made rows))
    (λ made added layout sets can are. rows_added rows (rows_after made rows) first count can.0 can.1 can.2 can.3
    (numbers_added rows (rows_after made rows) first count added) are)
    (subst (λ (n : ℕ). IfOk c.lay_added.result (λ made. AddsRows first n rows (rows_after made rows))) same c.lay_added.ensures.rows))

pub returns-in-Put-clause-rows : goal.returns-in-Put-clause-rows
returns-in-Put-clause-rows g c =
    let rows = c.args.rows.now.items in
    let place = c.in-Put.place in
    let number = c.in-Put.tune.number in
    subst (λ (change : Change). IfOk c.put_tune.result (λ made. KeepsRows change rows (rows_after made rows))) (sym c.in-Put.is)
    (ok_one c.put_tune.result (λ made. PutsRow place number rows (rows_after made rows))
    (λ made. KeepsRows (Put place c.in-Put.tune) rows (rows_after made rows))
    (λ made put layout sets can are. rows_put rows (rows_after made rows) place number can.1 (numbers_put rows (rows_after made rows) place number put) are)
    c.put_tune.ensures.row)

pub returns-in-Put-clause-made : goal.returns-in-Put-clause-made
returns-in-Put-clause-made g c =
    let rows = c.args.rows.now.items in
    ok_one c.put_tune.result (λ made. IsSingle made rows) (λ made. IsMadeOf made rows) (λ made. single_made made rows)
    c.put_tune.ensures.single

pub returns-in-Put-clause-room : goal.returns-in-Put-clause-room
returns-in-Put-clause-room g c =
    let rows = c.args.rows.now in
    ok_one c.put_tune.result (λ made. IsSingle made rows.items) (λ made. FitsRows made rows.items rows.room)
    (λ made. single_fits made rows.items rows.room)
    c.put_tune.ensures.single

pub returns-in-Take-clause-rows : goal.returns-in-Take-clause-rows
returns-in-Take-clause-rows g c =
    let rows = c.args.rows.now.items in
    let place = c.in-Take.place in
    subst (λ (change : Change). IfOk c.take_tune.result (λ made. KeepsRows change rows (rows_after made rows))) (sym c.in-Take.is)
    (ok_one c.take_tune.result (λ made. rows_after made rows ≡ remove rows place) (λ made. KeepsRows (Take place) rows (rows_after made rows))
    (λ made taken layout sets can are. subst (AreRows layout) (sym taken) (rows_taken rows place can are))
    c.take_tune.ensures.rows)

pub returns-in-Take-clause-made : goal.returns-in-Take-clause-made
returns-in-Take-clause-made g c =
    let rows = c.args.rows.now.items in
    ok_one c.take_tune.result (λ made. IsSingle made rows) (λ made. IsMadeOf made rows) (λ made. single_made made rows)
    c.take_tune.ensures.single

pub returns-in-Take-clause-room : goal.returns-in-Take-clause-room
returns-in-Take-clause-room g c =
    let rows = c.args.rows.now in
    ok_one c.take_tune.result (λ made. IsSingle made rows.items) (λ made. FitsRows made rows.items rows.room)
    (λ made. single_fits made rows.items rows.room)
    c.take_tune.ensures.single

pub returns-in-Move-clause-rows : goal.returns-in-Move-clause-rows
returns-in-Move-clause-rows g c =
    let rows = c.args.rows.now.items in
    let made = c.move_row.result in
    let number = c.in-Move.number in
    let to = c.in-Move.to in
    let moved : KeepsRows (Move number to) rows (rows_after made rows) =
    λ layout sets can are. c.move_row.ensures.rows layout are (none_labelled rows to can.1) can.2 can.3 in
    subst (λ (change : Change). KeepsRows change rows (rows_after made rows)) (sym c.in-Move.is) moved

pub returns-in-Move-clause-made : goal.returns-in-Move-clause-made
returns-in-Move-clause-made g c =
    let rows = c.args.rows.now.items in
    single_made c.move_row.result rows c.move_row.ensures.single

pub returns-in-Move-clause-room : goal.returns-in-Move-clause-room
returns-in-Move-clause-room g c =
    let rows = c.args.rows.now in
    single_fits c.move_row.result rows.items rows.room c.move_row.ensures.single
