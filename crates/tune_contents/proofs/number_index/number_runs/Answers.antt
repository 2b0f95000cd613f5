use Rattle.std.proofs.Common.{◌≡◌, ℕ, ◌-◌, ◌++◌, [], ◌∷◌, IfOk, take, drop, length, slice_set, subst, sym, ◌∙◌, ap, refl}
use Rattle.std.specs.List.{insert, remove}
use Rattle.index_keys.specs.Entries.{AllFit, IsRising, inserted_all, removed_all}
use Rattle.tune_search.specs.Searches.{key_bytes}
use Rattle.tune_format.specs.Written.{number_entries}
use Rattle.tune_contents.specs.Claimed.{RowsRise}
use Rattle.tune_format.specs.declared.rows.Row.{Row}
use Rattle.tune_contents.specs.Inside.ChangedRows.{IsMadeOf, PutsRuns}
use Rattle.tune_contents.specs.Next.{rows_after}
use Rattle.tune_contents.specs.declared.next.RowChange.{RowChange}
use Rattle.tune_contents.proofs.NumberEntries.{added_entries, added_rise, come_behind, moved_entries, put_entries, taken_entries}
use Rattle.tune_contents.proofs.OkLemmas.{ok_three, ok_two}
use Rattle.tune_contents.proofs.number_index.number_runs.Goals as goal

pub returns-in-Add-clause-rising : goal.returns-in-Add-clause-rising
returns-in-Add-clause-rising c =
    let was = c.args.was.now.items in
    let more = c.in-Add.more.items in
    let made = subst (λ (m : RowChange). IsMadeOf m was) c.in-Add.is c.requires in
    ok_two c.runs_of-in-Add.result (λ runs. runs.come.items ≡ number_entries c.deref.result.now) (λ runs. AllFit key_bytes runs.come.items)
    (λ runs. IsRising runs.come.items)
    (λ runs come fit. added_rise was (was ++ more) more runs.come.items refl (come ∙ ap number_entries c.deref.ensures.value) fit made.0 made.1 made.2)
    c.runs_of-in-Add.ensures.come c.runs_of-in-Add.ensures.fit

pub returns-in-Add-clause-entries : goal.returns-in-Add-clause-entries
returns-in-Add-clause-entries c =
    let was = c.args.was.now.items in
    let more = c.in-Add.more.items in
    subst (λ (m : RowChange). IfOk c.runs_of-in-Add.result (λ runs. RowsRise 0 was → RowsRise 0 (rows_after m was) → AllFit key_bytes (number_entries was)
    → inserted_all runs.come.items (removed_all runs.gone.items (number_entries was)) ≡ number_entries (rows_after m was))) (sym c.in-Add.is)
    (ok_three c.runs_of-in-Add.result (λ runs. runs.gone.items ≡ []) (λ runs. runs.come.items ≡ number_entries c.deref.result.now)
    (λ runs. AllFit key_bytes runs.come.items)
    (λ runs. RowsRise 0 was → RowsRise 0 (was ++ more) → AllFit key_bytes (number_entries was)
    → inserted_all runs.come.items (removed_all runs.gone.items (number_entries was)) ≡ number_entries (was ++ more))
    (λ runs gone come own rise risen fit. added_entries was (was ++ more) more runs.come.items refl (come ∙ ap number_entries c.deref.ensures.value) own
    runs.gone.items gone risen fit)
    c.runs_of-in-Add.ensures.gone c.runs_of-in-Add.ensures.come c.runs_of-in-Add.ensures.fit)

pub returns-in-Put-clause-entries : goal.returns-in-Put-clause-entries
returns-in-Put-clause-entries c =
    let was = c.args.was.now.items in
    let place = c.in-Put.place in
    let row = c.in-Put.row in
    let made = subst (λ (m : RowChange). IsMadeOf m was) c.in-Put.is c.requires in
    subst (λ (m : RowChange). IfOk c.put_runs.result (λ runs. RowsRise 0 was → RowsRise 0 (rows_after m was) → AllFit key_bytes (number_entries was)
    → inserted_all runs.come.items (removed_all runs.gone.items (number_entries was)) ≡ number_entries (rows_after m was))) (sym c.in-Put.is)
    (ok_two c.put_runs.result _ (λ runs. AllFit key_bytes runs.come.items)
    (λ runs. RowsRise 0 was → RowsRise 0 (slice_set was place row) → AllFit key_bytes (number_entries was)
    → inserted_all runs.come.items (removed_all runs.gone.items (number_entries was)) ≡ number_entries (slice_set was place row))
    (λ runs puts own rise risen fit. put_entries was (slice_set was place row) place c.at.result runs.gone.items runs.come.items made rise risen
    fit own row refl (subst (λ (r : Row). PutsRuns r row runs.gone.items runs.come.items) c.at.ensures puts))
    c.put_runs.ensures.runs c.put_runs.ensures.fit)

pub returns-in-Take-clause-entries : goal.returns-in-Take-clause-entries
returns-in-Take-clause-entries c =
    let was = c.args.was.now.items in
    let place = c.in-Take.place in
    let made = subst (λ (m : RowChange). IsMadeOf m was) c.in-Take.is c.requires in
    subst (λ (m : RowChange). IfOk c.runs_of-in-Take.result (λ runs. RowsRise 0 was → RowsRise 0 (rows_after m was) → AllFit key_bytes (number_entries was)
    → inserted_all runs.come.items (removed_all runs.gone.items (number_entries was)) ≡ number_entries (rows_after m was))) (sym c.in-Take.is)
    (ok_three c.runs_of-in-Take.result _ (λ runs. runs.come.items ≡ []) (λ runs. AllFit key_bytes runs.come.items)
    (λ runs. RowsRise 0 was → RowsRise 0 (remove was place) → AllFit key_bytes (number_entries was)
    → inserted_all runs.come.items (removed_all runs.gone.items (number_entries was)) ≡ number_entries (remove was place))
    (λ runs gone come own rise risen fit. taken_entries was (remove was place) place c.at-in-Take.result runs.gone.items runs.come.items made rise risen
    fit own refl (gone ∙ ap number_entries c.from_ref.ensures.value ∙ ap (λ (r : Row). number_entries (r ∷ [])) c.at-in-Take.ensures) come)
    c.runs_of-in-Take.ensures.gone c.runs_of-in-Take.ensures.come c.runs_of-in-Take.ensures.fit)

pub returns-in-Move-clause-entries : goal.returns-in-Move-clause-entries
returns-in-Move-clause-entries c =
    let was = c.args.was.now.items in
    let place = c.in-Move.place in
    let to = c.in-Move.to in
    let row = c.in-Move.row in
    let made = subst (λ (m : RowChange). IsMadeOf m was) c.in-Move.is c.requires in
    subst (λ (m : RowChange). IfOk c.runs_of-in-Move.result (λ runs. RowsRise 0 was → RowsRise 0 (rows_after m was) → AllFit key_bytes (number_entries was)
    → inserted_all runs.come.items (removed_all runs.gone.items (number_entries was)) ≡ number_entries (rows_after m was))) (sym c.in-Move.is)
    (ok_three c.runs_of-in-Move.result _ (λ runs. runs.come.items ≡ number_entries c.from_ref-in-Move-2.result.now) (λ runs. AllFit key_bytes runs.come.items)
    (λ runs. RowsRise 0 was → RowsRise 0 (insert (remove was place) to row) → AllFit key_bytes (number_entries was)
    → inserted_all runs.come.items (removed_all runs.gone.items (number_entries was)) ≡ number_entries (insert (remove was place) to row))
    (λ runs gone come own rise risen fit. moved_entries was (insert (remove was place) to row) place c.at-in-Move.result runs.gone.items runs.come.items
    made.0 rise risen fit own to row made.1 refl
    (gone ∙ ap number_entries c.from_ref-in-Move.ensures.value ∙ ap (λ (r : Row). number_entries (r ∷ [])) c.at-in-Move.ensures)
    (come ∙ ap number_entries c.from_ref-in-Move-2.ensures.value))
    c.runs_of-in-Move.ensures.gone c.runs_of-in-Move.ensures.come c.runs_of-in-Move.ensures.fit)

pub returns-in-Whole-clause-rising : goal.returns-in-Whole-clause-rising
returns-in-Whole-clause-rising c =
    let was = c.args.was.now.items in
    let is = c.in-Whole.all.items in
    let held = c.deref-in-Whole.result.now in
    let made = subst (λ (m : RowChange). IsMadeOf m was) c.in-Whole.is c.requires in
    let joined = c.deref-in-Whole.ensures.value ∙ made.2.1 in
    let count : c.len.result ≡ length was = c.len.ensures in
    let comes = subst (λ (n : ℕ). IfOk c.runs_of-in-Whole.result (λ runs. runs.come.items ≡ number_entries (take (length held - n) (drop n held)))) count
    c.runs_of-in-Whole.ensures.come in
    ok_two c.runs_of-in-Whole.result (λ runs. runs.come.items ≡ number_entries (take (length held - length was) (drop (length was) held)))
    (λ runs. AllFit key_bytes runs.come.items) (λ runs. IsRising runs.come.items)
    (λ runs come fit. added_rise was is made.2.0 runs.come.items made.2.1 (come_behind was held made.2.0 runs.come.items joined come) fit made.0 made.1
    made.2.2)
    comes c.runs_of-in-Whole.ensures.fit

pub returns-in-Whole-clause-entries : goal.returns-in-Whole-clause-entries
returns-in-Whole-clause-entries c =
    let was = c.args.was.now.items in
    let is = c.in-Whole.all.items in
    let held = c.deref-in-Whole.result.now in
    let made = subst (λ (m : RowChange). IsMadeOf m was) c.in-Whole.is c.requires in
    let joined = c.deref-in-Whole.ensures.value ∙ made.2.1 in
    let count : c.len.result ≡ length was = c.len.ensures in
    let comes = subst (λ (n : ℕ). IfOk c.runs_of-in-Whole.result (λ runs. runs.come.items ≡ number_entries (take (length held - n) (drop n held)))) count
    c.runs_of-in-Whole.ensures.come in
    subst (λ (m : RowChange). IfOk c.runs_of-in-Whole.result (λ runs. RowsRise 0 was → RowsRise 0 (rows_after m was) → AllFit key_bytes (number_entries was)
    → inserted_all runs.come.items (removed_all runs.gone.items (number_entries was)) ≡ number_entries (rows_after m was))) (sym c.in-Whole.is)
    (ok_three c.runs_of-in-Whole.result (λ runs. runs.gone.items ≡ [])
    (λ runs. runs.come.items ≡ number_entries (take (length held - length was) (drop (length was) held))) (λ runs. AllFit key_bytes runs.come.items)
    (λ runs. RowsRise 0 was → RowsRise 0 is → AllFit key_bytes (number_entries was)
    → inserted_all runs.come.items (removed_all runs.gone.items (number_entries was)) ≡ number_entries is)
    (λ runs gone come own rise risen fit. added_entries was is made.2.0 runs.come.items made.2.1
    (come_behind was held made.2.0 runs.come.items joined come) own runs.gone.items gone risen fit)
    c.runs_of-in-Whole.ensures.gone comes c.runs_of-in-Whole.ensures.fit)
