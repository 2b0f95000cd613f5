use Rattle.std.proofs.Common.{◌≡◌, List, ◌∷◌, ◌++◌, [], ◌+◌, drop, sym, ◌∙◌, ap, arith}
use Rattle.index_keys.specs.Entries.{Entry}
use Rattle.tune_contents.proofs.ClaimedRowLemmas.{list_at, rows_start, rows_turn, no_row, rows_long, rows_all, rows_end}
use Rattle.tune_contents.proofs.claiming.listed_rows.Goals as goal

pub returns-then-tunes-most_tunes-clause-damaged : goal.returns-then-tunes-most_tunes-clause-damaged
returns-then-tunes-most_tunes-clause-damaged c = λ all.
    rows_long {layout = c.args.layout} c.args.tunes.now (omega (arith, c.if-tunes-most_tunes.true, c.most_tunes.ensures.most)) all

pub loop-entry-init : goal.loop-entry-init
loop-entry-init c = rows_start _ _ c.in-Ok.ensures.items

pub returns-in_default-listed_row-clause-damaged : goal.returns-in_default-listed_row-clause-damaged
returns-in_default-listed_row-clause-damaged c =
    let list : List Entry = c.args.tunes.now in
    let i = c.loop-entry.entry-index in
    let e : Entry = c.entry-item.result in
    let at : drop i list ≡ e ∷ drop (i + 1) list =
    list_at list i e c.loop-entry-test.true ∙ ap (λ (x : Entry). x ∷ drop (i + 1) list) (sym c.entry-item.is) in
    no_row list _ _ i e c.loop-entry.invariant at c.in_default-listed_row.ensures.none

pub loop-entry-preserved : goal.loop-entry-preserved
loop-entry-preserved c =
    let list : List Entry = c.args.tunes.now in
    let i = c.loop-entry.entry-index in
    let e : Entry = c.entry-item.result in
    let at : drop i list ≡ e ∷ drop (i + 1) list =
    list_at list i e c.loop-entry-test.true ∙ ap (λ (x : Entry). x ∷ drop (i + 1) list) (sym c.entry-item.is) in
    let row = c.in-Some.ensures in
    let pushed : c.push.new.self.items ≡ c.loop-entry.rows.items ++ c.in-Some.row ∷ [] = grind (arith, c.push.ensures.items, c.is_err.ensures) in
    rows_turn list _ _ _ i e c.in-Some.row c.loop-entry.invariant at row.same row.within.0 row.within.1 pushed

pub returns-clause-same : goal.returns-clause-same
returns-clause-same c = rows_all _ _ _ _ (omega arith) c.loop-entry.invariant

pub returns-clause-rows : goal.returns-clause-rows
returns-clause-rows c = rows_end _ _ _ _ (omega arith) c.loop-entry.invariant (omega arith)
