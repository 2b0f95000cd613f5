use Rattle.std.proofs.Common.{◌≡◌, ℕ, ◌+◌, List, ◌∷◌, [], ◌++◌, take, subst, sym, ap, ◌∙◌}
use Rattle.std.proofs.lemmas.List.{take_more}
use Rattle.index_keys.specs.Entries.{AllFit, Entry}
use Rattle.tune_index.proofs.Codec.{AllFit-push}
use Rattle.tune_index.proofs.insert.check_run.Goals as goal

pub loop-entry-preserved : goal.loop-entry-preserved
loop-entry-preserved g c =
    let i : ℕ = c.loop-entry.entry-index in
    let run : List Entry = c.args.run.now in
    let e : Entry = c.entry-item.result in
    let t : take (i + 1) run ≡ take i run ++ e ∷ [] = take_more run i e c.loop-entry-test.true
    ∙ ap (λ (x : Entry). take i run ++ x ∷ []) (sym c.entry-item.is) in
    subst (λ (x : List Entry). AllFit g.row.W x) (sym t) (AllFit-push g.row.W (take i run) e c.loop-entry.invariant c.check_entry.ensures)
