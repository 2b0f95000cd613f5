use Rattle.std.proofs.Common.{◌≡◌, ℕ, ◌+◌, List, ◌∷◌, [], ◌++◌, take, rules, arith, subst, sym, ap, ◌∙◌, inr}
use Rattle.std.proofs.lemmas.List.{take_more}
use Rattle.index_keys.specs.Entries.{Entry, IsRising, entry_inserted, AllFit, inserted_all}
use Rattle.index_keys.proofs.RisingEntries.{inserted_all_rises}
use Rattle.tune_index.proofs.Codec.{AllFit-push}
use Rattle.tune_index.proofs.Runs.{inserted_all-append}
use Rattle.tune_index.proofs.insert.insert_each.Goals as goal

pub loop-entry-preserved : goal.loop-entry-preserved
loop-entry-preserved g c =
    let i = c.loop-entry.invariant in
    let e : Entry = c.entry-item.result in
    let t : take (c.loop-entry.entry-index + 1) c.args.part.now ≡ take c.loop-entry.entry-index c.args.part.now ++ e ∷ [] =
    take_more c.args.part.now c.loop-entry.entry-index e c.loop-entry-test.true
    ∙ ap (λ (x : Entry). take c.loop-entry.entry-index c.args.part.now ++ x ∷ []) (sym c.entry-item.is) in
    record {
      so_far = λ up.
          let old = i.so_far up in
          let up2 : IsRising c.loop-entry.leaf.items =
          subst (λ (x : List Entry). IsRising x) (sym old) (inserted_all_rises (take c.loop-entry.entry-index c.args.part.now) c.args.leaf.now.items up) in
          c.in_ok-insert_in.ensures.ok up2 ∙ ap (λ (k : ℕ). entry_inserted (k, e.1) c.loop-entry.leaf.items) c.copy.ensures ∙ ap (entry_inserted e) old
          ∙ sym (inserted_all-append (take c.loop-entry.entry-index c.args.part.now) (e ∷ []) c.args.leaf.now.items)
          ∙ ap (λ (x : List Entry). inserted_all x c.args.leaf.now.items) (sym t);
      within = omega (arith, i.within, c.in_ok-insert_in.ensures.within);
      some = inr c.in_ok-insert_in.ensures.some;
      fit = subst (λ (x : List Entry). AllFit g.row.W x) (sym t) (AllFit-push g.row.W (take c.loop-entry.entry-index c.args.part.now) e i.fit
          (record { key = c.bytes-bytes.ensures.bound; value = search rules }));
    }
