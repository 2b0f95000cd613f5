use Rattle.std.proofs.Common.{Ok, ◌≡◌, ◌+◌, List, [], ◌∷◌, ◌++◌, take, sym, subst, ap, ◌∙◌}
use Rattle.std.proofs.lemmas.List.{take_more}
use Rattle.tune_index.specs.ListedLeaves.{index_with}
use Rattle.tune_pages.proofs.Edits.{edits_next}
use Rattle.index_keys.specs.Entries.{Entry, removed_all}
use Rattle.tune_search.specs.IndexParts.{HoldsIndexAmong}
use Rattle.tune_search.proofs.Laid.{removed_all-append}
use Rattle.tune_search.proofs.index_changes.take_run.Goals as goal

pub loop-entry-preserved : goal.loop-entry-preserved
loop-entry-preserved g c =
    let i = c.loop-entry.invariant in
    let e = c.in-Ok.ensures in
    let run : List Entry = c.args.run.now in
    let gone : Entry = c.entry-item.result in
    let at = c.loop-entry.entry-index in
    let more : take (at + 1) run ≡ take at run ++ gone ∷ [] =
    take_more run at gone c.loop-entry-test.true ∙ ap (λ (x : Entry). take at run ++ x ∷ []) (sym c.entry-item.is) in
    record {
      edits = edits_next g.D.Disk tt (Ok tt) _ _ _ _ _ i.edits e.edits;
      lays = λ honest before after parts entries h.
          let first = i.lays (e.edits.looks.was_honest honest) before after parts entries h in
          let done = e.lays honest before after first.0 (removed_all (take at run) entries) first.1 in
          let is : removed_all (gone ∷ []) (removed_all (take at run) entries) ≡ removed_all (take (at + 1) run) entries =
          sym (removed_all-append (take at run) (gone ∷ []) entries) ∙ ap (λ (x : List Entry). removed_all x entries) (sym more) in (
            done.0,
            subst (λ (es : List Entry). HoldsIndexAmong g.row.W c.take_entry.new.edit.next (index_with c.take_entry.new.index es)
                before after done.0)
                is done.1,
          );
      balance = i.balance ∙ e.balance;
    }
