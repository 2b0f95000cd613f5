use Rattle.std.proofs.Common.{◌≡◌, ℕ, ◌+◌, ◌-◌, ◌<◌, List, length, take, drop, Err, arith, subst, sym, ap, ◌∙◌}
use Rattle.std.proofs.lemmas.List.{get_or_default, get_or-drop, take-append-drop}
use Rattle.tune_pages.specs.Faults.{free_pages}
use Rattle.tune_pages.proofs.Edits.{edits_failed, edits_fuller}
use Rattle.index_keys.specs.Entries.{Entry, rank, IsRising, EntriesRiseFrom}
use Rattle.index_keys.proofs.RisingEntries.{rises_front}
use Rattle.tune_index.specs.Indexes.{IsIndex, entries_of}
use Rattle.tune_index.specs.Inside.LeafLists.{leaves_of}
use Rattle.tune_index.specs.Inside.EntryPlaces.{AllBelow}
use Rattle.tune_index.specs.Leaves.{slice_entry}
use Rattle.tune_index.proofs.Balances.{front_least, part_full}
use Rattle.tune_index.proofs.Splits.{heads_rise}
use Rattle.tune_index.proofs.Puts.{length-heads_of}
use Rattle.tune_index.proofs.LeafLists.{leaves_of_index}
use Rattle.tune_index.proofs.Runs.{run_inserted, rises_from_first, leaf_rises}
use Rattle.tune_index.proofs.insert.insert_from.Goals as goal

pub returns-in-Ok-clause-entries : goal.returns-in-Ok-clause-entries
returns-in-Ok-clause-entries g c = λ honest.
    let s0 = c.args.edit.now.next in
    let s2 = c.insert_part.new.edit.next in
    let ix : IsIndex g.row.W s0 c.args.index.now = c.requires.index (c.in-Ok.ensures.edits.looks.was_honest honest) in
    let up = c.requires.rising in
    let was = c.args.index.now in
    let place = c.leaf_for-place.result in
    let rest = drop c.args.at c.args.run.now in
    let count = c.part_end-end.result - c.args.at in
    let run = take count rest in
    let e : Entry = c.index-run-at.result in
    let at_is : e ≡ slice_entry c.args.run.now c.args.at = c.index-run-at.is ∙ get_or_default c.args.run.now c.args.at e (0, 0) c.requires.at in
    let heads : IsRising was.heads = subst (λ (x : List Entry). IsRising x) (sym ix.heads) (heads_rise g.row.W 0 s0 was.pages ix.form ix.rising) in
    let b = c.leaf_for-place.ensures.belongs heads in
    let first : slice_entry rest 0 ≡ slice_entry c.args.run.now c.args.at = get_or-drop c.args.at c.args.run.now 0 (0, 0)
    ∙ ap (λ (k : ℕ). slice_entry c.args.run.now k) (omega arith) in
    let r0 : EntriesRiseFrom (rank e) rest =
    rises_from_first (rank e) rest (λ _. let k : rank (slice_entry rest 0) ≡ rank e = ap rank (first ∙ sym at_is) in omega (arith, k)) up in
    let r : EntriesRiseFrom (rank e) run =
    rises_front (rank e) run (drop count rest) (subst (λ (x : List Entry). EntriesRiseFrom (rank e) x) (sym (take-append-drop count rest)) r0) in
    let n : length was.heads ≡ length was.pages = ap length ix.heads ∙ length-heads_of g.row.W s0 was.pages in
    let to : place + 1 < length was.pages → AllBelow (rank (slice_entry was.heads (place + 1))) run = λ m.
    let m2 : place + 1 < length was.heads = omega (arith, m, n) in
    c.part_end-end.ensures.below up m2 (subst (λ (x : Entry). rank x < rank (slice_entry was.heads (place + 1))) at_is (b.to m2)) in
    let leaves = leaves_of g.row.W s0 was.pages in
    let done = c.in-Ok.ensures.leaves honest leaves (leaves_of_index g.row.W s0 was ix)
    (leaf_rises g.row.W s0 was.pages place c.leaf_for-place.ensures.place ix.rising) in
    run_inserted g.row.W s0 s2 was c.insert_part.new.index place (rank e) run done.0 ix c.leaf_for-place.ensures.place r c.in-Ok.ensures.fit b.from to done.1
    done.2

pub returns-in-Err-clause-edits : goal.returns-in-Err-clause-edits
returns-in-Err-clause-edits g c = edits_failed g.D.Disk c.in-Err.fault _ _ _ (edits_fuller g.D.Disk (Err c.in-Err.fault) _ _ _ _
    (λ full honest.
    let s0 = c.args.edit.now.next in
    let ix : IsIndex g.row.W s0 c.args.index.now = c.requires.index (c.in-Err.ensures.edits.looks.was_honest honest) in
    let up = c.requires.rising in
    let was = c.args.index.now in
    let place = c.leaf_for-place.result in
    let rest = drop c.args.at c.args.run.now in
    let count = c.part_end-end.result - c.args.at in
    let run = take count rest in
    let e : Entry = c.index-run-at.result in
    let at_is : e ≡ slice_entry c.args.run.now c.args.at = c.index-run-at.is ∙ get_or_default c.args.run.now c.args.at e (0, 0) c.requires.at in
    let heads : IsRising was.heads = subst (λ (x : List Entry). IsRising x) (sym ix.heads) (heads_rise g.row.W 0 s0 was.pages ix.form ix.rising) in
    let b = c.leaf_for-place.ensures.belongs heads in
    let first : slice_entry rest 0 ≡ slice_entry c.args.run.now c.args.at = get_or-drop c.args.at c.args.run.now 0 (0, 0)
    ∙ ap (λ (k : ℕ). slice_entry c.args.run.now k) (omega arith) in
    let r0 : EntriesRiseFrom (rank e) rest =
    rises_from_first (rank e) rest (λ _. let k : rank (slice_entry rest 0) ≡ rank e = ap rank (first ∙ sym at_is) in omega (arith, k)) up in
    let r : EntriesRiseFrom (rank e) run =
    rises_front (rank e) run (drop count rest) (subst (λ (x : List Entry). EntriesRiseFrom (rank e) x) (sym (take-append-drop count rest)) r0) in
    let n : length was.heads ≡ length was.pages = ap length ix.heads ∙ length-heads_of g.row.W s0 was.pages in
    let to : place + 1 < length was.pages → AllBelow (rank (slice_entry was.heads (place + 1))) run = λ m.
    let m2 : place + 1 < length was.heads = omega (arith, m, n) in
    c.part_end-end.ensures.below up m2 (subst (λ (x : Entry). rank x < rank (slice_entry was.heads (place + 1))) at_is (b.to m2)) in
    let leaves = leaves_of g.row.W s0 was.pages in
    let few = full honest leaves (leaves_of_index g.row.W s0 was ix) (leaf_rises g.row.W s0 was.pages place c.leaf_for-place.ensures.place ix.rising) in
    let all = part_full g.row.W s0 was place (rank e) (free_pages s0.used) run ix c.leaf_for-place.ensures.place r b.from to few in
    let more = front_least count rest (entries_of g.row.W s0 was.pages) in
    omega (arith, all, more)) c.in-Err.ensures.edits)
