use Rattle.std.proofs.Common.{Ok, Err, ◌≡◌, ◌+◌, List, rules, sym, ap, subst, ◌∙◌}
use Rattle.tune_pages.specs.Faults.{free_pages}
use Rattle.index_keys.specs.Entries.{Entry, IsRising, inserted_all}
use Rattle.tune_pages.proofs.Edits.{edits_fuller, edits_next}
use Rattle.tune_index.proofs.Balances.{front_least}
use Rattle.tune_search.specs.IncipitForms.{entries_of_incipits, notes_of_entries, notes_of_index, shape_of}
use Rattle.tune_search.specs.Inside.Four.{HoldsSomeFour, LaysFour, runs_put_in}
use Rattle.tune_search.specs.SearchPages.{leaf_count}
use Rattle.tune_search.specs.Searches.{SearchRuns, SearchShape}
use Rattle.tune_search.proofs.Balances.{AreFullFor, four_balance, incipits_full, rhythms_full, scales_full, titles_full}
use Rattle.tune_search.proofs.Four.{four_laid, incipits_next, rhythms_next, scales_next}
use Rattle.tune_search.proofs.changing.put_runs.Goals as goal

pub put_run-requires-2 : goal.put_run-requires-2
put_run-requires-2 g c =
    let s0 = c.args.edit.now.next in
    let s1 = c.put_run.new.edit.next in
    let e1 = c.in-Ok.ensures in
    let was : SearchShape = record {
      notes = notes_of_index c.indexes.inside.incipits;
      titles = c.indexes.inside.titles;
      rhythms = c.indexes.inside.rhythms;
      scales = c.indexes.inside.scales;
      incipits = shape_of c.indexes.inside.incipits;
    } in
    let is1 = c.put_run.new.index in
    let f1 = λ (es : List Entry). inserted_all c.deref.result.now es in (
      search rules,
      (
        search rules,
        (
          (λ h1. rhythms_next was is1 is1 is1 f1 f1 f1 s0 s1 (e1.lays h1)
              (subst (λ (shape : SearchShape). HoldsSomeFour s0 shape) (sym c.indexes.view_is) (c.requires.holds (e1.edits.looks.was_honest h1)))),
          search rules,
        ),
      ),
    )

pub put_run-requires-3 : goal.put_run-requires-3
put_run-requires-3 g c =
    let s0 = c.args.edit.now.next in
    let s1 = c.put_run.new.edit.next in
    let e1 = c.in-Ok.ensures in
    let was : SearchShape = record {
      notes = notes_of_index c.indexes.inside.incipits;
      titles = c.indexes.inside.titles;
      rhythms = c.indexes.inside.rhythms;
      scales = c.indexes.inside.scales;
      incipits = shape_of c.indexes.inside.incipits;
    } in
    let is1 = c.put_run.new.index in
    let f1 = λ (es : List Entry). inserted_all c.deref.result.now es in
    let s2 = c.put_run-2.new.edit.next in
    let e2 = c.in-Ok-put_run.ensures in
    let is2 = c.put_run-2.new.index in
    let f2 = λ (es : List Entry). inserted_all c.deref-2.result.now es in (
      search rules,
      (
        search rules,
        (
          (λ h2. (let h1 = e2.edits.looks.was_honest h2 in scales_next was is1 is2 is2 f1 f2 f2 s0 s1 s2 (e1.lays h1) (e2.lays h2)
              (subst (λ (shape : SearchShape). HoldsSomeFour s0 shape) (sym c.indexes.view_is) (c.requires.holds (e1.edits.looks.was_honest h1))))),
          search rules,
        ),
      ),
    )

pub put-requires : goal.put-requires
put-requires g c =
    let s0 = c.args.edit.now.next in
    let s1 = c.put_run.new.edit.next in
    let e1 = c.in-Ok.ensures in
    let was : SearchShape = record {
      notes = notes_of_index c.indexes.inside.incipits;
      titles = c.indexes.inside.titles;
      rhythms = c.indexes.inside.rhythms;
      scales = c.indexes.inside.scales;
      incipits = shape_of c.indexes.inside.incipits;
    } in
    let is1 = c.put_run.new.index in
    let f1 = λ (es : List Entry). inserted_all c.deref.result.now es in
    let s2 = c.put_run-2.new.edit.next in
    let e2 = c.in-Ok-put_run.ensures in
    let is2 = c.put_run-2.new.index in
    let f2 = λ (es : List Entry). inserted_all c.deref-2.result.now es in
    let s3 = c.put_run-3.new.edit.next in
    let e3 = c.in-Ok-put_run-2.ensures in
    let is3 = c.put_run-3.new.index in
    let f3 = λ (es : List Entry). inserted_all c.deref-3.result.now es in
    let same = ap (λ (r : SearchRuns). r.notes) c.runs.view_is ∙ c.requires.notes
    ∙ sym (ap (λ (shape : SearchShape). shape.notes) c.indexes.view_is) in record {
      notes = same;
      index = λ h3. (let h2 = e3.edits.looks.was_honest h3 in let h1 = e2.edits.looks.was_honest h2 in
          incipits_next was is1 is2 is3 f1 f2 f3 s0 s1 s2 s3 (e1.lays h1) (e2.lays h2) (e3.lays h3)
          (subst (λ (shape : SearchShape). HoldsSomeFour s0 shape) (sym c.indexes.view_is) (c.requires.holds (e1.edits.looks.was_honest h1))));
      rising = subst (λ (r : SearchRuns). IsRising r.incipits) (sym c.runs.view_is) c.requires.incipits;
    }

pub returns-clause-lays : goal.returns-clause-lays
returns-clause-lays g c = λ h4.
    let s0 = c.args.edit.now.next in
    let s1 = c.put_run.new.edit.next in
    let e1 = c.in-Ok.ensures in
    let was : SearchShape = record {
      notes = notes_of_index c.indexes.inside.incipits;
      titles = c.indexes.inside.titles;
      rhythms = c.indexes.inside.rhythms;
      scales = c.indexes.inside.scales;
      incipits = shape_of c.indexes.inside.incipits;
    } in
    let is1 = c.put_run.new.index in
    let f1 = λ (es : List Entry). inserted_all c.deref.result.now es in
    let s2 = c.put_run-2.new.edit.next in
    let e2 = c.in-Ok-put_run.ensures in
    let is2 = c.put_run-2.new.index in
    let f2 = λ (es : List Entry). inserted_all c.deref-2.result.now es in
    let s3 = c.put_run-3.new.edit.next in
    let e3 = c.in-Ok-put_run-2.ensures in
    let is3 = c.put_run-3.new.index in
    let f3 = λ (es : List Entry). inserted_all c.deref-3.result.now es in
    let s4 = c.put.new.edit.next in
    let e4 = c.in-Ok-put.ensures in
    let is4 = c.put.new.self in
    let f4 = λ (es : List Entry). inserted_all (entries_of_incipits c.runs.inside.incipits) es in
    let h3 = e4.edits.looks.was_honest h4 in
    let h2 = e3.edits.looks.was_honest h3 in
    let h1 = e2.edits.looks.was_honest h2 in
    let is : SearchShape = record { notes = notes_of_index is4; titles = is1; rhythms = is2; scales = is3; incipits = shape_of is4 } in
    let made : SearchRuns = record {
      notes = notes_of_entries c.runs.inside.incipits;
      titles = c.deref.result.now;
      rhythms = c.deref-2.result.now;
      scales = c.deref-3.result.now;
      incipits = entries_of_incipits c.runs.inside.incipits;
    } in
    let runs : made ≡ c.args.runs.now = (λ i. record {
      notes = notes_of_entries c.runs.inside.incipits;
      titles = c.deref.ensures.value i;
      rhythms = c.deref-2.ensures.value i;
      scales = c.deref-3.ensures.value i;
      incipits = entries_of_incipits c.runs.inside.incipits;
    }) ∙ c.runs.view_is in
    subst (λ (shape : SearchShape). LaysFour s0 s4 shape is (λ entries. runs_put_in c.args.runs.now entries)) c.indexes.view_is
    (subst (λ (r : SearchRuns). LaysFour s0 s4 was is (λ entries. runs_put_in r entries)) runs
    (four_laid was is1 is2 is3 (shape_of is4) f1 f2 f3 f4 s0 s1 s2 s3 s4 (notes_of_index is4) e4.notes (e1.lays h1) (e2.lays h2) (e3.lays h3) (e4.lays h4)))

pub returns-clause-balance : goal.returns-clause-balance
returns-clause-balance g c =
    let s0 = c.args.edit.now.next in
    let s1 = c.put_run.new.edit.next in
    let s2 = c.put_run-2.new.edit.next in
    let s3 = c.put_run-3.new.edit.next in
    let s4 = c.put.new.edit.next in
    let was : SearchShape = record {
      notes = notes_of_index c.indexes.inside.incipits;
      titles = c.indexes.inside.titles;
      rhythms = c.indexes.inside.rhythms;
      scales = c.indexes.inside.scales;
      incipits = shape_of c.indexes.inside.incipits;
    } in
    let is : SearchShape = record {
      notes = notes_of_index c.put.new.self;
      titles = c.put_run.new.index;
      rhythms = c.put_run-2.new.index;
      scales = c.put_run-3.new.index;
      incipits = shape_of c.put.new.self;
    } in
    subst (λ (shape : SearchShape). free_pages s0.used + leaf_count shape ≡ free_pages s4.used + leaf_count is) c.indexes.view_is
    (four_balance s0 s1 s2 s3 s4 was is c.in-Ok.ensures.balance c.in-Ok-put_run.ensures.balance c.in-Ok-put_run-2.ensures.balance
    c.in-Ok-put.ensures.balance)

pub returns-in-Err-clause-edits : goal.returns-in-Err-clause-edits
returns-in-Err-clause-edits g c =
    let s0 = c.args.edit.now.next in
    let was : SearchShape = record {
      notes = notes_of_index c.indexes.inside.incipits;
      titles = c.indexes.inside.titles;
      rhythms = c.indexes.inside.rhythms;
      scales = c.indexes.inside.scales;
      incipits = shape_of c.indexes.inside.incipits;
    } in
    let all = c.args.runs.now in
    let r1 : c.deref.result.now ≡ all.titles = c.deref.ensures.value ∙ ap (λ (r : SearchRuns). r.titles) c.runs.view_is in
    let made : SearchRuns = record { notes = all.notes; titles = c.deref.result.now; rhythms = all.rhythms; scales = all.scales; incipits = all.incipits } in
    let runs : made ≡ all = (λ i. record { notes = all.notes; titles = r1 i; rhythms = all.rhythms; scales = all.scales; incipits = all.incipits }) in
    edits_fuller g.D.Disk (Err c.in-Err.fault) _ _ _ _
    (λ full h1.
    subst (λ (shape : SearchShape). AreFullFor s0 shape (λ entries. runs_put_in all entries)) c.indexes.view_is
    (subst (λ (r : SearchRuns). AreFullFor s0 was (λ entries. runs_put_in r entries)) runs
    (titles_full was was.titles was.titles was.titles
    (inserted_all made.titles) (inserted_all made.rhythms) (inserted_all made.scales) (inserted_all made.incipits)
    (front_least 0 made.rhythms) (front_least 0 made.scales) (front_least 0 made.incipits)
    s0 (full h1))))
    c.in-Err.ensures.edits

pub returns-in-Err-put_run-clause-edits : goal.returns-in-Err-put_run-clause-edits
returns-in-Err-put_run-clause-edits g c =
    let s0 = c.args.edit.now.next in
    let was : SearchShape = record {
      notes = notes_of_index c.indexes.inside.incipits;
      titles = c.indexes.inside.titles;
      rhythms = c.indexes.inside.rhythms;
      scales = c.indexes.inside.scales;
      incipits = shape_of c.indexes.inside.incipits;
    } in
    let all = c.args.runs.now in
    let s1 = c.put_run.new.edit.next in
    let e1 = c.in-Ok.ensures in
    let is1 = c.put_run.new.index in
    let r1 : c.deref.result.now ≡ all.titles = c.deref.ensures.value ∙ ap (λ (r : SearchRuns). r.titles) c.runs.view_is in
    let r2 : c.deref-2.result.now ≡ all.rhythms = c.deref-2.ensures.value ∙ ap (λ (r : SearchRuns). r.rhythms) c.runs.view_is in
    let made : SearchRuns = record {
      notes = all.notes;
      titles = c.deref.result.now;
      rhythms = c.deref-2.result.now;
      scales = all.scales;
      incipits = all.incipits;
    } in
    let runs : made ≡ all = (λ i. record { notes = all.notes; titles = r1 i; rhythms = r2 i; scales = all.scales; incipits = all.incipits }) in
    edits_next g.D.Disk tt (Err c.in-Err-put_run.fault) _ _ _ _ _ c.in-Ok.ensures.edits
    (edits_fuller g.D.Disk (Err c.in-Err-put_run.fault) _ _ _ _
    (λ full h2.
    let h1 = c.in-Err-put_run.ensures.edits.looks.was_honest h2 in
    subst (λ (shape : SearchShape). AreFullFor s0 shape (λ entries. runs_put_in all entries)) c.indexes.view_is
    (subst (λ (r : SearchRuns). AreFullFor s0 was (λ entries. runs_put_in r entries)) runs
    (rhythms_full was is1 is1 is1
    (inserted_all made.titles) (inserted_all made.rhythms) (inserted_all made.scales) (inserted_all made.incipits)
    (front_least 0 made.rhythms) (front_least 0 made.scales) (front_least 0 made.incipits)
    s0 s1 (e1.lays h1) e1.balance (full h2))))
    c.in-Err-put_run.ensures.edits)

pub returns-in-Err-put_run-2-clause-edits : goal.returns-in-Err-put_run-2-clause-edits
returns-in-Err-put_run-2-clause-edits g c =
    let s0 = c.args.edit.now.next in
    let was : SearchShape = record {
      notes = notes_of_index c.indexes.inside.incipits;
      titles = c.indexes.inside.titles;
      rhythms = c.indexes.inside.rhythms;
      scales = c.indexes.inside.scales;
      incipits = shape_of c.indexes.inside.incipits;
    } in
    let all = c.args.runs.now in
    let s1 = c.put_run.new.edit.next in
    let e1 = c.in-Ok.ensures in
    let is1 = c.put_run.new.index in
    let s2 = c.put_run-2.new.edit.next in
    let e2 = c.in-Ok-put_run.ensures in
    let is2 = c.put_run-2.new.index in
    let r1 : c.deref.result.now ≡ all.titles = c.deref.ensures.value ∙ ap (λ (r : SearchRuns). r.titles) c.runs.view_is in
    let r2 : c.deref-2.result.now ≡ all.rhythms = c.deref-2.ensures.value ∙ ap (λ (r : SearchRuns). r.rhythms) c.runs.view_is in
    let r3 : c.deref-3.result.now ≡ all.scales = c.deref-3.ensures.value ∙ ap (λ (r : SearchRuns). r.scales) c.runs.view_is in
    let made : SearchRuns = record {
      notes = all.notes;
      titles = c.deref.result.now;
      rhythms = c.deref-2.result.now;
      scales = c.deref-3.result.now;
      incipits = all.incipits;
    } in
    let runs : made ≡ all = (λ i. record { notes = all.notes; titles = r1 i; rhythms = r2 i; scales = r3 i; incipits = all.incipits }) in
    edits_next g.D.Disk tt (Err c.in-Err-put_run-2.fault) _ _ _ _ _ (edits_next g.D.Disk tt
    (Ok tt) _ _ _ _ _ c.in-Ok.ensures.edits c.in-Ok-put_run.ensures.edits)
    (edits_fuller g.D.Disk (Err c.in-Err-put_run-2.fault) _ _ _ _
    (λ full h3.
    let h2 = c.in-Err-put_run-2.ensures.edits.looks.was_honest h3 in
    let h1 = e2.edits.looks.was_honest h2 in
    subst (λ (shape : SearchShape). AreFullFor s0 shape (λ entries. runs_put_in all entries)) c.indexes.view_is
    (subst (λ (r : SearchRuns). AreFullFor s0 was (λ entries. runs_put_in r entries)) runs
    (scales_full was is1 is2 is2
    (inserted_all made.titles) (inserted_all made.rhythms) (inserted_all made.scales) (inserted_all made.incipits)
    (front_least 0 made.rhythms) (front_least 0 made.scales) (front_least 0 made.incipits)
    s0 s1 s2 (e1.lays h1) (e2.lays h2) e1.balance e2.balance (full h3))))
    c.in-Err-put_run-2.ensures.edits)

pub returns-in-Err-put-clause-edits : goal.returns-in-Err-put-clause-edits
returns-in-Err-put-clause-edits g c =
    let s0 = c.args.edit.now.next in
    let was : SearchShape = record {
      notes = notes_of_index c.indexes.inside.incipits;
      titles = c.indexes.inside.titles;
      rhythms = c.indexes.inside.rhythms;
      scales = c.indexes.inside.scales;
      incipits = shape_of c.indexes.inside.incipits;
    } in
    let all = c.args.runs.now in
    let s1 = c.put_run.new.edit.next in
    let e1 = c.in-Ok.ensures in
    let is1 = c.put_run.new.index in
    let s2 = c.put_run-2.new.edit.next in
    let e2 = c.in-Ok-put_run.ensures in
    let is2 = c.put_run-2.new.index in
    let s3 = c.put_run-3.new.edit.next in
    let e3 = c.in-Ok-put_run-2.ensures in
    let is3 = c.put_run-3.new.index in
    let r0 : notes_of_entries c.runs.inside.incipits ≡ all.notes = ap (λ (r : SearchRuns). r.notes) c.runs.view_is in
    let r1 : c.deref.result.now ≡ all.titles = c.deref.ensures.value ∙ ap (λ (r : SearchRuns). r.titles) c.runs.view_is in
    let r2 : c.deref-2.result.now ≡ all.rhythms = c.deref-2.ensures.value ∙ ap (λ (r : SearchRuns). r.rhythms) c.runs.view_is in
    let r3 : c.deref-3.result.now ≡ all.scales = c.deref-3.ensures.value ∙ ap (λ (r : SearchRuns). r.scales) c.runs.view_is in
    let r4 : entries_of_incipits c.runs.inside.incipits ≡ all.incipits = ap (λ (r : SearchRuns). r.incipits) c.runs.view_is in
    let made : SearchRuns = record {
      notes = notes_of_entries c.runs.inside.incipits;
      titles = c.deref.result.now;
      rhythms = c.deref-2.result.now;
      scales = c.deref-3.result.now;
      incipits = entries_of_incipits c.runs.inside.incipits;
    } in
    let runs : made ≡ all = (λ i. record { notes = r0 i; titles = r1 i; rhythms = r2 i; scales = r3 i; incipits = r4 i }) in
    edits_next g.D.Disk tt (Err c.in-Err-put.fault) _ _ _ _ _ (edits_next g.D.Disk tt (Ok tt) _ _ _ _ _ (edits_next g.D.Disk tt
    (Ok tt) _ _ _ _ _ c.in-Ok.ensures.edits c.in-Ok-put_run.ensures.edits) c.in-Ok-put_run-2.ensures.edits)
    (edits_fuller g.D.Disk (Err c.in-Err-put.fault) _ _ _ _
    (λ full h4.
    let h3 = c.in-Err-put.ensures.edits.looks.was_honest h4 in
    let h2 = e3.edits.looks.was_honest h3 in
    let h1 = e2.edits.looks.was_honest h2 in
    subst (λ (shape : SearchShape). AreFullFor s0 shape (λ entries. runs_put_in all entries)) c.indexes.view_is
    (subst (λ (r : SearchRuns). AreFullFor s0 was (λ entries. runs_put_in r entries)) runs
    (incipits_full was is1 is2 is3
    (inserted_all made.titles) (inserted_all made.rhythms) (inserted_all made.scales) (inserted_all made.incipits)
    (front_least 0 made.rhythms) (front_least 0 made.scales) (front_least 0 made.incipits)
    s0 s1 s2 s3 (e1.lays h1) (e2.lays h2) (e3.lays h3) e1.balance e2.balance e3.balance (full h4))))
    c.in-Err-put.ensures.edits)
