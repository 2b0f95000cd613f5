use Rattle.std.proofs.Common.{◌≡◌, ◌+◌, List, rules, sym, ap, subst, ◌∙◌}
use Rattle.tune_pages.specs.Faults.{free_pages}
use Rattle.index_keys.specs.Entries.{Entry, removed_all}
use Rattle.tune_search.specs.IncipitForms.{entries_of_incipits, notes_of_entries, notes_of_index, shape_of}
use Rattle.tune_search.specs.Inside.Four.{HoldsSomeFour, LaysFour, taken_out}
use Rattle.tune_search.specs.SearchPages.{leaf_count}
use Rattle.tune_search.specs.Searches.{SearchRuns, SearchShape}
use Rattle.tune_search.proofs.Balances.{four_balance}
use Rattle.tune_search.proofs.Four.{four_laid, incipits_next, rhythms_next, scales_next}
use Rattle.tune_search.proofs.changing.take_runs.Goals as goal

pub take_run-requires-2 : goal.take_run-requires-2
take_run-requires-2 g c =
    let s0 = c.args.edit.now.next in
    let s1 = c.take_run.new.edit.next in
    let e1 = c.in-Ok.ensures in
    let was : SearchShape = record {
      notes = notes_of_index c.indexes.inside.incipits;
      titles = c.indexes.inside.titles;
      rhythms = c.indexes.inside.rhythms;
      scales = c.indexes.inside.scales;
      incipits = shape_of c.indexes.inside.incipits;
    } in
    let is1 = c.take_run.new.index in
    let f1 = λ (es : List Entry). removed_all c.deref.result.now es in (
      search rules,
      (
        search rules,
        (λ h1. rhythms_next was is1 is1 is1 f1 f1 f1 s0 s1 (e1.lays h1)
            (subst (λ (shape : SearchShape). HoldsSomeFour s0 shape) (sym c.indexes.view_is) (c.requires.holds (e1.edits.looks.was_honest h1)))),
      ),
    )

pub take_run-requires-3 : goal.take_run-requires-3
take_run-requires-3 g c =
    let s0 = c.args.edit.now.next in
    let s1 = c.take_run.new.edit.next in
    let e1 = c.in-Ok.ensures in
    let was : SearchShape = record {
      notes = notes_of_index c.indexes.inside.incipits;
      titles = c.indexes.inside.titles;
      rhythms = c.indexes.inside.rhythms;
      scales = c.indexes.inside.scales;
      incipits = shape_of c.indexes.inside.incipits;
    } in
    let is1 = c.take_run.new.index in
    let f1 = λ (es : List Entry). removed_all c.deref.result.now es in
    let s2 = c.take_run-2.new.edit.next in
    let e2 = c.in-Ok-take_run.ensures in
    let is2 = c.take_run-2.new.index in
    let f2 = λ (es : List Entry). removed_all c.deref-2.result.now es in (
      search rules,
      (
        search rules,
        (λ h2. (let h1 = e2.edits.looks.was_honest h2 in scales_next was is1 is2 is2 f1 f2 f2 s0 s1 s2 (e1.lays h1) (e2.lays h2)
            (subst (λ (shape : SearchShape). HoldsSomeFour s0 shape) (sym c.indexes.view_is) (c.requires.holds (e1.edits.looks.was_honest h1))))),
      ),
    )

pub take-requires : goal.take-requires
take-requires g c =
    let s0 = c.args.edit.now.next in
    let s1 = c.take_run.new.edit.next in
    let e1 = c.in-Ok.ensures in
    let was : SearchShape = record {
      notes = notes_of_index c.indexes.inside.incipits;
      titles = c.indexes.inside.titles;
      rhythms = c.indexes.inside.rhythms;
      scales = c.indexes.inside.scales;
      incipits = shape_of c.indexes.inside.incipits;
    } in
    let is1 = c.take_run.new.index in
    let f1 = λ (es : List Entry). removed_all c.deref.result.now es in
    let s2 = c.take_run-2.new.edit.next in
    let e2 = c.in-Ok-take_run.ensures in
    let is2 = c.take_run-2.new.index in
    let f2 = λ (es : List Entry). removed_all c.deref-2.result.now es in
    let s3 = c.take_run-3.new.edit.next in
    let e3 = c.in-Ok-take_run-2.ensures in
    let is3 = c.take_run-3.new.index in
    let f3 = λ (es : List Entry). removed_all c.deref-3.result.now es in
    let same = ap (λ (r : SearchRuns). r.notes) c.runs.view_is ∙ c.requires.notes
    ∙ sym (ap (λ (shape : SearchShape). shape.notes) c.indexes.view_is) in record {
      notes = same;
      index = λ h3. (let h2 = e3.edits.looks.was_honest h3 in let h1 = e2.edits.looks.was_honest h2 in
          incipits_next was is1 is2 is3 f1 f2 f3 s0 s1 s2 s3 (e1.lays h1) (e2.lays h2) (e3.lays h3)
          (subst (λ (shape : SearchShape). HoldsSomeFour s0 shape) (sym c.indexes.view_is) (c.requires.holds (e1.edits.looks.was_honest h1))));
    }

pub returns-clause-lays : goal.returns-clause-lays
returns-clause-lays g c = λ h4.
    let s0 = c.args.edit.now.next in
    let s1 = c.take_run.new.edit.next in
    let e1 = c.in-Ok.ensures in
    let was : SearchShape = record {
      notes = notes_of_index c.indexes.inside.incipits;
      titles = c.indexes.inside.titles;
      rhythms = c.indexes.inside.rhythms;
      scales = c.indexes.inside.scales;
      incipits = shape_of c.indexes.inside.incipits;
    } in
    let is1 = c.take_run.new.index in
    let f1 = λ (es : List Entry). removed_all c.deref.result.now es in
    let s2 = c.take_run-2.new.edit.next in
    let e2 = c.in-Ok-take_run.ensures in
    let is2 = c.take_run-2.new.index in
    let f2 = λ (es : List Entry). removed_all c.deref-2.result.now es in
    let s3 = c.take_run-3.new.edit.next in
    let e3 = c.in-Ok-take_run-2.ensures in
    let is3 = c.take_run-3.new.index in
    let f3 = λ (es : List Entry). removed_all c.deref-3.result.now es in
    let s4 = c.take.new.edit.next in
    let e4 = c.in-Ok-take.ensures in
    let is4 = c.take.new.self in
    let f4 = λ (es : List Entry). removed_all (entries_of_incipits c.runs.inside.incipits) es in
    let h3 = e4.edits.looks.was_honest h4 in
    let h2 = e3.edits.looks.was_honest h3 in
    let h1 = e2.edits.looks.was_honest h2 in
    let is : SearchShape = record { notes = notes_of_index is4; titles = is1; rhythms = is2; scales = is3; incipits = shape_of is4 } in
    let made : SearchRuns = record {
      notes = notes_of_entries c.runs.inside.incipits;
      titles = c.deref.result.now;
      rhythms = c.deref-2.result.now;
      scales = c.deref-3.result.now;
      incipits = entries_of_incipits c.runs.inside.incipits;
    } in
    let runs : made ≡ c.args.runs.now = (λ i. record {
      notes = notes_of_entries c.runs.inside.incipits;
      titles = c.deref.ensures.value i;
      rhythms = c.deref-2.ensures.value i;
      scales = c.deref-3.ensures.value i;
      incipits = entries_of_incipits c.runs.inside.incipits;
    }) ∙ c.runs.view_is in
    subst (λ (shape : SearchShape). LaysFour s0 s4 shape is (λ entries. taken_out c.args.runs.now entries)) c.indexes.view_is
    (subst (λ (r : SearchRuns). LaysFour s0 s4 was is (λ entries. taken_out r entries)) runs
    (four_laid was is1 is2 is3 (shape_of is4) f1 f2 f3 f4 s0 s1 s2 s3 s4 (notes_of_index is4) e4.notes (e1.lays h1) (e2.lays h2) (e3.lays h3) (e4.lays h4)))

pub returns-clause-balance : goal.returns-clause-balance
returns-clause-balance g c =
    let s0 = c.args.edit.now.next in
    let s1 = c.take_run.new.edit.next in
    let s2 = c.take_run-2.new.edit.next in
    let s3 = c.take_run-3.new.edit.next in
    let s4 = c.take.new.edit.next in
    let was : SearchShape = record {
      notes = notes_of_index c.indexes.inside.incipits;
      titles = c.indexes.inside.titles;
      rhythms = c.indexes.inside.rhythms;
      scales = c.indexes.inside.scales;
      incipits = shape_of c.indexes.inside.incipits;
    } in
    let is : SearchShape = record {
      notes = notes_of_index c.take.new.self;
      titles = c.take_run.new.index;
      rhythms = c.take_run-2.new.index;
      scales = c.take_run-3.new.index;
      incipits = shape_of c.take.new.self;
    } in
    subst (λ (shape : SearchShape). free_pages s0.used + leaf_count shape ≡ free_pages s4.used + leaf_count is) c.indexes.view_is
    (four_balance s0 s1 s2 s3 s4 was is c.in-Ok.ensures.balance c.in-Ok-take_run.ensures.balance c.in-Ok-take_run-2.ensures.balance
    c.in-Ok-take.ensures.balance)
