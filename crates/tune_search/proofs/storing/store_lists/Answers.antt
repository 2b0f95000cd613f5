use Rattle.std.proofs.Common.{◌≡◌, ◌+◌, ◌<◌, ◌≤◌, rules, sym, subst}
use Rattle.tune_pages.specs.Faults.{free_pages}
use Rattle.tune_pages.specs.declared.fault.Fault.TheVariants.{FileFull}
use Rattle.tune_search.specs.IncipitForms.{notes_of_index, shape_of}
use Rattle.tune_search.specs.Inside.Four.{HoldsSomeFour, LaysFour}
use Rattle.tune_search.specs.SearchPages.{lists_of}
use Rattle.tune_search.specs.Searches.{SearchShape}
use Rattle.tune_search.proofs.Four.{four_laid, incipits_next, rhythms_next, same_entries, scales_next}
use Rattle.tune_search.proofs.Takes.{four_take, no_incipits_take, no_rhythms_take, no_scales_take, no_titles_take}
use Rattle.tune_search.proofs.storing.store_lists.Goals as goal

pub store_list-requires-2 : goal.store_list-requires-2
store_list-requires-2 g c =
    let s0 = c.args.edit.now.next in
    let was : SearchShape = record {
      notes = notes_of_index c.indexes.inside.incipits;
      titles = c.indexes.inside.titles;
      rhythms = c.indexes.inside.rhythms;
      scales = c.indexes.inside.scales;
      incipits = shape_of c.indexes.inside.incipits;
    } in
    let s1 = c.store_list.new.edit.next in
    let e1 = c.in-Ok.ensures in
    let is1 = c.store_list.new.index in (
      search rules,
      (λ h1.
          rhythms_next was is1 is1 is1 same_entries same_entries same_entries s0 s1 (e1.lays h1)
          (subst (λ (shape : SearchShape). HoldsSomeFour s0 shape) (sym c.indexes.view_is) (c.requires.holds (e1.edits.looks.was_honest h1)))),
    )

pub store_list-requires-3 : goal.store_list-requires-3
store_list-requires-3 g c =
    let s0 = c.args.edit.now.next in
    let was : SearchShape = record {
      notes = notes_of_index c.indexes.inside.incipits;
      titles = c.indexes.inside.titles;
      rhythms = c.indexes.inside.rhythms;
      scales = c.indexes.inside.scales;
      incipits = shape_of c.indexes.inside.incipits;
    } in
    let s1 = c.store_list.new.edit.next in
    let e1 = c.in-Ok.ensures in
    let is1 = c.store_list.new.index in
    let s2 = c.store_list-2.new.edit.next in
    let e2 = c.in-Ok-store_list.ensures in
    let is2 = c.store_list-2.new.index in (
      search rules,
      (λ h2.
          let h1 = e2.edits.looks.was_honest h2 in
          scales_next was is1 is2 is2 same_entries same_entries same_entries s0 s1 s2 (e1.lays h1) (e2.lays h2)
          (subst (λ (shape : SearchShape). HoldsSomeFour s0 shape) (sym c.indexes.view_is) (c.requires.holds (e1.edits.looks.was_honest h1)))),
    )

pub store-requires : goal.store-requires
store-requires g c =
    let s0 = c.args.edit.now.next in
    let was : SearchShape = record {
      notes = notes_of_index c.indexes.inside.incipits;
      titles = c.indexes.inside.titles;
      rhythms = c.indexes.inside.rhythms;
      scales = c.indexes.inside.scales;
      incipits = shape_of c.indexes.inside.incipits;
    } in
    let s1 = c.store_list.new.edit.next in
    let e1 = c.in-Ok.ensures in
    let is1 = c.store_list.new.index in
    let s2 = c.store_list-2.new.edit.next in
    let e2 = c.in-Ok-store_list.ensures in
    let is2 = c.store_list-2.new.index in
    let s3 = c.store_list-3.new.edit.next in
    let e3 = c.in-Ok-store_list-2.ensures in
    let is3 = c.store_list-3.new.index in record {
      index = λ h3.
          let h2 = e3.edits.looks.was_honest h3 in
          let h1 = e2.edits.looks.was_honest h2 in
          incipits_next was is1 is2 is3 same_entries same_entries same_entries s0 s1 s2 s3 (e1.lays h1) (e2.lays h2) (e3.lays h3)
          (subst (λ (shape : SearchShape). HoldsSomeFour s0 shape) (sym c.indexes.view_is) (c.requires.holds (e1.edits.looks.was_honest h1)));
    }

pub returns-clause-lays : goal.returns-clause-lays
returns-clause-lays g c = λ h4.
    let s0 = c.args.edit.now.next in
    let was : SearchShape = record {
      notes = notes_of_index c.indexes.inside.incipits;
      titles = c.indexes.inside.titles;
      rhythms = c.indexes.inside.rhythms;
      scales = c.indexes.inside.scales;
      incipits = shape_of c.indexes.inside.incipits;
    } in
    let s1 = c.store_list.new.edit.next in
    let e1 = c.in-Ok.ensures in
    let is1 = c.store_list.new.index in
    let s2 = c.store_list-2.new.edit.next in
    let e2 = c.in-Ok-store_list.ensures in
    let is2 = c.store_list-2.new.index in
    let s3 = c.store_list-3.new.edit.next in
    let e3 = c.in-Ok-store_list-2.ensures in
    let is3 = c.store_list-3.new.index in
    let s4 = c.store.new.edit.next in
    let e4 = c.in-Ok-store.ensures in
    let is4 = c.store.new.self in
    let h3 = e4.edits.looks.was_honest h4 in
    let h2 = e3.edits.looks.was_honest h3 in
    let h1 = e2.edits.looks.was_honest h2 in
    let is : SearchShape = record { notes = notes_of_index is4; titles = is1; rhythms = is2; scales = is3; incipits = shape_of is4 } in
    subst (λ (shape : SearchShape). LaysFour s0 s4 shape is (λ entries. entries)) c.indexes.view_is
    (four_laid was is1 is2 is3 (shape_of is4) same_entries same_entries same_entries same_entries s0 s1 s2 s3 s4 (notes_of_index is4)
    e4.notes (e1.lays h1) (e2.lays h2) (e3.lays h3) (e4.lays h4))

pub returns-clause-takes : goal.returns-clause-takes
returns-clause-takes g c = λ h4.
    let s0 = c.args.edit.now.next in
    let was : SearchShape = record {
      notes = notes_of_index c.indexes.inside.incipits;
      titles = c.indexes.inside.titles;
      rhythms = c.indexes.inside.rhythms;
      scales = c.indexes.inside.scales;
      incipits = shape_of c.indexes.inside.incipits;
    } in
    let s1 = c.store_list.new.edit.next in
    let e1 = c.in-Ok.ensures in
    let s2 = c.store_list-2.new.edit.next in
    let e2 = c.in-Ok-store_list.ensures in
    let s3 = c.store_list-3.new.edit.next in
    let e3 = c.in-Ok-store_list-2.ensures in
    let s4 = c.store.new.edit.next in
    let e4 = c.in-Ok-store.ensures in
    let h3 = e4.edits.looks.was_honest h4 in
    let h2 = e3.edits.looks.was_honest h3 in
    let h1 = e2.edits.looks.was_honest h2 in
    subst (λ (shape : SearchShape). free_pages s0.used ≤ free_pages s4.used + lists_of shape) c.indexes.view_is
    (four_take s0 s1 s2 s3 s4 was
    (e1.takes h1) (e2.takes h2) (e3.takes h3) (e4.takes h4))

pub returns-in-Err-clause-takes : goal.returns-in-Err-clause-takes
returns-in-Err-clause-takes g c = λ h1.
    let s0 = c.args.edit.now.next in
    let was : SearchShape = record {
      notes = notes_of_index c.indexes.inside.incipits;
      titles = c.indexes.inside.titles;
      rhythms = c.indexes.inside.rhythms;
      scales = c.indexes.inside.scales;
      incipits = shape_of c.indexes.inside.incipits;
    } in
    let fault = c.in-Err.fault in
    subst (λ (shape : SearchShape). fault ≡ FileFull → free_pages s0.used < lists_of shape) c.indexes.view_is
    (no_titles_take fault s0 was (c.in-Err.ensures.takes h1))

pub returns-in-Err-store_list-clause-takes : goal.returns-in-Err-store_list-clause-takes
returns-in-Err-store_list-clause-takes g c = λ h2.
    let s0 = c.args.edit.now.next in
    let was : SearchShape = record {
      notes = notes_of_index c.indexes.inside.incipits;
      titles = c.indexes.inside.titles;
      rhythms = c.indexes.inside.rhythms;
      scales = c.indexes.inside.scales;
      incipits = shape_of c.indexes.inside.incipits;
    } in
    let s1 = c.store_list.new.edit.next in
    let e1 = c.in-Ok.ensures in
    let h1 = c.in-Err-store_list.ensures.edits.looks.was_honest h2 in
    let fault = c.in-Err-store_list.fault in
    subst (λ (shape : SearchShape). fault ≡ FileFull → free_pages s0.used < lists_of shape) c.indexes.view_is
    (no_rhythms_take fault s0 was s1 (e1.takes h1) (c.in-Err-store_list.ensures.takes h2))

pub returns-in-Err-store_list-2-clause-takes : goal.returns-in-Err-store_list-2-clause-takes
returns-in-Err-store_list-2-clause-takes g c = λ h3.
    let s0 = c.args.edit.now.next in
    let was : SearchShape = record {
      notes = notes_of_index c.indexes.inside.incipits;
      titles = c.indexes.inside.titles;
      rhythms = c.indexes.inside.rhythms;
      scales = c.indexes.inside.scales;
      incipits = shape_of c.indexes.inside.incipits;
    } in
    let s1 = c.store_list.new.edit.next in
    let e1 = c.in-Ok.ensures in
    let s2 = c.store_list-2.new.edit.next in
    let e2 = c.in-Ok-store_list.ensures in
    let h2 = c.in-Err-store_list-2.ensures.edits.looks.was_honest h3 in
    let h1 = e2.edits.looks.was_honest h2 in
    let fault = c.in-Err-store_list-2.fault in
    subst (λ (shape : SearchShape). fault ≡ FileFull → free_pages s0.used < lists_of shape) c.indexes.view_is
    (no_scales_take fault s0 was s1 s2 (e1.takes h1) (e2.takes h2) (c.in-Err-store_list-2.ensures.takes h3))

pub returns-in-Err-store-clause-takes : goal.returns-in-Err-store-clause-takes
returns-in-Err-store-clause-takes g c = λ h4.
    let s0 = c.args.edit.now.next in
    let was : SearchShape = record {
      notes = notes_of_index c.indexes.inside.incipits;
      titles = c.indexes.inside.titles;
      rhythms = c.indexes.inside.rhythms;
      scales = c.indexes.inside.scales;
      incipits = shape_of c.indexes.inside.incipits;
    } in
    let s1 = c.store_list.new.edit.next in
    let e1 = c.in-Ok.ensures in
    let s2 = c.store_list-2.new.edit.next in
    let e2 = c.in-Ok-store_list.ensures in
    let s3 = c.store_list-3.new.edit.next in
    let e3 = c.in-Ok-store_list-2.ensures in
    let h3 = c.in-Err-store.ensures.edits.looks.was_honest h4 in
    let h2 = e3.edits.looks.was_honest h3 in
    let h1 = e2.edits.looks.was_honest h2 in
    let fault = c.in-Err-store.fault in
    subst (λ (shape : SearchShape). fault ≡ FileFull → free_pages s0.used < lists_of shape) c.indexes.view_is
    (no_incipits_take fault s0 was s1 s2 s3 (e1.takes h1) (e2.takes h2) (e3.takes h3) (c.in-Err-store.ensures.takes h4))
