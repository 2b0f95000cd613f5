use Rattle.std.proofs.Common.{Err, ◌≡◌, List, [], rules, subst, ◌∙◌}
use Rattle.index_keys.specs.Entries.{Entry, inserted_all}
use Rattle.tune_pages.proofs.Edits.{edits_failed, edits_fuller, edits_next}
use Rattle.tune_search.specs.IndexParts.{LaysIndex}
use Rattle.tune_search.proofs.Lengthened.{IsInPlaceOf, both_balance, full_then, taken}
use Rattle.tune_search.proofs.lengthening.lengthen.Goals as goal

pub put_run-requires : goal.put_run-requires
put_run-requires g c =
    let s0 = c.args.edit.now.next in
    let s1 = c.take_all.new.edit.next in
    let e1 = c.in-Ok.ensures in
    let was = c.args.index.now in
    let is = c.take_all.new.index in
    let made = c.in_place_of-longer.result in
    let its : c.deref.result.now ≡ c.args.run.now = c.deref.ensures.value ∙ c.run.view_is in
    let in_place : IsInPlaceOf made is = record {
      pages = c.in_place_of-longer.ensures.leaves.0;
      heads = c.in_place_of-longer.ensures.leaves.1;
      first = c.in_place_of-longer.ensures.list.0;
      listed = c.in_place_of-longer.ensures.list.1;
    } in (
      search rules,
      (
        search rules,
        (
          (λ h1. let (before, after, parts, entries, h) = c.requires.index (e1.edits.looks.was_honest h1) in
              let left = taken s0 s1 was is made (e1.lays h1) in_place before after parts entries h in
              (before, after, left.0, [], left.1)),
          rw its c.requires.rising,
        ),
      ),
    )

pub returns-in-Ok-put_run-clause-lays : goal.returns-in-Ok-put_run-clause-lays
returns-in-Ok-put_run-clause-lays g c = λ h2 before after parts entries h.
    let s0 = c.args.edit.now.next in
    let s1 = c.take_all.new.edit.next in
    let s2 = c.put_run.new.edit.next in
    let e1 = c.in-Ok.ensures in
    let e2 = c.in-Ok-put_run.ensures in
    let was = c.args.index.now in
    let is = c.take_all.new.index in
    let made = c.in_place_of-longer.result in
    let its : c.deref.result.now ≡ c.args.run.now = c.deref.ensures.value ∙ c.run.view_is in
    let in_place : IsInPlaceOf made is = record {
      pages = c.in_place_of-longer.ensures.leaves.0;
      heads = c.in_place_of-longer.ensures.leaves.1;
      first = c.in_place_of-longer.ensures.list.0;
      listed = c.in_place_of-longer.ensures.list.1;
    } in
    let puts = subst (λ (run : List Entry). LaysIndex 48 s1 s2 made c.put_run.new.index (λ es. inserted_all run es)) its (e2.lays h2) in
    let left = taken s0 s1 was is made (e1.lays (e2.edits.looks.was_honest h2)) in_place before after parts entries h in
    puts before after left.0 [] left.1

pub returns-in-Ok-put_run-clause-balance : goal.returns-in-Ok-put_run-clause-balance
returns-in-Ok-put_run-clause-balance g c = λ h2.
    both_balance c.args.edit.now.next c.take_all.new.edit.next c.put_run.new.edit.next
    c.args.index.now c.in_place_of-longer.result c.put_run.new.index c.in-Ok.ensures.balance c.in-Ok-put_run.ensures.balance
    c.in_place_of-longer.ensures.leaves.0

pub returns-in-Err-put_run-clause-edits : goal.returns-in-Err-put_run-clause-edits
returns-in-Err-put_run-clause-edits g c =
    let s0 = c.args.edit.now.next in
    let s1 = c.take_all.new.edit.next in
    let e1 = c.in-Ok.ensures in
    let was = c.args.index.now in
    let is = c.take_all.new.index in
    let made = c.in_place_of-longer.result in
    let its : c.deref.result.now ≡ c.args.run.now = c.deref.ensures.value ∙ c.run.view_is in
    let in_place : IsInPlaceOf made is = record {
      pages = c.in_place_of-longer.ensures.leaves.0;
      heads = c.in_place_of-longer.ensures.leaves.1;
      first = c.in_place_of-longer.ensures.list.0;
      listed = c.in_place_of-longer.ensures.list.1;
    } in
    edits_next g.D.Disk tt (Err c.in-Err-put_run.fault) _ _ _ _ _ c.in-Ok.ensures.edits
    (edits_failed g.D.Disk c.in-Err-put_run.fault _ _ _ (edits_fuller g.D.Disk (Err c.in-Err-put_run.fault) _ _ _ _
    (λ full h2.
    let h1 = c.in-Err-put_run.ensures.edits.looks.was_honest h2 in
    let (before, after, parts, entries, h) = c.requires.index (e1.edits.looks.was_honest h1) in
    let left = taken s0 s1 was is made (e1.lays h1) in_place before after parts entries h in
    full_then s0 s1 was made c.args.run.now e1.balance in_place.pages (rw its at (full h2 before after left.0 [] left.1)))
    c.in-Err-put_run.ensures.edits))
