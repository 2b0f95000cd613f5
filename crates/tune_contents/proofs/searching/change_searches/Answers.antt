use Rattle.std.proofs.Common.{◌++◌, length}
use Rattle.tune_contents.proofs.SearchPageLemmas.{full_for_come, full_for_lists, others_small, some_laid, some_left, takes_few, texts_laid}
use Rattle.std.proofs.Common.{◌≡◌, true, sym, subst}
use Rattle.tune_pages.proofs.Edits.{full_fault}
use Rattle.tune_contents.specs.Inside.Searching.{IsByNotes}
use Rattle.tune_contents.proofs.searching.change_searches.Goals as goal

pub put_runs-requires-clause-notes : goal.put_runs-requires-clause-notes
put_runs-requires-clause-notes g c = subst (λ notes. IsByNotes notes c.args.runs.now.come) (sym c.in-Ok.ensures.notes) c.requires.come_notes

pub put_runs-requires-clause-holds : goal.put_runs-requires-clause-holds
put_runs-requires-clause-holds g c = λ h1.
    some_left c.args.edit.now.next c.take_runs.new.edit.next c.args.searches.now c.take_runs.new.searches
    c.args.runs.now.gone (c.in-Ok.ensures.lays h1) (c.requires.holds (c.in-Ok.ensures.edits.looks.was_honest h1))

pub store-requires : goal.store-requires
store-requires g c = record {
  holds = λ h2.
      (let h1 = c.in-Ok-put_runs.ensures.edits.looks.was_honest h2 in
      some_laid c.args.edit.now.next c.take_runs.new.edit.next c.args.searches.now c.take_runs.new.searches
      c.args.runs.now.gone (c.in-Ok.ensures.lays h1) c.put_runs.new.edit.next c.put_runs.new.searches c.args.runs.now.come
      (c.in-Ok-put_runs.ensures.lays h2) (c.requires.holds (c.in-Ok.ensures.edits.looks.was_honest h1)) c.requires.come);
}

pub returns-in-Ok-store-clause-lays : goal.returns-in-Ok-store-clause-lays
returns-in-Ok-store-clause-lays g c = λ h3 before after parts tunes others more small out puts h.
    (let h2 = c.in-Ok-store.ensures.edits.looks.was_honest h3 in
    let h1 = c.in-Ok-put_runs.ensures.edits.looks.was_honest h2 in
    let laid =
    texts_laid c.args.edit.now.next c.take_runs.new.edit.next c.args.searches.now c.take_runs.new.searches
    c.args.runs.now.gone (c.in-Ok.ensures.lays h1) c.put_runs.new.edit.next c.put_runs.new.searches c.args.runs.now.come
    (c.in-Ok-put_runs.ensures.lays h2) before after parts tunes others more small out puts h in
    c.in-Ok-store.ensures.holds h3 before after laid.0 (others ++ more) laid.1)

pub returns-in-Ok-store-clause-takes : goal.returns-in-Ok-store-clause-takes
returns-in-Ok-store-clause-takes g c = λ h3 before after parts tunes others more small out puts h.
    (let s0 = c.args.edit.now.next in
    let s1 = c.take_runs.new.edit.next in
    let s2 = c.put_runs.new.edit.next in
    let h2 = c.in-Ok-store.ensures.edits.looks.was_honest h3 in
    let h1 = c.in-Ok-put_runs.ensures.edits.looks.was_honest h2 in
    let laid =
    texts_laid s0 s1 c.args.searches.now c.take_runs.new.searches c.args.runs.now.gone (c.in-Ok.ensures.lays h1) s2 c.put_runs.new.searches
    c.args.runs.now.come (c.in-Ok-put_runs.ensures.lays h2) before after parts tunes others more small out puts h in
    takes_few s0 s1 s2 c.args.searches.now c.take_runs.new.searches c.put_runs.new.searches c.in-Ok.ensures.balance c.in-Ok-put_runs.ensures.balance
    (others ++ more) (c.law_of_search_pages.ensures.leaves s2 c.put_runs.new.searches before after laid.0 (others ++ more) laid.1)
    c.store.new.edit.next (c.in-Ok-store.ensures.takes h3))

pub returns-in-Err-store-clause-takes : goal.returns-in-Err-store-clause-takes
returns-in-Err-store-clause-takes g c = λ h3 before after parts tunes others more small out puts h is.
    (let s0 = c.args.edit.now.next in
    let s1 = c.take_runs.new.edit.next in
    let s2 = c.put_runs.new.edit.next in
    let h2 = c.in-Err-store.ensures.edits.looks.was_honest h3 in
    let h1 = c.in-Ok-put_runs.ensures.edits.looks.was_honest h2 in
    let laid =
    texts_laid s0 s1 c.args.searches.now c.take_runs.new.searches c.args.runs.now.gone (c.in-Ok.ensures.lays h1) s2 c.put_runs.new.searches
    c.args.runs.now.come (c.in-Ok-put_runs.ensures.lays h2) before after parts tunes others more small out puts h in
    full_for_lists s0 s1 s2 c.args.searches.now c.take_runs.new.searches c.put_runs.new.searches c.in-Ok.ensures.balance c.in-Ok-put_runs.ensures.balance
    (others ++ more) (c.law_of_search_pages.ensures.leaves s2 c.put_runs.new.searches before after laid.0 (others ++ more) laid.1)
    (c.in-Err-store.ensures.takes h3 is))

pub returns-in-Err-put_runs-clause-takes : goal.returns-in-Err-put_runs-clause-takes
returns-in-Err-put_runs-clause-takes g c = λ h2 before after parts tunes others more small out puts h is.
    (let h1 = c.in-Err-put_runs.ensures.edits.looks.was_honest h2 in
    let left = c.in-Ok.ensures.lays h1 before after parts tunes others small out h in
    let full = full_fault c.in-Err-put_runs.fault _ (c.put_runs.new.edit.base.closed ≡ true) _ _ is c.in-Err-put_runs.ensures.edits.answer in
    full_for_come c.args.edit.now.next c.take_runs.new.edit.next c.args.searches.now c.take_runs.new.searches
    (length (others ++ more)) c.in-Ok.ensures.balance
    (full h2 before after left.0 others more (others_small c.args.runs.now.gone tunes others small out) puts left.1))
