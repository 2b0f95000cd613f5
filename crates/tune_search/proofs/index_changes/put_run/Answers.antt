use Rattle.std.proofs.Common.{Err, ◌+◌, ◌<◌, List, length, rules, ap, ◌∙◌, subst}
use Rattle.tune_pages.specs.Faults.{free_pages}
use Rattle.index_keys.specs.Entries.{Entry, inserted_all}
use Rattle.tune_pages.proofs.Edits.{edits_fuller}
use Rattle.tune_search.proofs.Laid.{index_among, laid, some_index, some_pages, worked}
use Rattle.tune_search.proofs.index_changes.put_run.Goals as goal

pub insert_all-requires : goal.insert_all-requires
insert_all-requires g c =
    let s0 = c.args.edit.now.next in (
      search rules,
      (
        search rules,
        (
          (λ h. some_pages g.row.W s0 c.args.index.now (c.requires.index h)),
          ((λ h. some_index g.row.W s0 c.args.index.now (c.requires.index h)), c.requires.rising),
        ),
      ),
    )

pub returns-in-Ok-clause-lays : goal.returns-in-Ok-clause-lays
returns-in-Ok-clause-lays g c = λ honest before after parts entries h.
    let s0 = c.args.edit.now.next in
    let s1 = c.insert_all.new.edit.next in
    let e = c.in-Ok.ensures in
    let run : List Entry = c.args.run.now in
    let there = index_among g.row.W s0 c.args.index.now before after parts entries h in
    let done = e.entries honest in
    laid g.row.W s0 s1 c.args.index.now c.insert_all.new.self before after parts entries (inserted_all run entries) h e.shape.list (e.shape.pages honest)
    (e.shape.trades honest) done.0 (done.1 ∙ ap (inserted_all run) there.2)
    (worked g.D.Disk.honest c.args.edit.now c.insert_all.new.edit (c.law_of_pages.ensures e.edits.answer.0) (c.law_of_pages-in-Ok.ensures e.edits.answer.1)
    e.edits.looks.same)

pub returns-in-Err-clause-edits : goal.returns-in-Err-clause-edits
returns-in-Err-clause-edits g c =
    let s0 = c.args.edit.now.next in
    let run : List Entry = c.args.run.now in
    edits_fuller g.D.Disk (Err c.in-Err.fault) _ _ _ _
    (λ full honest before after parts entries h.
    let there = index_among g.row.W s0 c.args.index.now before after parts entries h in
    subst (λ (es : List Entry). free_pages s0.used + length c.args.index.now.pages < length (inserted_all run es)) there.2 (full honest))
    c.in-Err.ensures.edits
