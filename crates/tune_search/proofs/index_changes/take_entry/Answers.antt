use Rattle.std.proofs.Common.{List, rules, ap, ◌∙◌}
use Rattle.index_keys.specs.Entries.{Entry, removed}
use Rattle.tune_search.proofs.Laid.{index_among, laid, some_index, some_pages, worked}
use Rattle.tune_search.proofs.index_changes.take_entry.Goals as goal

pub remove-requires : goal.remove-requires
remove-requires g c =
    let s0 = c.args.edit.now.next in (
      search rules,
      (
        search rules,
        ((λ h. some_pages g.row.W s0 c.args.index.now (c.requires.index h)), (λ h. some_index g.row.W s0 c.args.index.now (c.requires.index h))),
      ),
    )

pub returns-in-Ok-clause-lays : goal.returns-in-Ok-clause-lays
returns-in-Ok-clause-lays g c = λ honest before after parts entries h.
    let s0 = c.args.edit.now.next in
    let s1 = c.remove.new.edit.next in
    let e = c.in-Ok.ensures in
    let gone : Entry = (c.args.key.now, c.args.value) in
    let there = index_among g.row.W s0 c.args.index.now before after parts entries h in
    let done = e.entries honest in
    laid g.row.W s0 s1 c.args.index.now c.remove.new.self before after parts entries (removed gone entries) h e.shape.list (e.shape.pages honest)
    (e.shape.trades honest) done.0 (done.1 ∙ ap (λ (es : List Entry). removed gone es) there.2)
    (worked g.D.Disk.honest c.args.edit.now c.remove.new.edit (c.law_of_pages.ensures e.edits.answer.0) (c.law_of_pages-in-Ok.ensures e.edits.answer.1)
    e.edits.looks.same)
