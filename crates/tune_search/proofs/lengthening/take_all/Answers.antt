use Rattle.std.proofs.Common.{rules}
use Rattle.tune_search.proofs.Laid.{some_pages, worked}
use Rattle.tune_search.proofs.Lengthened.{bare_laid}
use Rattle.tune_search.proofs.lengthening.take_all.Goals as goal

pub clear-requires : goal.clear-requires
clear-requires g c =
    let s0 = c.args.edit.now.next in
    (search rules, (λ h. some_pages g.row.W s0 c.args.index.now (c.requires.index h)))

pub returns-in-Ok-clause-lays : goal.returns-in-Ok-clause-lays
returns-in-Ok-clause-lays g c = λ honest before after parts entries h.
    let s0 = c.args.edit.now.next in
    let s1 = c.clear.new.edit.next in
    let e = c.in-Ok.ensures in
    bare_laid g.row.W s0 s1 c.args.index.now c.clear.new.self before after parts entries h e.list e.leaves.0 e.leaves.1 (e.trades honest)
    (worked g.D.Disk.honest c.args.edit.now c.clear.new.edit (c.law_of_pages.ensures e.edits.answer.0) (c.law_of_pages-in-Ok.ensures e.edits.answer.1)
    e.edits.looks.same)
